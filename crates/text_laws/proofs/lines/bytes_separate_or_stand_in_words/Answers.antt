use Rattle.text_laws.proofs.WordBytes.{high_in_word, white_is_low, white_is_no_mark, words_of_word_bytes}
use Rattle.text_laws.proofs.lines.bytes_separate_or_stand_in_words.Goals as goal

pub returns-clause-apart : goal.returns-clause-apart
returns-clause-apart c = white_is_no_mark

pub returns-clause-low : goal.returns-clause-low
returns-clause-low c = white_is_low

pub returns-clause-in_words : goal.returns-clause-in_words
returns-clause-in_words c = high_in_word

pub returns-clause-word : goal.returns-clause-word
returns-clause-word c = words_of_word_bytes
