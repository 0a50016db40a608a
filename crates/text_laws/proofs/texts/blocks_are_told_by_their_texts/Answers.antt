use Rattle.text_laws.proofs.BlockTexts.{block_texts_joined}
use Rattle.text_laws.proofs.TellingTexts.{notions_told, wide_told}
use Rattle.text_laws.proofs.texts.blocks_are_told_by_their_texts.Goals as goal

pub returns-clause-notion : goal.returns-clause-notion
returns-clause-notion c = notions_told

pub returns-clause-wide : goal.returns-clause-wide
returns-clause-wide c = wide_told

pub returns-clause-joined : goal.returns-clause-joined
returns-clause-joined c = block_texts_joined
