-- Which bytes separate tokens, and which may stand in a word.
use Rattle.std.specs.Prelude.{ℕ, Bool, not, ◌&&◌, ◌||◌, ◌==◌, nat_le}

-- white space: tab, line feed, vertical tab, form feed, carriage return and space
abbrev pub is_white : ℕ → Bool
is_white byte = (nat_le 9 byte && nat_le byte 13) || byte == 32

-- a quote, a comma, a left or a right brace
abbrev pub is_mark : ℕ → Bool
is_mark byte = byte == 34 || byte == 44 || byte == 123 || byte == 125

-- any other byte may stand in a word
abbrev pub is_in_word : ℕ → Bool
is_in_word byte = not (is_white byte || is_mark byte)
