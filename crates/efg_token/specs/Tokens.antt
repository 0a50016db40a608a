-- All tokens of some bytes.
use Rattle.std.specs.Prelude.{◌≡◌, ℕ, List, [], ◌∷◌}
use Rattle.efg_token.specs.Front.{front, blank, found}
use Rattle.efg_token.specs.Lexeme.{Lexeme}

-- these are the tokens of the bytes, in order: only white space stands between them and behind them
abbrev pub AreTokens : List ℕ → List Lexeme → Type 0
AreTokens bytes [] = front bytes ≡ blank
AreTokens bytes (token ∷ tokens) = (rest : List ℕ) × (front bytes ≡ found token rest) × AreTokens rest tokens
