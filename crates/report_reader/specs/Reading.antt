-- Text that is read: it stood in front of the bytes that were left, and those behind it are left.
use Rattle.std.specs.Prelude.{◌≡◌, ℕ, ◌+◌, if◌then◌else◌, ◌==◌, List, [], ◌∷◌, ◌++◌, take, drop}
use Rattle.report_reader.specs.declared.refusals.Stop.{Stop}
use Rattle.report_reader.specs.declared.refusals.Stop.TheVariants.{Syntax}
use Rattle.report_reader.specs.Cursor.{Cursor}
use Rattle.report_reader.specs.Pieces.{is_blank, pieces}

-- the bytes from the place on
abbrev pub left_of : Cursor → List ℕ
left_of cursor = drop cursor.at cursor.bytes

-- how many bytes stand before the first blank
abbrev pub run_length : List ℕ → ℕ
run_length [] = 0
run_length (byte ∷ bytes) = if is_blank byte then 0 else run_length bytes + 1

-- the length of the first piece, or 0 where there is none
abbrev pub piece_length : List ℕ → ℕ
piece_length [] = 0
piece_length (byte ∷ bytes) = if is_blank byte then 1 else run_length bytes + 1

-- the first piece, which is empty where there is none
abbrev pub first_piece : List ℕ → List ℕ
first_piece bytes = take (piece_length bytes) bytes

-- how many bytes stand before the first slash
abbrev pub slash_place : List ℕ → ℕ
slash_place [] = 0
slash_place (byte ∷ bytes) = if byte == 47 then 0 else slash_place bytes + 1

-- the text was read
pub record Reads (old new : Cursor) (text : List ℕ) : Type 0 where
  pub input : new.bytes ≡ old.bytes
  pub passed : left_of old ≡ text ++ left_of new

-- these pieces were read
pub record ReadsPieces (old new : Cursor) (read : List (List ℕ)) : Type 0 where
  pub cut : pieces (left_of old) ≡ read ++ pieces (left_of new)

-- the text was read, but for its first bytes, which had been read before
pub record ReadsBehind (before : List ℕ) (old new : Cursor) (text : List ℕ) : Type 0 where
  pub input : new.bytes ≡ old.bytes
  pub passed : before ++ left_of old ≡ text ++ left_of new

-- the reader stopped before a piece that is the text of no good value
pub record StopsAt {A : Type 0} (Good : A → Type 0) (text : A → List ℕ) (old new : Cursor) (stop : Stop) : Type 0 where
  pub syntax : stop ≡ Syntax
  pub unmoved : new ≡ old
  pub no_value : (value : A) → Good value → first_piece (left_of old) ≡ text value → ⊥
