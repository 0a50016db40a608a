-- Answers of a reading of lines: a file and a place of Syntax exclude each other, and each is one.
use Rattle.std.proofs.Common.{◌≡◌, ◌⊎◌, ℕ, List, Result, Ok, Err, refl, ap, inl, inr}
use Rattle.efg_lines.proofs.OneFile.{one_file}
use Rattle.efg_lines.proofs.SyntaxPlace.{no_file_there, one_place}
use Rattle.efg_lines.specs.declared.refusal.FileRefusal.{FileRefusal}
use Rattle.efg_lines.specs.declared.refusal.FileRefusal.TheVariants as refusal
use Rattle.efg_lines.specs.File.{FileView}
use Rattle.efg_lines.specs.FileTokens.{IsFileOf, StopsAt}
use Rattle.efg_lines.specs.Refusal.{MatchSyntax}

abbrev pub IsReading : List ℕ → Result FileView FileRefusal → Type 0
IsReading bytes r = MatchSyntax r (IsFileOf bytes) (StopsAt bytes)

pub refused_reading : (bytes : List ℕ) (e : FileRefusal) → MatchSyntax (Err e) (IsFileOf bytes) (StopsAt bytes)
    → (e ≡ refusal.NoMemory) ⊎ ((at : ℕ) × (e ≡ refusal.Syntax at) × StopsAt bytes at)
refused_reading bytes (refusal.Syntax at) h = inr (at, refl, h)
refused_reading bytes refusal.NoMemory h = inl refl
refused_reading bytes e h = absurd h

read_as : (bytes : List ℕ) (file : FileView) (b : Result FileView FileRefusal) → IsFileOf bytes file
    → IsReading bytes b → (b ≡ Err refusal.NoMemory → ⊥) → Ok file ≡ b
read_as bytes file (Ok other) read again some = ap Ok (one_file bytes file other read again)
read_as bytes file (Err (refusal.Syntax at)) read stops some = absurd (no_file_there bytes at stops read.has_file)
read_as bytes file (Err refusal.NoMemory) read again some = absurd (some refl)
read_as bytes file (Err e) read again some = absurd again

stops_as : (bytes : List ℕ) (at : ℕ) (b : Result FileView FileRefusal) → StopsAt bytes at
    → IsReading bytes b → (b ≡ Err refusal.NoMemory → ⊥) → Err (refusal.Syntax at) ≡ b
stops_as bytes at (Ok file) stops read some = absurd (no_file_there bytes at stops read.has_file)
stops_as bytes at (Err (refusal.Syntax other)) stops again some =
    ap (λ (place : ℕ). Err (refusal.Syntax place)) (one_place bytes at other stops again)
stops_as bytes at (Err refusal.NoMemory) stops again some = absurd (some refl)
stops_as bytes at (Err e) stops again some = absurd again

pub one_reading : (bytes : List ℕ) (a b : Result FileView FileRefusal)
    → MatchSyntax a (IsFileOf bytes) (StopsAt bytes) → MatchSyntax b (IsFileOf bytes) (StopsAt bytes)
    → (a ≡ Err refusal.NoMemory → ⊥) → (b ≡ Err refusal.NoMemory → ⊥) → a ≡ b
one_reading bytes (Ok file) b x y some too = read_as bytes file b x y too
one_reading bytes (Err (refusal.Syntax at)) b x y some too = stops_as bytes at b x y too
one_reading bytes (Err refusal.NoMemory) b x y some too = absurd (some refl)
one_reading bytes (Err e) b x y some too = absurd x
