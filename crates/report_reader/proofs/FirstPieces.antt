-- The first piece of some bytes and the pieces behind it are their pieces: by induction on the bytes.
use Rattle.std.proofs.Common.{◌≡◌, ℕ, suc, ◌+◌, Bool, true, false, ◌||◌, if◌then◌else◌}
use Rattle.std.proofs.Common.{List, [], ◌∷◌, take, drop, refl, sym, ap, ◌∙◌, arith}
use Rattle.report_reader.specs.Pieces.{in_front, is_blank, pieces}
use Rattle.report_reader.specs.Reading.{piece_length, run_length}

-- the first `n` bytes as one piece, and the pieces of the others
abbrev cut_behind : ℕ → List ℕ → List (List ℕ)
cut_behind n bytes = take n bytes ∷ pieces (drop n bytes)

-- a byte in front of a piece
front_of_cut : (b c n : ℕ) (cs : List ℕ) → in_front b (cut_behind (suc n) (c ∷ cs)) ≡ (if is_blank b || is_blank c
    then (b ∷ []) ∷ cut_behind (suc n) (c ∷ cs) else (b ∷ take (suc n) (c ∷ cs)) ∷ pieces (drop (suc n) (c ∷ cs)))
front_of_cut b c n cs = refl

-- the same by whether each of the two bytes is a blank
two_bytes : (p q : Bool) (b c run : ℕ) (cs : List ℕ) → cut_behind (suc (if q then 0 else run)) (c ∷ cs) ≡ pieces (c ∷ cs)
    → (if p || q then (b ∷ []) ∷ cut_behind (suc (if q then 0 else run)) (c ∷ cs)
    else (b ∷ take (suc (if q then 0 else run)) (c ∷ cs)) ∷ pieces (drop (suc (if q then 0 else run)) (c ∷ cs)))
    ≡ cut_behind (if p then 1 else suc (if q then 0 else suc run)) (b ∷ c ∷ cs)
two_bytes true q b c run cs whole = ap (λ (l : List (List ℕ)). (b ∷ []) ∷ l) whole
two_bytes false true b c run cs whole = ap (λ (l : List (List ℕ)). (b ∷ []) ∷ l) whole
two_bytes false false b c run cs whole = refl

length_one : (q : Bool) (run : ℕ) → (if q then 1 else run + 1) ≡ suc (if q then 0 else run)
length_one true run = refl
length_one false run = omega arith

length_two : (p q : Bool) (run : ℕ) → (if p then 1 else suc (if q then 0 else suc run)) ≡ (if p then 1 else (if q then 0 else run + 1) + 1)
length_two true q run = refl
length_two false true run = refl
length_two false false run = omega arith

one_byte : (p : Bool) (b : ℕ) → (b ∷ []) ∷ [] ≡ cut_behind (if p then 1 else 0 + 1) (b ∷ [])
unfolding pieces
one_byte true b = refl
one_byte false b = refl

pub pieces_first : (b : ℕ) (bytes : List ℕ) → pieces (b ∷ bytes) ≡ cut_behind (piece_length (b ∷ bytes)) (b ∷ bytes)
unfolding pieces
pieces_first b [] = one_byte (is_blank b) b
pieces_first b (c ∷ cs) =
    let run = run_length cs in
    let whole : pieces (c ∷ cs) ≡ cut_behind (suc (if is_blank c then 0 else run)) (c ∷ cs) =
    pieces_first c cs ∙ ap (λ (n : ℕ). cut_behind n (c ∷ cs)) (length_one (is_blank c) run) in
    ap (in_front b) whole ∙ front_of_cut b c (if is_blank c then 0 else run) cs ∙ two_bytes (is_blank b) (is_blank c) b c run cs (sym whole)
    ∙ ap (λ (n : ℕ). cut_behind n (b ∷ c ∷ cs)) (length_two (is_blank b) (is_blank c) run)
