-- A piece that is read is the first of the pieces that were left, and those behind it are left.
use Rattle.std.proofs.Common.{◌≡◌, ℕ, ◌<◌, List, [], ◌∷◌, ◌++◌, length, drop, sym, ap, subst, ◌∙◌, append_assoc, take-append-drop, arith}
use Rattle.report_reader.specs.Cursor.{Cursor}
use Rattle.report_reader.specs.Pieces.{pieces}
use Rattle.report_reader.specs.Reading.{first_piece, left_of, piece_length, Reads, ReadsPieces}
use Rattle.report_reader.proofs.FirstPieces.{pieces_first}

same_behind : (front : List ℕ) (xs ys : List ℕ) → front ++ xs ≡ front ++ ys → xs ≡ ys
same_behind [] xs ys same = same
same_behind (byte ∷ front) xs ys same = let rest : front ++ xs ≡ front ++ ys = cc in same_behind front xs ys rest

cut_off : (bytes piece behind : List ℕ) → piece ≡ first_piece bytes → 0 < length piece → bytes ≡ piece ++ behind
    → pieces bytes ≡ piece ∷ pieces behind
cut_off [] piece behind first some is = absurd (omega (arith, some, ap (λ (l : List ℕ). length l) first))
cut_off (x ∷ xs) piece behind first some is =
    let n = piece_length (x ∷ xs) in
    let front : piece ++ drop n (x ∷ xs) ≡ x ∷ xs = ap (λ (l : List ℕ). l ++ drop n (x ∷ xs)) first ∙ take-append-drop n (x ∷ xs) in
    let rest : drop n (x ∷ xs) ≡ behind = same_behind piece (drop n (x ∷ xs)) behind (front ∙ is) in
    pieces_first x xs ∙ (λ i. sym first i ∷ pieces (rest i))

pub piece_cut : {a b : Cursor} (piece : List ℕ) → piece ≡ first_piece (left_of a) → 0 < length piece → Reads a b piece
    → ReadsPieces a b (piece ∷ [])
piece_cut {a} {b} piece first some x = record { cut = cut_off (left_of a) piece (left_of b) first some x.passed }

pub ReadsPieces-join : {a b c : Cursor} {p q : List (List ℕ)} → ReadsPieces a b p → ReadsPieces b c q → ReadsPieces a c (p ++ q)
ReadsPieces-join {a} {b} {c} {p} {q} x y = record {
  cut = x.cut ∙ ap (λ (l : List (List ℕ)). p ++ l) y.cut ∙ sym (append_assoc p q (pieces (left_of c)));
}

-- a piece that was seen to be a text, and then passed
pub piece_of : {a b : Cursor} {piece : List ℕ} (text : List ℕ) → piece ≡ first_piece (left_of a) → piece ≡ text → 0 < length text
    → (0 < length (first_piece (left_of a)) → ReadsPieces a b (first_piece (left_of a) ∷ [])) → ReadsPieces a b (text ∷ [])
piece_of {a} {b} text first same some x =
    let is : text ≡ first_piece (left_of a) = sym same ∙ first in
    subst (λ (p : List ℕ). ReadsPieces a b (p ∷ [])) (sym is) (x (subst (λ (p : List ℕ). 0 < length p) is some))

-- nothing was read before
pub cut_after : {a b c : Cursor} {p : List (List ℕ)} → b ≡ a → ReadsPieces b c p → ReadsPieces a c p
cut_after {a} {b} {c} {p} same x = subst (λ (old : Cursor). ReadsPieces old c p) same x
