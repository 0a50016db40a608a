-- Two texts that are read one behind the other are one text: by the associativity of joining lists.
use Rattle.std.proofs.Common.{◌≡◌, ℕ, zero, suc, ◌+◌, List, [], ◌∷◌, ◌++◌}
use Rattle.std.proofs.Common.{Bool, true, false, not, nat_eq, length, take, drop, refl, sym, ap, subst, ◌∙◌, append_assoc, drop-drop}
use Rattle.std.specs.Cmp.Lexicographic.{pointwise}
use Rattle.std.proofs.lemmas.Bool.Decides.{Decides-eqb}
use Rattle.std.proofs.lemmas.Slice.Eq.{slice_eq-Decides}
use Rattle.report_reader.specs.Cursor.{Cursor}
use Rattle.report_reader.specs.Reading.{first_piece, left_of, piece_length, Reads, ReadsBehind}

pub Reads-nil : (a : Cursor) → Reads a a []
Reads-nil a = record { input = refl; passed = refl }

-- a text and then another
pub Reads-join : {a b c : Cursor} {p q : List ℕ} → Reads a b p → Reads b c q → Reads a c (p ++ q)
Reads-join {a} {b} {c} {p} {q} x y = record {
  input = y.input ∙ x.input;
  passed = x.passed ∙ ap (λ (l : List ℕ). p ++ l) y.passed ∙ sym (append_assoc p q (left_of c));
}

-- the first bytes of a text, and then the others
pub Reads-whole : {a b c : Cursor} {p q : List ℕ} → Reads a b p → ReadsBehind p b c q → Reads a c q
Reads-whole {a} {b} {c} {p} {q} x y = record { input = y.input ∙ x.input; passed = x.passed ∙ y.passed }

-- the end of what was read is the front of a text
pub Reads-front : {a b c : Cursor} (p q : List ℕ) {r : List ℕ} → Reads a b (p ++ q) → ReadsBehind q b c r → Reads a c (p ++ r)
Reads-front {a} {b} {c} p q {r} x y = record {
  input = y.input ∙ x.input;
  passed =
      x.passed ∙ append_assoc p q (left_of b) ∙ ap (λ (l : List ℕ). p ++ l) y.passed
      ∙ sym (append_assoc p r (left_of c));
}

-- others than the first bytes of a text
pub Reads-behind : {a b : Cursor} {p : List ℕ} (before : List ℕ) → Reads a b p → ReadsBehind before a b (before ++ p)
Reads-behind {a} {b} {p} before x = record {
  input = x.input;
  passed = ap (λ (l : List ℕ). before ++ l) x.passed ∙ sym (append_assoc before p (left_of b));
}

pub ReadsBehind-join : {a b c : Cursor} {before p q : List ℕ} → ReadsBehind before a b p → Reads b c q → ReadsBehind before a c (p ++ q)
ReadsBehind-join {a} {b} {c} {before} {p} {q} x y = record {
  input = y.input ∙ x.input;
  passed = x.passed ∙ ap (λ (l : List ℕ). p ++ l) y.passed ∙ sym (append_assoc p q (left_of c));
}

-- a text written in another way
pub Reads-as : {a b : Cursor} {p : List ℕ} (q : List ℕ) → p ≡ q → Reads a b p → Reads a b q
Reads-as {a} {b} {p} q same x = record { input = x.input; passed = x.passed ∙ ap (λ (l : List ℕ). l ++ left_of b) same }

pub ReadsBehind-as : {a b : Cursor} {before p : List ℕ} (q : List ℕ) → p ≡ q → ReadsBehind before a b p → ReadsBehind before a b q
ReadsBehind-as {a} {b} {before} {p} q same x = record { input = x.input; passed = x.passed ∙ ap (λ (l : List ℕ). l ++ left_of b) same }

piece_front : (n : ℕ) (xs : List ℕ) → xs ≡ take n xs ++ drop (length (take n xs)) xs
piece_front zero xs = refl
piece_front (suc n) [] = refl
piece_front (suc n) (x ∷ xs) = ap (λ (l : List ℕ). x ∷ l) (piece_front n xs)

piece_passed : (bytes : List ℕ) (at : ℕ) (piece text : List ℕ) → piece ≡ text → piece ≡ first_piece (drop at bytes)
    → Reads (record { bytes = bytes; at = at }) (record { bytes = bytes; at = at + length piece }) text
piece_passed bytes at piece text same first =
    let left : drop at bytes ≡ first_piece (drop at bytes) ++ drop (length (first_piece (drop at bytes))) (drop at bytes) =
    piece_front (piece_length (drop at bytes)) (drop at bytes) in
    let whole : drop at bytes ≡ piece ++ drop (length piece) (drop at bytes) =
    subst (λ (p : List ℕ). drop at bytes ≡ p ++ drop (length p) (drop at bytes)) (sym first) left in
    record {
      input = refl;
      passed =
          whole ∙ ap (λ (l : List ℕ). piece ++ l) (drop-drop (length piece) at bytes)
          ∙ ap (λ (p : List ℕ). p ++ drop (at + length piece) bytes) same;
    }

-- the first piece is read by going on behind it
pub piece_read : (bytes : List ℕ) (at : ℕ) (piece text : List ℕ) {old : Cursor} → piece ≡ text → record { bytes = bytes; at = at } ≡ old
    → piece ≡ first_piece (left_of old) → Reads old (record { bytes = bytes; at = at + length piece }) text
piece_read bytes at piece text same is =
    subst (λ (c : Cursor). piece ≡ first_piece (left_of c) → Reads c (record { bytes = bytes; at = at + length piece }) text) is
    (piece_passed bytes at piece text same)

-- two texts that a test finds the same
pub same_text : (xs ys : List ℕ) → true ≡ pointwise nat_eq xs ys → xs ≡ ys
same_text xs ys e = (slice_eq-Decides Decides-eqb xs ys (pointwise nat_eq xs ys) refl).0 (sym e)

pub other_text : (xs ys : List ℕ) → false ≡ pointwise nat_eq xs ys → xs ≡ ys → ⊥
other_text xs ys e same = absurd (cc (e, (slice_eq-Decides Decides-eqb xs ys (pointwise nat_eq xs ys) refl).1 same))

-- and does not find other ones
pub not_other : (b : Bool) → false ≡ not b → true ≡ b
not_other true e = refl
not_other false e = absurd (cc)

-- a piece that was seen, and then passed
pub Reads-piece : {a b : Cursor} {piece : List ℕ} (text : List ℕ) → piece ≡ first_piece (left_of a) → piece ≡ text
    → Reads a b (first_piece (left_of a)) → Reads a b text
Reads-piece text first same x = Reads-as text (sym first ∙ same) x

-- nothing was read before
pub Reads-after : {a b c : Cursor} {p : List ℕ} → b ≡ a → Reads b c p → Reads a c p
Reads-after {a} {b} {c} {p} same x = subst (λ (old : Cursor). Reads old c p) same x

-- a text, and then two or three others, which are grouped as a writer's definition groups them

pub Reads-two : {a b c : Cursor} {p : List ℕ} (q r : List ℕ) → Reads a b p → Reads b c (q ++ r) → Reads a c (p ++ q ++ r)
Reads-two {a} {b} {c} {p} q r x y = Reads-as (p ++ q ++ r) (sym (append_assoc p q r)) (Reads-join x y)

pub Reads-three : {a b c : Cursor} {p : List ℕ} (q r s : List ℕ) → Reads a b p → Reads b c (q ++ r ++ s) → Reads a c (p ++ q ++ r ++ s)
Reads-three {a} {b} {c} {p} q r s x y =
    let grouped = sym (append_assoc p (q ++ r) s) ∙ ap (λ (l : List ℕ). l ++ s) (sym (append_assoc p q r)) in
    Reads-as (p ++ q ++ r ++ s) grouped (Reads-join x y)

-- the end of a text goes with the next one
pub Reads-last : {a b c : Cursor} (p q r : List ℕ) → Reads a b (p ++ q) → Reads b c r → Reads a c (p ++ (q ++ r))
Reads-last p q r x y = Reads-as (p ++ (q ++ r)) (append_assoc p q r) (Reads-join x y)

pub ReadsBehind-three : {a b c : Cursor} {before p : List ℕ} (q r s : List ℕ) → ReadsBehind before a b p → Reads b c (q ++ r ++ s)
    → ReadsBehind before a c (p ++ q ++ r ++ s)
ReadsBehind-three {a} {b} {c} {before} {p} q r s x y =
    let grouped = sym (append_assoc p (q ++ r) s) ∙ ap (λ (l : List ℕ). l ++ s) (sym (append_assoc p q r)) in
    ReadsBehind-as (p ++ q ++ r ++ s) grouped (ReadsBehind-join x y)
