-- Two pieces one behind the other are one piece: by the associativity of joining lists.
use Rattle.std.proofs.Common.{◌≡◌, ℕ, List, [], ◌++◌, refl, sym, ap, ◌∙◌, append_assoc, append-nil}
use Rattle.text_pieces.specs.Piece.{Adds, AddsFront}

pub Adds-nil : (old : List ℕ) → Adds old old []
Adds-nil old = record { added = sym (append-nil old) }

-- a piece and then another
pub Adds-join : {old middle new p q : List ℕ} → Adds old middle p → Adds middle new q → Adds old new (p ++ q)
Adds-join {old} {middle} {new} {p} {q} a b = record { added = b.added ∙ ap (λ l. l ++ q) a.added ∙ append_assoc old p q }

-- what is added to nothing is all there is
pub Adds-first : {old new p : List ℕ} → old ≡ [] → Adds old new p → new ≡ p
Adds-first {old} {new} {p} none a = a.added ∙ ap (λ l. l ++ p) none

-- what is added whole is added up to its end
pub AddsFront-whole : {old new p : List ℕ} → Adds old new p → AddsFront old new p
AddsFront-whole {old} {new} {p} a = record { front = p; missing = []; whole = sym (append-nil p); added = a.added }

pub AddsFront-none : {old new : List ℕ} (p : List ℕ) → new ≡ old → AddsFront old new p
AddsFront-none {old} {new} p same = record { front = []; missing = p; whole = refl; added = same ∙ sym (append-nil old) }

-- a whole piece and then a front of another
pub AddsFront-behind : {old middle new p q : List ℕ} → Adds old middle p → AddsFront middle new q → AddsFront old new (p ++ q)
AddsFront-behind {old} {middle} {new} {p} {q} a b = record {
  front = p ++ b.front;
  missing = b.missing;
  whole = ap (λ l. p ++ l) b.whole ∙ sym (append_assoc p b.front b.missing);
  added = b.added ∙ ap (λ l. l ++ b.front) a.added ∙ append_assoc old p b.front;
}

-- a front of a piece, with nothing of what was to follow
pub AddsFront-cut : {old new p : List ℕ} (q : List ℕ) → AddsFront old new p → AddsFront old new (p ++ q)
AddsFront-cut {old} {new} {p} q a = record {
  front = a.front;
  missing = a.missing ++ q;
  whole = ap (λ l. l ++ q) a.whole ∙ append_assoc a.front a.missing q;
  added = a.added;
}
