-- The terms of one more action, row or node join those before, since no two of them fall on one place.
use Rattle.std.proofs.Common.{◌≡◌, ◌⊎◌, ℕ, ◌+◌, ◌<◌, ◌≤◌, List, [], Option, Some, None, ℤ, pos, negsuc, ◌+ℤ◌, refl, subst, ap, inl, inr, arith}
use Rattle.std.proofs.lemmas.Bool.{cases_lt}
use Rattle.std.proofs.lemmas.Int.{ints}
use Rattle.corr_game.specs.declared.nodes.Node.{Node}
use Rattle.corr_game.specs.declared.nodes.Node.TheVariants.{Leaf, Chance, Choice}
use Rattle.corr_game.specs.declared.payoffs.Pay.{Pay}
use Rattle.lp_form.specs.declared.entries.Entry.{Entry}
use Rattle.lp_form.specs.Row.{value_at}
use Rattle.lp_form.specs.Program.{LpView, blank, coefficient}
use Rattle.connected_pairs.specs.Connected.{PairsView}
use Rattle.incentive_rows.specs.declared.blocks.Columns.{Columns}
use Rattle.incentive_rows.specs.declared.places.SetPlace.{SetPlace}
use Rattle.incentive_rows.specs.declared.triggers.Trigger.{Trigger}
use Rattle.incentive_rows.proofs.Parts.{same_all}
use Rattle.incentive_rows.specs.Term.{Both, Changes, IsTerm}
use Rattle.incentive_rows.specs.Coefficient.{AtNode, IsAt, IsSlackTerm, IsValueTerm}

-- two terms of one value that don't stand at one place are one term
term_or : {P Q R : Type 0} {value a b : ℤ} → IsTerm P value a → IsTerm Q value b → (P → R) → (Q → R) → (R → P ⊎ Q) → (P → Q → ⊥) → IsTerm R value (a +ℤ b)
term_or {P} {Q} {R} (inl p) (inl q) f g h apart = absurd (apart p.0 q.0)
term_or {P} {Q} {R} (inl p) (inr q) f g h apart = inl (f p.0, omega (arith, ints, p.1, q.1))
term_or {P} {Q} {R} (inr p) (inl q) f g h apart = inl (g q.0, omega (arith, ints, p.1, q.1))
term_or {P} {Q} {R} (inr p) (inr q) f g h apart = inr (λ r. elim (h r) [ inl x ↦ p.0 x | inr y ↦ q.0 y ], omega (arith, ints, p.1, q.1))

-- the rows of the actions below n, and the row of the n-th
rows_more : (row n col r k : ℕ) (value a b : ℤ) → IsTerm ((row ≤ r) × (r < row + n) × (k ≡ col)) value a → IsAt (row + n) col value r k b → IsTerm ((row ≤ r) × (r < row + (n + 1)) × (k ≡ col)) value (a +ℤ b)
rows_more row n col r k value a b before here =
    term_or before here (λ h. (h.0, omega (arith, h.1), h.2)) (λ h. (omega (arith, h.0), omega (arith, h.0), h.1))
    (λ h. elim (cases_lt r (row + n)) [ inl below ↦ inl (h.0, below, h.2) | inr above ↦ inr (omega (arith, h.1), h.2) ])
    (λ p q. omega (arith, p.1, q.0))

pub value_more : (columns : Columns) (n : ℕ) (place : SetPlace) (r k : ℕ) (v : ℤ)
    → Both (IsValueTerm columns n place r k) (Both (IsAt (place.row + n) (columns.values + place.value) (pos 1) r k) (IsAt (place.row + n) columns.floor (negsuc 0) r k)) v
    → IsValueTerm columns (n + 1) place r k v
value_more columns n place r k v t =
    let before = t.2 in
    let here = t.3 in (
      before.0 +ℤ here.0,
      before.1 +ℤ here.1,
      rows_more place.row n (columns.values + place.value) r k (pos 1) before.0 here.0 before.2 here.2,
      rows_more place.row n columns.floor r k (negsuc 0) before.1 here.1 before.3 here.3,
      omega (arith, ints, t.4, before.4, here.4),
    )

pub value_none : (columns : Columns) (place : SetPlace) (r k : ℕ) → IsValueTerm columns 0 place r k (pos 0)
value_none columns place r k =
    (pos 0, pos 0, inr (λ h. omega (arith, h.0, h.1), refl), inr (λ h. omega (arith, h.0, h.1), refl), omega (arith, ints))

pub slack_more : (columns : Columns) (n r k : ℕ) (v : ℤ) → Both (IsSlackTerm columns n r k) (IsAt n (columns.slacks + n) (negsuc 0) r k) v → IsSlackTerm columns (n + 1) r k v
slack_more columns n r k v t =
    rw t.4
    (term_or t.2 t.3 (λ h. (omega (arith, h.0), h.1)) (λ h. (omega (arith, h.0), omega (arith, h.0, h.1)))
    (λ h. elim (cases_lt r n) [ inl below ↦ inl (below, h.1) | inr above ↦ inr (omega (arith, h.0), omega (arith, h.0, h.1)) ])
    (λ p q. omega (arith, p.0, q.0)))

pub slack_none : (columns : Columns) (r k : ℕ) → IsSlackTerm columns 0 r k (pos 0)
slack_none columns r k = inr (λ h. omega (arith, h.0), refl)

-- a node that isn't a leaf has no terms
pub other_node : (p : PairsView) (trigger : Trigger) (sets : List (Option SetPlace)) (follow n : ℕ) (node : Node) (r k : ℕ) → ((pay : Pay) → node ≡ Leaf pay → ⊥) → AtNode p trigger sets follow n node r k (pos 0)
other_node p trigger sets follow n (Leaf pay) r k other = absurd (other pay refl)
other_node p trigger sets follow n (Chance kids) r k other = refl
other_node p trigger sets follow n (Choice side set kids) r k other = refl

pub none_of : {X : Type 0} (o : Option X) → ((x : X) → o ≡ Some x → ⊥) → o ≡ None
none_of (Some x) other = absurd (other x refl)
none_of None other = refl

-- what changes from 0 is what the terms add up to
pub from_blank : {part : ℕ → ℕ → ℤ → Type 0} {lp : LpView} (rows cols : ℕ) → Changes part (blank rows cols) lp → (r k : ℕ) → part r k (coefficient lp r k)
from_blank {part} {lp} rows cols c r k =
    let here = c.each r k in
    let none : List Entry = [] in
    let zero_before : coefficient (blank rows cols) r k ≡ pos 0 = ap (λ (entries : List Entry). value_at entries k) (same_all rows r none) in
    let P : ℤ → Type 0 = part r k in
    let sum : here.0 ≡ coefficient lp r k = omega (arith, ints, here.2, zero_before) in
    subst P sum here.1
