-- Columns are those of pairs: each is in range, and different sequences beside one have different columns.
use Rattle.std.proofs.Common.{◌≡◌, ◌≢◌, ◌⊎◌, ℕ, ◌<◌, ℤ, List, Option, Some, None, length, slice_get, refl, sym, ap, ◌∙◌, inl, inr}
use Rattle.std.proofs.lemmas.Bool.{cases_eq}
use Rattle.std.proofs.lemmas.Nat.{same_from_place}
use Rattle.corr_game.specs.declared.sides.Side.{Side}
use Rattle.corr_game.specs.declared.sides.Side.TheVariants.{One, Two}
use Rattle.lp_form.specs.Program.{LpView, coefficient}
use Rattle.sequences.specs.Number.{count_of, side_of}
use Rattle.connected_pairs.specs.Connected.{PairsView, IsPairs, index_of, other}
use Rattle.connected_pairs.proofs.Indices.{index_in, placed}
use Rattle.plan_polytope.specs.CorrelationRow.{column_of}
use Rattle.plan_polytope.specs.Placing.{Puts}

pub column_in : (p : PairsView) → IsPairs p → (side : Side) (own beside k : ℕ) → column_of p side own beside ≡ Some k → k < length p.pairs
column_in p rules One own beside k e = index_in p rules own beside k e
column_in p rules Two own beside k e = index_in p rules beside own k e

is_pair : (pairs : List (ℕ × ℕ)) (k one two : ℕ) (pair : ℕ × ℕ) → slice_get pairs k ≡ Some pair → one ≡ pair.0 → two ≡ pair.1 → slice_get pairs k ≡ Some (one, two)
is_pair pairs k one two pair at e f = rw (e, f) at

-- the pair at an index is the one that has it
pub pair_at : (p : PairsView) → IsPairs p → (one two k : ℕ) → two < count_of p.seqs.two → index_of p one two ≡ Some k → slice_get p.pairs k ≡ Some (one, two)
pair_at p rules one two k low e =
    let at = rules.listed.each_place _ (Some k) (placed p.places _ k e) in
    let same = same_from_place one two at.0.0 at.0.1 (count_of p.seqs.two) low at.1 at.2 in
    is_pair p.pairs k one two at.0 at.3 same.0 same.1

pub column_one : (p : PairsView) → IsPairs p → (side : Side) (a b beside k : ℕ) → a < count_of (side_of side p.seqs) → b < count_of (side_of side p.seqs) → beside < count_of (side_of (other side) p.seqs)
    → column_of p side a beside ≡ Some k → column_of p side b beside ≡ Some k → a ≡ b
column_one p rules One a b beside k low lower in_range e f =
    let same : (a, beside) ≡ (b, beside) = cc (pair_at p rules a beside k in_range e, pair_at p rules b beside k in_range f) in
    ap (λ (x : ℕ × ℕ). x.0) same
column_one p rules Two a b beside k low lower in_range e f =
    let same : (beside, a) ≡ (beside, b) = cc (pair_at p rules beside a k low e, pair_at p rules beside b k lower f) in
    ap (λ (x : ℕ × ℕ). x.1) same

pub puts_none : {found : Option ℕ} {row : ℕ} {value : ℤ} (lp : LpView) → found ≡ None → Puts found row value lp lp
puts_none {found} {row} {value} lp e = record {
  there = λ k h. absurd (cc (e, h));
  elsewhere = λ r k h. refl;
}

pub puts_at : {found : Option ℕ} {row col : ℕ} {value : ℤ} (a b : LpView) → found ≡ Some col → coefficient b row col ≡ value → ((r k : ℕ) → (r ≢ row) ⊎ (k ≢ col) → coefficient b r k ≡ coefficient a r k) → Puts found row value a b
puts_at {found} {row} {col} {value} a b e here others = record {
  there = λ k h. (let same : col ≡ k = cc (e, h) in rw (← same) here);
  elsewhere = λ r k h. (elim h [
    | inl apart ↦ others r k (inl apart)
    | inr apart ↦ others r k (inr (λ same. apart (e ∙ ap Some (sym same))))
  ]);
}

-- whether a number that may be missing is this one can be told
pub some_or_not : (found : Option ℕ) (k : ℕ) → (found ≡ Some k) ⊎ (found ≢ Some k)
some_or_not None k = inr (λ e. absurd (cc e))
some_or_not (Some col) k = elim (cases_eq col k) [ inl same ↦ inl (ap Some same) | inr apart ↦ inr (λ e. apart (cc e)) ]
