-- Rows, columns and right sides of a start, lists of blocks one behind the other, and leaves by their sequences.
use Rattle.std.proofs.Common.{◌≡◌, ◌↔◌, ℕ, zero, suc, ◌+◌, ◌-◌, ◌<◌, ◌≤◌, ◌^◌, true, false, nat_eq, nat_lt, List, [], ◌∷◌}
use Rattle.std.proofs.Common.{◌++◌, length, Some, slice_get, ℤ, neg_ℤ, unsigned_abs, refl, ap, ◌∙◌, arith}
use Rattle.std.proofs.lemmas.Bool.Decides.{nat_tests}
use Rattle.std.proofs.lemmas.Int.{ints}
use Rattle.std.proofs.lemmas.Option.{slice_get_within}
use Rattle.corr_game.specs.declared.nodes.Node.TheVariants.{Leaf}
use Rattle.corr_game.specs.declared.payoffs.Pay.{Pay}
use Rattle.corr_game.specs.declared.sides.Side.{Side}
use Rattle.corr_game.specs.declared.sides.Side.TheVariants.{One, Two}
use Rattle.corr_game.specs.Game.{GameView, IsGame}
use Rattle.corr_game.specs.Node.{amount_of}
use Rattle.sequences.specs.Number.{side_of}
use Rattle.connected_pairs.proofs.Indices.{node_in}
use Rattle.connected_pairs.specs.Connected.{IsPairs, IsPairsOf, PairsView, other}
use Rattle.report_form.specs.declared.reports.NamedBlock.{NamedBlock}
use Rattle.incentive_rows.specs.Coefficient.{paid_of}
use Rattle.incentive_rows.specs.Leaf.{IsPaid}
use Rattle.lp_form.specs.Program.{LpView, right_of}
use Rattle.int_tableau.specs.Shape.{Content, IsColumn, IsProgramRow, right_side}
use Rattle.int_tableau.specs.Start.{IsStart, start_entry}
use Rattle.cert_check.specs.Fits.{AllFit}

pub start_rows : (lp : LpView) (t : Content) → IsStart lp t → (row : ℕ) → IsProgramRow t row ↔ (row < length lp.rows)
start_rows lp t start row = (λ h. omega (arith, start.rows), λ h. omega (arith, start.rows))

pub start_columns : (lp : LpView) (t : Content) → IsStart lp t → (col : ℕ) → IsColumn t col ↔ (col < lp.cols + length lp.rows)
start_columns lp t start col = (λ h. omega (arith, start.cols), λ h. omega (arith, start.cols))

pub start_rights : (lp : LpView) (t : Content) → IsStart lp t → (row : ℕ) → row < length lp.rows → right_side t row ≡ right_of lp row
start_rights lp t start row low =
    let last = lp.cols + length lp.rows in
    let at : t.cols - 1 ≡ last = omega (arith, start.cols) in
    let in_rows : nat_lt row (length lp.rows) ≡ true = grind (arith, nat_tests, low) in
    let behind : nat_lt last lp.cols ≡ false = grind (arith, nat_tests) in
    let there : nat_eq last last ≡ true = grind (arith, nat_tests) in
    let entry : start_entry lp row last ≡ right_of lp row = rw (in_rows, behind, there) refl in
    ap (λ (col : ℕ). t.entry row col) at ∙ start.entries row last (omega (arith, start.rows)) (omega (arith, start.cols)) ∙ entry

front_of : (xs ys : List NamedBlock) (k : ℕ) (named : NamedBlock) → slice_get xs k ≡ Some named → slice_get (xs ++ ys) k ≡ Some named
front_of [] ys k named e = absurd (cc)
front_of (x ∷ xs) ys zero named e = e
front_of (x ∷ xs) ys (suc k) named e = front_of xs ys k named e

behind_of : (xs ys : List NamedBlock) (k : ℕ) (named : NamedBlock) → slice_get ys k ≡ Some named
    → (j : ℕ) × (slice_get (xs ++ ys) j ≡ Some named)
behind_of [] ys k named e = (k, e)
behind_of (x ∷ xs) ys k named e = let there = behind_of xs ys k named e in (suc there.0, there.1)

split_at : (xs ys : List NamedBlock) (P : NamedBlock → Type 0)
    → ((k : ℕ) (named : NamedBlock) → slice_get xs k ≡ Some named → P named)
    → ((k : ℕ) (named : NamedBlock) → slice_get ys k ≡ Some named → P named)
    → (k : ℕ) (named : NamedBlock) → slice_get (xs ++ ys) k ≡ Some named → P named
split_at [] ys P first second k named e = second k named e
split_at (x ∷ xs) ys P first second zero named e = first zero named e
split_at (x ∷ xs) ys P first second (suc k) named e = split_at xs ys P (λ j it f. first (suc j) it f) second k named e

pub fit_together : (g : GameView) (p : PairsView) (xs ys : List NamedBlock) → AllFit g p (xs ++ ys) ↔ (AllFit g p xs × AllFit g p ys)
fit_together g p xs ys = (
  λ all. (
    λ k named e. all k named (front_of xs ys k named e),
    λ k named e. (let there = behind_of xs ys k named e in all there.0 named there.1),
  ),
  λ both k named e. split_at xs ys _ both.0 both.1 k named e,
)

pub fit_turned : (g : GameView) (p : PairsView) (xs ys : List NamedBlock) → AllFit g p (xs ++ ys) → AllFit g p (ys ++ xs)
fit_turned g p xs ys all = let both = (fit_together g p xs ys).0 all in (fit_together g p ys xs).1 (both.1, both.0)

amount_within : (side : Side) (pay : Pay) → unsigned_abs pay.one ≤ 2 ^ 28 → unsigned_abs pay.two ≤ 2 ^ 28 → unsigned_abs (amount_of side pay) ≤ 2 ^ 28
amount_within One pay one two = one
amount_within Two pay one two = two

pub leaf_in_range : (g : GameView) (p : PairsView) (side : Side) (n : ℕ) (pay : Pay) → IsGame g → IsPairs p → IsPairsOf g p
    → slice_get g.nodes n ≡ Some (Leaf pay) → IsPaid p.seqs side (paid_of p side n (amount_of side pay))
leaf_in_range g p side n pay rules pairs of at =
    let low = slice_get_within g.nodes n (Leaf pay) at in
    let is = rules.each_node n (Leaf pay) at in (
      node_in (side_of side p.seqs) (pairs.sides side) n (omega (arith, low, (of.sides side).per_node)),
      node_in (side_of (other side) p.seqs) (pairs.sides (other side)) n (omega (arith, low, (of.sides (other side)).per_node)),
      amount_within side pay is.0 is.1,
    )

opposite_alike : (z : ℤ) → unsigned_abs (neg_ℤ z) ≡ unsigned_abs z
opposite_alike z = omega (arith, ints)

pub opposite_in_range : (p : PairsView) (side : Side) (n : ℕ) (amount : ℤ) → IsPaid p.seqs side (paid_of p side n amount)
    → IsPaid p.seqs side (paid_of p side n (neg_ℤ amount))
opposite_in_range p side n amount is = (is.0, is.1, rw (opposite_alike amount) is.2)
