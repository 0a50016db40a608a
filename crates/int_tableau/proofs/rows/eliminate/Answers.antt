-- Where nothing is to be taken away and the denominator stays, each entry is its own quotient.
use Rattle.std.proofs.Common.{◌≡◌, ◌≤◌, length, refl, pos, arith}
use Rattle.std.proofs.lemmas.Int.{ints, to_z-of_z}
use Rattle.std.specs.Int.{w64}
use Rattle.std.proofs.lemmas.List.Elements.{All-from_get_or, All-get_or}
use Rattle.corr_num.specs.Narrow.{Narrow, Wide}
use Rattle.int_tableau.specs.Elimination.{at}
use Rattle.int_tableau.proofs.ExactEntries.{same_without, narrow_fits_word}
use Rattle.int_tableau.proofs.Eliminating.{none_passed, next_passed, told}
use Rattle.int_tableau.proofs.rows.eliminate.Goals as goal

pub returns-then-p-denom : goal.returns-then-p-denom
returns-then-p-denom c =
    let b : at c.args.entries.now c.args.col ≡ pos 0 = omega (arith, ints) in
    let p : at c.args.chosen.now c.args.col ≡ c.args.denom = omega (arith, ints) in
    record {
      is_row = record { width = refl; narrow = c.requires.row.narrow };
      exact = λ k q inside e.
          same_without (at c.args.entries.now k) (at c.args.chosen.now c.args.col) (at c.args.entries.now c.args.col) (at c.args.chosen.now k) c.args.denom q b p c.requires.positive e;
    }

pub loop-k-init : goal.loop-k-init
loop-k-init c = none_passed _ _ _ _

pub returns-in-None : goal.returns-in-None
returns-in-None c =
    let row = c.args.entries.now in
    let chosen = c.args.chosen.now in
    let k = c.loop-k.k in
    let at_row : Narrow (at row k) = All-get_or Narrow row k (pos 0) (omega arith) c.requires.row.narrow in
    let at_col : Narrow (at row c.args.col) = All-get_or Narrow row c.args.col (pos 0) (omega arith) c.requires.row.narrow in
    let p : Narrow (at chosen c.args.col) = All-get_or Narrow chosen c.args.col (pos 0) (omega arith) c.requires.pivot_row.narrow in
    let x : Narrow (at chosen k) = All-get_or Narrow chosen k (pos 0) (omega arith) c.requires.pivot_row.narrow in
    record {
      inside = omega arith;
      wide = told Wide (at c.loop-k.entries k) (at chosen c.args.col) (at row c.args.col) (at chosen k) c.args.denom (at row k) (c.loop-k.invariant.rest k (omega arith)) at_row p at_col x c.requires.narrow c.in-None.ensures.exact;
    }

pub loop-k-preserved : goal.loop-k-preserved
loop-k-preserved c =
    let row = c.args.entries.now in
    let chosen = c.args.chosen.now in
    let k = c.loop-k.k in
    let e = c.in-Some.entry in
    let at_row : Narrow (at row k) = All-get_or Narrow row k (pos 0) (omega arith) c.requires.row.narrow in
    let at_col : Narrow (at row c.args.col) = All-get_or Narrow row c.args.col (pos 0) (omega arith) c.requires.row.narrow in
    let p : Narrow (at chosen c.args.col) = All-get_or Narrow chosen c.args.col (pos 0) (omega arith) c.requires.pivot_row.narrow in
    let x : Narrow (at chosen k) = All-get_or Narrow chosen k (pos 0) (omega arith) c.requires.pivot_row.narrow in
    let back = to_z-of_z w64 c.args.denom c.ranges.denom in
    let passed = rw back at c.loop-k.invariant in
    let bits = to_z-of_z w64 e (narrow_fits_word e c.in-Some.ensures.narrow) in
    rw back (next_passed row chosen c.loop-k.entries c.args.col k c.args.denom e _ passed (omega (arith, c.loop-k.auto.entries)) bits c.in-Some.ensures.narrow
    (told (λ q. e ≡ q) (at c.loop-k.entries k) (at chosen c.args.col) (at row c.args.col) (at chosen k) c.args.denom (at row k) (c.loop-k.invariant.rest k (omega arith)) at_row p at_col x c.requires.narrow c.in-Some.ensures.exact))

pub returns : goal.returns
returns c =
    let width : length c.loop-k.entries ≡ length c.args.entries.now = c.loop-k.auto.entries in
    let all : length c.args.entries.now ≤ c.loop-k.k = omega arith in
    let passed = rw (to_z-of_z w64 c.args.denom c.ranges.denom) at c.loop-k.invariant in
    record {
      is_row = record {
        width = width;
        narrow = All-from_get_or Narrow c.loop-k.entries (pos 0) (λ i h. passed.narrow i (omega arith));
      };
      exact = λ k q inside e. passed.exact k q (omega arith) e;
    }
