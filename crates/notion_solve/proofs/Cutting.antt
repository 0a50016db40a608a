-- A corner's solution, cut to the relevant pairs, is a solution of theirs: the program's columns begin with them.
use Rattle.std.proofs.Common.{◌≡◌, ℕ, ◌<◌, ℤ, pos, List, length, take, slice_index_or, arith}
use Rattle.std.proofs.lemmas.Int.{ints}
use Rattle.std.proofs.lemmas.List.{get_or-take, length-take-le}
use Rattle.connected_pairs.specs.Connected.{PairsView}
use Rattle.triangle_test.specs.Triangle.{HasNoTriangle}
use Rattle.lp_form.specs.Program.{LpView}
use Rattle.polygon_sweep.specs.declared.corners.SweptCorner.{SweptCorner}
use Rattle.polygon_sweep.specs.Swept.{IsCornerOf, number_in}
use Rattle.corr_game.specs.declared.sides.Side.TheVariants.{One}
use Rattle.plan_decompose.specs.Solution.{IsSolution, MeetsRows, value_of}
use Rattle.notion_solve.specs.Programs.{IsOverRows}

cut_meets : (p : PairsView) (lp : LpView) (corner : SweptCorner) (values : List ℤ) → IsOverRows p lp → IsCornerOf lp corner → values ≡ take (length p.pairs) corner.values
    → MeetsRows p values × (value_of p values One 0 0 ≡ corner.den)
cut_meets p lp corner values over at cut =
    let count : length values ≡ length p.pairs = rw cut (length-take-le (length p.pairs) corner.values (omega (arith, over.columns, at.count))) in
    let same : (k : ℕ) → k < length p.pairs → slice_index_or values k (pos 0) ≡ number_in corner.values k = λ k low. rw cut (get_or-take (length p.pairs) corner.values k (pos 0) low) in
    over.meets values corner.den (number_in corner.values) count same at.solution

pub cut_total : (p : PairsView) (lp : LpView) (corner : SweptCorner) (values : List ℤ) → IsOverRows p lp → IsCornerOf lp corner → values ≡ take (length p.pairs) corner.values → value_of p values One 0 0 ≡ corner.den
cut_total p lp corner values over at cut = (cut_meets p lp corner values over at cut).1

pub cut_solution : (p : PairsView) (lp : LpView) (corner : SweptCorner) (values : List ℤ) → IsOverRows p lp → IsCornerOf lp corner → values ≡ take (length p.pairs) corner.values → HasNoTriangle p
    → IsSolution p values
cut_solution p lp corner values over at cut none =
    let met = cut_meets p lp corner values over at cut in
    record {
      rows = met.0;
      total = omega (arith, ints, met.1, at.positive);
      no_triangle = none;
    }
