-- A corner's parts are the whole of its conditions.
use Rattle.std.proofs.Common.{ℤ, pos, ◌≤ℤ◌}
use Rattle.std.proofs.lemmas.List.Elements.{All-from_get_or}
use Rattle.lp_form.specs.Program.{LpView}
use Rattle.polygon_sweep.specs.Swept.{IsCornerOf}
use Rattle.polygon_sweep.specs.declared.corners.SweptCorner.{SweptCorner}
use Rattle.polygon_check.specs.CornerParts.{IsInRange, IsPaidSolution}

pub corner_whole : (lp : LpView) (corner : SweptCorner) → IsInRange lp.cols corner → IsPaidSolution lp corner → IsCornerOf lp corner
corner_whole lp corner r s = record {
  positive = r.point.positive;
  den = r.point.den;
  one = r.point.one;
  two = r.point.two;
  count = r.values.count;
  values = r.values.narrow;
  solution = record { not_negative = λ col h. r.values.not_negative col (pos 0) (rw r.values.count h); meets = s.meets };
  pays_one = s.pays.one;
  pays_two = s.pays.two;
}

pub corner_in_range : (lp : LpView) (corner : SweptCorner) → IsCornerOf lp corner → IsInRange lp.cols corner
corner_in_range lp corner w = record {
  point = record { positive = w.positive; den = w.den; one = w.one; two = w.two };
  values = record {
    count = w.count;
    narrow = w.values;
    not_negative = All-from_get_or (λ (value : ℤ). pos 0 ≤ℤ value) corner.values (pos 0) (λ col h. w.solution.not_negative col (rw w.count at h));
  };
}

pub corner_pays : (lp : LpView) (corner : SweptCorner) → IsCornerOf lp corner → IsPaidSolution lp corner
corner_pays lp corner w = record { meets = w.solution.meets; pays = record { one = w.pays_one; two = w.pays_two } }
