-- Along a belt angles grow, or one direction goes on: so sides of one direction stand in a row, but for the last one and the first.
use Rattle.std.proofs.Common.{◌≡◌, ◌⊎◌, inl, inr, ℕ, zero, suc, ◌+◌, ◌<◌, ◌≤◌, refl, sym, ◌∙◌, subst, ap, Less, arith}
use Rattle.std.proofs.lemmas.Bool.{cases_lt}
use Rattle.plane_hull.specs.declared.directions.Dir.{Dir}
use Rattle.plane_hull.specs.declared.sides.SideRow.{SideRow}
use Rattle.plane_hull.specs.Angle.{angle_cmp}
use Rattle.plane_hull.specs.Belt.{IsRight, MayFollow, TurnsOn}
use Rattle.plane_hull.proofs.SameDirection.{same_dir}
use Rattle.plane_hull.proofs.AngleOrder.{before, behind, less, not_itself}

pub both_right : (x y : Dir) → IsRight x → IsRight y → x ≡ y
both_right x y first second = same_dir x y (first.0 ∙ sym second.0) (first.1 ∙ sym second.1)

pub right_too : (x y : Dir) → x ≡ y → IsRight x → IsRight y
right_too x y same right = subst (λ (dir : Dir). IsRight dir) same right

-- what a direction turns to turns on
turns_further : (i j : ℕ) (x y z : Dir) → 0 < j → TurnsOn i x y → TurnsOn j y z → TurnsOn i x z
turns_further i j x y z later first second = record { not_round = first.not_round; greater = by first.greater second.greater }
  where
    by : IsRight y ⊎ (angle_cmp x y ≡ Less) → IsRight z ⊎ (angle_cmp y z ≡ Less) → IsRight z ⊎ (angle_cmp x z ≡ Less)
    by one (inl right) = inl right
    by (inl right) (inr angle) = absurd (second.not_round (later, right))
    by (inr angle) (inr further) = inr (less x z (behind x y z (before x y angle) (before y z further)))

module _ (corners m : ℕ) (side : ℕ → SideRow) (follow : (k : ℕ) → suc k < m → MayFollow corners k (side k) (side (suc k))) where
  -- all sides from i to j have one direction
  abbrev pub IsRun : ℕ → ℕ → Type 0
  IsRun i j = (k : ℕ) → i ≤ k → k ≤ j → (side k).dir ≡ (side i).dir

  pub data Later (i j : ℕ) : Type 0 where
    run : IsRun i j → Later i j
    turned : i < j → TurnsOn i (side i).dir (side j).dir → Later i j

  run_more : (i j : ℕ) → IsRun i j → i ≤ j → (side j).dir ≡ (side (suc j)).dir → IsRun i (suc j)
  run_more i j same within further k low high = by (cases_lt j k)
    where
      by : (j < k) ⊎ (k ≤ j) → (side k).dir ≡ (side i).dir
      by (inl over) =
          let top : k ≡ suc j = omega arith in
          ap (λ (n : ℕ). (side n).dir) top ∙ (sym further ∙ same j within (omega arith))
      by (inr under) = same k low under

  run_turns : (i j : ℕ) → IsRun i j → i ≤ j → TurnsOn j (side j).dir (side (suc j)).dir → TurnsOn i (side i).dir (side (suc j)).dir
  run_turns i j same within turn =
      subst (λ (dir : Dir). TurnsOn i dir (side (suc j)).dir) (same j within (omega arith))
      (record { not_round = λ full. turn.not_round (omega (arith, full.0), full.1); greater = turn.greater })

  later_more : (i j : ℕ) → i ≤ j → suc j < m → Later i j → Later i (suc j)
  later_more i j within inside so = by so (follow j inside)
    where
      by : Later i j → MayFollow corners j (side j) (side (suc j)) → Later i (suc j)
      by (run same) (inr (further, _)) = run (run_more i j same within further)
      by (run same) (inl (_, turn)) = turned (omega arith) (run_turns i j same within turn)
      by (turned apart turn) (inr (further, _)) =
          turned (omega arith) (subst (λ (dir : Dir). TurnsOn i (side i).dir dir) further turn)
      by (turned apart turn) (inl (_, more)) = turned (omega arith) (turns_further i j _ _ _ (omega arith) turn more)

  later_by : (i d : ℕ) → i + d < m → Later i (i + d)
  later_by i zero inside = run (λ k low high. ap (λ (n : ℕ). (side n).dir) (let e : k ≡ i = omega arith in e))
  later_by i (suc d) inside =
      let e : suc (i + d) ≡ i + suc d = omega arith in
      subst (λ (n : ℕ). Later i n) e (later_more i (i + d) (omega arith) (omega arith) (later_by i d (omega arith)))

  pub later : (i d j : ℕ) → i + d ≡ j → j < m → Later i j
  later i d j e inside = subst (λ (n : ℕ). Later i n) e (later_by i d (omega arith))

  -- behind a full turn nothing else comes
  pub stays_right : (j d k : ℕ) → j + d ≡ k → 0 < j → k < m → IsRight (side j).dir → IsRight (side k).dir
  stays_right j d k e behind_first inside right = by (later j d k e inside)
    where
      by : Later j k → IsRight (side k).dir
      by (run same) = right_too _ _ (sym (same k (omega arith) (omega arith))) right
      by (turned apart turn) = absurd (turn.not_round (behind_first, right))

  -- two sides of one direction stand in a row of such, or at the first side and a full turn
  pub data Alike (i j : ℕ) : Type 0 where
    in_a_row : IsRun i j → Alike i j
    all_round : i ≡ 0 → IsRight (side j).dir → Alike i j

  pub alike : (i d j : ℕ) → i + d ≡ j → j < m → (side i).dir ≡ (side j).dir → Alike i j
  alike i d j e inside same = by (later i d j e inside)
    where
      at_first : (n : ℕ) → TurnsOn n (side i).dir (side j).dir → IsRight (side j).dir → n ≡ 0
      at_first zero turn right = refl
      at_first (suc n) turn right = absurd (turn.not_round (omega arith, right_too _ _ (sym same) right))

      by_turn : TurnsOn i (side i).dir (side j).dir → IsRight (side j).dir ⊎ (angle_cmp (side i).dir (side j).dir ≡ Less) → Alike i j
      by_turn turn (inl right) = all_round (at_first i turn right) right
      by_turn turn (inr angle) =
          absurd (not_itself (side j).dir (before (side j).dir (side j).dir (subst (λ (dir : Dir). angle_cmp dir (side j).dir ≡ Less) same angle)))

      by : Later i j → Alike i j
      by (run row) = in_a_row row
      by (turned apart turn) = by_turn turn turn.greater
