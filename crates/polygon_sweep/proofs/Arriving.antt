-- A turn from what the corner that was reached is.
use Rattle.std.proofs.Common.{◌≡◌, ℕ, ◌<◌, [], ◌∷◌, ◌++◌, length, sym, ap, subst, ◌∙◌, arith}
use Rattle.plane_hull.specs.declared.directions.Dir.{Dir}
use Rattle.plane_hull.specs.declared.sides.SideRow.{SideRow}
use Rattle.polygon_sweep.specs.declared.corners.Swept.{Swept}
use Rattle.polygon_sweep.specs.Round.{AreApart, IsSideAt}
use Rattle.polygon_sweep.specs.Turns.{Arrives, Turns, adds, leads_back, leads_on, remains, returns}

module _ (old middle : Swept) (present number : ℕ) where
  -- where the present corner is reached nothing is added
  pub nothing_added : Arrives old middle present number → present < length old.corners → number ≡ present → middle ≡ old
  nothing_added (remains same at) within stays = same
  nothing_added (returns same at away apart) within stays = absurd (omega arith)
  nothing_added (adds sides count at apart apart_too) within stays = absurd (omega arith)

  -- where another one is reached an edge leads on or back
  pub edge_added : (dir : Dir) (new : Swept) (here there : SideRow) → Arrives old middle present number → (number ≡ present → ⊥)
      → new.corners ≡ middle.corners → new.sides ≡ middle.sides ++ here ∷ there ∷ [] → IsSideAt dir present here → IsSideAt dir number there
      → Turns dir old new present number
  edge_added dir new here there (remains same at) moves corners sides from to = absurd (moves at)
  edge_added dir new here there (returns same at away apart) moves corners sides from to =
      leads_back here there (corners ∙ ap (λ (s : Swept). s.corners) same) at away
      (subst (λ list. AreApart list present 0) (sym corners) apart) (rw same at sides) from to
  edge_added dir new here there (adds same count at apart apart_too) moves corners sides from to =
      leads_on here there (ap length corners ∙ count) at (subst (λ list. AreApart list present number) (sym corners) apart)
      (subst (λ list. AreApart list number 0) (sym corners) apart_too) (rw same at sides) from to
