-- Values that meet the correlation rows (von Stengel and Forges 2008), in a game without a triangle (Farina and Sandholm
-- 2020), and what two plans that are picked by them play.
pub use Rattle.connected_pairs.specs.CorrelationRows.{value_at, value_of, MeetsRows}
use Rattle.std.specs.Prelude.{ℕ, ◌≡◌, ◌+◌, ◌≤ℤ◌, ℤ, pos, negsuc, zero, suc, Bool, true, List, [], ◌∷◌, Option, Some}
use Rattle.corr_game.specs.declared.nodes.SetId.{SetId}
use Rattle.corr_game.specs.declared.sides.Side.TheVariants.{One}
use Rattle.sequences.specs.Number.{SideView, Plays, last_of}
use Rattle.connected_pairs.specs.Connected.{PairsView}
use Rattle.triangle_test.specs.Triangle.{HasNoTriangle}

-- what a walk needs to go on: rows that are met, a positive total, and no triangle
pub record IsSolution (p : PairsView) (values : List ℤ) : Type 0 where
  pub rows : MeetsRows p values
  pub total : pos 1 ≤ℤ value_of p values One 0 0
  pub no_triangle : HasNoTriangle p

-- the relevant pairs of sequences that both plans play are positive
abbrev pub ArePositive : (v w : SideView) → (ℕ → ℕ → Bool) → (ℕ → ℕ → ℤ) → List (Option ℕ) → List (Option ℕ) → Type 0
ArePositive v w join value plan_v plan_w =
    (x y : ℕ) → Plays v plan_v x → Plays w plan_w y → ((a b : SetId × ℕ) → last_of v x ≡ Some a → last_of w y ≡ Some b → join a.0.0 b.0.0 ≡ true) → pos 1 ≤ℤ value x y

-- 1 at a positive number, 0 at another
abbrev pub one_if_positive : ℤ → ℕ
one_if_positive (pos zero) = 0
one_if_positive (pos (suc n)) = 1
one_if_positive (negsuc n) = 0

-- how many values are positive
abbrev pub positives : List ℤ → ℕ
positives [] = 0
positives (z ∷ zs) = one_if_positive z + positives zs
