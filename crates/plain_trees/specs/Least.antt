-- Triangles that begin with some sets, and the least of them.
use Rattle.std.specs.Prelude.{◌≡◌, ℕ, List, ◌++◌}
use Rattle.corr_game.specs.Game.{GameView}
use Rattle.triangle_test.specs.declared.triangles.Quad.{Quad}
use Rattle.triangle_test.specs.TreeTriangle.{ComesBefore, IsTreeTriangle, numbers}

-- the first sets of a quad have these numbers
abbrev pub BeginsWith : List ℕ → Quad → Type 0
BeginsWith firsts quad = (rest : List ℕ) × (numbers quad ≡ firsts ++ rest)

-- no triangle begins with these sets
abbrev pub NoneWith : GameView → List ℕ → Type 0
NoneWith g firsts = (quad : Quad) → BeginsWith firsts quad → IsTreeTriangle g quad → ⊥

-- a triangle that begins with these sets, before which there is none
pub record IsLeastWith (g : GameView) (firsts : List ℕ) (quad : Quad) : Type 0 where
  pub begins : BeginsWith firsts quad
  pub triangle : IsTreeTriangle g quad
  pub none_before : (other : Quad) → BeginsWith firsts other → ComesBefore (numbers other) (numbers quad) → IsTreeTriangle g other → ⊥
