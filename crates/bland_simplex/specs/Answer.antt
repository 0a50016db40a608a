-- What the first phase leaves and answers.
use Rattle.std.specs.Prelude.{length}
use Rattle.lp_form.specs.Program.{LpView}
use Rattle.lp_form.specs.Certificates.{ShowEmpty}
use Rattle.lp_form.specs.Solutions.{HasSolution}
use Rattle.int_tableau.specs.Content.{Content}
use Rattle.bland_simplex.specs.declared.first_phase.Found.{Found}
use Rattle.bland_simplex.specs.declared.first_phase.Found.TheVariants.{Start, Empty}
use Rattle.bland_simplex.specs.Multipliers.{IsStuck, AreMultipliers, HasNarrowColumns}
use Rattle.bland_simplex.specs.Ready.{IsReady}

-- a start leaves a ready tableau; else the first phase is stuck, and the narrow multipliers are read off it and show that there is no
-- solution
abbrev pub FoundFor : LpView → Content → Found → Type 0
FoundFor lp t Start = IsReady lp t
FoundFor lp t (Empty multipliers) =
    IsStuck (length lp.rows) lp.cols t × AreMultipliers (length lp.rows) lp.cols t multipliers × ShowEmpty lp multipliers
    × HasNarrowColumns lp multipliers

-- a start is answered exactly where there is a solution
abbrev pub IsTrueOf : LpView → Found → Type 0
IsTrueOf lp Start = HasSolution lp
IsTrueOf lp (Empty multipliers) = HasSolution lp → ⊥
