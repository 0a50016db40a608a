-- Full choices, and the plan of a player who leaves for one (von Stengel and Forges 2008).
use Rattle.std.specs.Prelude.{◌≡◌, ℕ, ◌+◌, ◌<◌, Bool, true, ◌||◌, nat_eq, cond, List, [], ◌∷◌, length, Option, Some, slice_get, slice_index}
use Rattle.corr_game.specs.declared.nodes.SetInfo.{SetInfo}
use Rattle.corr_game.specs.declared.sides.Side.{Side}
use Rattle.corr_game.specs.Game.{GameView, sets_of}
use Rattle.equilibrium.specs.Reach.{is_below}

-- an action at each set of a player
pub record IsFullChoice (side : Side) (g : GameView) (choice : List ℕ) : Type 0 where
  pub per_set : length choice ≡ length (sets_of side g)
  pub in_range : (set action : ℕ) (info : SetInfo) → slice_get choice set ≡ Some action
      → slice_get (sets_of side g) set ≡ Some info → action < info.actions

-- a plan's entries, from set `first` on, with those of a full choice where a player chooses anew
abbrev pub chosen_anew : (ℕ → Bool) → List ℕ → ℕ → List (Option ℕ) → List (Option ℕ)
chosen_anew anew choice first [] = []
chosen_anew anew choice first (entry ∷ rest) =
    cond (anew first) (Some (slice_index choice first)) entry ∷ chosen_anew anew choice (first + 1) rest

-- a set is this one or below it
abbrev pub is_under : Side → GameView → ℕ → ℕ → Bool
is_under side g above set = nat_eq set above || is_below side g above set

-- the full choice at a set and at every set below it, and the plan elsewhere
abbrev pub graft : Side → GameView → ℕ → List ℕ → List (Option ℕ) → List (Option ℕ)
graft side g above choice plan = chosen_anew (is_under side g above) choice 0 plan

-- the full choice everywhere
abbrev pub replaced : List ℕ → List (Option ℕ) → List (Option ℕ)
replaced choice plan = chosen_anew (λ set. true) choice 0 plan
