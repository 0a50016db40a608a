-- When no game is made.
use Rattle.std.specs.Prelude.{◌≡◌, ℕ, ◌<◌, ◌≤◌}
use Rattle.game_gen.specs.declared.kinds.Kind.{Kind}
use Rattle.game_gen.specs.declared.kinds.GenRefusal.{GenRefusal}
use Rattle.game_gen.specs.declared.kinds.GenRefusal.TheVariants.{TooLarge, NoMemory}
use Rattle.game_gen.specs.GameText.{greatest}

-- refused as too large exactly where the size is above the greatest of its kind, which is named
abbrev pub IsRefused : Kind → ℕ → GenRefusal → Type 0
IsRefused kind n (TooLarge limit) = (greatest kind < n) × (limit ≡ greatest kind)
IsRefused kind n NoMemory = n ≤ greatest kind
