-- A block that names a tableau's basis and a place at which it is too wide.
use Rattle.std.specs.Prelude.{◌≡◌}
use Rattle.lp_form.specs.declared.places.Place.{Place}
use Rattle.int_tableau.specs.Content.{Content}
use Rattle.bland_simplex.specs.Reachable.{ListsBasis}
use Rattle.report_form.specs.declared.reports.Block.{Block}
use Rattle.report_form.specs.declared.reports.Block.TheVariants.{Found, Empty, TooWide}

-- the block lists the tableau's basis, and names this place
abbrev pub NamesBasis : Content → Place → Block → Type 0
NamesBasis t place (Found corners sides) = ⊥
NamesBasis t place (Empty multipliers) = ⊥
NamesBasis t place (TooWide basis at) = ListsBasis basis t × (at ≡ place)
