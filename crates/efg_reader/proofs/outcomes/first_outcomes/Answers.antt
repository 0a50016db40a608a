use Rattle.std.proofs.Common.{ℕ, List, [], ◌∷◌, nat_eq, map, ap, ap₂, ◌∙◌}
use Rattle.indexmap.specs.IndexMap.{insert_entry}
use Rattle.number_words.specs.Number.{NumberView}
use Rattle.efg_reader.specs.declared.first_lists.OutcomePays.{OutcomePays}
use Rattle.efg_reader.specs.Lists.{outcome_in}
use Rattle.efg_reader.specs.Told.{firsts}
use Rattle.efg_reader.proofs.outcomes.first_outcomes.Goals as goal

pub returns : goal.returns
unfolding firsts
returns c =
    ap (map outcome_in) (c.in_ok-insert.ensures.entries ∙ ap (λ (entries : List (ℕ × OutcomePays)). insert_entry nat_eq entries 0 c.nothing.result) c.new-outcomes.ensures.empty)
    ∙ ap₂ (λ (a b : NumberView). (0, a ∷ b ∷ []) ∷ []) c.nothing.ensures.one c.nothing.ensures.two
