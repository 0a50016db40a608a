-- What happens at a node: where chance moves a draw with the probabilities of the set's list, and else a choice at the set.
use Rattle.std.proofs.Common.{◌≡◌, ℕ, nat_eq, List, Option, Some, map, ap, sym, ◌∙◌}
use Rattle.std.specs.Prelude.{option_map}
use Rattle.std.specs.List.{position_or_len}
use Rattle.std.specs.Map.{keys_of, lookup}
use Rattle.corr_game.specs.declared.sides.Side.TheVariants.{One, Two}
use Rattle.number_words.specs.Number.{NumberView, fraction_of}
use Rattle.efg_reader.specs.declared.entry.Turn.{Turn}
use Rattle.efg_reader.specs.declared.entry.Turn.TheVariants.{Player}
use Rattle.efg_reader.specs.declared.events.Event.{Event}
use Rattle.efg_reader.specs.declared.events.Event.TheVariants.{Chance, Choice}
use Rattle.efg_reader.specs.declared.first_lists.FirstList.{FirstList}
use Rattle.efg_reader.specs.declared.raw_game.Shape.TheVariants as shape
use Rattle.efg_reader.specs.Assembly.{shape_with}
use Rattle.efg_reader.specs.Entry.{draws, moves, mover_of}
use Rattle.efg_reader.specs.FileGame.{first_probs}
use Rattle.efg_reader.specs.Lists.{listed_in, shape_among}

-- a draw at a set, and how many kids it has
abbrev pub IsDrawOf : List (ℕ × FirstList) → ℕ → Event × ℕ → Type 0
IsDrawOf lists set it = (first : FirstList) × (lookup (nat_eq set) lists ≡ Some first) × (it.0 ≡ Chance (map fraction_of first.probs.items))

pub draw_shape : (lists one two : List (ℕ × FirstList)) (set : ℕ) (probs : List NumberView) (event : Event)
    → (first : FirstList) × (lookup (nat_eq set) lists ≡ Some first) × (event ≡ Chance (map fraction_of first.probs.items))
    → (kids : List ℕ) → shape_with event kids ≡ shape_among lists one two (draws set probs) kids
draw_shape lists one two set probs event draw kids =
    ap (λ (e : Event). shape_with e kids) draw.2
    ∙ ap (λ (found : Option FirstList). shape.Chance kids (first_probs (option_map listed_in found))) (sym draw.1)

module _ (of_chance one two : List (ℕ × FirstList)) (who set : ℕ) (turn : Turn) (event : Event) (turn_is : turn ≡ Player who set) where
  -- a choice of player 1
  pub one_shape : who ≡ 1 → event ≡ Choice One (record { 0 = position_or_len (nat_eq set) (keys_of one) }) → (kids : List ℕ) → shape_with event kids ≡ shape_among of_chance one two (mover_of turn) kids
  one_shape who_is is kids =
      ap (λ (e : Event). shape_with e kids) is
      ∙ ap (λ (n : ℕ). shape_among of_chance one two (moves n set) kids) (sym who_is)
      ∙ ap (λ (t : Turn). shape_among of_chance one two (mover_of t) kids) (sym turn_is)

  -- a choice of player 2
  pub two_shape : who ≡ 2 → event ≡ Choice Two (record { 0 = position_or_len (nat_eq set) (keys_of two) }) → (kids : List ℕ) → shape_with event kids ≡ shape_among of_chance one two (mover_of turn) kids
  two_shape who_is is kids =
      ap (λ (e : Event). shape_with e kids) is
      ∙ ap (λ (n : ℕ). shape_among of_chance one two (moves n set) kids) (sym who_is)
      ∙ ap (λ (t : Turn). shape_among of_chance one two (mover_of t) kids) (sym turn_is)
