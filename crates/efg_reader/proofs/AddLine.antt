-- What the tests of the program find at a line is what the lines before and the line say.
use Rattle.std.proofs.Common.{◌≡◌, ℕ, is_some, nat_eq, List, [], ◌∷◌, Option, Some, None, length, refl, ap, sym, ◌∙◌}
use Rattle.std.specs.Prelude.{option_map, Ok}
use Rattle.std.specs.Map.{lookup}
use Rattle.number_words.specs.Number.{NumberView}
use Rattle.efg_lines.specs.declared.node_line.NodeLine.{NodeLine}
use Rattle.efg_lines.specs.declared.refusal.FileRefusal.{FileRefusal}
use Rattle.efg_lines.specs.declared.refusal.FileRefusal.TheVariants.{NumberTooWide}
use Rattle.efg_reader.specs.declared.builder.Builder.{Builder}
use Rattle.efg_reader.specs.Above.{AreShallow}
use Rattle.efg_reader.specs.Entry.{Mover, Numbers, numbers}
use Rattle.efg_reader.specs.FirstRefusal.{next_line, told_refusal, turn_rules}
use Rattle.efg_reader.specs.Lists.{list_among, pays_if, pays_in}
use Rattle.efg_reader.specs.Outline.{above, is_whole}
use Rattle.efg_reader.specs.Rules.{action_rules, draw_rules, first_of, payoff_rules, place_rules, player_rules, refusal_in, set_rules}
use Rattle.efg_reader.specs.Taken.{HasTaken}
use Rattle.efg_reader.specs.Told.{Told, Listed, first_list, first_payoffs, listed, paid}
use Rattle.efg_reader.specs.Turn.{acts_in}
use Rattle.efg_reader.specs.TreeSoFar.{depth, is_closed}
use Rattle.efg_reader.proofs.LinesTaken.{list_is, payoffs_are}
use Rattle.efg_reader.proofs.NextLine.{next_misplaced, next_refused, next_taken, next_wide, told_of}
use Rattle.efg_reader.proofs.Refusing.{first_of-none, first_of-one, first_of-same, first_of-some}
use Rattle.efg_reader.proofs.TakenMore.{count_is, place_is}

-- the payoffs that a line gives
pub paid_is : {A : Type 0} (words : Option A) (pays : List NumberView) → pays_if (is_some words) pays ≡ option_map (λ (w : A). pays) words
paid_is None pays = refl
paid_is (Some words) pays = refl

module _ (builder : Builder) (lines : List Told) (taken : HasTaken builder lines) (line : NodeLine) (node : ℕ) (node_is : node ≡ length builder.nodes.items) where
  -- by the lists that the program keeps
  abbrev kept_list : Mover → Option Listed
  kept_list mover = list_among builder.chance.entries builder.one.entries builder.two.entries mover

  node_line : node ≡ length lines
  node_line = node_is ∙ count_is builder lines taken

  turn_is : (mover : Mover) → turn_rules node line.kind mover (kept_list mover) ≡ turn_rules (length lines) line.kind mover (first_list lines mover)
  turn_is mover =
      let behind : Option Listed → List (Option FileRefusal) =
      λ (first : Option Listed). action_rules node (acts_in line.kind) ∷ draw_rules node mover (acts_in line.kind) ∷ set_rules node mover first (listed line.kind mover) ∷ [] in
      first_of-same (player_rules node mover) (behind (kept_list mover)) (behind (first_list lines mover))
      (λ rule. ap (λ (first : Option Listed). first_of (behind first))
      (list_is lines builder.chance.entries builder.one.entries builder.two.entries taken.sets_of_chance taken.sets_of_one taken.sets_of_two node mover rule))
      ∙ ap (λ (n : ℕ). turn_rules n line.kind mover (first_list lines mover)) node_line

  module _ (shallow : AreShallow [] builder.nodes.items (above builder.outline)) where
    abbrev placed : Option FileRefusal
    placed = place_rules node (is_whole builder.outline) (length (above builder.outline))

    fits_here : (rule : Option FileRefusal) → placed ≡ rule → place_rules (length lines) (is_closed lines) (depth lines) ≡ rule
    fits_here rule is = sym (place_is builder lines node taken shallow node_is) ∙ is

    pub misplaced : (refusal : FileRefusal) → placed ≡ Some refusal → refusal_in (next_line lines line) ≡ Some refusal
    misplaced refusal is = ap refusal_in (next_misplaced lines line refusal (fits_here (Some refusal) is))

    pub too_wide : placed ≡ None → numbers line ≡ None → refusal_in (next_line lines line) ≡ Some (NumberTooWide node)
    too_wide fits wide =
        ap refusal_in (next_wide lines line (fits_here None fits) wide) ∙ ap (λ (n : ℕ). Some (NumberTooWide n)) (sym node_line)

    module _ (amounts : Numbers) (fits : placed ≡ None) (are : numbers line ≡ Some amounts) where
      abbrev turned : Option FileRefusal
      turned = turn_rules node line.kind amounts.mover (kept_list amounts.mover)

      abbrev behind : Option FileRefusal
      behind = payoff_rules (length lines) (first_payoffs lines amounts.outcome) (paid (told_of line amounts))

      refused_as : (refusal : FileRefusal) → told_refusal lines (told_of line amounts) ≡ Some refusal → refusal_in (next_line lines line) ≡ Some refusal
      refused_as refusal is = ap refusal_in (next_refused lines line amounts refusal (fits_here None fits) are is)

      pub turn_refused : (refusal : FileRefusal) → turned ≡ Some refusal → refusal_in (next_line lines line) ≡ Some refusal
      turn_refused refusal is =
          refused_as refusal (first_of-some (turn_rules (length lines) line.kind amounts.mover (first_list lines amounts.mover)) (behind ∷ []) refusal (sym (turn_is amounts.mover) ∙ is))

      pays_are : (rule : Option FileRefusal) (given : Option (List NumberView)) → given ≡ paid (told_of line amounts)
          → payoff_rules node (option_map pays_in (lookup (nat_eq amounts.outcome) builder.outcomes.entries)) given ≡ rule → behind ≡ rule
      pays_are rule given same is =
          ap (λ (n : ℕ). payoff_rules n (first_payoffs lines amounts.outcome) (paid (told_of line amounts))) (sym node_line)
          ∙ ap (λ (known : Option (List NumberView)). payoff_rules node known (paid (told_of line amounts))) (sym (payoffs_are lines builder.outcomes.entries amounts.outcome taken.outcomes_are))
          ∙ ap (payoff_rules node (option_map pays_in (lookup (nat_eq amounts.outcome) builder.outcomes.entries))) (sym same)
          ∙ is

      told_is : (rule : Option FileRefusal) (given : Option (List NumberView)) → turned ≡ None → given ≡ paid (told_of line amounts)
          → payoff_rules node (option_map pays_in (lookup (nat_eq amounts.outcome) builder.outcomes.entries)) given ≡ rule → told_refusal lines (told_of line amounts) ≡ rule
      told_is rule given turn same is =
          first_of-none (turn_rules (length lines) line.kind amounts.mover (first_list lines amounts.mover)) (behind ∷ []) (sym (turn_is amounts.mover) ∙ turn)
          ∙ first_of-one behind
          ∙ pays_are rule given same is

      pub pays_refused : (refusal : FileRefusal) (given : Option (List NumberView)) → turned ≡ None → given ≡ paid (told_of line amounts)
          → payoff_rules node (option_map pays_in (lookup (nat_eq amounts.outcome) builder.outcomes.entries)) given ≡ Some refusal → refusal_in (next_line lines line) ≡ Some refusal
      pays_refused refusal given turn same is = refused_as refusal (told_is (Some refusal) given turn same is)

      pub all_taken : (given : Option (List NumberView)) → turned ≡ None → given ≡ paid (told_of line amounts)
          → payoff_rules node (option_map pays_in (lookup (nat_eq amounts.outcome) builder.outcomes.entries)) given ≡ None → next_line lines line ≡ Ok (told_of line amounts)
      all_taken given turn same is = next_taken lines line amounts (fits_here None fits) are (told_is None given turn same is)
