-- What the program keeps behind a line more is what the lines with it say.
use Rattle.std.proofs.Common.{◌≡◌, ℕ, true, not, eqb, List, [], ◌∷◌, ◌++◌, Option, None, length, map, refl, ap, sym, subst, ◌∙◌, arith, nat_eq, Some}
use Rattle.std.proofs.lemmas.Bool.{ne_eqb}
use Rattle.std.proofs.lemmas.List.{length_push, map-append, length-map}
use Rattle.std.proofs.lemmas.List.Elements.{All-push, All-weaker}
use Rattle.std.specs.Prelude.{option_map, slice_index_or, unwrap_or}
use Rattle.std.specs.Map.{lookup}
use Rattle.corr_num.specs.Fraction.{Fraction}
use Rattle.number_words.specs.Number.{NumberView, fraction_of}
use Rattle.efg_reader.specs.declared.builder.Builder.{Builder}
use Rattle.efg_reader.specs.declared.first_lists.OutcomePays.{OutcomePays}
use Rattle.efg_reader.specs.declared.raw_game.RawNode.{RawNode}
use Rattle.efg_reader.specs.declared.raw_game.Shape.{Shape}
use Rattle.efg_reader.specs.Assembly.{node_with, shape_with}
use Rattle.efg_reader.specs.FileGame.{node_at, node_of, payoffs_at, shape_at}
use Rattle.efg_reader.specs.declared.events.Bare.{Bare}
use Rattle.efg_reader.specs.Above.{AreShallow}
use Rattle.efg_reader.specs.Entry.{nobody, Mover}
use Rattle.efg_reader.specs.Lists.{entry_in, list_among, outcome_in, pays_in, shape_among, with_given}
use Rattle.efg_reader.specs.Outline.{above, has_begun, is_whole}
use Rattle.efg_reader.specs.Rules.{place_rules, player_rules}
use Rattle.efg_reader.specs.Taken.{HasTaken, IsKnown, IsNamed}
use Rattle.efg_reader.specs.Told.{Told, Listed, chance, player, set_list, first_list, first_payoffs, nothing, outcome_paid}
use Rattle.efg_reader.specs.TreeSoFar.{above_behind, above_lines, depth, is_closed, kid_count}
use Rattle.efg_reader.proofs.LinesTaken.{kids_kept, known_more, list_is, named_count, nodes_kept, outcomes-push, payoffs_are, sets-push, shallow_last, shape_is}

-- the program keeps as many nodes as lines
pub count_is : (builder : Builder) (lines : List Told) → HasTaken builder lines → length builder.nodes.items ≡ length lines
count_is builder lines taken =
    sym (length-map builder.nodes.items (λ (bare : Bare). bare.kids)) ∙ ap (λ (ns : List ℕ). length ns) taken.kids ∙ length-map lines (kid_count lines)

pub above_is : (builder : Builder) (lines : List Told) → HasTaken builder lines → AreShallow [] builder.nodes.items (above builder.outline) → above builder.outline ≡ above_lines lines
above_is builder lines taken shallow = sym (shallow_last [] builder.nodes.items (above builder.outline) shallow) ∙ ap (above_behind []) taken.kids

pub whole_is : (builder : Builder) (lines : List Told) → HasTaken builder lines → AreShallow [] builder.nodes.items (above builder.outline) → is_whole builder.outline ≡ is_closed lines
whole_is builder lines taken shallow = rw (taken.begun, above_is builder lines taken shallow) refl

-- the place of the next node is that of the next line
pub place_is : (builder : Builder) (lines : List Told) (node : ℕ) → HasTaken builder lines → AreShallow [] builder.nodes.items (above builder.outline) → node ≡ length builder.nodes.items
    → place_rules node (is_whole builder.outline) (length (above builder.outline)) ≡ place_rules (length lines) (is_closed lines) (depth lines)
place_is builder lines node taken shallow is =
    rw (is ∙ count_is builder lines taken, whole_is builder lines taken shallow, above_is builder lines taken shallow) refl

more_than_none : (lines : List Told) (told : Told) → not (eqb (length (lines ++ told ∷ [])) 0) ≡ true
more_than_none lines told = ap not (ne_eqb (length (lines ++ told ∷ [])) 0 (λ e. omega (arith, length_push lines told)))

no_list : (lines : List Told) (mover : Mover) → mover ≡ nobody → first_list lines mover ≡ None
no_list lines mover is = ap (first_list lines) is

raw_node : Shape → Fraction → Fraction → RawNode
raw_node happening first second = record { shape = happening; one = first; two = second }

same_node : (bare : Bare) (pays : OutcomePays) (happening : Shape) (listed : List NumberView) (kids : List ℕ) → shape_with bare.event kids ≡ happening → listed ≡ pays_in pays
    → bare.one ≡ fraction_of pays.one → bare.two ≡ fraction_of pays.two → node_with bare kids ≡ node_of happening listed
unfolding raw_node
same_node bare pays happening listed kids happens are one_is two_is =
    let first : bare.one ≡ fraction_of (slice_index_or listed 0 nothing) = one_is ∙ ap (λ (ps : List NumberView). fraction_of (slice_index_or ps 0 nothing)) (sym are) in
    let second : bare.two ≡ fraction_of (slice_index_or listed 1 nothing) = two_is ∙ ap (λ (ps : List NumberView). fraction_of (slice_index_or ps 1 nothing)) (sym are) in
    λ i. raw_node (happens i) (first i) (second i)

module _ (old new : Builder) (lines : List Told) (told : Told) (bare : Bare) (taken : HasTaken old lines) where
  abbrev mover : Mover
  mover = told.numbers.mover

  pub taken_more : (node : ℕ) (now : List Bare) (pays : OutcomePays)
      → map entry_in new.chance.entries ≡ with_given (set_list chance told.line.kind mover) (map entry_in old.chance.entries)
      → map entry_in new.one.entries ≡ with_given (set_list (player 1) told.line.kind mover) (map entry_in old.one.entries)
      → map entry_in new.two.entries ≡ with_given (set_list (player 2) told.line.kind mover) (map entry_in old.two.entries)
      → map outcome_in new.outcomes.entries ≡ with_given (outcome_paid told) (map outcome_in old.outcomes.entries)
      → now ≡ old.nodes.items
      → new.nodes.items ≡ now ++ bare ∷ []
      → player_rules node mover ≡ None
      → IsNamed mover (list_among new.chance.entries new.one.entries new.two.entries mover) bare.kids
      → ((kids : List ℕ) → shape_with bare.event kids ≡ shape_among new.chance.entries new.one.entries new.two.entries mover kids)
      → option_map pays_in (lookup (nat_eq told.numbers.outcome) new.outcomes.entries) ≡ Some (pays_in pays)
      → bare.one ≡ fraction_of pays.one
      → bare.two ≡ fraction_of pays.two
      → has_begun new.outline ≡ true
      → HasTaken new (lines ++ told ∷ [])
  taken_more node now pays chances ones twos payoffs stay push rule named happens kept one_is two_is begun =
      let all : List Told = lines ++ told ∷ [] in
      let by_chance = chances ∙ ap (with_given (set_list chance told.line.kind mover)) taken.sets_of_chance ∙ sym (sets-push chance lines told) in
      let by_one = ones ∙ ap (with_given (set_list (player 1) told.line.kind mover)) taken.sets_of_one ∙ sym (sets-push (player 1) lines told) in
      let by_two = twos ∙ ap (with_given (set_list (player 2) told.line.kind mover)) taken.sets_of_two ∙ sym (sets-push (player 2) lines told) in
      let list = list_is all new.chance.entries new.one.entries new.two.entries by_chance by_one by_two node mover rule in
      let own : IsNamed mover (first_list all mover) bare.kids = subst (λ (l : Option Listed). IsNamed mover l bare.kids) list named in
      let by_outcome = payoffs ∙ ap (with_given (outcome_paid told)) taken.outcomes_are ∙ sym (outcomes-push lines told) in
      let found : first_payoffs all told.numbers.outcome ≡ Some (pays_in pays) = sym (payoffs_are all new.outcomes.entries told.numbers.outcome by_outcome) ∙ kept in
      let same : (kids : List ℕ) → node_with bare kids ≡ node_at all told kids =
      λ kids. same_node bare pays (shape_at all mover kids) (payoffs_at all told) kids
      (happens kids ∙ ap (λ (f : List ℕ → Shape). f kids) (shape_is all new.chance.entries new.one.entries new.two.entries by_chance by_one by_two node mover rule))
      (ap (λ (o : Option (List NumberView)). unwrap_or o []) found) one_is two_is in
      let count : bare.kids ≡ kid_count all told = named_count mover (first_list all mover) bare.kids (no_list all mover) own in
      record {
        sets_of_chance = by_chance;
        sets_of_one = by_one;
        sets_of_two = by_two;
        outcomes_are = by_outcome;
        nodes_are =
            ap (map node_with) (push ∙ ap (λ (bs : List Bare). bs ++ bare ∷ []) stay)
            ∙ map-append node_with old.nodes.items (bare ∷ [])
            ∙ ap (λ (ns : List (List ℕ → RawNode)). ns ++ node_with bare ∷ []) (taken.nodes_are ∙ sym (nodes_kept lines told lines taken.known))
            ∙ ap (λ (n : List ℕ → RawNode). map (node_at all) lines ++ n ∷ []) (λ i kids. same kids i)
            ∙ sym (map-append (node_at all) lines (told ∷ []));
        kids =
            ap (map (λ (b : Bare). b.kids)) (push ∙ ap (λ (bs : List Bare). bs ++ bare ∷ []) stay)
            ∙ map-append (λ (b : Bare). b.kids) old.nodes.items (bare ∷ [])
            ∙ ap (λ (ns : List ℕ). ns ++ bare.kids ∷ []) (taken.kids ∙ sym (kids_kept lines told lines taken.known))
            ∙ ap (λ (n : ℕ). map (kid_count all) lines ++ n ∷ []) count
            ∙ sym (map-append (kid_count all) lines (told ∷ []));
        known =
            All-push (IsKnown all) lines told (All-weaker (IsKnown lines) (IsKnown all) (λ t is. known_more lines told t is) lines taken.known)
            (subst (IsNamed mover (first_list all mover)) count own, (pays_in pays, found));
        begun = begun ∙ sym (more_than_none lines told);
      }
