-- A line more: sets and outcomes keep what the lines before say of them, so that the nodes before keep their kids.
use Rattle.std.proofs.Common.{◌≡◌, ℕ, suc, Bool, true, false, eqb, nat_eq, List, [], ◌∷◌, ◌++◌, Option, Some, None, unwrap_or, map, filter_map, refl, ap, ap₂, sym, subst, ◌∙◌, arith}
use Rattle.std.specs.Prelude.{All, option_map}
use Rattle.std.specs.List.{position_or_len}
use Rattle.std.specs.Map.{keys_of, lookup}
use Rattle.std.proofs.lemmas.Bool.{eqb-true}
use Rattle.std.proofs.lemmas.List.Elements.{filter_map-append}
use Rattle.std.proofs.lemmas.Map.Made.{lookup-map_values}
use Rattle.efg_reader.specs.declared.events.Bare.{Bare}
use Rattle.efg_reader.specs.declared.first_lists.FirstList.{FirstList}
use Rattle.efg_reader.specs.declared.first_lists.OutcomePays.{OutcomePays}
use Rattle.number_words.specs.Number.{NumberView}
use Rattle.efg_reader.specs.declared.raw_game.RawNode.{RawNode}
use Rattle.efg_reader.specs.declared.raw_game.Shape.{Shape}
use Rattle.efg_reader.specs.declared.raw_game.Shape.TheVariants as shape
use Rattle.efg_reader.specs.Above.{above_next, AreShallow}
use Rattle.efg_reader.specs.Entry.{Mover, draws, moves, nobody}
use Rattle.efg_reader.specs.FileGame.{first_probs, node_at, node_of, payoffs_at, set_place, shape_at, side_of}
use Rattle.efg_reader.specs.Lists.{entry_in, list_among, listed_in, outcome_in, pays_in, shape_among, with_given}
use Rattle.efg_reader.specs.Rules.{player_rules}
use Rattle.efg_reader.specs.Taken.{IsKnown, IsNamed}
use Rattle.efg_reader.specs.Told.{Told, Listed, Owner, chance, player, sets, set_list, first_list, first_payoffs, outcomes, outcome_paid, firsts, nothing}
use Rattle.efg_reader.specs.TreeSoFar.{above_behind, action_count, kid_count}
use Rattle.efg_reader.proofs.FirstGiven.{firsts-given, lookup-kept, place_stays}

-- the sets of an owner behind a line more
pub sets-push : (owner : Owner) (lines : List Told) (told : Told) → sets owner (lines ++ told ∷ []) ≡ with_given (set_list owner told.line.kind told.numbers.mover) (sets owner lines)
sets-push owner lines told =
    let given : Told → Option (ℕ × Listed) = λ (t : Told). set_list owner t.line.kind t.numbers.mover in
    ap firsts (filter_map-append given lines (told ∷ [])) ∙ firsts-given (filter_map given lines) (given told)

-- the outcomes behind a line more
pub outcomes-push : (lines : List Told) (told : Told) → outcomes (lines ++ told ∷ []) ≡ with_given (outcome_paid told) (outcomes lines)
outcomes-push lines told =
    ap (λ gs. firsts ((0, nothing ∷ nothing ∷ []) ∷ gs)) (filter_map-append outcome_paid lines (told ∷ []))
    ∙ firsts-given ((0, nothing ∷ nothing ∷ []) ∷ filter_map outcome_paid lines) (outcome_paid told)

module _ (lines : List Told) (told : Told) where
  kept_in : (owner : Owner) (set : ℕ) (list : Listed) → lookup (nat_eq set) (sets owner lines) ≡ Some list → lookup (nat_eq set) (sets owner (lines ++ told ∷ [])) ≡ Some list
  kept_in owner set list found =
      ap (lookup (nat_eq set)) (sets-push owner lines told)
      ∙ lookup-kept (set_list owner told.line.kind told.numbers.mover) (sets owner lines) set list found

  -- a first list stays first
  pub first_list-kept : (mover : Mover) (list : Listed) → first_list lines mover ≡ Some list → first_list (lines ++ told ∷ []) mover ≡ Some list
  first_list-kept (draws set probs) list found = kept_in chance set list found
  first_list-kept (moves who set) list found = kept_in (player who) set list found
  first_list-kept nobody list found = absurd (cc)

  named_more : (mover : Mover) (kids : ℕ) → IsNamed mover (first_list lines mover) kids → IsNamed mover (first_list (lines ++ told ∷ []) mover) kids
  named_more (draws set probs) kids named = (named.0, first_list-kept (draws set probs) named.0 named.1, named.2)
  named_more (moves who set) kids named = (named.0, first_list-kept (moves who set) named.0 named.1, named.2)
  named_more nobody kids named = named

  count_more : (mover : Mover) (kids : ℕ) → IsNamed mover (first_list lines mover) kids → action_count (first_list (lines ++ told ∷ []) mover) ≡ action_count (first_list lines mover)
  count_more (draws set probs) kids named = ap action_count (first_list-kept (draws set probs) named.0 named.1 ∙ sym named.1)
  count_more (moves who set) kids named = ap action_count (first_list-kept (moves who set) named.0 named.1 ∙ sym named.1)
  count_more nobody kids named = refl

  -- an outcome keeps its first payoffs
  pub first_payoffs-kept : (outcome : ℕ) (pays : List NumberView) → first_payoffs lines outcome ≡ Some pays → first_payoffs (lines ++ told ∷ []) outcome ≡ Some pays
  first_payoffs-kept outcome pays found =
      ap (lookup (nat_eq outcome)) (outcomes-push lines told) ∙ lookup-kept (outcome_paid told) (outcomes lines) outcome pays found

  -- a known line stays known
  pub known_more : (t : Told) → IsKnown lines t → IsKnown (lines ++ told ∷ []) t
  known_more t known = (
    subst (IsNamed t.numbers.mover (first_list (lines ++ told ∷ []) t.numbers.mover)) (sym (count_more t.numbers.mover (kid_count lines t) known.0))
        (named_more t.numbers.mover (kid_count lines t) known.0),
    (known.1.0, first_payoffs-kept t.numbers.outcome known.1.0 known.1.1),
  )

  -- what happens at a node before stays
  shape_kept : (mover : Mover) (kids : ℕ) → IsNamed mover (first_list lines mover) kids → shape_at (lines ++ told ∷ []) mover ≡ shape_at lines mover
  shape_kept nobody kids named = refl
  shape_kept (draws set probs) kids named =
      ap {B = List ℕ → Shape} (λ (list : Option Listed) (ks : List ℕ). shape.Chance ks (first_probs list)) (first_list-kept (draws set probs) named.0 named.1 ∙ sym named.1)
  shape_kept (moves who set) kids named =
      let place : set_place (lines ++ told ∷ []) who set ≡ set_place lines who set =
      ap (λ (es : List (ℕ × Listed)). position_or_len (nat_eq set) (keys_of es)) (sets-push (player who) lines told)
      ∙ place_stays (set_list (player who) told.line.kind told.numbers.mover) (sets (player who) lines) set named.0 named.1 in
      ap {B = List ℕ → Shape} (λ (n : ℕ) (ks : List ℕ). shape.Choice (side_of who) (record { 0 = n }) ks) place

  pays_kept : (t : Told) → IsKnown lines t → payoffs_at (lines ++ told ∷ []) t ≡ payoffs_at lines t
  pays_kept t known = ap (λ (found : Option (List NumberView)). unwrap_or found []) (first_payoffs-kept t.numbers.outcome known.1.0 known.1.1 ∙ sym known.1.1)

  node_kept : (t : Told) → IsKnown lines t → node_at (lines ++ told ∷ []) t ≡ node_at lines t
  node_kept t known =
      ap₂ {C = List ℕ → RawNode} (λ (s : List ℕ → Shape) (pays : List NumberView) (ks : List ℕ). node_of (s ks) pays)
      (shape_kept t.numbers.mover (kid_count lines t) known.0) (pays_kept t known)

  -- the nodes before stay
  pub nodes_kept : (ts : List Told) → All (IsKnown lines) ts → map (node_at (lines ++ told ∷ [])) ts ≡ map (node_at lines) ts
  nodes_kept [] known = refl
  nodes_kept (t ∷ ts) known =
      ap₂ (λ (n : List ℕ → RawNode) (ns : List (List ℕ → RawNode)). n ∷ ns) (node_kept t (known 0 t (omega arith)))
      (nodes_kept ts (λ k d within. known (suc k) d (omega arith)))

  -- the nodes before keep their kids
  pub kids_kept : (ts : List Told) → All (IsKnown lines) ts → map (kid_count (lines ++ told ∷ [])) ts ≡ map (kid_count lines) ts
  kids_kept [] known = refl
  kids_kept (t ∷ ts) known =
      let first : IsKnown lines t = known 0 t (omega arith) in
      let same : kid_count (lines ++ told ∷ []) t ≡ kid_count lines t = count_more t.numbers.mover (kid_count lines t) first.0 in
      let more = kids_kept ts (λ k d within. known (suc k) d (omega arith)) in
      ap (λ n. n ∷ map (kid_count (lines ++ told ∷ [])) ts) same ∙ ap (λ ns. kid_count lines t ∷ ns) more

-- a node's kids are as many as its set's first list has actions
pub named_count : (mover : Mover) (list : Option Listed) (kids : ℕ) → (mover ≡ nobody → list ≡ None) → IsNamed mover list kids → kids ≡ action_count list
named_count (draws set probs) list kids none named = named.2 ∙ ap action_count (sym named.1)
named_count (moves who set) list kids none named = named.2 ∙ ap action_count (sym named.1)
named_count nobody list kids none named = named ∙ ap action_count (sym (none refl))

-- the nodes above the next place
pub shallow_last : (above : List ℕ) (bares : List Bare) (last : List ℕ) → AreShallow above bares last → above_behind above (map (λ (bare : Bare). bare.kids) bares) ≡ last
shallow_last above [] last shallow = shallow
shallow_last above (bare ∷ bares) last shallow = shallow_last (above_next above bare.kids) bares last shallow.1

keys_in : (lists : List (ℕ × FirstList)) → keys_of (map entry_in lists) ≡ keys_of lists
keys_in [] = refl
keys_in (entry ∷ lists) = ap (λ (ns : List ℕ). entry.0 ∷ ns) (keys_in lists)

-- the list that the program keeps for a set is its first
module _ (lines : List Told) (of_chance one two : List (ℕ × FirstList))
    (are_chance : map entry_in of_chance ≡ sets chance lines) (are_one : map entry_in one ≡ sets (player 1) lines) (are_two : map entry_in two ≡ sets (player 2) lines) where
  found_in : (lists : List (ℕ × FirstList)) (owner : Owner) (set : ℕ) → map entry_in lists ≡ sets owner lines → option_map listed_in (lookup (nat_eq set) lists) ≡ lookup (nat_eq set) (sets owner lines)
  found_in lists owner set are = sym (lookup-map_values listed_in (nat_eq set) lists) ∙ ap (lookup (nat_eq set)) are

  by_player : (node who set : ℕ) (is_one is_two : Bool) → eqb who 1 ≡ is_one → eqb who 2 ≡ is_two → player_rules node (moves who set) ≡ None
      → list_among of_chance one two (moves who set) ≡ first_list lines (moves who set)
  by_player node who set true is_two e f rule =
      let own : who ≡ 1 = eqb-true who 1 e in
      rw own (found_in one (player 1) set are_one)
  by_player node who set false true e f rule =
      let own : who ≡ 2 = eqb-true who 2 f in
      rw own (found_in two (player 2) set are_two)
  by_player node who set false false e f rule =
      let none = rw (e, f) at rule in
      absurd (cc)

  pub list_is : (node : ℕ) (mover : Mover) → player_rules node mover ≡ None → list_among of_chance one two mover ≡ first_list lines mover
  list_is node (draws set probs) rule = found_in of_chance chance set are_chance
  list_is node (moves who set) rule = by_player node who set (eqb who 1) (eqb who 2) refl refl rule
  list_is node nobody rule = refl

  place_in : (lists : List (ℕ × FirstList)) (who set : ℕ) → map entry_in lists ≡ sets (player who) lines → position_or_len (nat_eq set) (keys_of lists) ≡ set_place lines who set
  place_in lists who set are = ap (position_or_len (nat_eq set)) (sym (keys_in lists) ∙ ap keys_of are)

  shape_of_player : (node who set : ℕ) (is_one is_two : Bool) → eqb who 1 ≡ is_one → eqb who 2 ≡ is_two → player_rules node (moves who set) ≡ None
      → shape_among of_chance one two (moves who set) ≡ shape_at lines (moves who set)
  shape_of_player node who set true is_two e f rule =
      let own : who ≡ 1 = eqb-true who 1 e in
      rw own (ap {B = List ℕ → Shape} (λ (n : ℕ) (ks : List ℕ). shape.Choice (side_of 1) (record { 0 = n }) ks) (place_in one 1 set are_one))
  shape_of_player node who set false true e f rule =
      let own : who ≡ 2 = eqb-true who 2 f in
      rw own (ap {B = List ℕ → Shape} (λ (n : ℕ) (ks : List ℕ). shape.Choice (side_of 2) (record { 0 = n }) ks) (place_in two 2 set are_two))
  shape_of_player node who set false false e f rule =
      let none = rw (e, f) at rule in
      absurd (cc)

  -- what happens at a node by the program's lists is what its line says
  pub shape_is : (node : ℕ) (mover : Mover) → player_rules node mover ≡ None → shape_among of_chance one two mover ≡ shape_at lines mover
  shape_is node (draws set probs) rule = ap {B = List ℕ → Shape} (λ (list : Option Listed) (ks : List ℕ). shape.Chance ks (first_probs list)) (found_in of_chance chance set are_chance)
  shape_is node (moves who set) rule = shape_of_player node who set (eqb who 1) (eqb who 2) refl refl rule
  shape_is node nobody rule = refl

-- the payoffs that the program keeps for an outcome are its first
pub payoffs_are : (lines : List Told) (entries : List (ℕ × OutcomePays)) (outcome : ℕ) → map outcome_in entries ≡ outcomes lines → option_map pays_in (lookup (nat_eq outcome) entries) ≡ lookup (nat_eq outcome) (outcomes lines)
payoffs_are lines entries outcome are = sym (lookup-map_values pays_in (nat_eq outcome) entries) ∙ ap (lookup (nat_eq outcome)) are
