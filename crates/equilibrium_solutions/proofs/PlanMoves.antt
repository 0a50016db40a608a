-- Which own moves are named by the plan of a player who leaves at a trigger: before the trigger's set those that the plan names, behind it
-- those that the full choice takes. By induction on the own moves, each of which is at a set before which are the earlier ones.
use Rattle.std.proofs.Common.{◌≡◌, ℕ, ◌<◌, inl, inr, Bool, true, false, nat_eq, ◌&&◌, ◌||◌, cond, List, [], ◌∷◌, length}
use Rattle.std.proofs.Common.{Option, Some, None, slice_get, slice_index, ℤ, pos, ◌-ℤ◌, refl, sym, ap, ap₂, subst, subst₂, ◌∙◌, arith}
use Rattle.std.proofs.lemmas.Bool.{and_from, cases_Bool, eq-eqb, eqb-true, or_cases, or_left, or_parts, or_right}
use Rattle.std.proofs.lemmas.Int.{ints}
use Rattle.corr_game.specs.declared.nodes.Node.{Node}
use Rattle.corr_game.specs.declared.nodes.Node.TheVariants.{Leaf, Chance, Choice}
use Rattle.corr_game.specs.declared.nodes.SetId.{SetId}
use Rattle.corr_game.specs.declared.sides.Side.{Side}
use Rattle.corr_game.specs.declared.sides.Side.TheVariants.{One, Two}
use Rattle.corr_game.specs.Game.{GameView, IsGame, IsNode, sets_of}
use Rattle.corr_game.specs.Node.{set_at}
use Rattle.tree_recall.specs.OwnSequence.{HasRecall, IsOwnAt, at_root, other_move, own_move}
use Rattle.tree_recall.specs.Tree.{set_of}
use Rattle.tree_recall.proofs.Kids.{set_node}
use Rattle.tree_recall.proofs.OwnSequences.{has_own}
use Rattle.equilibrium.specs.declared.triggers.Trigger.{Trigger}
use Rattle.equilibrium.specs.declared.triggers.Trigger.TheVariants.{Told, Reached, Start}
use Rattle.equilibrium.specs.Deviation.{deviated, meets}
use Rattle.equilibrium.specs.FullChoice.{graft, is_under, replaced}
use Rattle.equilibrium.specs.Leaves.{names_all}
use Rattle.equilibrium.specs.Reach.{is_below, leads, names}
use Rattle.equilibrium.proofs.Choosing.{chosen_there, kept_there}
use Rattle.equilibrium.proofs.Descents.{first_true, leads_by_recall, second_true}
use Rattle.equilibrium.proofs.LeafSums.{names_all-plays}
use Rattle.equilibrium.proofs.NodesBelow.{above_is_below, below_is_above}
use Rattle.equilibrium_solutions.specs.Decision.{is_given, takes}
pub use Rattle.equilibrium_solutions.specs.Values.{action_of, top_of}
use Rattle.equilibrium_solutions.specs.Departure.{before_play, has_followed, is_move, is_of, some_move}
use Rattle.equilibrium_solutions.proofs.Under.{has_move, move_above}

abbrev Plan : Type 0
Plan = List (Option ℕ)

abbrev Moves : Type 0
Moves = List (SetId × ℕ)

-- whether what is behind these moves counts where a player leaves: it is behind a set of the trigger's, or that is the start of play
abbrev pub counted : Side → GameView → Option SetId → Moves → Bool
counted side g top moves = cond (is_given (λ set. is_of side g top set) moves) (before_play top) true

-- whether a player who leaves there for a choice comes by these moves, where the plan meets the trigger
abbrev pub taken : Side → GameView → Option SetId → List ℕ → Moves → Bool
taken side g top choice moves = counted side g top moves && takes (λ set. is_of side g top set) (λ set. slice_index choice set) moves

abbrev pub one_if : Bool → ℤ
one_if b = cond b (pos 1) (pos 0)

same_tests : (a b : Bool) → (a ≡ true → b ≡ true) → (b ≡ true → a ≡ true) → a ≡ b
same_tests true b h k = sym (h refl)
same_tests false true h k = k refl
same_tests false false h k = refl

-- ---- sets under another one, by own moves

-- with perfect recall a set is below another one exactly where some own move before it is at that one
below_by_moves : (side : Side) (g : GameView) → IsGame g → HasRecall g side → (top n set : ℕ) (seq : Moves) → set_of g side n ≡ Some set
    → IsOwnAt g side n seq → is_below side g top set ≡ some_move (is_move top None) seq
unfolding HasRecall
below_by_moves side g rules recall top n set seq at own = same_tests (is_below side g top set) (some_move (is_move top None) seq)
    (λ below.
    let nodes = below_is_above side g rules top set below in
    let low = set_node g side nodes.1 set nodes.3 in
    let there = has_own g rules side nodes.1 low.0 in
    let Moved : Moves → Type 0 = λ moves. some_move (is_move top None) moves ≡ true in
    let moved = has_move g rules side top nodes.0 nodes.1 there.0 nodes.4 there.1 nodes.2 in
    subst Moved (recall nodes.1 n set there.0 seq nodes.3 at there.1 own) moved)
    (λ moved.
    let above = move_above g rules side top n seq own moved in
    above_is_below side g rules top set (above.0, n, above.2, at, above.1))

pub under_by_own_moves : (side : Side) (g : GameView) → IsGame g → HasRecall g side → (top n set : ℕ) (seq : Moves)
    → set_of g side n ≡ Some set → IsOwnAt g side n seq → is_under side g top set ≡ (nat_eq set top || some_move (is_move top None) seq)
under_by_own_moves side g rules recall top n set seq at own =
    ap (λ (b : Bool). nat_eq set top || b) (below_by_moves side g rules recall top n set seq at own)

-- ---- own moves of the tree

set_here : (side : Side) (g : GameView) (n : ℕ) (node : Node) → IsNode g n node → (set : ℕ) → set_at side node ≡ Some set
    → set < length (sets_of side g)
set_here side g n (Leaf pay) is set e = absurd (cc)
set_here side g n (Chance kids) is set e = absurd (cc)
set_here One g n (Choice One at kids) is set e = let same : at.0 ≡ set = cc in omega (arith, is.0)
set_here One g n (Choice Two at kids) is set e = absurd (cc)
set_here Two g n (Choice One at kids) is set e = absurd (cc)
set_here Two g n (Choice Two at kids) is set e = let same : at.0 ≡ set = cc in omega (arith, is.0)

-- a node's set is one of the player's
pub set_inside : (side : Side) (g : GameView) → IsGame g → (n set : ℕ) → set_of g side n ≡ Some set → set < length (sets_of side g)
set_inside side g rules n set h =
    let at = set_node g side n set h in
    set_here side g n at.1.0 (rules.each_node n at.1.0 at.1.1) set at.1.2

-- each move is at one of the player's sets, a plan leads there exactly where it names the moves before, and the set is under another one
-- exactly where it is that one or an earlier move is there
abbrev AreOwnMoves : Side → GameView → Moves → Type 0
AreOwnMoves side g [] = Unit {0}
AreOwnMoves side g (move ∷ before) =
    (move.0.0 < length (sets_of side g))
    × ((plan : Plan) → leads side g plan move.0.0 ≡ names_all plan before)
    × ((top : ℕ) → is_under side g top move.0.0 ≡ some_move (is_move top None) (move ∷ before))
    × AreOwnMoves side g before

led_by_moves : (side : Side) (g : GameView) → IsGame g → HasRecall g side → (n set : ℕ) (seq : Moves) → set_of g side n ≡ Some set
    → IsOwnAt g side n seq → (plan : Plan) → leads side g plan set ≡ names_all plan seq
led_by_moves side g rules recall n set seq at own plan =
    let led = leads_by_recall side g rules recall plan n set seq at own in
    let named = names_all-plays plan seq in
    same_tests (leads side g plan set) (names_all plan seq) (λ h. named.1 (led.0 h)) (λ h. led.1 (named.0 h))

own_moves : (side : Side) (g : GameView) → IsGame g → HasRecall g side → (n : ℕ) (seq : Moves) → IsOwnAt g side n seq
    → AreOwnMoves side g seq
own_moves side g rules recall _ _ at_root = tt
own_moves side g rules recall _ _ (own_move m action n set seq own at k) = (
  set_inside side g rules m set.0 at,
  λ plan. led_by_moves side g rules recall m set.0 seq at own plan,
  λ top. under_by_own_moves side g rules recall top m set.0 seq at own,
  own_moves side g rules recall m seq own,
)
own_moves side g rules recall _ _ (other_move m action n seq own at k) = own_moves side g rules recall m seq own

-- ---- moves before a trigger's set and behind it

at_top : (top : ℕ) (action : Option ℕ) (move : SetId × ℕ) → is_move top action move ≡ true → move.0.0 ≡ top
at_top top None move h = eqb-true move.0.0 top h
at_top top (Some action) move h = eqb-true move.0.0 top (first_true (nat_eq move.0.0 top) _ h)

-- a move that takes an action at a set is at the set
pub some_weaker : (top : ℕ) (action : Option ℕ) (moves : Moves) → some_move (is_move top action) moves ≡ true
    → some_move (is_move top None) moves ≡ true
some_weaker top action [] h = h
some_weaker top action (move ∷ before) h = elim (or_cases (is_move top action move) (some_move (is_move top action) before) h) [
  | inl here ↦ or_left (nat_eq move.0.0 top) _ (eq-eqb move.0.0 top (at_top top action move here))
  | inr earlier ↦ or_right (nat_eq move.0.0 top) _ (some_weaker top action before earlier)
]

first_of : (a b : Bool) → (a || b) ≡ true → b ≡ false → a ≡ true
first_of true b h k = refl
first_of false b h k = absurd (cc)

module _ (side : Side) (g : GameView) (plan : Plan) where
  -- a plan that names own moves of which one is at a set leads there
  led_there : (top : ℕ) (action : Option ℕ) (moves : Moves) → AreOwnMoves side g moves → some_move (is_move top action) moves ≡ true
      → names_all plan moves ≡ true → leads side g plan top ≡ true
  led_there top action [] are h named = absurd (cc)
  led_there top action (move ∷ before) are h named =
      let earlier_named = second_true (names move.1 (slice_get plan move.0.0)) (names_all plan before) named in
      elim (or_cases (is_move top action move) (some_move (is_move top action) before) h) [
        | inl here ↦
            let Led : ℕ → Type 0 = λ set. leads side g plan set ≡ true in
            subst Led (at_top top action move here) (are.1 plan ∙ earlier_named)
        | inr earlier ↦ led_there top action before are.3 earlier earlier_named
      ]

  -- and names the action that this one takes
  named_there : (top action : ℕ) (moves : Moves) → some_move (is_move top (Some action)) moves ≡ true → names_all plan moves ≡ true
      → names action (slice_get plan top) ≡ true
  named_there top action [] h named = absurd (cc)
  named_there top action (move ∷ before) h named =
      elim (or_cases (is_move top (Some action) move) (some_move (is_move top (Some action)) before) h) [
        | inl here ↦
            let set : move.0.0 ≡ top = at_top top (Some action) move here in
            let taken : move.1 ≡ action = eqb-true move.1 action (second_true (nat_eq move.0.0 top) _ here) in
            let Named : ℕ → ℕ → Type 0 = λ at turn. names turn (slice_get plan at) ≡ true in
            subst₂ Named set taken (first_true (names move.1 (slice_get plan move.0.0)) _ named)
        | inr earlier ↦ named_there top action before earlier (second_true (names move.1 (slice_get plan move.0.0)) _ named)
      ]

  one_named : (a b : ℕ) (entry : Option (Option ℕ)) → names a entry ≡ true → names b entry ≡ true → a ≡ b
  one_named a b None h k = absurd (cc)
  one_named a b (Some None) h k = absurd (cc)
  one_named a b (Some (Some named)) h k = sym (eqb-true named a h) ∙ eqb-true named b k

  -- a plan that names an action at a set takes it there by the moves that it names
  pub taken_there : (top action : ℕ) (moves : Moves) → names action (slice_get plan top) ≡ true → names_all plan moves ≡ true
      → some_move (is_move top None) moves ≡ true → some_move (is_move top (Some action)) moves ≡ true
  taken_there top action [] told named h = absurd (cc)
  taken_there top action (move ∷ before) told named h = elim (or_cases (nat_eq move.0.0 top) (some_move (is_move top None) before) h) [
    | inl here ↦
        let set : move.0.0 ≡ top = eqb-true move.0.0 top here in
        let Named : ℕ → Type 0 = λ at. names move.1 (slice_get plan at) ≡ true in
        let there = subst Named set (first_true (names move.1 (slice_get plan move.0.0)) _ named) in
        let turn : move.1 ≡ action = one_named move.1 action (slice_get plan top) there told in
        or_left (is_move top (Some action) move) _ (and_from _ _ here (eq-eqb move.1 action turn))
    | inr earlier ↦
        or_right (is_move top (Some action) move) _
        (taken_there top action before told (second_true (names move.1 (slice_get plan move.0.0)) _ named) earlier)
  ]

  module _ (whole : length plan ≡ length (sets_of side g)) (choice : List ℕ) where
    -- before the trigger's set the plan is as it was, and the choice takes whatever moves there are
    named_before : (top : ℕ) (moves : Moves) → AreOwnMoves side g moves → some_move (is_move top None) moves ≡ false
        → (names_all (graft side g top choice plan) moves ≡ names_all plan moves)
        × (takes (λ set. is_under side g top set) (λ set. slice_index choice set) moves ≡ true)
    named_before top [] are h = (refl, refl)
    named_before top (move ∷ before) are h =
        let rest = named_before top before are.3 (or_parts (nat_eq move.0.0 top) _ h).1 in
        let away : is_under side g top move.0.0 ≡ false = are.2 top ∙ h in
        let kept = kept_there (is_under side g top) choice 0 plan move.0.0 move.0.0 (omega arith) away in (
          ap₂ (λ (x : Option (Option ℕ)) (b : Bool). names move.1 x && b) kept rest.0,
          ap₂ (λ (x b : Bool). cond x (nat_eq (slice_index choice move.0.0) move.1) true && b) away rest.1,
        )

    -- behind it, where the plan leads there, it names what the choice takes
    named_behind : (top : ℕ) (moves : Moves) → AreOwnMoves side g moves → leads side g plan top ≡ true
        → some_move (is_move top None) moves ≡ true
        → names_all (graft side g top choice plan) moves ≡ takes (λ set. is_under side g top set) (λ set. slice_index choice set) moves
    named_behind top [] are led h = absurd (cc)
    named_behind top (move ∷ before) are led h =
        let inside : move.0.0 < length plan = omega (arith, are.0) in
        let under : is_under side g top move.0.0 ≡ true = are.2 top ∙ h in
        let chosen = chosen_there (is_under side g top) choice 0 plan move.0.0 move.0.0 (omega arith) inside under in
        let taken = takes (λ set. is_under side g top set) (λ set. slice_index choice set) before in
        let rest : names_all (graft side g top choice plan) before ≡ taken = elim (cases_Bool (some_move (is_move top None) before)) [
          | inl earlier ↦ named_behind top before are.3 led earlier
          | inr none ↦
              let away = named_before top before are.3 none in
              let here = first_of (nat_eq move.0.0 top) _ h none in
              let Led : ℕ → Type 0 = λ set. leads side g plan set ≡ true in
              let named = subst Led (sym (eqb-true move.0.0 top here)) led in
              away.0 ∙ sym (are.1 plan) ∙ named ∙ sym away.1
        ] in
        ap₂ (λ (x : Option (Option ℕ)) (b : Bool). names move.1 x && b) chosen rest
        ∙ ap (λ (x : Bool). cond x (nat_eq (slice_index choice move.0.0) move.1) true && taken) (sym under)

    -- one who leaves at the start plays what the choice takes
    named_anew : (moves : Moves) → AreOwnMoves side g moves
        → names_all (replaced choice plan) moves ≡ takes (λ set. true) (λ set. slice_index choice set) moves
    named_anew [] are = refl
    named_anew (move ∷ before) are =
        let inside : move.0.0 < length plan = omega (arith, are.0) in
        let chosen = chosen_there (λ set. true) choice 0 plan move.0.0 move.0.0 (omega arith) inside refl in
        ap₂ (λ (x : Option (Option ℕ)) (b : Bool). names move.1 x && b) chosen (named_anew before are.3)

-- ---- the plan of a player who leaves

-- behind a trigger with a set counts what is behind an own move there
counted_behind : (side : Side) (g : GameView) (top : SetId) (moves : Moves) → AreOwnMoves side g moves
    → counted side g (Some top) moves ≡ some_move (is_move top.0 None) moves
counted_behind side g top [] are = refl
counted_behind side g top (move ∷ before) are = same_way (is_under side g top.0 move.0.0) ∙ are.2 top.0
  where
    same_way : (under : Bool) → cond (cond under false true) false true ≡ under
    same_way true = refl
    same_way false = refl

counted_all : (side : Side) (g : GameView) (moves : Moves) → counted side g None moves ≡ true
counted_all side g [] = refl
counted_all side g (move ∷ before) = refl

nothing_left : (a : ℤ) → a -ℤ a ≡ pos 0
nothing_left a = omega (arith, ints)

and_false : (a : Bool) → (a && false) ≡ false
and_false true = refl
and_false false = refl

-- a plan that is changed where it meets a trigger, and then behind it alone
shift : (met behind takes followed named new : Bool) → (met ≡ false → (followed && named) ≡ false)
    → (met ≡ true → behind ≡ false → new ≡ named) → (met ≡ true → behind ≡ true → new ≡ takes)
    → (met ≡ true → behind ≡ true → named ≡ true → followed ≡ true) → (followed ≡ true → behind ≡ true)
    → one_if (cond met new named) -ℤ one_if named ≡ one_if (met && (behind && takes)) -ℤ one_if (followed && named)
shift false behind takes followed named new unmet kept taken follows back =
    nothing_left (one_if named) ∙ sym (ap (λ (b : Bool). pos 0 -ℤ one_if b) (unmet refl))
shift true false takes true named new unmet kept taken follows back = absurd (cc (back refl))
shift true false takes false named new unmet kept taken follows back =
    ap (λ (b : Bool). one_if b -ℤ one_if named) (kept refl refl) ∙ nothing_left (one_if named)
shift true true takes followed true new unmet kept taken follows back =
    ap₂ (λ (a b : Bool). one_if a -ℤ one_if b) (taken refl refl) (sym (ap (λ (b : Bool). b && true) (follows refl refl refl)))
shift true true takes followed false new unmet kept taken follows back =
    ap₂ (λ (a b : Bool). one_if a -ℤ one_if b) (taken refl refl) (sym (and_false followed))

changed_if : (met : Bool) (new plan : Plan) (moves : Moves)
    → names_all (cond met new plan) moves ≡ cond met (names_all new moves) (names_all plan moves)
changed_if true new plan moves = refl
changed_if false new plan moves = refl

never : (met both : Bool) → (both ≡ true → met ≡ true) → met ≡ false → both ≡ false
never met true h none = absurd (cc (h refl))
never met false h none = refl

module _ (side : Side) (g : GameView) (plan : Plan) where
  -- a plan that names moves that have followed a trigger meets it
  followed_meets : (trigger : Trigger) (moves : Moves) → AreOwnMoves side g moves
      → (has_followed (top_of trigger) (action_of trigger) moves && names_all plan moves) ≡ true → meets side g trigger plan ≡ true
  followed_meets (Told set action) moves are h =
      let followed = first_true (has_followed (Some set) (Some action) moves) _ h in
      let named = second_true (has_followed (Some set) (Some action) moves) _ h in
      and_from _ _ (led_there side g plan set.0 (Some action) moves are followed named)
      (named_there side g plan set.0 action moves followed named)
  followed_meets (Reached set) moves are h =
      let followed = first_true (has_followed (Some set) None moves) _ h in
      led_there side g plan set.0 None moves are followed (second_true (has_followed (Some set) None moves) _ h)
  followed_meets Start moves are h = refl

  module _ (whole : length plan ≡ length (sets_of side g)) (choice : List ℕ) where
    -- the plan of one who leaves at a set
    graft_shift : (top : SetId) (action : Option ℕ) (met : Bool) (moves : Moves) → AreOwnMoves side g moves
        → (met ≡ true → leads side g plan top.0 ≡ true)
        → ((has_followed (Some top) action moves && names_all plan moves) ≡ true → met ≡ true)
        → (met ≡ true → some_move (is_move top.0 None) moves ≡ true → names_all plan moves ≡ true
        → has_followed (Some top) action moves ≡ true)
        → one_if (names_all (cond met (graft side g top.0 choice plan) plan) moves) -ℤ one_if (names_all plan moves)
        ≡ one_if (met && taken side g (Some top) choice moves) -ℤ one_if (has_followed (Some top) action moves && names_all plan moves)
    graft_shift top action met moves are led meets_it follows =
        let new = names_all (graft side g top.0 choice plan) moves in
        let named = names_all plan moves in
        let behind = some_move (is_move top.0 None) moves in
        let chosen = takes (λ set. is_under side g top.0 set) (λ set. slice_index choice set) moves in
        let followed = has_followed (Some top) action moves in
        ap (λ (b : Bool). one_if b -ℤ one_if named) (changed_if met (graft side g top.0 choice plan) plan moves)
        ∙ shift met behind chosen followed named new (never met (followed && named) meets_it)
        (λ h away. (named_before side g plan whole choice top.0 moves are away).0)
        (λ h there. named_behind side g plan whole choice top.0 moves are (led h) there)
        follows
        (some_weaker top.0 action moves)
        ∙ ap (λ (b : Bool). one_if (met && (b && chosen)) -ℤ one_if (followed && named)) (sym (counted_behind side g top moves are))

    deviated_shift : (trigger : Trigger) (moves : Moves) → AreOwnMoves side g moves
        → one_if (names_all (deviated side g trigger choice plan) moves) -ℤ one_if (names_all plan moves)
        ≡ one_if (meets side g trigger plan && taken side g (top_of trigger) choice moves)
        -ℤ one_if (has_followed (top_of trigger) (action_of trigger) moves && names_all plan moves)
    deviated_shift (Told set action) moves are =
        let led = leads side g plan set.0 in
        graft_shift set (Some action) (led && names action (slice_get plan set.0)) moves are (λ h. first_true led _ h)
        (followed_meets (Told set action) moves are)
        (λ h there named. taken_there side g plan set.0 action moves (second_true led _ h) named there)
    deviated_shift (Reached set) moves are =
        graft_shift set None (leads side g plan set.0) moves are (λ h. h) (followed_meets (Reached set) moves are) (λ h there named. there)
    deviated_shift Start moves are =
        let chosen = takes (λ set. true) (λ set. slice_index choice set) moves in
        ap (λ (b : Bool). one_if b -ℤ one_if (names_all plan moves)) (named_anew side g plan whole choice moves are)
        ∙ ap (λ (b : Bool). one_if (b && chosen) -ℤ one_if (names_all plan moves)) (sym (counted_all side g moves))

-- Leaving at a trigger a plan names besides, of the moves to a node, what is behind the trigger and taken by the choice, where the plan
-- meets the trigger; and no more what it named and has followed the trigger.
pub moves_of_deviated : (side : Side) (g : GameView) → IsGame g → HasRecall g side → (trigger : Trigger) (choice : List ℕ) (plan : Plan)
    → length plan ≡ length (sets_of side g) → (n : ℕ) (moves : Moves) → IsOwnAt g side n moves
    → one_if (names_all (deviated side g trigger choice plan) moves) -ℤ one_if (names_all plan moves)
    ≡ one_if (meets side g trigger plan && taken side g (top_of trigger) choice moves)
    -ℤ one_if (has_followed (top_of trigger) (action_of trigger) moves && names_all plan moves)
moves_of_deviated side g rules recall trigger choice plan whole n moves own =
    deviated_shift side g plan whole choice trigger moves (own_moves side g rules recall n moves own)

-- a plan that names own moves that have followed a trigger meets it
pub meets_where_followed : (side : Side) (g : GameView) → IsGame g → HasRecall g side → (trigger : Trigger) (plan : Plan)
    → (n : ℕ) (moves : Moves) → IsOwnAt g side n moves
    → (has_followed (top_of trigger) (action_of trigger) moves && names_all plan moves) ≡ true
    → meets side g trigger plan ≡ true
meets_where_followed side g rules recall trigger plan n moves own h =
    followed_meets side g plan trigger moves (own_moves side g rules recall n moves own) h
