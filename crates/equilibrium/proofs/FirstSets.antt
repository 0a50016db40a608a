-- A player's first sets are those before which the player doesn't move. With perfect recall, below a node of one of them
-- no set is another first set, nor below one: the earliest own move on the way there is at that node's set.
use Rattle.std.proofs.Common.{◌≡◌, ◌≢◌, ℕ, inl, inr, Bool, true, false, nat_eq, ◌||◌, List, [], ◌∷◌, Option, Some, None}
use Rattle.std.proofs.Common.{refl, sym, ap, subst, ◌∙◌}
use Rattle.std.proofs.lemmas.Bool.{cases_Bool, eqb-true}
use Rattle.corr_game.specs.declared.nodes.SetId.{SetId}
use Rattle.corr_game.specs.declared.sides.Side.{Side}
use Rattle.corr_game.specs.Game.{GameView, IsGame}
use Rattle.tree_recall.specs.OwnSequence.{HasRecall, IsOwnAt, other_move, own_move}
use Rattle.tree_recall.specs.Tree.{IsAbove, further, kid_of, parent, set_of}
use Rattle.tree_recall.proofs.Kids.{set_node}
use Rattle.tree_recall.proofs.OwnSequences.{has_own}
use Rattle.equilibrium.specs.FullChoice.{is_under}
use Rattle.equilibrium.specs.OwnSequence.{PlaysMoves}
use Rattle.equilibrium.specs.Reach.{is_below, leads}
use Rattle.equilibrium.proofs.Agreeing.{IsFrom}
use Rattle.equilibrium.proofs.Descents.{leads_plays, plays_leads}
use Rattle.equilibrium.proofs.NodesBelow.{below_is_above}

abbrev Moves : Type 0
Moves = List (SetId × ℕ)

-- whether a set is a first one: the plan that names nothing leads there
abbrev pub is_first : Side → GameView → ℕ → Bool
is_first side g set = leads side g [] set

-- the set of the earliest move, where these come before one at this set
abbrev begins : ℕ → Moves → ℕ
begins set [] = set
begins set (move ∷ rest) = begins move.0.0 rest

-- the earliest of some moves is at this set
abbrev pub BeginsAt : ℕ → Moves → Type 0
BeginsAt set [] = ⊥
BeginsAt set (move ∷ rest) = begins move.0.0 rest ≡ set

longer_begins : (set : ℕ) (move : SetId × ℕ) (seq : Moves) → BeginsAt set seq → BeginsAt set (move ∷ seq)
longer_begins set move [] h = absurd h
longer_begins set move (x ∷ xs) h = h

begins_once : (a b : ℕ) (seq : Moves) → BeginsAt a seq → BeginsAt b seq → a ≡ b
begins_once a b [] h k = absurd h
begins_once a b (x ∷ xs) h k = sym h ∙ k

-- an own sequence whose earliest move is at this set
abbrev Begun : GameView → Side → ℕ → ℕ → Type 0
Begun g side set m = (seq : Moves) × IsOwnAt g side m seq × BeginsAt set seq

begun_kid : (g : GameView) (side : Side) (set m action kid : ℕ) → kid_of g m action ≡ Some kid → Begun g side set m → (there : Option ℕ)
    → set_of g side m ≡ there → Begun g side set kid
begun_kid g side set m action kid k before None f = (before.0, other_move m action kid before.0 before.1 f k, before.2)
begun_kid g side set m action kid k before (Some own) f =
    let id : SetId = record { 0 = own } in
    ((id, action) ∷ before.0, own_move m action kid id before.0 before.1 f k, longer_begins set (id, action) before.0 before.2)

-- below a node of a first set the earliest own move is at that set
begun : (g : GameView) (side : Side) (set n m : ℕ) → IsOwnAt g side n [] → set_of g side n ≡ Some set → IsAbove g n m → Begun g side set m
begun g side set n _ own at (parent action m k) =
    let id : SetId = record { 0 = set } in ((id, action) ∷ [], own_move n action m id [] own at k, refl)
begun g side set n _ own at (further between action m up k) =
    begun_kid g side set between action m k (begun g side set n between own at up) (set_of g side between) refl

no_moves : (seq : Moves) → PlaysMoves [] seq → seq ≡ []
no_moves [] h = refl
no_moves (move ∷ seq) h = absurd (cc (h.0))

-- the nodes of a first set have no own moves before them
first_own : (side : Side) (g : GameView) → IsGame g → HasRecall g side → (set n : ℕ) → is_first side g set ≡ true
    → set_of g side n ≡ Some set → IsOwnAt g side n []
unfolding HasRecall
first_own side g rules recall set n first at =
    let some = leads_plays side g rules [] set first in
    let none : some.1 ≡ [] = no_moves some.1 some.4 in
    let own = has_own g rules side n (set_node g side n set at).0 in
    let same : own.0 ≡ some.1 = recall n some.0 set own.0 some.1 at some.2 own.1 some.3 in
    let P : Moves → Type 0 = λ seq. IsOwnAt g side n seq in
    subst P (same ∙ none) own.1

pub first_there : (side : Side) (g : GameView) → IsGame g → (set n : ℕ) → IsOwnAt g side n [] → set_of g side n ≡ Some set
    → is_first side g set ≡ true
first_there side g rules set n own at = plays_leads side g rules [] set (n, [], at, own, tt)

-- each plan leads to a first set
pub first_led : (side : Side) (g : GameView) → IsGame g → (plan : List (Option ℕ)) (set : ℕ) → is_first side g set ≡ true
    → leads side g plan set ≡ true
first_led side g rules plan set first =
    let some = leads_plays side g rules [] set first in
    let none : some.1 ≡ [] = no_moves some.1 some.4 in
    let P : Moves → Type 0 = λ seq. PlaysMoves plan seq in
    plays_leads side g rules plan set (some.0, some.1, some.2, some.3, subst P (sym none) tt)

same_number : (x y : ℕ) → Some x ≡ Some y → x ≡ y
same_number x y e = cc

none_begins : (set : ℕ) (seq : Moves) → [] ≡ seq → BeginsAt set seq → ⊥
none_begins set seq e h = let P : Moves → Type 0 = BeginsAt set in subst P (sym e) h

module _ (side : Side) (g : GameView) (rules : IsGame g) (recall : HasRecall g side) where
  -- from a node of a first set down, no node is of another first set
  not_first : (set n : ℕ) → IsOwnAt g side n [] → set_of g side n ≡ Some set → (other m : ℕ) → other ≢ set → is_first side g other ≡ true
      → IsFrom g n m → set_of g side m ≡ Some other → ⊥
  unfolding HasRecall
  not_first set n own at other m apart first (inl same) f = apart (same_number other set (sym f ∙ (rw (← same) at)))
  not_first set n own at other m apart first (inr above) f =
      let path = begun g side set n m own at above in
      let none = first_own side g rules recall other m first f in
      none_begins set path.0 (recall m m other [] path.0 f f none path.1) path.2

  -- where a node below another first set is of the same set, that is no node from there down either
  not_joined : (set n : ℕ) → IsOwnAt g side n [] → set_of g side n ≡ Some set → (other m below low : ℕ) → other ≢ set
      → set_of g side m ≡ Some below → set_of g side low ≡ Some below → Begun g side other low → IsFrom g n m → ⊥
  unfolding HasRecall
  not_joined set n own at other m below low apart f e path (inl same) =
      let here : set_of g side n ≡ Some below = rw same f in
      none_begins other path.0 (recall n low below [] path.0 here e own path.1) path.2
  not_joined set n own at other m below low apart f e path (inr above) =
      let mine = begun g side set n m own at above in
      let P : Moves → Type 0 = BeginsAt set in
      let one = subst P (recall m low below mine.0 path.0 f e mine.1 path.1) mine.2 in
      apart (begins_once other set path.0 path.2 one)

  not_below : (set n : ℕ) → IsOwnAt g side n [] → set_of g side n ≡ Some set → (other m below : ℕ) → other ≢ set
      → is_first side g other ≡ true
      → IsFrom g n m → set_of g side m ≡ Some below → is_below side g other below ≡ true → ⊥
  not_below set n own at other m below apart first from f is =
      let nodes = below_is_above side g rules other below is in
      let top = first_own side g rules recall other nodes.0 first nodes.2 in
      let path = begun g side other nodes.0 nodes.1 top nodes.2 nodes.4 in
      not_joined set n own at other m below nodes.1 apart f nodes.3 path from

  -- so a graft at another first set leaves what stands from there down
  pub apart_under : (set n : ℕ) → IsOwnAt g side n [] → set_of g side n ≡ Some set → (other m below : ℕ) → other ≢ set
      → is_first side g other ≡ true
      → IsFrom g n m → set_of g side m ≡ Some below → is_under side g other below ≡ false
  apart_under set n own at other m below apart first from f =
      elim (cases_Bool (nat_eq below other)) [
        | inl e ↦
            let same : below ≡ other = eqb-true below other e in
            let there : set_of g side m ≡ Some other = f ∙ ap (λ (x : ℕ). Some x) same in
            absurd (not_first set n own at other m apart first from there)
        | inr e ↦ elim (cases_Bool (is_below side g other below)) [
          | inl k ↦ absurd (not_below set n own at other m below apart first from f k)
          | inr k ↦ neither _ _ e k
        ]
      ]
    where
      neither : (a b : Bool) → a ≡ false → b ≡ false → (a || b) ≡ false
      neither a b h k = rw (h, k) refl
