-- Each node has one own sequence, since it is a kid of one node alone; and its latest move was made at a node above. The
-- proofs go by induction on the sequence, or on the node's number.
use Rattle.std.proofs.Common.{◌≡◌, ℕ, ◌<◌, ◌⊎◌, suc, zero, List, [], ◌∷◌, Option, Some, None, length, refl, sym, ap, subst, inl, inr, arith}
use Rattle.std.proofs.lemmas.Bool.{cases_lt}
use Rattle.corr_game.specs.declared.nodes.SetId.{SetId}
use Rattle.corr_game.specs.declared.sides.Side.{Side}
use Rattle.corr_game.specs.Game.{GameView, IsGame}
use Rattle.tree_recall.specs.Tree.{set_of, kid_of, IsAbove, parent, further}
use Rattle.tree_recall.specs.OwnSequence.{IsOwnAt, at_root, own_move, other_move, latest, IsLastAt}
use Rattle.tree_recall.proofs.Kids.{kid_below, one_parent, has_parent}

abbrev pub Moves : Type 0
Moves = List (SetId × ℕ)

-- one more move where the player moves at the node above
own_next : (g : GameView) (side : Side) (m action n : ℕ) (seq : Moves) → IsOwnAt g side m seq → kid_of g m action ≡ Some n → (set : Option ℕ) → set_of g side m ≡ set → (more : Moves) × IsOwnAt g side n more
own_next g side m action n seq h e None f = (seq, other_move m action n seq h f e)
own_next g side m action n seq h e (Some set) f = let at : SetId = record { 0 = set } in ((at, action) ∷ seq, own_move m action n at seq h f e)

own_from : (g : GameView) → IsGame g → (side : Side) (left n : ℕ) → n < left → n < length g.nodes → (seq : Moves) × IsOwnAt g side n seq
own_from g rules side zero n bound room = absurd (omega arith)
own_from g rules side (suc left) n bound room = elim (cases_lt 0 n) [
  | inl low ↦
      let above = has_parent g rules n low room in
      let kid = kid_below g rules above.0 above.1 n above.2 in
      let before = own_from g rules side left above.0 (omega (arith, kid.0)) kid.2 in
      own_next g side above.0 above.1 n before.0 before.1 above.2 (set_of g side above.0) refl
  | inr root ↦ let same : n ≡ 0 = omega arith in rw same ([], at_root)
]

-- each node has an own sequence
pub has_own : (g : GameView) → IsGame g → (side : Side) (n : ℕ) → n < length g.nodes → (seq : Moves) × IsOwnAt g side n seq
has_own g rules side n room = own_from g rules side (length g.nodes) n room room

-- how an own sequence goes on at a kid
abbrev pub GoesOn : GameView → Side → ℕ → ℕ → Moves → Moves → Type 0
GoesOn g side m action before seq =
    ((set : SetId) × (set_of g side m ≡ Some set.0) × (seq ≡ (set, action) ∷ before)) ⊎ ((set_of g side m ≡ None) × (seq ≡ before))

own_of_root : (g : GameView) → IsGame g → (side : Side) (seq : Moves) → IsOwnAt g side 0 seq → seq ≡ []
own_of_root g rules side _ at_root = refl
own_of_root g rules side _ (own_move m turn _ set before h f k) = absurd (omega (arith, kid_below g rules m turn 0 k))
own_of_root g rules side _ (other_move m turn _ before h f k) = absurd (omega (arith, kid_below g rules m turn 0 k))

-- the own sequence at a kid is that of its parent, with a move where that is an own node
pub own_of_kid : (g : GameView) → IsGame g → (side : Side) (m action n : ℕ) → kid_of g m action ≡ Some n → (seq : Moves) → IsOwnAt g side n seq
    → (before : Moves) × IsOwnAt g side m before × GoesOn g side m action before seq
own_of_kid g rules side m action _ e _ at_root = absurd (omega (arith, kid_below g rules m action 0 e))
own_of_kid g rules side m action _ e _ (own_move above turn n set before h f k) =
    let same = one_parent g rules above m turn action n k e in
    let P : ℕ → Type 0 = λ x. IsOwnAt g side x before in
    let at : set_of g side m ≡ Some set.0 = rw (← same.0) f in
    (before, subst P same.0 h, inl (set, at, ap (λ (x : ℕ). (set, x) ∷ before) same.1))
own_of_kid g rules side m action _ e _ (other_move above turn n before h f k) =
    let same = one_parent g rules above m turn action n k e in
    let P : ℕ → Type 0 = λ x. IsOwnAt g side x before in
    let at : set_of g side m ≡ None = rw (← same.0) f in
    (before, subst P same.0 h, inr (at, refl))

-- a node has one own sequence
pub own_same : (g : GameView) → IsGame g → (side : Side) (n : ℕ) (a b : Moves) → IsOwnAt g side n a → IsOwnAt g side n b → a ≡ b
own_same g rules side _ _ b at_root k = sym (own_of_root g rules side b k)
own_same g rules side _ _ b (own_move m action n set before h f e) k =
    let there = own_of_kid g rules side m action n e b k in
    let first = own_same g rules side m before there.0 h there.1 in
    elim there.2 [
      | inl own ↦
          let number : set.0 ≡ own.0.0 = cc in
          let same : set ≡ own.0 = ap (λ (x : ℕ). (let at : SetId = record { 0 = x } in at)) number in
          cc
      | inr other ↦ absurd (cc)
    ]
own_same g rules side _ _ b (other_move m action n before h f e) k =
    let there = own_of_kid g rules side m action n e b k in
    let first = own_same g rules side m before there.0 h there.1 in
    elim there.2 [ inl own ↦ absurd (cc) | inr other ↦ cc ]

-- a node has one last own move
pub last_same : (g : GameView) → IsGame g → (side : Side) (n : ℕ) (a b : Option (SetId × ℕ)) → IsLastAt g side n a → IsLastAt g side n b → a ≡ b
last_same g rules side n a b h k = let same = own_same g rules side n h.0 k.0 h.1 k.1 in cc

pub has_last : (g : GameView) → IsGame g → (side : Side) (n : ℕ) → n < length g.nodes → (last : Option (SetId × ℕ)) × IsLastAt g side n last
has_last g rules side n room = let own = has_own g rules side n room in (latest own.0, (own.0, own.1, refl))

-- the last own move at a kid of an own node leads to it
pub last_own : (g : GameView) (side : Side) (m action n : ℕ) (set : SetId) (last : Option (SetId × ℕ)) → IsLastAt g side m last → set_of g side m ≡ Some set.0 → kid_of g m action ≡ Some n
    → IsLastAt g side n (Some (set, action))
last_own g side m action n set last h f e = ((set, action) ∷ h.0, own_move m action n set h.0 h.1 f e, refl)

-- at a kid of any other node it is that of its parent
pub last_other : (g : GameView) (side : Side) (m action n : ℕ) (last : Option (SetId × ℕ)) → IsLastAt g side m last → set_of g side m ≡ None → kid_of g m action ≡ Some n → IsLastAt g side n last
last_other g side m action n last h f e = (h.0, other_move m action n h.0 h.1 f e, h.2)

-- a last move was made at a node above, at which the moves before it are the own sequence
pub made_above : (g : GameView) (side : Side) (n : ℕ) (seq : Moves) → IsOwnAt g side n seq → (move : SetId × ℕ) (before : Moves) → seq ≡ move ∷ before
    → (m : ℕ) × IsAbove g m n × (set_of g side m ≡ Some move.0.0) × IsOwnAt g side m before
made_above g side _ _ at_root move before e = absurd (cc)
made_above g side _ _ (own_move m action n set seq h f k) move before e =
    let same : (set, action) ≡ move = cc in
    let rest : seq ≡ before = cc in
    let P : Moves → Type 0 = IsOwnAt g side m in
    (m, parent action n k, rw (← same) f, subst P rest h)
made_above g side _ _ (other_move m action n seq h f k) move before e =
    let above = made_above g side m seq h move before e in
    (above.0, further m action n above.1 k, above.2, above.3)

last_from : (seq : Moves) (move : SetId × ℕ) → latest seq ≡ Some move → (before : Moves) × (seq ≡ move ∷ before)
last_from [] move e = absurd (cc)
last_from (first ∷ rest) move e = let same : first ≡ move = cc in (rest, ap (λ (m : SetId × ℕ). m ∷ rest) same)

-- the node at which a last own move was made
pub last_above : (g : GameView) (side : Side) (n : ℕ) (move : SetId × ℕ) → IsLastAt g side n (Some move) → (m : ℕ) × IsAbove g m n × (set_of g side m ≡ Some move.0.0)
last_above g side n move h =
    let parts = last_from h.0 move h.2 in
    let above = made_above g side n h.0 h.1 move parts.0 parts.1 in
    (above.0, above.1, above.2)
