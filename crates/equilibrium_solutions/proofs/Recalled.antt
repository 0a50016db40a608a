-- Where the numbers are those of a game's sequences, both players have perfect recall: a set's own sequence has one number, so that the
-- latest moves before two of its nodes are one, and so on back.
use Rattle.std.proofs.Common.{◌≡◌, ℕ, List, [], ◌∷◌, Some, refl, sym, ap, ap₂, ◌∙◌, arith}
use Rattle.corr_game.specs.declared.nodes.SetId.{SetId}
use Rattle.corr_game.specs.declared.sides.Side.{Side}
use Rattle.corr_game.specs.Game.{GameView, IsGame}
use Rattle.tree_recall.specs.OwnSequence.{HasRecall, IsOwnAt, latest}
use Rattle.tree_recall.specs.Tree.{set_of}
use Rattle.tree_recall.proofs.OwnSequences.{made_above}
use Rattle.sequences.specs.Number.{AreOwn, side_of}
use Rattle.sequences.proofs.Adding.{within}
use Rattle.connected_pairs.specs.Connected.{IsPairs, IsPairsOf, PairsView}
use Rattle.equilibrium_solutions.proofs.MoveNumbers.{last_of_number}
use Rattle.equilibrium_solutions.proofs.PlanMoves.{set_inside}

abbrev Moves : Type 0
Moves = List (SetId × ℕ)

module _ (g : GameView) (rules : IsGame g) (p : PairsView) (pairs : IsPairs p) (of : IsPairsOf g p) (side : Side) where
  latest_alike : (m n set : ℕ) (a b : Moves) → set_of g side m ≡ Some set → set_of g side n ≡ Some set → IsOwnAt g side m a
      → IsOwnAt g side n b → latest a ≡ latest b
  unfolding AreOwn
  latest_alike m n set a b at_m at_n own_m own_n =
      let v = side_of side p.seqs in
      let place = within v.places set (omega (arith, (of.sides side).per_set, set_inside side g rules m set at_m)) in
      let number = λ (k : ℕ) (seq : Moves) (at : set_of g side k ≡ Some set) (own : IsOwnAt g side k seq).
      last_of_number v (pairs.sides side) (latest seq) place.0.own
      ((of.sides side).own_of_tree k set place.0 (latest seq) at place.1 (seq, own, refl)) in
      sym (number m a at_m own_m) ∙ number n b at_n own_n

  one_own : (m n set : ℕ) (a b : Moves) → set_of g side m ≡ Some set → set_of g side n ≡ Some set → IsOwnAt g side m a
      → IsOwnAt g side n b → a ≡ b
  one_own m n set [] [] at_m at_n own_m own_n = refl
  one_own m n set [] (y ∷ b) at_m at_n own_m own_n = absurd (let no = latest_alike m n set [] (y ∷ b) at_m at_n own_m own_n in cc)
  one_own m n set (x ∷ a) [] at_m at_n own_m own_n = absurd (let no = latest_alike m n set (x ∷ a) [] at_m at_n own_m own_n in cc)
  one_own m n set (x ∷ a) (y ∷ b) at_m at_n own_m own_n =
      let same : x ≡ y = (let e = latest_alike m n set (x ∷ a) (y ∷ b) at_m at_n own_m own_n in cc) in
      let before_m = made_above g side m (x ∷ a) own_m x a refl in
      let before_n = made_above g side n (y ∷ b) own_n y b refl in
      let here : set_of g side before_n.0 ≡ Some x.0.0 = before_n.2 ∙ ap (λ (z : SetId × ℕ). Some z.0.0) (sym same) in
      ap₂ (λ (z : SetId × ℕ) (zs : Moves). z ∷ zs) same
      (one_own before_m.0 before_n.0 x.0.0 a b before_m.2 here before_m.3 before_n.3)

  pub has_recall : HasRecall g side
  unfolding HasRecall
  has_recall m n set a b at_m at_n own_m own_n = one_own m n set a b at_m at_n own_m own_n
