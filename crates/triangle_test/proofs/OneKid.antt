-- A node is at or below one kid of a node alone, and what is below a node is at or below some kid of it.
use Rattle.std.proofs.Common.{◌≡◌, ◌↔◌, ◌⊎◌, ℕ, Some, inl, inr, refl, sym, subst, ◌∙◌, arith}
use Rattle.std.proofs.lemmas.Bool.{cases_lt}
use Rattle.corr_game.specs.declared.sides.Side.{Side}
use Rattle.corr_game.specs.Game.{GameView, IsGame}
use Rattle.tree_recall.specs.Tree.{IsAbove, further, kid_of, parent, set_of}
use Rattle.tree_recall.proofs.Kids.{above_joined, above_within, comparable, kid_below, one_parent}
use Rattle.triangle_test.specs.PublicChance.{IsAtOrBelow, IsChance, IsPublicChance}

-- what is above a kid is at or above its parent
over_parent : (g : GameView) → IsGame g → (top n action kid : ℕ) → kid_of g n action ≡ Some kid → IsAbove g top kid → IsAtOrBelow g top n
over_parent g rules top n action kid e (parent turn _ f) = inl ((one_parent g rules top n turn action kid f e).0)
over_parent g rules top n action kid e (further between turn _ up f) =
    let same = (one_parent g rules between n turn action kid f e).0 in
    inr (subst (λ (x : ℕ). IsAbove g top x) same up)

no_kid_over : (g : GameView) → IsGame g → (n i j a b : ℕ) → kid_of g n i ≡ Some a → kid_of g n j ≡ Some b → IsAbove g a b → ⊥
no_kid_over g rules n i j a b e f above =
    let low = (kid_below g rules n i a e).0 in
    elim (over_parent g rules a n j b f above) [
      | inl same ↦ omega (arith, low, same)
      | inr over ↦ omega (arith, low, (above_within g rules a n over).0)
    ]

-- a node is at or below one kid alone
pub one_kid : (g : GameView) → IsGame g → (n i j a b m : ℕ) → kid_of g n i ≡ Some a → kid_of g n j ≡ Some b → IsAtOrBelow g a m
    → IsAtOrBelow g b m → a ≡ b
one_kid g rules n i j a b m e f (inl here) (inl there) = here ∙ sym there
one_kid g rules n i j a b m e f (inl here) (inr below) =
    absurd (no_kid_over g rules n j i b a f e (subst (λ (x : ℕ). IsAbove g b x) (sym here) below))
one_kid g rules n i j a b m e f (inr below) (inl there) =
    absurd (no_kid_over g rules n i j a b e f (subst (λ (x : ℕ). IsAbove g a x) (sym there) below))
one_kid g rules n i j a b m e f (inr below) (inr under) = elim (comparable g rules a b m below under) [
  | inl same ↦ same
  | inr one ↦ elim one [
    | inl above ↦ absurd (no_kid_over g rules n i j a b e f above)
    | inr above ↦ absurd (no_kid_over g rules n j i b a f e above)
  ]
]

-- a node below another one is at or below some kid of it
pub some_kid : (g : GameView) (n m : ℕ) → IsAbove g n m → (action : ℕ) × (kid : ℕ) × (kid_of g n action ≡ Some kid) × IsAtOrBelow g kid m
some_kid g n _ (parent action m e) = (action, m, e, inl refl)
some_kid g n _ (further between action m up e) =
    let first = some_kid g n between up in
    elim first.3 [
      | inl same ↦
          let here : kid_of g first.1 action ≡ Some m = rw same e in
          (first.0, first.1, first.2, inr (parent action m here))
      | inr above ↦ (first.0, first.1, first.2, inr (further between action m above e))
    ]

pub below_kid : (g : GameView) → IsGame g → (n action kid m : ℕ) → kid_of g n action ≡ Some kid → IsAtOrBelow g kid m → IsAbove g n m
below_kid g rules n action kid m e (inl same) = subst (λ (x : ℕ). IsAbove g n x) same (parent action kid e)
below_kid g rules n action kid m e (inr above) = above_joined g rules n kid m (parent action kid e) above

pub same_or_apart : (a b : ℕ) → (a ≡ b) ⊎ (a ≡ b → ⊥)
same_or_apart a b = elim (cases_lt a b) [
  | inl less ↦ inr (λ e. omega (arith, e, less))
  | inr most ↦ elim (cases_lt b a) [
    | inl less ↦ inr (λ e. omega (arith, e, less))
    | inr least ↦ inl (omega arith)
  ]
]

abbrev pub IsOnOneKid : GameView → Type 0
IsOnOneKid g = (side : Side) (chance action kid m n set : ℕ) → IsChance g chance → kid_of g chance action ≡ Some kid
    → IsAtOrBelow g kid m → IsAbove g chance n → set_of g side m ≡ Some set → set_of g side n ≡ Some set → IsAtOrBelow g kid n

pub public_one_kid : (g : GameView) → IsPublicChance g → IsOnOneKid g
unfolding IsPublicChance
public_one_kid g public side chance action kid m n set is e h above at_m at_n =
    let other = some_kid g chance n above in
    elim (same_or_apart kid other.1) [
      | inl same ↦ subst (λ (x : ℕ). IsAtOrBelow g x n) (sym same) other.3
      | inr apart ↦ absurd (public chance action other.0 kid other.1 is e other.2 apart (side, m, n, set, at_m, at_n, h, other.3))
    ]

pub one_kid_public : (g : GameView) → IsGame g → IsOnOneKid g → IsPublicChance g
unfolding IsPublicChance
one_kid_public g rules one chance i j a b is e f apart share =
    let above = below_kid g rules chance j b share.2 f share.7 in
    let under = one share.0 chance i a share.1 share.2 share.3 is e share.6 above share.4 share.5 in
    apart (one_kid g rules chance i j a b share.2 e f under share.7)

pub public_both : (g : GameView) → IsGame g → IsPublicChance g ↔ IsOnOneKid g
public_both g rules = (public_one_kid g, one_kid_public g rules)

pub public_without : (g : GameView) → ((n : ℕ) → IsChance g n → ⊥) → IsPublicChance g
unfolding IsPublicChance
public_without g none chance i j a b is e f apart share = none chance is

pub public_singles : (g : GameView) → IsGame g
    → ((side : Side) (m n set : ℕ) → set_of g side m ≡ Some set → set_of g side n ≡ Some set → m ≡ n) → IsPublicChance g
unfolding IsPublicChance
public_singles g rules single chance i j a b is e f apart share =
    let same = single share.0 share.1 share.2 share.3 share.4 share.5 in
    apart (one_kid g rules chance i j a b share.2 e f (subst (λ (x : ℕ). IsAtOrBelow g a x) same share.6) share.7)
