-- Public chance is broken exactly where some chance node parts a set.
use Rattle.std.proofs.Common.{◌≡◌, ℕ, ◌<◌, List, Some, length, get_or, slice_get, sym, ap, subst, ◌∙◌}
use Rattle.std.proofs.lemmas.Option.{slice_get_within}
use Rattle.corr_game.specs.declared.nodes.Node.TheVariants.{Chance}
use Rattle.corr_game.specs.Game.{GameView, IsGame}
use Rattle.tree_recall.specs.Tree.{kid_of}
use Rattle.triangle_test.specs.PublicChance.{IsPublicChance}
use Rattle.plain_trees.specs.Chances.{PartsFrom, PartsSet}
use Rattle.plain_trees.proofs.Ways.{kid_at, place_of}

pub parted : (g : GameView) (n : ℕ) → PartsSet g n → IsPublicChance g → ⊥
unfolding IsPublicChance
parted g n parts public =
    let from = parts.5 in
    let first : kid_of g n parts.1 ≡ Some parts.2 = rw parts.3 parts.4 in
    let second : kid_of g n from.0 ≡ Some from.1 = rw parts.3 from.2 in
    public n parts.1 from.0 parts.2 from.1 (parts.0, parts.3) first second from.3 from.4

pub unparted : (g : GameView) → ((n : ℕ) → n < length g.nodes → PartsSet g n → ⊥) → IsPublicChance g
unfolding IsPublicChance
unparted g none chance i j a b is e f apart share =
    let low = slice_get_within g.nodes chance (Chance is.0) is.1 in
    none chance low (is.0, i, a, is.1, rw is.1 at e, (j, b, rw is.1 at f, apart, share))

-- kids of a chance node are in the list
pub kid_in : (g : GameView) → IsGame g → (n : ℕ) (kids : List ℕ) → slice_get g.nodes n ≡ Some (Chance kids)
    → (k d : ℕ) → k < length kids → get_or kids k d < length g.nodes
kid_in g rules n kids node k d low = ((rules.each_node n (Chance kids) node).2 k d low).1

-- the kid at a place
pub kid_there : (kids : List ℕ) (k kid : ℕ) → k < length kids → kid ≡ get_or kids k 0 → slice_get kids k ≡ Some kid
kid_there kids k kid low e = kid_at kids k low ∙ ap Some (sym e)

pub same_kid : (kids : List ℕ) (j k kid other : ℕ) → j ≡ k → other ≡ get_or kids k 0 → slice_get kids j ≡ Some kid → other ≡ kid
same_kid kids j k kid other here e there = e ∙ (ap (λ (i : ℕ). get_or kids i 0) (sym here) ∙ (place_of kids j kid there).1)

-- no kid of the one list of kids parts a set
pub none_parts : (g : GameView) (n : ℕ) (kids : List ℕ) → slice_get g.nodes n ≡ Some (Chance kids)
    → ((j kid : ℕ) → j < length kids → slice_get kids j ≡ Some kid → PartsFrom g kids kid → ⊥) → PartsSet g n → ⊥
none_parts g n kids node none parts =
    let same : parts.0 ≡ kids = cc in
    let there : slice_get kids parts.1 ≡ Some parts.2 = ap (λ (xs : List ℕ). slice_get xs parts.1) (sym same) ∙ parts.4 in
    let P : List ℕ → Type 0 = λ xs. PartsFrom g xs parts.2 in
    none parts.1 parts.2 (slice_get_within kids parts.1 parts.2 there) there (subst P same parts.5)
