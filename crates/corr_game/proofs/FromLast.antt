-- A value that is made from the last node to the first obeys its step at each node: the values behind a node are
-- those of the rest of the list, by induction on the list.
use Rattle.std.proofs.Common.{◌≡◌, ℕ, ◌+◌, ◌<◌, suc, zero, List, [], ◌∷◌, Some, true, false, slice_get, eqb, refl, sym, ◌∙◌, arith}
use Rattle.std.proofs.lemmas.Bool.Decides.{nat_tests}
use Rattle.corr_game.specs.declared.nodes.Node.{Node}
use Rattle.corr_game.specs.Preorder.{from_last}

eqb-same : (n at : ℕ) → n ≡ at → eqb n at ≡ true
eqb-same n at h = grind (arith, nat_tests)

eqb-apart : (n at : ℕ) → at < n → eqb n at ≡ false
eqb-apart n at h = grind (arith, nat_tests)

pub from_last-here : {A : Type 0} (step : ℕ → Node → (ℕ → A) → A) (none : A) (at : ℕ) (node : Node) (rest : List Node) → from_last step none at (node ∷ rest) at ≡ step at node (from_last step none (at + 1) rest)
unfolding from_last
from_last-here step none at node rest = rw (eqb-same at at refl, from_last) refl

pub from_last-behind : {A : Type 0} (step : ℕ → Node → (ℕ → A) → A) (none : A) (at : ℕ) (node : Node) (rest : List Node) (n : ℕ) → at < n → from_last step none at (node ∷ rest) n ≡ from_last step none (at + 1) rest n
unfolding from_last
from_last-behind step none at node rest n h = rw (eqb-apart n at h, from_last) refl

-- a step that looks at nodes behind its own alone
abbrev pub LooksBehind : {A : Type 0} → (ℕ → Node → (ℕ → A) → A) → ℕ → Node → Type 0
LooksBehind {A} step n node = (f g : ℕ → A) → ((m : ℕ) → n < m → f m ≡ g m) → step n node f ≡ step n node g

from_last-at : {A : Type 0} (step : ℕ → Node → (ℕ → A) → A) (none : A) (at : ℕ) (nodes : List Node) (k n : ℕ) (node : Node) → n ≡ at + k → slice_get nodes k ≡ Some node → LooksBehind step n node → from_last step none at nodes n ≡ step n node (from_last step none at nodes)
from_last-at step none at [] k n node e h looks = absurd (cc)
from_last-at step none at (x ∷ xs) zero n node e h looks =
    let same : n ≡ at = omega arith in
    let first : x ≡ node = cc in
    let here : from_last step none at (x ∷ xs) n ≡ step n node (from_last step none (at + 1) xs) = rw (same, ← first) (from_last-here step none at x xs) in
    here ∙ looks _ _ (λ m b. sym (from_last-behind step none at x xs m (omega arith)))
from_last-at step none at (x ∷ xs) (suc k) n node e h looks =
    from_last-behind step none at x xs n (omega arith)
    ∙ (from_last-at step none (at + 1) xs k n node (omega arith) h looks
    ∙ looks _ _ (λ m b. sym (from_last-behind step none at x xs m (omega arith))))

pub from_last-step : {A : Type 0} (step : ℕ → Node → (ℕ → A) → A) (none : A) (nodes : List Node) (n : ℕ) (node : Node) → slice_get nodes n ≡ Some node → LooksBehind step n node → from_last step none 0 nodes n ≡ step n node (from_last step none 0 nodes)
from_last-step step none nodes n node h looks = from_last-at step none 0 nodes n n node (omega arith) h looks
