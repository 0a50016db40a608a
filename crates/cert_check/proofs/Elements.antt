-- What holds of all elements of a list holds of the one at a place; each block of blocks in order is in its ranges.
use Rattle.std.proofs.Common.{◌≡◌, ℕ, ◌+◌, zero, suc, List, [], ◌∷◌, Some, All, slice_get, subst}
use Rattle.std.proofs.lemmas.Option.{get_or_from_slice_get, slice_get_within}
use Rattle.report_form.specs.declared.reports.NamedBlock.{NamedBlock}
use Rattle.report_form.specs.Ranges.{InOrderFrom, IsBlock, notion_number}

pub all_at : {A : Type 0} (P : A → Type 0) (xs : List A) (k : ℕ) (x : A) → All P xs → slice_get xs k ≡ Some x → P x
all_at P xs k x all h = subst P (get_or_from_slice_get xs k x x h) (all k x (slice_get_within xs k x h))

pub block_at : (low : ℕ) (blocks : List NamedBlock) (k : ℕ) (named : NamedBlock) → InOrderFrom low blocks → slice_get blocks k ≡ Some named → IsBlock named.block
block_at low [] k named ranges h = absurd (cc h)
block_at low (first ∷ rest) zero named ranges h =
    let same : first ≡ named = cc h in
    subst (λ (b : NamedBlock). IsBlock b.block) same ranges.1
block_at low (first ∷ rest) (suc k) named ranges h = block_at (notion_number first.notion + 1) rest k named ranges.2 h
