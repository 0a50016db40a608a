-- A list that keeps a rule keeps it with one item more behind it: by induction on the list, where what the next item may be
-- is carried along.
use Rattle.std.proofs.Common.{◌≡◌, ℕ, ◌+◌, ◌^◌, ◌<◌, ◌≤◌, List, [], ◌∷◌, ◌++◌, refl}
use Rattle.report_form.specs.Ranges.{AscendFrom, InOrderFrom, IsBlock, notion_number}
use Rattle.report_form.specs.declared.reports.NamedBlock.{NamedBlock}

-- the least column that may stand behind these
pub least_behind : ℕ → List ℕ → ℕ
least_behind low [] = low
least_behind low (column ∷ rest) = least_behind (column + 1) rest

pub AscendFrom-push : (low : ℕ) (columns : List ℕ) (c : ℕ) → AscendFrom low columns → least_behind low columns ≤ c → c < 2 ^ 32 → AscendFrom low (columns ++ c ∷ [])
unfolding least_behind
AscendFrom-push low [] c a least fits = (least, fits, tt)
AscendFrom-push low (column ∷ rest) c a least fits = (a.0, a.1, AscendFrom-push (column + 1) rest c a.2 least fits)

pub least_behind-push : (low : ℕ) (columns : List ℕ) (c : ℕ) → least_behind low (columns ++ c ∷ []) ≡ c + 1
unfolding least_behind
least_behind-push low [] c = refl
least_behind-push low (column ∷ rest) c = least_behind-push (column + 1) rest c

-- the number of the least notion that may stand behind these blocks
pub notion_behind : ℕ → List NamedBlock → ℕ
notion_behind low [] = low
notion_behind low (named ∷ rest) = notion_behind (notion_number named.notion + 1) rest

pub InOrderFrom-push : (low : ℕ) (blocks : List NamedBlock) (b : NamedBlock) → InOrderFrom low blocks → notion_behind low blocks ≤ notion_number b.notion → IsBlock b.block → InOrderFrom low (blocks ++ b ∷ [])
unfolding notion_behind
InOrderFrom-push low [] b a least block = (least, block, tt)
InOrderFrom-push low (named ∷ rest) b a least block = (a.0, a.1, InOrderFrom-push (notion_number named.notion + 1) rest b a.2 least block)

pub notion_behind-push : (low : ℕ) (blocks : List NamedBlock) (b : NamedBlock) → notion_behind low (blocks ++ b ∷ []) ≡ notion_number b.notion + 1
unfolding notion_behind
notion_behind-push low [] b = refl
notion_behind-push low (named ∷ rest) b = notion_behind-push (notion_number named.notion + 1) rest b

-- no columns and no blocks keep every rule
pub AscendFrom-none : (low : ℕ) {columns : List ℕ} → columns ≡ [] → AscendFrom low columns
AscendFrom-none low none = rw none tt

pub least_behind-none : (low : ℕ) {columns : List ℕ} → columns ≡ [] → least_behind low columns ≡ low
unfolding least_behind
least_behind-none low none = rw none refl

pub InOrderFrom-none : (low : ℕ) {blocks : List NamedBlock} → blocks ≡ [] → InOrderFrom low blocks
InOrderFrom-none low none = rw none tt

pub notion_behind-none : (low : ℕ) {blocks : List NamedBlock} → blocks ≡ [] → notion_behind low blocks ≡ low
unfolding notion_behind
notion_behind-none low none = rw none refl
