-- As many nodes are above a node as are kept when its line is read. For each node above, the kids that it still waits
-- for say where its subtree ends: behind as many of the subtrees that follow. So the subtrees among those of the nodes
-- so far that reach behind a place are at most the nodes kept; induction along the list.
use Rattle.std.proofs.Common.{◌≡◌, ℕ, zero, suc, ◌+◌, ◌-◌, ◌<◌, ◌≤◌, Bool, cond, nat_lt, List, [], ◌∷◌, ◌++◌, length, drop, refl, ap, sym, subst, ◌∙◌, inl, inr, arith}
use Rattle.std.specs.Prelude.{count_by}
use Rattle.std.specs.List.{range_with_len, sum_by}
use Rattle.std.proofs.lemmas.Bool.{cases_lt}
use Rattle.std.proofs.lemmas.Bool.Decides.{nat_tests}
use Rattle.std.proofs.lemmas.List.Sums.{count_by-le-length, sum_by-cons}
use Rattle.corr_game.specs.Preorder.{from_last, end_of, depth_of}
use Rattle.corr_game.proofs.FromLast.{from_last-behind}
use Rattle.efg_reader.specs.declared.events.Bare.{Bare}
use Rattle.efg_reader.specs.Above.{above_next, without_complete, AreShallow}
use Rattle.efg_reader.specs.Assembly.{assembled, shape_with}
use Rattle.efg_reader.specs.RawGame.{bare_node, bare_nodes}
use Rattle.efg_reader.proofs.OneTree.{end_step, first_or, first_in_row, own_last, stands}

-- one number more
sum_more : (w : ℕ → ℕ) (a n : ℕ) → sum_by w (range_with_len a (suc n)) ≡ sum_by w (range_with_len a n) + w (a + n)
sum_more w a zero = let first : a ≡ a + 0 = omega arith in omega (arith, ap w first)
sum_more w a (suc n) =
    let next : a + 1 + n ≡ a + suc n = omega arith in
    let longer : sum_by w (range_with_len a (suc (suc n))) ≡ w a + sum_by w (range_with_len (a + 1) (suc n)) = sum_by-cons w a (range_with_len (a + 1) (suc n)) in
    let shorter : sum_by w (range_with_len a (suc n)) ≡ w a + sum_by w (range_with_len (a + 1) n) = sum_by-cons w a (range_with_len (a + 1) n) in
    omega (arith, ap w next, sum_more w (a + 1) n)

-- a test counts as one
abbrev one_if : Bool → ℕ
one_if holds = cond holds 1 0

-- where the subtrees of the nodes above end: each behind the kids that it still waits for
abbrev ends_above : ℕ → List ℕ → List ℕ → List ℕ
ends_above last [] roots = []
ends_above last (waits ∷ above) roots = first_or last (drop waits roots) ∷ ends_above last above (drop waits roots)

length-ends_above : (last : ℕ) (above roots : List ℕ) → length (ends_above last above roots) ≡ length above
length-ends_above last [] roots = refl
length-ends_above last (waits ∷ above) roots = ap suc (length-ends_above last above (drop waits roots))

-- how many of them reach behind n
abbrev reaching : ℕ → List ℕ → ℕ
reaching n ends = count_by (λ e. nat_lt n e) ends

not_behind : (n e : ℕ) → e ≤ n → one_if (nat_lt n e) ≡ 0
not_behind n e h = grind (arith, nat_tests)

reaching-cons : (n e : ℕ) (ends : List ℕ) → reaching n (e ∷ ends) ≡ one_if (nat_lt n e) + reaching n ends
reaching-cons n e ends = sum_by-cons (λ (x : ℕ). one_if (nat_lt n x)) e ends

-- the nodes that are left out don't reach behind the next place
reaching-complete : (n last : ℕ) (above roots : List ℕ) → first_or last roots ≤ n → reaching n (ends_above last above roots) ≤ reaching n (ends_above last (without_complete above) roots)
reaching-complete n last [] roots h = omega arith
reaching-complete n last (zero ∷ above) roots h =
    omega (arith, reaching-cons n (first_or last roots) (ends_above last above roots), not_behind n (first_or last roots) h, reaching-complete n last above roots h)
reaching-complete n last (suc waits ∷ above) roots h = omega arith

-- the nearest node waits for a kid
abbrev Waits : List ℕ → Type 0
Waits [] = Unit {0}
Waits (waits ∷ above) = 0 < waits

waits-complete : (above : List ℕ) → Waits (without_complete above)
waits-complete [] = tt
waits-complete (zero ∷ above) = waits-complete above
waits-complete (suc waits ∷ above) = omega arith

waits-next : (above : List ℕ) (kids : ℕ) → Waits (above_next above kids)
waits-next [] kids = waits-complete (kids ∷ [])
waits-next (waits ∷ above) kids = waits-complete (kids ∷ (waits - 1) ∷ above)

-- a node stands there, and its kids are waited for
reaching-next : (n last at kids : ℕ) (above behind : List ℕ) → Waits above → first_or last behind ≤ n
    → reaching n (first_or last (drop kids behind) ∷ ends_above last above (at ∷ drop kids behind)) ≤ reaching n (ends_above last (above_next above kids) behind)
reaching-next n last at kids [] behind waits h = reaching-complete n last (kids ∷ []) behind h
reaching-next n last at kids (zero ∷ above) behind waits h = absurd (omega arith)
reaching-next n last at kids (suc more ∷ above) behind waits h =
    let less : suc more - 1 ≡ more = omega arith in
    subst (λ (w : ℕ). reaching n (ends_above last (kids ∷ more ∷ above) behind) ≤ reaching n (ends_above last (without_complete (kids ∷ w ∷ above)) behind)) (sym less)
    (reaching-complete n last (kids ∷ more ∷ above) behind h)

-- how many of the nodes before `at` have subtrees that reach behind n
abbrev above_count : (ℕ → ℕ) → ℕ → ℕ → ℕ
above_count ends at n = count_by (λ m. nat_lt n (ends m)) (range_with_len 0 at)

first_behind : (at : ℕ) (bares : List Bare) → first_or (at + length bares) (assembled at bares).1 ≡ at
first_behind at bares = let tree = stands at bares in first_in_row (at + length bares) at (assembled at bares).1 (from_last end_step 0 at (bare_nodes (assembled at bares).0)) tree.row tree.whole

-- one node more
count_next : (ends : ℕ → ℕ) (last at : ℕ) (bare : Bare) (rest : List Bare) (above : List ℕ) → Waits above → last ≡ at + length (bare ∷ rest)
    → ends at ≡ from_last end_step 0 at (bare_nodes (assembled at (bare ∷ rest)).0) at
    → (n : ℕ) → at + 1 ≤ n → above_count ends at n ≤ reaching n (ends_above last above (assembled at (bare ∷ rest)).1)
    → above_count ends (at + 1) n ≤ reaching n (ends_above last (above_next above bare.kids) (assembled (at + 1) rest).1)
unfolding assembled
count_next ends last at bare rest above waits whole own n behind before =
    let tail = stands (at + 1) rest in
    let over : at + 1 + length rest ≡ last = omega arith in
    let start : first_or last (assembled (at + 1) rest).1 ≡ at + 1 = subst (λ (l : ℕ). first_or l (assembled (at + 1) rest).1 ≡ at + 1) over (first_behind (at + 1) rest) in
    let near : first_or last (assembled (at + 1) rest).1 ≤ n = omega arith in
    let end : ends at ≡ first_or last (drop bare.kids (assembled (at + 1) rest).1) = own ∙ own_last at bare rest tail ∙ ap (λ (l : ℕ). first_or l (drop bare.kids (assembled (at + 1) rest).1)) (sym whole) in
    let step = sum_more (λ m. one_if (nat_lt n (ends m))) 0 at in
    let one : at + 1 ≡ suc at = omega arith in
    let here : 0 + at ≡ at = omega arith in
    let more : above_count ends (at + 1) n ≡ above_count ends at n + one_if (nat_lt n (ends at)) =
    ap (λ (k : ℕ). above_count ends k n) one ∙ step ∙ ap (λ (k : ℕ). above_count ends at n + one_if (nat_lt n (ends k))) here in
    let next = reaching-next n last at bare.kids above (assembled (at + 1) rest).1 waits near in
    let same = ap (λ (e : ℕ). one_if (nat_lt n e)) end in
    let both = reaching-cons n (first_or last (drop bare.kids (assembled (at + 1) rest).1)) (ends_above last above (at ∷ drop bare.kids (assembled (at + 1) rest).1)) in
    omega (arith, more, same, before, next, both)

depths : (ends : ℕ → ℕ) (last at : ℕ) (bares : List Bare) (above end : List ℕ) → Waits above → AreShallow above bares end → last ≡ at + length bares
    → ((m : ℕ) → at ≤ m → ends m ≡ from_last end_step 0 at (bare_nodes (assembled at bares).0) m)
    → ((n : ℕ) → at ≤ n → above_count ends at n ≤ reaching n (ends_above last above (assembled at bares).1))
    → (n : ℕ) → at ≤ n → n < last → above_count ends n n ≤ 256
unfolding assembled
depths ends last at [] above end waits shallow whole agree before n low high = absurd (omega arith)
depths ends last at (bare ∷ rest) above end waits shallow whole agree before n low high =
    elim (cases_lt at n) [
      | inl behind ↦
          depths ends last (at + 1) rest (above_next above bare.kids) end (waits-next above bare.kids) shallow.1 (omega arith)
          (λ m from. agree m (omega arith) ∙ from_last-behind end_step 0 at (bare_node (shape_with bare.event _)) (bare_nodes (assembled (at + 1) rest).0) m (omega arith))
          (λ k from. count_next ends last at bare rest above waits whole (agree at (omega arith)) k from (before k (omega arith)))
          n (omega arith) high
      | inr here ↦
          let same : n ≡ at = omega arith in
          let count = before n low in
          let some = count_by-le-length (λ e. nat_lt n e) (ends_above last above (assembled at (bare ∷ rest)).1) in
          let few = shallow.0 in
          subst (λ (k : ℕ). above_count ends k n ≤ 256) (sym same) (omega (arith, count, some, few, length-ends_above last above (assembled at (bare ∷ rest)).1))
    ]

-- no node is deeper than 256
pub not_deep : (bares : List Bare) (end : List ℕ) → AreShallow [] bares end → (n : ℕ) → n < length bares → depth_of (bare_nodes (assembled 0 bares).0) n ≤ 256
unfolding depth_of end_of
not_deep bares end shallow n within =
    depths (from_last end_step 0 0 (bare_nodes (assembled 0 bares).0)) (length bares) 0 bares [] end tt shallow (omega arith) (λ m low. refl) (λ k low. omega arith) n (omega arith) within

-- one node more
pub shallow_more : (above : List ℕ) (bares : List Bare) (bare : Bare) (now : List ℕ) → AreShallow above bares now → length now ≤ 256 → AreShallow above (bares ++ bare ∷ []) (above_next now bare.kids)
shallow_more above [] bare now same few = subst (λ (s : List ℕ). (length s ≤ 256) × (above_next s bare.kids ≡ above_next now bare.kids)) (sym same) (few, refl)
shallow_more above (b ∷ rest) bare now shallow few = (shallow.0, shallow_more (above_next above b.kids) rest bare now shallow.1 few)

-- the node that a line adds stands below the nodes that are kept
pub shallow_line : (before now after : List Bare) (bare : Bare) (above next : List ℕ) → AreShallow [] before above → now ≡ before → after ≡ now ++ bare ∷ [] → length above ≤ 256 → next ≡ above_next above bare.kids → AreShallow [] after next
shallow_line before now after bare above next shallow same push few is = rw (push, same, is) (shallow_more [] before bare above shallow few)
