-- One pair more is gone over: a relevant one is put behind the others, so those keep their indices.
use Rattle.std.proofs.Common.{◌≡◌, ℕ, ◌+◌, ◌*◌, ◌^◌, ◌<◌, ◌≤◌, Bool, true, false, List, [], ◌∷◌, ◌++◌, Option, Some, None, zero, suc, slice_get, length, refl, sym, ap, ◌∙◌, inl, inr, arith}
use Rattle.std.proofs.Math.Nat.{mul-le-mul_left}
use Rattle.std.proofs.lemmas.List.{length_push}
use Rattle.std.proofs.lemmas.Nat.{mul-add-lt}
use Rattle.std.proofs.lemmas.Option.{slice_get_within}
use Rattle.tree_recall.proofs.Progress.{slice_get-push}
use Rattle.sequences.proofs.Adding.{still, pushed, within}
use Rattle.corr_game.specs.declared.sides.Side.TheVariants.{One, Two}
use Rattle.corr_game.specs.Game.{GameView}
use Rattle.sequences.specs.Number.{SeqsView, SideView, IsSide, IsSeqsOf, side_of, count_of}
use Rattle.connected_pairs.specs.Connected.{PairsView, IsPairs, IsListed, IsPlaced, AreRowByRow, is_relevant}

-- the entry at row a and column b is one of the table's
pub cell : (a b w h width count : ℕ) → a < h → b < w → width ≡ w → count ≡ h * w → a * width + b < count
cell a b w h width count low left e f = omega (arith, mul-add-lt a w b h low left, ap (λ (x : ℕ). a * x) e, f)

-- few rows and few columns make few entries
pub few_cells : (a b w h : ℕ) → a < h → b < w → w ≤ 4096 → h ≤ 4096 → a * w + b < 2 ^ 24
few_cells a b w h low left few_w few_h = omega (arith, mul-add-lt a w b h low left, mul-le-mul_left w few_h)

few_seqs : {v : SideView} → IsSide v → count_of v ≤ 4096
few_seqs side = omega (arith, side.few)

grown : (s : SeqsView) (table : List Bool) (pairs : List (ℕ × ℕ)) (more pair : ℕ × ℕ) (place : Option ℕ) → IsPlaced s table pairs pair place → IsPlaced s table (pairs ++ more ∷ []) pair place
grown s table pairs more pair None h = h
grown s table pairs more pair (Some k) h = still pairs (more ∷ []) k pair h

pub none_listed : (s : SeqsView) (table : List Bool) → IsListed s table 0 [] []
unfolding AreRowByRow
none_listed s table = record {
  all = refl;
  at_most = omega arith;
  each_pair = λ k pair h. absurd (cc);
  each_index = λ k pair h. absurd (cc);
  each_place = λ k place h. absurd (cc);
  in_order = λ j k a b e f less. absurd (cc);
}

pub list-relevant : (s : SeqsView) (table : List Bool) (count one two next : ℕ) (pairs : List (ℕ × ℕ)) (places : List (Option ℕ)) → IsListed s table count pairs places
    → one < count_of s.one → two < count_of s.two → count ≡ one * count_of s.two + two → next ≡ count + 1 → is_relevant s table one two ≡ true
    → IsListed s table next (pairs ++ (one, two) ∷ []) (places ++ Some (length pairs) ∷ [])
unfolding AreRowByRow
list-relevant s table count one two next pairs places p low left e n related = record {
  all = length_push places (Some (length pairs)) ∙ omega (arith, p.all, n);
  at_most = omega (arith, length_push pairs (one, two), p.at_most, n);
  each_pair = λ k pair h. elim (slice_get-push pairs (one, two) pair k h) [
    | inl there ↦ p.each_pair k pair there
    | inr end ↦ rw (← end.1) (low, left, related)
  ];
  each_index = λ k pair h. elim (slice_get-push pairs (one, two) pair k h) [
    | inl there ↦ still places (Some (length pairs) ∷ []) (pair.0 * count_of s.two + pair.1) (Some k) (p.each_index k pair there)
    | inr end ↦ rw (← end.1, end.0) (pushed places (Some (length pairs)) (one * count_of s.two + two) (sym (p.all ∙ e)))
  ];
  each_place = λ k place h. elim (slice_get-push places (Some (length pairs)) place k h) [
    | inl there ↦ let at = p.each_place k place there in (at.0, at.1, at.2, grown s table pairs (one, two) at.0 place at.3)
    | inr end ↦ rw (← end.1) ((one, two), left, end.0 ∙ (p.all ∙ e), pushed pairs (one, two) (length pairs) refl)
  ];
  in_order = λ j k a b f h less. elim (slice_get-push pairs (one, two) b k h) [
    | inl there ↦
        let room = slice_get_within pairs k b there in
        elim (slice_get-push pairs (one, two) a j f) [
          | inl before ↦ p.in_order j k a b before there less
          | inr end ↦ absurd (omega (arith, end.0))
        ]
    | inr end ↦ elim (slice_get-push pairs (one, two) a j f) [
      | inl before ↦
          let low = slice_get_within places (a.0 * count_of s.two + a.1) (Some j) (p.each_index j a before) in
          rw (← end.1) (omega (arith, low, p.all, e))
      | inr last ↦ absurd (omega (arith, last.0, end.0))
    ]
  ];
}

pub list-other : (s : SeqsView) (table : List Bool) (count one two next : ℕ) (pairs : List (ℕ × ℕ)) (places : List (Option ℕ)) → IsListed s table count pairs places
    → two < count_of s.two → count ≡ one * count_of s.two + two → next ≡ count + 1 → is_relevant s table one two ≡ false
    → IsListed s table next pairs (places ++ None ∷ [])
list-other s table count one two next pairs places p left e n apart = record {
  all = length_push places None ∙ omega (arith, p.all, n);
  at_most = omega (arith, p.at_most, n);
  each_pair = p.each_pair;
  each_index = λ k pair h. still places (None ∷ []) (pair.0 * count_of s.two + pair.1) (Some k) (p.each_index k pair h);
  each_place = λ k place h. elim (slice_get-push places None place k h) [
    | inl there ↦ p.each_place k place there
    | inr end ↦ rw (← end.1) ((one, two), left, end.0 ∙ (p.all ∙ e), apart)
  ];
  in_order = p.in_order;
}

-- an index fits a u32
pub few_pairs : (p : PairsView) → IsPairs p → length p.pairs < 2 ^ 32
few_pairs p rules =
    omega (arith, rules.listed.at_most, mul-le-mul_left (count_of p.seqs.one) (few_seqs (rules.sides Two)), few_seqs (rules.sides One))

-- a game's sequences with a table of its sets and the list of their pairs keep the rules
pub whole : (g : GameView) (s : SeqsView) (table : List Bool) (pairs : List (ℕ × ℕ)) (places : List (Option ℕ)) → IsSide s.one → IsSide s.two → IsSeqsOf g s → length table ≡ length g.one * length g.two
    → IsListed s table (count_of s.one * count_of s.two) pairs places → IsPairs (record { seqs = s; table = table; pairs = pairs; places = places })
whole g s table pairs places one two of size listed = record {
  sides = λ side. elim side as (λ x. IsSide (side_of x s)) [ One ↦ one | Two ↦ two ];
  all_sets = rw ((of.sides One).per_set, (of.sides Two).per_set) size;
  listed = listed;
}

-- the first place is that of the empty sequences, and no pair stands before theirs
first_at : (p : PairsView) → IsPairs p → (one two : ℕ) (place : Option ℕ) → one ≡ 0 → two ≡ 0 → IsPlaced p.seqs p.table p.pairs (one, two) place → slice_get p.pairs 0 ≡ Some (0, 0)
unfolding AreRowByRow
first_at p rules one two None e f h =
    let related : is_relevant p.seqs p.table one two ≡ true = rw e refl in
    absurd (cc)
first_at p rules one two (Some zero) e f h = rw (e, f) at h
first_at p rules one two (Some (suc k)) e f h =
    let first = within p.pairs 0 (omega (arith, slice_get_within p.pairs (suc k) (one, two) h)) in
    absurd (omega (arith, f, ap (λ (x : ℕ). x * count_of p.seqs.two) e, rules.listed.in_order 0 (suc k) first.0 (one, two) first.1 h (omega arith)))

pub first_pair : (p : PairsView) → IsPairs p → slice_get p.pairs 0 ≡ Some (0, 0)
first_pair p rules =
    let place = within p.places 0 (omega (arith, rules.listed.all)) in
    let at = rules.listed.each_place 0 place.0 place.1 in
    first_at p rules at.0.0 at.0.1 place.0 (omega (arith, at.2)) (omega (arith, at.2)) at.3
