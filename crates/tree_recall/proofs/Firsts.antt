-- Each set that is met has its first node kept. So where a node's last move isn't the one kept for its set, the own
-- sequences of that node and of the set's first node differ, and no node before is such a one.
use Rattle.std.proofs.Common.{◌≡◌, ℕ, ◌+◌, ◌<◌, ◌≤◌, List, [], ◌∷◌, ◌++◌, Option, Some, length, map, slice_get, refl, sym, ◌∙◌, inl, inr, arith}
use Rattle.std.proofs.lemmas.Bool.{cases_lt}
use Rattle.std.proofs.lemmas.List.{length-map}
use Rattle.std.proofs.lemmas.Option.{slice_get_within}
use Rattle.corr_game.specs.declared.nodes.SetId.{SetId}
use Rattle.corr_game.specs.declared.sides.Side.{Side}
use Rattle.corr_game.specs.Game.{GameView, IsGame}
use Rattle.tree_recall.specs.declared.recalls.Met.{Met}
use Rattle.tree_recall.specs.declared.recalls.RecallRefusal.{RecallRefusal}
use Rattle.tree_recall.specs.declared.recalls.RecallRefusal.TheVariants.{Forgets, NoMemory}
use Rattle.corr_game.specs.declared.sides.Side.TheVariants.{One, Two}
use Rattle.tree_recall.specs.Tree.{set_of}
use Rattle.tree_recall.specs.OwnSequence.{HasRecall, IsLastAt, latest}
use Rattle.tree_recall.specs.Forgetting.{IsFirstOf, IsForgottenAt, IsLeast, IsLeastOf, IsMismatch, NoneForgotten}
use Rattle.tree_recall.proofs.OwnSequences.{has_own, last_same}
use Rattle.tree_recall.proofs.Kids.{set_node}
use Rattle.tree_recall.proofs.Progress.{last_of, slice_get-push}
use Rattle.tree_recall.proofs.Told.{AreAlike, IsTold, Move, alike, recall_before}
use Rattle.tree_recall.proofs.ToldSteps.{last_at}

-- the sets met before node n have their first nodes kept
pub record AreFirsts (side : Side) (g : GameView) (n : ℕ) (met : List Met) : Type 0 where
  pub each : (k : ℕ) (m : Met) → slice_get met k ≡ Some m → (m.first < n) × IsFirstOf g side k m.first

pub firsts_none : (side : Side) (g : GameView) → AreFirsts side g 0 []
firsts_none side g = record { each = λ k m h. absurd (cc) }

pub firsts_passed : (side : Side) (g : GameView) (n : ℕ) (met : List Met) → AreFirsts side g n met → AreFirsts side g (n + 1) met
firsts_passed side g n met f = record { each = λ k m h. (let old = f.each k m h in (omega (arith, old.0), old.1)) }

pub firsts_moved : (side : Side) (g : GameView) (n : ℕ) (above : List (Option Move)) (met more : List Met) (set : SetId) (node : Met) → IsTold side g n above (map last_of met) → AreFirsts side g n met
    → set_of g side n ≡ Some set.0 → node.first ≡ n → set.0 ≤ length met → (set.0 < length met → more ≡ met) → (set.0 ≡ length met → more ≡ met ++ node ∷ []) → AreFirsts side g (n + 1) more
firsts_moved side g n above met more set node t f own at order known added = elim (cases_lt set.0 (length met)) [
  | inl old ↦ rw (known old) (firsts_passed side g n met f)
  | inr next ↦
      let new : set.0 ≡ length met = omega arith in
      rw (added new) record {
        each = λ k m h. elim (slice_get-push met node m k h) [
          | inl there ↦ (let was = f.each k m there in (omega (arith, was.0), was.1))
          | inr end ↦
              let index : k ≡ set.0 = end.0 ∙ sym new in
              rw (← end.1, index, at) (
                omega arith,
                (
                  own,
                  λ l low e. (
                      let kept = t.sets l set.0 low e in
                      omega (arith, slice_get_within (map last_of met) set.0 kept.0 kept.1, length-map met last_of)),
                ),
              )
        ];
      }
]

-- a set's first node isn't behind another of its nodes
first_low : (g : GameView) (side : Side) (set first n : ℕ) → IsFirstOf g side set first → set_of g side n ≡ Some set → first ≤ n
first_low g side set first n f e = elim (cases_lt n first) [ inl before ↦ absurd (f.1 n before e) | inr behind ↦ behind ]

-- where the nodes before n of each set are alike, none of them forgets
pub none_before : (side : Side) (g : GameView) → IsGame g → (n : ℕ) → AreAlike side g n → NoneForgotten g side n
unfolding NoneForgotten
none_before side g rules n like set first second low h =
    let room = first_low g side set first second h.0 h.1 in
    let own = has_own g rules side second (set_node g side second set h.1).0 in
    let start = has_own g rules side first (set_node g side first set h.0.0).0 in
    let same = recall_before side g rules n like first second set start.0 own.0 (omega arith) low h.0.0 h.1 start.1 own.1 in
    h.2 own.0 (rw same at start.1) own.1

-- with perfect recall no node is forgotten
pub none_at_all : (g : GameView) (side : Side) (before : ℕ) → IsGame g → HasRecall g side → NoneForgotten g side before
unfolding NoneForgotten HasRecall
none_at_all g side before rules perfect set first second low h =
    let own = has_own g rules side second (set_node g side second set h.1).0 in
    let start = has_own g rules side first (set_node g side first set h.0.0).0 in
    let same = perfect first second set start.0 own.0 h.0.0 h.1 start.1 own.1 in
    h.2 own.0 (rw same at start.1) own.1

pub fewer_forgotten : (g : GameView) (side : Side) (more fewer : ℕ) → fewer ≤ more → NoneForgotten g side more → NoneForgotten g side fewer
unfolding NoneForgotten
fewer_forgotten g side more fewer low none set first second less h = none set first second (omega arith) h

-- a mismatch is at the least node with another own sequence
pub mismatch_least : (side : Side) (g : GameView) → IsGame g → (n : ℕ) (above : List (Option Move)) (met : List Met) (set : SetId) (node : Met) (refusal : RecallRefusal) → IsTold side g n above (map last_of met) → AreFirsts side g n met
    → set_of g side n ≡ Some set.0 → node.first ≡ n → IsLastAt g side n node.last → IsMismatch side set met node refusal → IsLeastOf side g refusal
mismatch_least side g rules n above met set node NoMemory t f own at here h = tt
mismatch_least side g rules n above met set node (Forgets mover named first second) t f own at here h =
    let known = h.3 in
    let start = f.each set.0 known.0 known.1 in
    let kept = t.sets known.0.first set.0 start.0 start.1.0 in
    let same : known.0.last ≡ kept.0 = cc (last_at met set.0 known.0 known.1, kept.1) in
    let forgotten : IsForgottenAt g side set.0 known.0.first n = (
      start.1,
      own,
      λ seq a b. (
          let one = last_same g rules side known.0.first kept.0 (latest seq) kept.2 (seq, a, refl) in
          let two = last_same g rules side n node.last (latest seq) here (seq, b, refl) in
          known.3 (same ∙ (one ∙ sym two))),
    ) in
    let last : second ≡ n = h.2 ∙ at in
    (h.0, rw (h.1, ← known.2, last) forgotten, rw last (none_before side g rules n (alike side g rules n above (map last_of met) t)))

-- Of both players.

pub told_one : (g : GameView) (mover : Side) (set : SetId) (first second : ℕ) → IsLeastOf One g (Forgets mover set first second) → NoneForgotten g Two second → IsLeast g (Forgets mover set first second)
told_one g mover set first second h none = (rw h.0 h.1, λ side. elim side as (λ s. NoneForgotten g s second) [ One ↦ h.2 | Two ↦ none ])

pub told_two : (g : GameView) (mover : Side) (set : SetId) (first second : ℕ) → IsLeastOf Two g (Forgets mover set first second) → NoneForgotten g One second → IsLeast g (Forgets mover set first second)
told_two g mover set first second h none = (rw h.0 h.1, λ side. elim side as (λ s. NoneForgotten g s second) [ One ↦ none | Two ↦ h.2 ])
