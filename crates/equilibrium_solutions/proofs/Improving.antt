-- No trigger of a player improves exactly where the sets of each have values that are worth no more than following: values bound what each
-- full choice gets, and some choice gets what some values are worth.
use Rattle.std.proofs.Common.{◌≡◌, ◌↔◌, ℕ, zero, suc, ◌<◌, ◌≤◌, Bool, true, ◌&&◌, cond, List, [], ◌∷◌, All}
use Rattle.std.proofs.Common.{length, Some, slice_get, slice_index, ℤ, pos, ◌≤ℤ◌, refl, ap, subst, arith}
use Rattle.std.proofs.lemmas.Int.{ints}
use Rattle.std.proofs.lemmas.Option.{slice_get_within}
use Rattle.exact_algebra.proofs.Sums.{sum_to-same}
use Rattle.corr_game.specs.declared.nodes.SetId.{SetId}
use Rattle.corr_game.specs.declared.nodes.SetInfo.{SetInfo}
use Rattle.corr_game.specs.declared.notions.Notion.{Notion}
use Rattle.corr_game.specs.declared.sides.Side.{Side}
use Rattle.corr_game.specs.Game.{GameView, IsGame, sets_of}
use Rattle.tree_recall.specs.OwnSequence.{HasRecall}
use Rattle.sequences.specs.Number.{side_of}
use Rattle.connected_pairs.specs.Connected.{IsPairs, IsPairsOf, PairsView, other}
use Rattle.equilibrium.specs.declared.triggers.Trigger.{Trigger}
use Rattle.equilibrium.specs.Deviation.{IsTriggerOf}
use Rattle.equilibrium.specs.Distribution.{Entry, IsEntry}
use Rattle.equilibrium.specs.Equilibrium.{GainsNoMore, no_slack}
use Rattle.equilibrium.specs.FullChoice.{IsFullChoice}
use Rattle.equilibrium_solutions.specs.ColumnSums.{AreColumnSums}
use Rattle.equilibrium_solutions.specs.Decision.{Decision, GoesBack, IsChoice, IsDecision, at_start, counts, gets, takes}
use Rattle.equilibrium_solutions.specs.Departure.{OwnSequences, actions_there, departure, followed}
use Rattle.equilibrium_solutions.specs.Values.{HasValues, IsProgramTrigger, stands_for}
use Rattle.equilibrium_solutions.proofs.Departing.{is_decision}
use Rattle.equilibrium_solutions.proofs.Gettings.{followed_is_followed, got_is_gets}
use Rattle.equilibrium_solutions.proofs.LeafColumns.{HasColumn}
use Rattle.equilibrium_solutions.proofs.ListGains.{no_gain_where}
use Rattle.equilibrium_solutions.proofs.PlanMoves.{counted, top_of}
use Rattle.equilibrium_solutions.proofs.Solving.{bounded_by_values, solved}

-- ---- choices as functions and as lists

abbrev pub listed : ℕ → (ℕ → ℕ) → List ℕ
listed zero f = []
listed (suc n) f = f 0 ∷ listed n (λ k. f (suc k))

pub listed-length : (n : ℕ) (f : ℕ → ℕ) → length (listed n f) ≡ n
listed-length zero f = refl
listed-length (suc n) f = ap suc (listed-length n (λ k. f (suc k)))

pub listed-at : (n : ℕ) (f : ℕ → ℕ) (k : ℕ) → k < n → slice_index (listed n f) k ≡ f k
listed-at zero f k h = absurd (omega arith)
listed-at (suc n) f zero h = refl
listed-at (suc n) f (suc k) h = listed-at n (λ j. f (suc j)) k (omega arith)

pub listed-get : (n : ℕ) (f : ℕ → ℕ) (k a : ℕ) → slice_get (listed n f) k ≡ Some a → a ≡ f k
listed-get zero f k a e = absurd (cc)
listed-get (suc n) f zero a e = cc
listed-get (suc n) f (suc k) a e = listed-get n (λ j. f (suc j)) k a e

-- what is taken hangs on the sets of the moves alone
takes_same : (d : Decision) → IsDecision d → (c e : ℕ → ℕ) → ((set : ℕ) → set < d.sets → c set ≡ e set) → (bound : ℕ)
    → (moves : List (SetId × ℕ)) → GoesBack d bound moves → bound ≤ d.sets → takes d.inside c moves ≡ takes d.inside e moves
takes_same d rules c e same bound [] back low = refl
takes_same d rules c e same bound (move ∷ before) back low =
    let under : move.0.0 < d.sets = omega (arith, back.0) in
    let Back : List (SetId × ℕ) → Type 0 = GoesBack d move.0.0 in
    let rest = takes_same d rules c e same move.0.0 before (subst Back back.2 (rules.each_set move.0.0 under)) (omega arith) in
    rw (same move.0.0 under, rest) refl

pub gets_same : (d : Decision) → IsDecision d → (c e : ℕ → ℕ) → ((set : ℕ) → set < d.sets → c set ≡ e set) → gets d c ≡ gets d e
gets_same d rules c e same =
    sum_to-same d.leaves _ _ (λ n low.
    ap (λ (t : Bool). cond (counts d n && t) (d.pays n) (pos 0))
    (takes_same d rules c e same d.sets (d.before_leaf n) (rules.each_leaf n low) (omega arith)))

-- the actions of a set that is there
pub actions_of : (sets : List SetInfo) (set : ℕ) (info : SetInfo) → slice_get sets set ≡ Some info → actions_there (slice_get sets set) ≡ info.actions
actions_of sets set info e = rw e refl

pub info_at : (sets : List SetInfo) (k : ℕ) → k < length sets → (info : SetInfo) × (slice_get sets k ≡ Some info)
info_at [] k h = absurd (omega arith)
info_at (info ∷ sets) zero h = (info, refl)
info_at (info ∷ sets) (suc k) h = info_at sets k (omega arith)

pub read_at : (list : List ℕ) (k : ℕ) → k < length list → slice_get list k ≡ Some (slice_index list k)
read_at [] k h = absurd (omega arith)
read_at (x ∷ xs) zero h = refl
read_at (x ∷ xs) (suc k) h = read_at xs k (omega arith)

module _ (g : GameView) (rules : IsGame g) (p : PairsView) (pairs : IsPairs p) (of : IsPairsOf g p) (side : Side) (recall : HasRecall g side)
    (own : OwnSequences side g) (others : OwnSequences (other side) g) (list : List Entry) (each : All (IsEntry g) list) (x : ℕ → ℤ)
    (sums : AreColumnSums p list x)
    (own_has : (n : ℕ) → n < length g.nodes
    → HasColumn p side (slice_index (side_of side p.seqs).nodes n) (slice_index (side_of (other side) p.seqs).nodes n)) where
  -- the columns at which a trigger's sequence stands beside the leaves that count behind it
  abbrev pub HasLeftColumns : Trigger → ℕ → Type 0
  HasLeftColumns trigger seq =
      (n : ℕ) → n < length g.nodes → counted side g (top_of trigger) (own.node n) ≡ true
      → HasColumn p side seq (slice_index (side_of (other side) p.seqs).nodes n)

  -- a full choice gains nothing at a trigger exactly where it gets no more than following does
  pub gains_nothing : (notion : Notion) (trigger : Trigger) (seq : ℕ) → IsTriggerOf notion g side trigger
      → IsProgramTrigger notion g p side (stands_for side trigger seq) → HasLeftColumns trigger seq → (choice : List ℕ)
      → GainsNoMore side g no_slack list trigger choice
      ↔ (gets (departure g p (stands_for side trigger seq) own x) (λ set. slice_index choice set)
      ≤ℤ followed g p (stands_for side trigger seq) own x)
  gains_nothing notion trigger seq of_notion is relevant choice =
      let where_none = no_gain_where side g rules recall own others trigger choice list each in
      let got = got_is_gets g rules p pairs of side recall own others list x sums notion trigger seq of_notion is choice relevant in
      let stays = followed_is_followed g rules p pairs of side recall own others list x sums notion trigger seq of_notion is own_has in
      rw (got, stays) at where_none

  -- where a trigger's sets have such values no full choice gains there
  pub none_gains : (notion : Notion) (trigger : Trigger) (seq : ℕ) → IsTriggerOf notion g side trigger
      → IsProgramTrigger notion g p side (stands_for side trigger seq) → HasLeftColumns trigger seq
      → HasValues g p (stands_for side trigger seq) own x → (choice : List ℕ) → IsFullChoice side g choice
      → GainsNoMore side g no_slack list trigger choice
  none_gains notion trigger seq of_notion is relevant has choice full =
      let d = departure g p (stands_for side trigger seq) own x in
      let decides = is_decision g rules p pairs of (stands_for side trigger seq) own x in
      let in_range : IsChoice d (λ set. slice_index choice set) = λ set low.
      (let info = info_at (sets_of side g) set low in
      let named = read_at choice set (omega (arith, full.per_set)) in
      rw info.1 (full.in_range set (slice_index choice set) info.0 named info.1)) in
      let bound = bounded_by_values d decides has.0 has.1 (λ set. slice_index choice set) in_range in
      (gains_nothing notion trigger seq of_notion is relevant choice).1 (at_most _ _ _ bound has.2)
    where
      at_most : (a b c : ℤ) → a ≤ℤ b → b ≤ℤ c → a ≤ℤ c
      at_most a b c h k = omega (arith, ints)

  -- and where no full choice gains a trigger's sets have such values
  pub has_values : (notion : Notion) (trigger : Trigger) (seq : ℕ) → IsTriggerOf notion g side trigger
      → IsProgramTrigger notion g p side (stands_for side trigger seq) → HasLeftColumns trigger seq
      → ((choice : List ℕ) → IsFullChoice side g choice → GainsNoMore side g no_slack list trigger choice)
      → HasValues g p (stands_for side trigger seq) own x
  has_values notion trigger seq of_notion is relevant none =
      let d = departure g p (stands_for side trigger seq) own x in
      let decides = is_decision g rules p pairs of (stands_for side trigger seq) own x in
      let best = solved d decides in
      let choice = listed d.sets best.1 in
      let full : IsFullChoice side g choice = record {
        per_set = listed-length d.sets best.1;
        in_range = λ set action info named there.
            let action_is = listed-get d.sets best.1 set action named in
            let low = slice_get_within (sets_of side g) set info there in
            let inside = best.3 set low in
            let count = actions_of (sets_of side g) set info there in
            omega (arith, action_is, inside, count);
      } in
      let same = gets_same d decides (λ set. slice_index choice set) best.1 (λ set low. listed-at d.sets best.1 set low) in
      let most = (gains_nothing notion trigger seq of_notion is relevant choice).0 (none choice full) in
      (best.0, best.2, at_most (at_start d best.0) _ _ (followed g p (stands_for side trigger seq) own x) best.4 same most)
    where
      at_most : (s g l f : ℤ) → g ≡ s → l ≡ g → l ≤ℤ f → s ≤ℤ f
      at_most s g l f e h k = omega (arith, ints)
