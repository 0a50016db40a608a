-- A prefix of a sequence's own part is one of the sequence; a prefix is the sequence itself or one of its own part.
use Rattle.std.proofs.Common.{◌≡◌, ◌⊎◌, ℕ, true, Option, Some, None, slice_get, subst, ap, sym, ◌∙◌, inl, inr, refl}
use Rattle.corr_game.specs.declared.nodes.SetId.{SetId}
use Rattle.sequences.specs.declared.places.Place.{Place}
use Rattle.sequences.specs.Number.{SideView, IsOwn, last_of, side_of}
use Rattle.connected_pairs.specs.Connected.{IsPrefix, IsTouched, touches}
use Rattle.corr_game.specs.declared.sides.Side.{Side}
use Rattle.sequences.proofs.Holding.{set_in}
use Rattle.connected_pairs.specs.Connected.{PairsView, itself, longer}
use Rattle.connected_pairs.proofs.pairs.Pairs.+longest_relevant_prefix.Goals as goal

pub returns-in_default-clause-prefix : goal.returns-in_default-clause-prefix
returns-in_default-clause-prefix t c = itself

pub touches-requires-clause-own_in : goal.touches-requires-clause-own_in
touches-requires-clause-own_in t c =
    let same = ap (λ (p : PairsView). p.seqs) c.self.view_is in
    rw (← same) (set_in _ c.last.ensures.rules c.args.seq c.in-Some.taken (sym c.in-Some.ensures.taken))

pub own-requires : goal.own-requires
own-requires t c = set_in _ c.last.ensures.rules c.args.seq c.in-Some.taken (sym c.in-Some.ensures.taken)

pub returns-then-touches-clause-prefix : goal.returns-then-touches-clause-prefix
returns-then-touches-clause-prefix t c = itself

pub returns-else-touches-clause-prefix : goal.returns-else-touches-clause-prefix
returns-else-touches-clause-prefix t c =
    let same = ap (λ (p : PairsView). p.seqs) c.self.view_is in
    longer c.args.seq c.own.result c.in-Some.taken (rw same at (sym c.in-Some.ensures.taken)) (rw same at c.own.ensures.number) c.longest_relevant_prefix.ensures.prefix

itself_or_own : (v : SideView) (part seq own : ℕ) (move : SetId × ℕ) → last_of v seq ≡ Some move → IsOwn v move.0.0 own → IsPrefix v part seq → (part ≡ seq) ⊎ IsPrefix v part own
itself_or_own v part _ own move e o itself = inl refl
itself_or_own v part _ own move e o (longer seq before last f g rest) =
    let same : last ≡ move = cc in
    let there = ap (λ (m : SetId × ℕ). slice_get v.places m.0.0) same in
    let place : g.0 ≡ o.0 = cc (there, g.1, o.1) in
    let P : ℕ → Type 0 = IsPrefix v part in
    inr (subst P (sym g.2 ∙ (ap (λ (x : Place). x.own) place ∙ o.2)) rest)

touched_at : (p : PairsView) (side : Side) (set : ℕ) (last : Option (SetId × ℕ)) → IsTouched p side set last → (move : SetId × ℕ) → last ≡ Some move → touches p side move.0.0 set ≡ true
touched_at p side set None h move e = absurd (cc)
touched_at p side set (Some first) h move e = let same : first ≡ move = cc in rw (← same) h

pub returns-in_default-clause-longest : goal.returns-in_default-clause-longest
returns-in_default-clause-longest t c = λ part h touched. h

pub returns-then-touches-clause-longest : goal.returns-then-touches-clause-longest
returns-then-touches-clause-longest t c = λ part h touched. h

pub returns-else-touches-clause-longest : goal.returns-else-touches-clause-longest
returns-else-touches-clause-longest t c = λ part h touched.
    let p = c.args.self.now in
    let v = side_of c.args.side p.seqs in
    let same = ap (λ (q : PairsView). q.seqs) c.self.view_is in
    let last : last_of v c.args.seq ≡ Some c.in-Some.taken = rw same at (sym c.in-Some.ensures.taken) in
    elim (itself_or_own v part c.args.seq c.own.result c.in-Some.taken last (rw same at c.own.ensures.number) h) [
      | inl whole ↦
          let there = ap (last_of v) whole ∙ last in
          let joined = touched_at p c.args.side c.args.set.0 (last_of v part) touched c.in-Some.taken there in
          let apart = sym c.touches.ensures ∙ c.if-touches.false in
          absurd (cc (joined, apart))
      | inr shorter ↦ c.longest_relevant_prefix.ensures.longest part shorter touched
    ]
