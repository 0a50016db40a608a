-- The state goes on by one draw.
use Rattle.std.proofs.Common.{◌≡◌, ◌+◌, ◌^◌, ◌/◌, ◌%◌, ℕ, sym, ap, ◌∙◌}
use Rattle.game_gen.specs.Random.{draw, next_state, state_after}
use Rattle.game_gen.proofs.Steps.{state_next}
use Rattle.game_gen.proofs.draws.Draws.next.Goals as goal

pub invariant_of-self : goal.invariant_of-self
invariant_of-self c = record {
  in_step = c.after-self.ensures ∙ ap next_state c.args.self.now.in_step ∙ sym (state_next c.args.self.now.drawn c.args.self.now.seed);
}

pub returns-clause-number : goal.returns-clause-number
unfolding draw
returns-clause-number c =
    let state : c.after-self.result ≡ state_after (c.args.self.now.drawn + 1) c.args.self.now.seed =
    c.after-self.ensures ∙ ap next_state c.args.self.now.in_step ∙ sym (state_next c.args.self.now.drawn c.args.self.now.seed)
    in
    ap (λ (s : ℕ). s / 2 ^ 33 % 10) state
