-- The token is the first of what was left, and the machine goes on with it, or it stops there.
use Rattle.std.proofs.Common.{◌≡◌, ℕ, ◌+◌, ◌<◌, true, false, ◌++◌, ◌∷◌, [], Option, Result, Ok, Err, Some, None, refl, sym, ap, subst, ◌∙◌, arith}
use Rattle.std.specs.Prelude.{IsNone, ◌↔◌}
use Rattle.efg_token.specs.Cursor.{left}
use Rattle.efg_token.specs.Front.{front, found, blank, unended, gap}
use Rattle.efg_token.specs.Seen.{lexeme, IfFound, IfUnended}
use Rattle.efg_token.specs.declared.token.Spot.{Spot}
use Rattle.efg_token.specs.declared.token.TokenFault.{TokenFault}
use Rattle.efg_token.specs.declared.token.TokenFault.TheVariants.{Unterminated}
use Rattle.efg_lines.specs.declared.state.State.TheVariants.{Format}
use Rattle.efg_lines.specs.Draft.{Progress, start, is_player}
use Rattle.efg_lines.specs.Machine.{after, is_whole}
use Rattle.efg_lines.specs.Refusal.{place_in}
use Rattle.efg_lines.proofs.ReadsBack.{Reads, reads-push, players_more}
use Rattle.efg_lines.proofs.SyntaxPlace.{stand-push, file_read, stops_at_end, stops_at_token, stops_at_unended, place_at}
use Rattle.efg_lines.proofs.lines.read_lines.Goals as goal

found_at : (r : Result Spot TokenFault) (spot : Spot) (P : Spot → Type 0) → r ≡ Ok spot → IfFound (Some r) P → P spot
found_at r spot P is h = subst (λ (x : Result Spot TokenFault). IfFound (Some x) P) is h

pub loop-next-preserved : goal.loop-next-preserved
loop-next-preserved c =
    let before = c.loop-next.invariant in
    let spot = c.in-Ok.spot in
    let said = c.in-Some.ensures in
    let first = found_at c.in-Some.next spot
    (λ s. front (left c.loop-next.tokens) ≡ found (lexeme s.token) (left c.next.new.self)) c.in-Ok.is said.token in
    let place = found_at c.in-Some.next spot (λ s. s.end ≡ c.next.new.self.at) c.in-Ok.is said.end in
    let begin = found_at c.in-Some.next spot (λ s. s.at ≡ c.loop-next.tokens.at + gap (left c.loop-next.tokens)) c.in-Ok.is said.at in
    let span = found_at c.in-Some.next spot (λ s. s.at < s.end) c.in-Ok.is said.span in
    let goes : after c.loop-next.reader.state (lexeme spot.token) ≡ Some c.in-Some-after.state = sym c.in-Some-after.ensures in
    let read = reads-push (start Format) before.passed c.loop-next.reader (lexeme spot.token) c.in-Some-after.state before.reads goes in
    let same = said.input ∙ before.input in
    let players = ap (λ (p : Progress). p.players) c.in_ok-step-in-Ok.ensures in
    let more = players_more (is_player c.loop-next.reader.state (lexeme spot.token)) c.loop-next.reader.players in
    record {
      input = same;
      within = rw (← same) said.within;
      counted = omega (arith, players, more, before.counted, place, begin, span);
      passed = before.passed ++ lexeme spot.token ∷ [];
      stand =
          stand-push c.args.bytes.now before.passed (left c.loop-next.tokens) (lexeme spot.token) (left c.next.new.self) before.stand first;
      reads =
          subst (λ (p : Progress). Reads (start Format) (before.passed ++ lexeme spot.token ∷ []) p) (sym c.in_ok-step-in-Ok.ensures) read;
    }

unended_in : (r : Result Spot TokenFault) (fault : TokenFault) (P : ℕ → Type 0) → r ≡ Err fault → IfUnended (Some r) P → P (place_in fault)
unended_in r (Unterminated at) P is h = subst (λ (x : Result Spot TokenFault). IfUnended (Some x) P) is h

-- nothing is left
none_left : {A : Type 0} (next : Option A) (B : Type 0) → next ≡ None → (IsNone next ↔ B) → B
none_left {A = A} next B is told = told.0 (subst (λ (x : Option A). IsNone x) (sym is) refl)

pub returns-in_default-after : goal.returns-in_default-after
returns-in_default-after c =
    let before = c.loop-next.invariant in
    let spot = c.in-Ok.spot in
    let said = c.in-Some.ensures in
    let tokens = c.loop-next.tokens in
    let first = found_at c.in-Some.next spot (λ s. front (left tokens) ≡ found (lexeme s.token) (left c.next.new.self)) c.in-Ok.is
    said.token in
    let begin = found_at c.in-Some.next spot (λ s. s.at ≡ tokens.at + gap (left tokens)) c.in-Ok.is said.at in
    let stops : after c.loop-next.reader.state (lexeme spot.token) ≡ None = cc (c.after.ensures, c.in_default-after.is) in
    stops_at_token c.args.bytes.now before.passed (left tokens) c.loop-next.reader before.stand before.reads (lexeme spot.token)
    (left c.next.new.self)
    spot.at first stops (place_at c.args.bytes.now tokens spot.at before.input before.within begin)

pub returns-in-Err : goal.returns-in-Err
returns-in-Err c =
    let before = c.loop-next.invariant in
    let said = c.in-Some.ensures in
    let tokens = c.loop-next.tokens in
    let first = unended_in c.in-Some.next c.in-Err.fault (λ at. front (left tokens) ≡ unended) c.in-Err.is said.unended in
    let begin = unended_in c.in-Some.next c.in-Err.fault (λ at. at ≡ tokens.at + gap (left tokens)) c.in-Err.is said.opening in
    let at : c.place_of.result ≡ tokens.at + gap (left tokens) = c.place_of.ensures ∙ begin in
    stops_at_unended c.args.bytes.now before.passed (left tokens) c.loop-next.reader before.stand before.reads
    c.place_of.result first (place_at c.args.bytes.now tokens c.place_of.result before.input before.within at)

pub returns-then-not-is_whole : goal.returns-then-not-is_whole
returns-then-not-is_whole c =
    let before = c.loop-next.invariant in
    let tokens = c.loop-next.tokens in
    let over = none_left c.next.result (front (left tokens) ≡ blank) c.in_default.is c.next.ensures.blank in
    let ends : is_whole c.loop-next.reader.state ≡ false = cc (c.is_whole.ensures, c.if-not-is_whole.true) in
    stops_at_end c.args.bytes.now before.passed (left tokens) c.loop-next.reader before.stand before.reads over ends

pub returns : goal.returns
returns c =
    let before = c.loop-next.invariant in
    let tokens = c.loop-next.tokens in
    let over = none_left c.next.result (front (left tokens) ≡ blank) c.in_default.is c.next.ensures.blank in
    let ends : is_whole c.loop-next.reader.state ≡ true = cc (c.is_whole.ensures, c.if-not-is_whole.false) in
    file_read c.args.bytes.now before.passed (left tokens) c.loop-next.reader c.in_ok-finish.field-0 before.stand before.reads
    over ends c.in_ok-finish.ensures
