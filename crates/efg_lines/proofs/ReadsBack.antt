-- What has been read, from token to token, and what it makes with what is left.
use Rattle.std.proofs.Common.{◌≡◌, ℕ, ◌+◌, ◌≤◌, Bool, true, false, cond, List, [], ◌∷◌, ◌++◌, map, Option, Some, None, refl, ap, sym, subst, ◌∙◌, arith, append-nil}
use Rattle.efg_token.specs.Lexeme.{Lexeme}
use Rattle.efg_lines.specs.declared.state.Letter.TheVariants as letter
use Rattle.efg_lines.specs.declared.state.State.{State}
use Rattle.efg_lines.specs.declared.state.State.TheVariants as state
use Rattle.efg_lines.specs.Draft.{Progress, start, stepped, finished}
use Rattle.efg_lines.specs.File.{FileView}
use Rattle.efg_lines.specs.FileTokens.{node_kept, file_kept}
use Rattle.efg_lines.specs.Grammar.{Whole, Number, Outcome, Set, File, file, IsFile, BeginsFile}
use Rattle.efg_lines.specs.Machine.{after, led, is_whole, is_end, accepts}
use Rattle.efg_lines.proofs.FileLeft.{Left, left_tokens, left_file}
use Rattle.efg_lines.proofs.FileEnds.{nothing_leads, no_end, file_end}
use Rattle.efg_lines.proofs.StepBack.{step_back}

-- these tokens lead from p to q
abbrev pub Reads : Progress → List Lexeme → Progress → Type 0
Reads p [] q = p ≡ q
Reads p (token ∷ tokens) q = (next : State) × (after p.state token ≡ Some next) × Reads (stepped p.state token next p) tokens q

-- one token more
pub reads-push : (p : Progress) (tokens : List Lexeme) (q : Progress) (token : Lexeme) (next : State) → Reads p tokens q
    → after q.state token ≡ Some next → Reads p (tokens ++ token ∷ []) (stepped q.state token next q)
reads-push p [] q token next reads goes =
    let goes_first = subst (λ (x : Progress). after x.state token ≡ Some next) (sym reads) goes in
    (next, goes_first, ap (λ (x : Progress). stepped x.state token next x) reads)
reads-push p (t ∷ tokens) q token next reads goes =
    (reads.0, reads.1, reads-push (stepped p.state t reads.0 p) tokens q token next reads.2 goes)

-- what is left behind these tokens makes, with them, what was left before them
record ReadBack (p : Progress) (tokens : List Lexeme) (q : Progress) (l : Left q.state) : Type 0 where
  left : Left p.state
  its_tokens : left_tokens p.state left ≡ tokens ++ left_tokens q.state l
  its_file : left_file p.state p left ≡ left_file q.state q l

reads_back : (p : Progress) (tokens : List Lexeme) (q : Progress) → Reads p tokens q → (l : Left q.state) → ReadBack p tokens q l
reads_back p [] q reads l =
    subst (λ (x : Progress). (l : Left x.state) → ReadBack p [] x l) reads (λ l. record { left = l; its_tokens = refl; its_file = refl }) l
reads_back p (t ∷ tokens) q reads l =
    let more = reads_back (stepped p.state t reads.0 p) tokens q reads.2 l in
    let back = step_back p.state p t reads.0 reads.1 more.left in
    record {
      left = back.left;
      its_tokens = back.its_tokens ∙ ap (λ ts. t ∷ ts) more.its_tokens;
      its_file = back.its_file ∙ more.its_file;
    }

-- in each state something may be left

zero_whole : Whole
zero_whole = record { bytes = 48 ∷ []; of_digits = refl }

zero_number : Number
zero_number = record { bytes = 48 ∷ []; well_formed = refl }

no_outcome : Outcome
no_outcome = record { number = zero_whole; name = None; payoffs = None }

no_set : {A : Type 0} → Set A
no_set = record { number = zero_whole; name = None; actions = None }

abbrev no_header : File
no_header = record { title = []; players = []; comment = None; nodes = [] }

some_left : (s : State) → Left s
some_left state.Format = no_header
some_left state.Version = no_header
some_left state.Numbers = no_header
some_left state.Title = no_header
some_left state.PlayersBrace = no_header
some_left state.Players = no_header
some_left state.Comment = no_header
some_left state.Line = []
some_left (state.Name letter.Chance) = ([], no_set, no_outcome, [])
some_left (state.Name letter.Player) = ([], zero_whole, no_set, no_outcome, [])
some_left (state.Name letter.Leaf) = ([], no_outcome, [])
some_left state.PlayerNumber = (zero_whole, no_set, no_outcome, [])
some_left (state.Set m) = (no_set, no_outcome, [])
some_left (state.SetName m) = (None, None, no_outcome, [])
some_left (state.ActionsBrace m) = (None, no_outcome, [])
some_left (state.Actions m) = ([], no_outcome, [])
some_left state.Probability = (zero_number, [], no_outcome, [])
some_left state.Outcome = (no_outcome, [])
some_left state.OutcomeName = (None, None, [])
some_left state.PayoffsBrace = (None, [])
some_left state.Payoff = (record { first = zero_number; others = [] }, [])
some_left state.Payoffs = ([], [])

-- where a file may end nothing may be left

record Over (s : State) : Type 0 where
  left : Left s
  no_tokens : left_tokens s left ≡ []
  its_file : (p : Progress) → left_file s p left ≡ finished s p

no_lines : (p : Progress)
    → ◌≡◌ {A = FileView} (record { players = p.players; lines = p.lines ++ [] }) (record { players = p.players; lines = p.lines })
no_lines p = ap (λ lines. record { players = p.players; lines = lines }) (append-nil p.lines)

over_at : (s : State) → is_whole s ≡ true → Over s
over_at state.Comment e = record { left = no_header; no_tokens = refl; its_file = no_lines }
over_at state.Line e = record { left = []; no_tokens = refl; its_file = no_lines }
over_at state.OutcomeName e = record { left = (None, None, []); no_tokens = refl; its_file = λ p. refl }
over_at state.PayoffsBrace e = record { left = (None, []); no_tokens = refl; its_file = λ p. refl }
over_at other e = absurd (cc)

-- before the first token the whole file is left

whole_left : (f : File) → file f ≡ left_tokens state.Format f
unfolding file
whole_left f = refl

whole_kept : (f : File) → left_file state.Format (start state.Format) f ≡ file_kept f
whole_kept f = ap (λ n. record { players = n; lines = map node_kept f.nodes }) (omega arith)

-- tokens that lead to an end are those of a file, and what has been kept is kept of it
pub record ReadFile (tokens : List Lexeme) (kept : FileView) : Type 0 where
  pub parts : File
  pub are_its : tokens ≡ file parts
  pub its_file : kept ≡ file_kept parts

pub reads_file : (tokens : List Lexeme) (q : Progress) → Reads (start state.Format) tokens q → is_whole q.state ≡ true
    → ReadFile tokens (finished q.state q)
reads_file tokens q reads e =
    let over = over_at q.state e in
    let back = reads_back (start state.Format) tokens q reads over.left in
    record {
      parts = back.left;
      are_its =
          sym (append-nil tokens) ∙ ap (λ more. tokens ++ more) (sym over.no_tokens) ∙ sym back.its_tokens ∙ sym (whole_left back.left);
      its_file = sym (over.its_file q) ∙ sym back.its_file ∙ whole_kept back.left;
    }

-- some file begins with tokens that lead anywhere
pub reads_begin : (tokens : List Lexeme) (q : Progress) → Reads (start state.Format) tokens q → BeginsFile tokens
reads_begin tokens q reads =
    let l = some_left q.state in
    let back = reads_back (start state.Format) tokens q reads l in
    record {
      more = left_tokens q.state l;
      whole = record { parts = back.left; are_its = sym back.its_tokens ∙ sym (whole_left back.left) };
    }

-- the state is that to which the tokens lead

led-append : (o : Option State) (a b : List Lexeme) → led o (a ++ b) ≡ led (led o a) b
led-append o [] b = refl
led-append None (t ∷ a) b = sym (nothing_leads b)
led-append (Some s) (t ∷ a) b = led-append (after s t) a b

pub reads_led : (p : Progress) (tokens : List Lexeme) (q : Progress) → Reads p tokens q → led (Some p.state) tokens ≡ Some q.state
reads_led p [] q reads = ap (λ (x : Progress). Some x.state) reads
reads_led p (t ∷ tokens) q reads = ap (λ s. led s tokens) reads.1 ∙ reads_led (stepped p.state t reads.0 p) tokens q reads.2

abbrev Led : Progress → List Lexeme → State → Type 0
Led p tokens s = (q : Progress) × Reads p tokens q × (q.state ≡ s)

led_on : (p : Progress) (t : Lexeme) (tokens : List Lexeme) (s : State) (o : Option State) → after p.state t ≡ o → led o tokens ≡ Some s
    → ((x : Progress) → led (Some x.state) tokens ≡ Some s → Led x tokens s) → Led p (t ∷ tokens) s
led_on p t tokens s None goes e more = absurd (cc (nothing_leads tokens, e))
led_on p t tokens s (Some next) goes e more = let it = more (stepped p.state t next p) e in (it.0, (next, goes, it.1), it.2)

pub led_reads : (p : Progress) (tokens : List Lexeme) (s : State) → led (Some p.state) tokens ≡ Some s → Led p tokens s
led_reads p [] s e = (p, refl, cc)
led_reads p (t ∷ tokens) s e = led_on p t tokens s (after p.state t) refl e (λ x. led_reads x tokens s)

end_some : (o : Option State) → is_end o ≡ true → (s : State) × (o ≡ Some s) × (is_whole s ≡ true)
end_some None e = absurd (cc)
end_some (Some s) e = (s, refl, e)

-- the machine accepts the tokens of files, and no others

pub file_accepted : (tokens : List Lexeme) → IsFile tokens → accepts tokens ≡ true
file_accepted tokens is = subst (λ ts. accepts ts ≡ true) (sym is.are_its) (file_end is.parts)

pub accepted_file : (tokens : List Lexeme) → accepts tokens ≡ true → IsFile tokens
accepted_file tokens e =
    let end = end_some (led (Some state.Format) tokens) e in
    let it = led_reads (start state.Format) tokens end.0 end.1 in
    let read = reads_file tokens it.0 it.1 (subst (λ s. is_whole s ≡ true) (sym it.2) end.2) in
    record { parts = read.parts; are_its = read.are_its }

-- some file begins with the tokens that lead anywhere, and with no others

pub led_begin : (tokens : List Lexeme) (s : State) → led (Some state.Format) tokens ≡ Some s → BeginsFile tokens
led_begin tokens s e = let it = led_reads (start state.Format) tokens s e in reads_begin tokens it.0 it.1

begin_led_to : (o : Option State) (more : List Lexeme) → is_end (led o more) ≡ true → (s : State) × (o ≡ Some s)
begin_led_to None more e = absurd (no_end more e)
begin_led_to (Some s) more e = (s, refl)

pub begin_led : (tokens : List Lexeme) → BeginsFile tokens → (s : State) × (led (Some state.Format) tokens ≡ Some s)
begin_led tokens begins =
    begin_led_to (led (Some state.Format) tokens) begins.more
    (subst (λ o. is_end o ≡ true) (led-append (Some state.Format) tokens begins.more) (file_accepted (tokens ++ begins.more) begins.whole))

-- no file goes on where the machine doesn't, or ends where it may not

pub no_file_goes : (tokens : List Lexeme) (q : Progress) (token : Lexeme) → Reads (start state.Format) tokens q
    → after q.state token ≡ None → BeginsFile (tokens ++ token ∷ []) → ⊥
no_file_goes tokens q token reads stops begins =
    let goes = begin_led (tokens ++ token ∷ []) begins in
    let there = reads_led (start state.Format) tokens q reads in
    let then = led-append (Some state.Format) tokens (token ∷ []) ∙ ap (λ o. led o (token ∷ [])) there in
    absurd (cc (goes.1, then, stops))

pub no_file_ends : (tokens : List Lexeme) (q : Progress) → Reads (start state.Format) tokens q → is_whole q.state ≡ false
    → IsFile tokens → ⊥
no_file_ends tokens q reads open_ is =
    let there = ap (λ o. is_end o) (reads_led (start state.Format) tokens q reads) in
    absurd (cc (file_accepted tokens is, there, open_))

-- a token is the name of one player at most
pub players_more : (b : Bool) (n : ℕ) → cond b (n + 1) n ≤ n + 1
players_more true n = omega arith
players_more false n = omega arith
