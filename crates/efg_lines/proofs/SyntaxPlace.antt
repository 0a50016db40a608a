-- The place at which no file goes on: there is one at most, and none where the tokens of the bytes are a file's.
use Rattle.std.proofs.Common.{◌≡◌, ℕ, ◌+◌, ◌-◌, ◌≤◌, true, false, List, [], ◌∷◌, ◌++◌, length, None, refl, ap, sym, subst, ◌∙◌, ◌⊎◌, inl, inr, arith, append_assoc, append-nil, length-drop}
use Rattle.efg_token.specs.Cursor.{Cursor, left}
use Rattle.efg_token.specs.Front.{Front, front, found, blank, unended, gap}
use Rattle.efg_token.specs.Lexeme.{Lexeme}
use Rattle.efg_token.specs.Tokens.{AreTokens}
use Rattle.efg_lines.specs.declared.state.State.TheVariants.{Format}
use Rattle.efg_lines.specs.Draft.{Progress, start, finished}
use Rattle.efg_lines.specs.File.{FileView}
use Rattle.efg_lines.specs.FileTokens.{IsFileOf, HasFile, StandFirst, StopsBehind, StopsAt, place}
use Rattle.efg_lines.specs.Grammar.{file, IsFile, BeginsFile}
use Rattle.efg_lines.specs.Machine.{after, is_whole}
use Rattle.efg_lines.proofs.ReadsBack.{Reads, reads_file, reads_begin, no_file_goes, no_file_ends}

-- one token more stands first
pub stand-push : (bytes : List ℕ) (tokens : List Lexeme) (rest : List ℕ) (token : Lexeme) (behind : List ℕ)
    → StandFirst bytes tokens rest → front rest ≡ found token behind → StandFirst bytes (tokens ++ token ∷ []) behind
stand-push bytes [] rest token behind stand first = (behind, subst (λ (b : List ℕ). front b ≡ found token behind) (sym stand) first, refl)
stand-push bytes (t ∷ tokens) rest token behind stand first = (stand.0, stand.1, stand-push stand.0 tokens rest token behind stand.2 first)

-- nothing stands behind them: they are all tokens
stand_whole : (bytes : List ℕ) (tokens : List Lexeme) (rest : List ℕ) → StandFirst bytes tokens rest → front rest ≡ blank
    → AreTokens bytes tokens
stand_whole bytes [] rest stand over = subst (λ (b : List ℕ). front b ≡ blank) (sym stand) over
stand_whole bytes (t ∷ tokens) rest stand over = (stand.0, stand.1, stand_whole stand.0 tokens rest stand.2 over)

-- tokens that lead to an end are those of a file
pub file_read : (bytes : List ℕ) (tokens : List Lexeme) (rest : List ℕ) (q : Progress) (raw : FileView)
    → StandFirst bytes tokens rest → Reads (start Format) tokens q → front rest ≡ blank → is_whole q.state ≡ true
    → raw ≡ finished q.state q → IsFileOf bytes raw
file_read bytes tokens rest q raw stand reads over whole same =
    let read = reads_file tokens q reads whole in
    let its = subst (λ ts. AreTokens bytes ts) read.are_its (stand_whole bytes tokens rest stand over) in
    record { has_file = record { parts = read.parts; are_tokens = its }; kept = same ∙ read.its_file }

-- where the machine stops, no file goes on

module _ (bytes : List ℕ) (tokens : List Lexeme) (rest : List ℕ) (q : Progress) (stand : StandFirst bytes tokens rest)
    (reads : Reads (start Format) tokens q) where
  stops_with : (f : Front) (at : ℕ) → front rest ≡ f → StopsBehind tokens f → at ≡ place bytes rest f → StopsAt bytes at
  stops_with f at first stops at_place = record {
    tokens = tokens;
    rest = rest;
    stand = stand;
    begins = reads_begin tokens q reads;
    stops = subst (λ (x : Front). StopsBehind tokens x) (sym first) stops;
    at_place = subst (λ (x : Front). at ≡ place bytes rest x) (sym first) at_place;
  }

  pub stops_at_end : front rest ≡ blank → is_whole q.state ≡ false → StopsAt bytes (length bytes)
  stops_at_end over ends = stops_with blank (length bytes) over (no_file_ends tokens q reads ends) refl

  pub stops_at_token : (token : Lexeme) (behind : List ℕ) (at : ℕ) → front rest ≡ found token behind → after q.state token ≡ None
      → at ≡ length bytes - length rest + gap rest → StopsAt bytes at
  stops_at_token token behind at first stops at_place =
      stops_with (found token behind) at first (no_file_goes tokens q token reads stops) at_place

  pub stops_at_unended : (at : ℕ) → front rest ≡ unended → at ≡ length bytes - length rest + gap rest → StopsAt bytes at
  stops_at_unended at first at_place = stops_with unended at first tt at_place

-- what is left behind `at` bytes begins there
pub place_at : (bytes : List ℕ) (cursor : Cursor) (at : ℕ) → cursor.bytes ≡ bytes → cursor.at ≤ length bytes
    → at ≡ cursor.at + gap (left cursor)
    → at ≡ length bytes - length (left cursor) + gap (left cursor)
place_at bytes cursor at same within is =
    let size : length (left cursor) ≡ length bytes - cursor.at = length-drop cursor.at cursor.bytes ∙ ap (λ b. length b - cursor.at) same in
    omega (arith, size, within, is)

-- a whole token list begins with the tokens that stand first
record GoesOn (rest : List ℕ) (tokens all : List Lexeme) : Type 0 where
  more : List Lexeme
  joined : all ≡ tokens ++ more
  are : AreTokens rest more

goes_on : (bytes : List ℕ) (tokens : List Lexeme) (rest : List ℕ) (all : List Lexeme) → StandFirst bytes tokens rest
    → AreTokens bytes all → GoesOn rest tokens all
goes_on bytes [] rest all stand are = record { more = all; joined = refl; are = subst (λ (b : List ℕ). AreTokens b all) stand are }
goes_on bytes (t ∷ tokens) rest [] stand are = absurd (cc (stand.1, are))
goes_on bytes (t ∷ tokens) rest (u ∷ all) stand are =
    let same_rest : are.0 ≡ stand.0 = cc (stand.1, are.1) in
    let same : u ≡ t = cc (stand.1, are.1) in
    let on = goes_on stand.0 tokens rest all stand.2 (subst (λ (b : List ℕ). AreTokens b all) same_rest are.2) in
    record { more = on.more; joined = cc (same, on.joined); are = on.are }

stops_no : (rest : List ℕ) (tokens all : List Lexeme) (f : Front) (more : List Lexeme) → front rest ≡ f → StopsBehind tokens f
    → all ≡ tokens ++ more → AreTokens rest more → IsFile all → ⊥
stops_no rest tokens all blank [] first stops joined are is = stops (subst (λ ts. IsFile ts) (joined ∙ append-nil tokens) is)
stops_no rest tokens all blank (u ∷ more) first stops joined are is = absurd (cc (first, are.1))
stops_no rest tokens all (found t r) [] first stops joined are is = absurd (cc (first, are))
stops_no rest tokens all (found t r) (u ∷ more) first stops joined are is =
    let same : u ≡ t = cc (first, are.1) in
    stops (record {
      more =
          more;
      whole = subst (λ ts. IsFile ts) (joined ∙ ap (λ x. tokens ++ x ∷ more) same ∙ sym (append_assoc tokens (t ∷ []) more)) is;
    })
stops_no rest tokens all unended [] first stops joined are is = absurd (cc (first, are))
stops_no rest tokens all unended (u ∷ more) first stops joined are is = absurd (cc (first, are.1))

-- bytes in which no file goes on somewhere hold no file
pub no_file_there : (bytes : List ℕ) (at : ℕ) → StopsAt bytes at → HasFile bytes → ⊥
no_file_there bytes at stops has =
    let on = goes_on bytes stops.tokens stops.rest (file has.parts) stops.stand has.are_tokens in
    stops_no stops.rest stops.tokens (file has.parts) (front stops.rest) on.more refl stops.stops on.joined on.are
    (record { parts = has.parts; are_its = refl })

-- Of two lists of tokens that stand first both are the same, or one goes on behind the other.

abbrev Longer : List ℕ → List Lexeme → List Lexeme → Type 0
Longer rest short long =
    (token : Lexeme) × (behind : List ℕ) × (more : List Lexeme) × (front rest ≡ found token behind) × (long ≡ short ++ token ∷ more)

abbrev Compared : List ℕ → List Lexeme → List ℕ → List Lexeme → Type 0
Compared r ts s us = (r ≡ s) ⊎ (Longer r ts us ⊎ Longer s us ts)

longer : (rest : List ℕ) (ts us : List Lexeme) (t u : Lexeme) → u ≡ t → Longer rest ts us → Longer rest (t ∷ ts) (u ∷ us)
longer rest ts us t u same it = (it.0, it.1, it.2, it.3, cc (same, it.4))

compare_on : (r : List ℕ) (ts : List Lexeme) (s : List ℕ) (us : List Lexeme) (t u : Lexeme) → u ≡ t → Compared r ts s us
    → Compared r (t ∷ ts) s (u ∷ us)
compare_on r ts s us t u same (inl it) = inl it
compare_on r ts s us t u same (inr (inl it)) = inr (inl (longer r ts us t u same it))
compare_on r ts s us t u same (inr (inr it)) = inr (inr (longer s us ts u t (sym same) it))

compare : (bytes : List ℕ) (ts : List Lexeme) (r : List ℕ) (us : List Lexeme) (s : List ℕ) → StandFirst bytes ts r
    → StandFirst bytes us s → Compared r ts s us
compare bytes [] r [] s a b = inl (sym a ∙ b)
compare bytes [] r (u ∷ us) s a b = inr (inl (u, b.0, us, subst (λ (x : List ℕ). front x ≡ found u b.0) a b.1, refl))
compare bytes (t ∷ ts) r [] s a b = inr (inr (t, a.0, ts, subst (λ (x : List ℕ). front x ≡ found t a.0) b a.1, refl))
compare bytes (t ∷ ts) r (u ∷ us) s a b =
    let same_rest : b.0 ≡ a.0 = cc (a.1, b.1) in
    let same : u ≡ t = cc (a.1, b.1) in
    compare_on r ts s us t u same (compare a.0 ts r us s a.2 (subst (λ (x : List ℕ). StandFirst x us s) same_rest b.2))

-- a file that begins with many tokens begins with the first of them
begins_shorter : (short long : List Lexeme) (token : Lexeme) (more : List Lexeme) → long ≡ short ++ token ∷ more → BeginsFile long
    → BeginsFile (short ++ token ∷ [])
begins_shorter short long token more is begins =
    let joined = ap (λ ts. ts ++ begins.more) is ∙ append_assoc short (token ∷ more) begins.more ∙ sym
    (append_assoc short (token ∷ []) (more ++ begins.more)) in
    record { more = more ++ begins.more; whole = subst (λ ts. IsFile ts) joined begins.whole }

-- where no file goes on behind some tokens, none does behind more
not_longer : (rest : List ℕ) (short long : List Lexeme) (f : Front) → front rest ≡ f → StopsBehind short f
    → Longer rest short long → BeginsFile long → ⊥
not_longer rest short long blank first stops it begins = absurd (cc (first, it.3))
not_longer rest short long unended first stops it begins = absurd (cc (first, it.3))
not_longer rest short long (found t r) first stops it begins =
    let same : it.0 ≡ t = cc (first, it.3) in
    stops (begins_shorter short long t it.2 (it.4 ∙ ap (λ x. short ++ x ∷ it.2) same) begins)

same_place : (bytes : List ℕ) (a b : ℕ) (x : StopsAt bytes a) (y : StopsAt bytes b) → Compared x.rest x.tokens y.rest y.tokens → a ≡ b
same_place bytes a b x y (inl same) = x.at_place ∙ ap (λ r. place bytes r (front r)) same ∙ sym y.at_place
same_place bytes a b x y (inr (inl it)) = absurd (not_longer x.rest x.tokens y.tokens (front x.rest) refl x.stops it y.begins)
same_place bytes a b x y (inr (inr it)) = absurd (not_longer y.rest y.tokens x.tokens (front y.rest) refl y.stops it x.begins)

-- there is one such place
pub one_place : (bytes : List ℕ) (a b : ℕ) → StopsAt bytes a → StopsAt bytes b → a ≡ b
one_place bytes a b x y = same_place bytes a b x y (compare bytes x.tokens x.rest y.tokens y.rest x.stand y.stand)
