-- What is read has the first form. A step that found a token tells which one stands first; what is behind it is known by
-- the steps that follow.
use Rattle.std.proofs.Common.{◌≡◌, ℕ, ◌<◌, Bool, true, false, cond, List, [], ◌∷◌, ◌++◌, Option, Some, None, refl, ap, ◌∙◌, subst, ◌⊎◌, inl, inr, arith}
use Rattle.std.specs.Prelude.{codes, nat_eq}
use Rattle.std.proofs.lemmas.Option.{cond_some, same_Some, some_pair_parts, none-some, option_and_then_some}
use Rattle.std.proofs.lemmas.Bool.{eqb-false}
use Rattle.std.proofs.lemmas.Slice.Eq.{bytes_eq-Decides}
use Rattle.corr_game.specs.declared.payoffs.Pay.{Pay}
use Rattle.efg_token.specs.Front.{Front, front, found, blank, unended}
use Rattle.efg_token.specs.Lexeme.{Lexeme, text, brace_left, brace_right, comma, word}
use Rattle.efg_token.specs.Tokens.{AreTokens}
use Rattle.one_node_file.specs.Amount.{short_number, amount}
use Rattle.one_node_file.specs.FirstForm.{HasFirstForm, text_or_none, comma_or_none}
use Rattle.one_node_file.specs.Reading.{◌>>=◌, token_in, passes_at, word_at, word_in, behind_text, behind_comma, is_text, is_comma, is_word, is_brace_left, is_brace_right, is_blank, header_at, outcome_at, pays_at, leaf_at, first_form_at}

-- the two ways of a test
chosen : {A : Type 0} (b : Bool) (x y z : A) → cond b x y ≡ z → ((b ≡ true) × (x ≡ z)) ⊎ ((b ≡ false) × (y ≡ z))
chosen true x y z e = inl (refl, e)
chosen false x y z e = inr (refl, e)

-- a test before a step that found something
cond_opened : {A : Type 0} (b : Bool) (o : Option A) (y : A) → cond b o None ≡ Some y → (b ≡ true) × (o ≡ Some y)
cond_opened true o y e = (refl, e)
cond_opened false o y e = absurd (cc)

-- the token that a step passed

passed_in : (test : Lexeme → Bool) (f : Front) (rest : List ℕ) → (token_in f >>= λ it. cond (test it.0) (Some it.1) None) ≡ Some rest → (token : Lexeme) × (f ≡ found token rest) × (test token ≡ true)
passed_in test blank rest e = absurd (cc)
passed_in test unended rest e = absurd (cc)
passed_in test (found t r) rest e =
    let b = cond_some (test t) r rest e in
    (t, ap (λ r. found t r) b.1, b.0)

passed : (test : Lexeme → Bool) (bytes rest : List ℕ) → passes_at test bytes ≡ Some rest → (token : Lexeme) × (front bytes ≡ found token rest) × (test token ≡ true)
passed test bytes rest e = passed_in test (front bytes) rest e

is_text_true : (token : Lexeme) → is_text token ≡ true → (content : List ℕ) × (token ≡ text content)
is_text_true (text content) e = (content, refl)
is_text_true brace_left e = absurd (cc)
is_text_true brace_right e = absurd (cc)
is_text_true comma e = absurd (cc)
is_text_true (word bytes) e = absurd (cc)

is_left_true : (token : Lexeme) → is_brace_left token ≡ true → token ≡ brace_left
is_left_true (text content) e = absurd (cc)
is_left_true brace_left e = refl
is_left_true brace_right e = absurd (cc)
is_left_true comma e = absurd (cc)
is_left_true (word bytes) e = absurd (cc)

is_right_true : (token : Lexeme) → is_brace_right token ≡ true → token ≡ brace_right
is_right_true (text content) e = absurd (cc)
is_right_true brace_left e = absurd (cc)
is_right_true brace_right e = refl
is_right_true comma e = absurd (cc)
is_right_true (word bytes) e = absurd (cc)

is_comma_true : (token : Lexeme) → is_comma token ≡ true → token ≡ comma
is_comma_true (text content) e = absurd (cc)
is_comma_true brace_left e = absurd (cc)
is_comma_true brace_right e = absurd (cc)
is_comma_true comma e = refl
is_comma_true (word bytes) e = absurd (cc)

is_word_true : (expected : List ℕ) (token : Lexeme) → is_word expected token ≡ true → token ≡ word expected
is_word_true expected (text content) e = absurd (cc)
is_word_true expected brace_left e = absurd (cc)
is_word_true expected brace_right e = absurd (cc)
is_word_true expected comma e = absurd (cc)
is_word_true expected (word bytes) e = ap word ((bytes_eq-Decides bytes expected).0 e)

word_in_some : (token : Lexeme) (content : List ℕ) → word_in token ≡ Some content → token ≡ word content
word_in_some (text bytes) content e = absurd (cc)
word_in_some brace_left content e = absurd (cc)
word_in_some brace_right content e = absurd (cc)
word_in_some comma content e = absurd (cc)
word_in_some (word bytes) content e = cc

-- steps that pass one token

text_passed : (bytes rest : List ℕ) → passes_at is_text bytes ≡ Some rest → (content : List ℕ) × (front bytes ≡ found (text content) rest)
text_passed bytes rest e =
    let a = passed is_text bytes rest e in
    let b = is_text_true a.0 a.2 in
    (b.0, cc (a.1, b.1))

left_passed : (bytes rest : List ℕ) → passes_at is_brace_left bytes ≡ Some rest → front bytes ≡ found brace_left rest
left_passed bytes rest e =
    let a = passed is_brace_left bytes rest e in
    cc (a.1, is_left_true a.0 a.2)

right_passed : (bytes rest : List ℕ) → passes_at is_brace_right bytes ≡ Some rest → front bytes ≡ found brace_right rest
right_passed bytes rest e =
    let a = passed is_brace_right bytes rest e in
    cc (a.1, is_right_true a.0 a.2)

word_passed : (expected bytes rest : List ℕ) → passes_at (is_word expected) bytes ≡ Some rest → front bytes ≡ found (word expected) rest
word_passed expected bytes rest e =
    let a = passed (is_word expected) bytes rest e in
    cc (a.1, is_word_true expected a.0 a.2)

any_word_in : (f : Front) (content rest : List ℕ) → ◌>>=◌ {B = List ℕ × List ℕ} (token_in f) (λ it. ◌>>=◌ {B = List ℕ × List ℕ} (word_in it.0) (λ bytes. Some (bytes, it.1))) ≡ Some (content, rest) → f ≡ found (word content) rest
any_word_in blank content rest e = absurd (cc)
any_word_in unended content rest e = absurd (cc)
any_word_in (found (text bytes) r) content rest e = absurd (cc)
any_word_in (found brace_left r) content rest e = absurd (cc)
any_word_in (found brace_right r) content rest e = absurd (cc)
any_word_in (found comma r) content rest e = absurd (cc)
any_word_in (found (word bytes) r) content rest e = let parts = some_pair_parts bytes content r rest e in cc (parts.0, parts.1)

any_word_passed : (bytes content rest : List ℕ) → word_at bytes ≡ Some (content, rest) → front bytes ≡ found (word content) rest
any_word_passed bytes content rest e = any_word_in (front bytes) content rest e

-- the token behind an optional one

abbrev Skips : (Lexeme → Bool) → Front → Lexeme → List ℕ → Type 0
Skips test f token rest = (f ≡ found token rest) ⊎ ((optional : Lexeme) × (mid : List ℕ) × (f ≡ found optional mid) × (test optional ≡ true) × (front mid ≡ found token rest))

first_some : (f : Front) (token : Lexeme) (rest : List ℕ) → token_in f ≡ Some (token, rest) → f ≡ found token rest
first_some blank token rest e = absurd (cc)
first_some unended token rest e = absurd (cc)
first_some (found t r) token rest e = let parts = some_pair_parts t token r rest e in cc (parts.0, parts.1)

skipped_in : (test : Lexeme → Bool) (f : Front) (token : Lexeme) (rest : List ℕ) → (token_in f >>= λ it. cond (test it.0) (token_in (front it.1)) (Some it)) ≡ Some (token, rest) → Skips test f token rest
skipped_in test blank token rest e = absurd (cc)
skipped_in test unended token rest e = absurd (cc)
skipped_in test (found t r) token rest e =
    elim (chosen (test t) (token_in (front r)) (Some (t, r)) (Some (token, rest)) e) [
      | inl it ↦ inr (t, r, refl, it.0, first_some (front r) token rest it.1)
      | inr it ↦ inl (first_some (found t r) token rest it.1)
    ]

text_skipped : (bytes : List ℕ) (token : Lexeme) (rest : List ℕ) → behind_text bytes ≡ Some (token, rest) → (content : Option (List ℕ)) × ((ts : List Lexeme) → AreTokens rest ts → AreTokens bytes (text_or_none content ++ token ∷ ts))
text_skipped bytes token rest e =
    elim (skipped_in is_text (front bytes) token rest e) [
      | inl first ↦ (None, λ ts are. (rest, first, are))
      | inr it ↦ let content = is_text_true it.0 it.3 in (Some content.0, λ ts are. (it.1, cc (it.2, content.1), (rest, it.4, are)))
    ]

comma_skipped : (bytes : List ℕ) (token : Lexeme) (rest : List ℕ) → behind_comma bytes ≡ Some (token, rest) → (has_comma : Bool) × ((ts : List Lexeme) → AreTokens rest ts → AreTokens bytes (comma_or_none has_comma ++ token ∷ ts))
comma_skipped bytes token rest e =
    elim (skipped_in is_comma (front bytes) token rest e) [
      | inl first ↦ (false, λ ts are. (rest, first, are))
      | inr it ↦ (true, λ ts are. (it.1, cc (it.2, is_comma_true it.0 it.3), (rest, it.4, are)))
    ]

-- the parts of the form, one after the other

record HeaderFound (bytes rest : List ℕ) : Type 0 where
  title : List ℕ
  name_one : List ℕ
  name_two : List ℕ
  on : (ts : List Lexeme) → AreTokens rest ts → AreTokens bytes (word (codes "EFG") ∷ word (codes "2") ∷ word (codes "R") ∷ text title ∷ brace_left ∷ text name_one ∷ text name_two ∷ brace_right ∷ ts)

header_found : (bytes rest : List ℕ) → header_at bytes ≡ Some rest → HeaderFound bytes rest
unfolding header_at
header_found bytes rest e =
    option_and_then_some _ (passes_at (is_word (codes "EFG")) bytes) rest e (λ a first e.
    option_and_then_some _ (passes_at (is_word (codes "2")) a) rest e (λ b second e.
    option_and_then_some _ (passes_at (is_word (codes "R")) b) rest e (λ c third e.
    option_and_then_some _ (passes_at is_text c) rest e (λ d title e.
    option_and_then_some _ (passes_at is_brace_left d) rest e (λ f brace e.
    option_and_then_some _ (passes_at is_text f) rest e (λ g one e.
    option_and_then_some _ (passes_at is_text g) rest e (λ h two e.
    let is_title = text_passed c d title in
    let is_one = text_passed f g one in
    let is_two = text_passed g h two in
    record {
      title = is_title.0;
      name_one = is_one.0;
      name_two = is_two.0;
      on = λ ts are. (
        a,
        word_passed (codes "EFG") bytes a first,
        (
          b,
          word_passed (codes "2") a b second,
          (
            c,
            word_passed (codes "R") b c third,
            (
              d,
              is_title.1,
              (
                f,
                left_passed d f brace,
                (
                  g,
                  is_one.1,
                  (
                    h,
                    is_two.1,
                    (rest, right_passed h rest e, are),
                  ),
                ),
              ),
            ),
          ),
        ),
      );
    })))))))

record OutcomeFound (bytes rest : List ℕ) : Type 0 where
  content : List ℕ
  number : ℕ
  value : short_number content ≡ Some number
  not_null : 0 < number
  first : front bytes ≡ found (word content) rest

outcome_found : (bytes rest : List ℕ) → outcome_at bytes ≡ Some rest → OutcomeFound bytes rest
unfolding outcome_at
outcome_found bytes rest e =
    option_and_then_some _ (word_at bytes) rest e (λ it first e.
    option_and_then_some _ (short_number it.0) rest e (λ number value e.
    elim (chosen (nat_eq number 0) None (Some it.1) (Some rest) e) [
      | inl null ↦ absurd (none-some rest null.1)
      | inr other ↦ record {
        content = it.0;
        number = number;
        value = value;
        not_null = grind (arith, eqb-false, other.0);
        first = cc (any_word_passed bytes it.0 it.1 first, same_Some it.1 rest other.1);
      }
    ]))

record PaysFound (bytes : List ℕ) (pay : Pay) (rest : List ℕ) : Type 0 where
  outcome_name : Option (List ℕ)
  first : List ℕ
  has_comma : Bool
  second : List ℕ
  one : amount first ≡ Some pay.one
  two : amount second ≡ Some pay.two
  on : front rest ≡ blank → AreTokens bytes (text_or_none outcome_name ++ (brace_left ∷ word first ∷ comma_or_none has_comma ++ (word second ∷ brace_right ∷ [])))

pays_found : (bytes : List ℕ) (pay : Pay) (rest : List ℕ) → pays_at bytes ≡ Some (pay, rest) → PaysFound bytes pay rest
unfolding pays_at
pays_found bytes pay rest e =
    option_and_then_some _ (behind_text bytes) (pay, rest) e (λ brace skipped e.
    option_and_then_some _ (cond (is_brace_left brace.0) (word_at brace.1) None) (pay, rest) e (λ it tested e.
    option_and_then_some _ (amount it.0) (pay, rest) e (λ one is_one e.
    option_and_then_some _ (behind_comma it.1) (pay, rest) e (λ behind comma_read e.
    option_and_then_some _ (word_in behind.0) (pay, rest) e (λ second is_word e.
    option_and_then_some _ (amount second) (pay, rest) e (λ two is_two e.
    option_and_then_some _ (passes_at is_brace_right behind.1) (pay, rest) e (λ last closed e.
    let opened = cond_opened (is_brace_left brace.0) (word_at brace.1) it tested in
    let same = some_pair_parts {A = Pay} {B = List ℕ} (record { one = one; two = two }) pay last rest e in
    let text_before = text_skipped bytes brace.0 brace.1 skipped in
    let comma_before = comma_skipped it.1 behind.0 behind.1 comma_read in
    record {
      outcome_name = text_before.0;
      first = it.0;
      has_comma = comma_before.0;
      second = second;
      one = is_one ∙ ap (λ (p : Pay). Some p.one) same.0;
      two = is_two ∙ ap (λ (p : Pay). Some p.two) same.0;
      on = λ over.
          let ends : AreTokens behind.1 (brace_right ∷ []) = (last, right_passed behind.1 last closed, ap front same.1 ∙ over) in
          let amounts = subst (λ t. AreTokens it.1 (comma_or_none comma_before.0 ++ t ∷ brace_right ∷ [])) (word_in_some behind.0 second is_word) (comma_before.1 (brace_right ∷ []) ends) in
          let ts : List Lexeme = word it.0 ∷ comma_or_none comma_before.0 ++ (word second ∷ brace_right ∷ []) in
          subst (λ t. AreTokens bytes (text_or_none text_before.0 ++ t ∷ ts)) (is_left_true brace.0 opened.0) (text_before.1 ts (it.1, any_word_passed brace.1 it.0 it.1 opened.1, amounts));
    })))))))

record LeafFound (bytes : List ℕ) (pay : Pay) (rest : List ℕ) : Type 0 where
  comment : Option (List ℕ)
  node : List ℕ
  before_outcome : List ℕ
  before_pays : List ℕ
  outcome : OutcomeFound before_outcome before_pays
  pays : PaysFound before_pays pay rest
  on : front rest ≡ blank → AreTokens bytes (text_or_none comment ++ (word (codes "t") ∷ text node ∷ word outcome.content ∷ text_or_none pays.outcome_name ++ (brace_left ∷ word pays.first ∷ comma_or_none pays.has_comma ++ (word pays.second ∷ brace_right ∷ []))))

leaf_found : (bytes : List ℕ) (pay : Pay) (rest : List ℕ) → leaf_at bytes ≡ Some (pay, rest) → LeafFound bytes pay rest
unfolding leaf_at
leaf_found bytes pay rest e =
    option_and_then_some _ (behind_text bytes) (pay, rest) e (λ letter skipped e.
    option_and_then_some _ (cond (is_word (codes "t") letter.0) (passes_at is_text letter.1) None) (pay, rest) e (λ a tested e.
    option_and_then_some _ (outcome_at a) (pay, rest) e (λ b numbered e.
    let opened = cond_opened (is_word (codes "t") letter.0) (passes_at is_text letter.1) a tested in
    let before = text_skipped bytes letter.0 letter.1 skipped in
    let name = text_passed letter.1 a opened.1 in
    let outcome = outcome_found a b numbered in
    let pays = pays_found b pay rest e in
    record {
      comment = before.0;
      node = name.0;
      before_outcome = a;
      before_pays = b;
      outcome = outcome;
      pays = pays;
      on = λ over.
          let ts : List Lexeme = text name.0 ∷ word outcome.content ∷ text_or_none pays.outcome_name ++ (brace_left ∷ word pays.first ∷ comma_or_none pays.has_comma ++ (word pays.second ∷ brace_right ∷ [])) in
          subst (λ t. AreTokens bytes (text_or_none before.0 ++ t ∷ ts)) (is_word_true (codes "t") letter.0 opened.0) (before.1 ts (a, name.1, (b, outcome.first, pays.on over)));
    })))

blank_is : (f : Front) → is_blank f ≡ true → f ≡ blank
blank_is blank e = refl
blank_is unended e = absurd (cc)
blank_is (found t r) e = absurd (cc)

-- what is read has the first form
pub read_found : (bytes : List ℕ) (pay : Pay) → first_form_at bytes ≡ Some pay → HasFirstForm bytes pay
unfolding first_form_at
read_found bytes pay e =
    option_and_then_some _ (header_at bytes) pay e (λ nodes started e.
    option_and_then_some _ (leaf_at nodes) pay e (λ it node e.
    let ended = cond_some (is_blank (front it.1)) it.0 pay e in
    let header = header_found bytes nodes started in
    let with_rest : Pay → Option (Pay × List ℕ) = λ p. Some (p, it.1) in
    let leaf = leaf_found nodes pay it.1 (node ∙ ap with_rest ended.1) in
    record {
      parts = record {
        title = header.title;
        name_one = header.name_one;
        name_two = header.name_two;
        comment = leaf.comment;
        node = leaf.node;
        outcome = leaf.outcome.content;
        outcome_name = leaf.pays.outcome_name;
        first = leaf.pays.first;
        has_comma = leaf.pays.has_comma;
        second = leaf.pays.second;
      };
      are_tokens = header.on _ (leaf.on (blank_is (front it.1) ended.0));
      says = record {
        number = leaf.outcome.number;
        outcome = leaf.outcome.value;
        not_null = leaf.outcome.not_null;
        one = leaf.pays.one;
        two = leaf.pays.two;
      };
    }))
