-- Bytes leave a report's format at one place: of two ways to cut their pieces in two the shorter one stops before a piece with
-- which the longer one goes on.
use Rattle.std.proofs.Common.{◌≡◌, ℕ, ◌≤◌, ◌⊎◌, inl, inr, List, [], ◌∷◌, ◌++◌, length, refl, ap, sym, subst, ◌∙◌, arith}
use Rattle.std.specs.List.{concat}
use Rattle.std.proofs.lemmas.List.{append_assoc, append-nil}
use Rattle.std.proofs.lemmas.List.Folds.{concat-append}
use Rattle.report_form.specs.View.{ReportView}
use Rattle.report_text.specs.ReportText.{report_text}
use Rattle.report_reader.specs.Syntax.{BeginsReport, IsReadFrom, IsSyntaxAt, StopsBehind}
use Rattle.report_reader.proofs.Cutting.{joined}

-- one front of a list goes on to another one
pub record GoesOn {X : Type 0} (short left long : List X) : Type 0 where
  pub more : List X
  pub long_is : long ≡ short ++ more
  pub rest : List X
  pub left_is : left ≡ more ++ rest

-- of two fronts of a list one goes on to the other
pub compared : {X : Type 0} (xs left ys other : List X) → xs ++ left ≡ ys ++ other → GoesOn xs left ys ⊎ GoesOn ys other xs
compared [] left ys other same = inl (record { more = ys; long_is = refl; rest = other; left_is = same })
compared (x ∷ xs) left [] other same = inr (record { more = x ∷ xs; long_is = refl; rest = left; left_is = sym same })
compared (x ∷ xs) left (y ∷ ys) other same =
    let first : x ≡ y = cc in
    let behind : xs ++ left ≡ ys ++ other = cc in
    elim (compared xs left ys other behind) [
      | inl h ↦ inl (record { more = h.more; long_is = (λ i. sym first i ∷ h.long_is i); rest = h.rest; left_is = h.left_is })
      | inr h ↦ inr (record { more = h.more; long_is = (λ i. first i ∷ h.long_is i); rest = h.rest; left_is = h.left_is })
    ]

-- where pieces stop a longer front of a report's pieces is the same
no_longer : (short left long : List (List ℕ)) → StopsBehind short left → BeginsReport long → GoesOn short left long → short ≡ long
no_longer short left long stops begins on =
    go on.more on.rest on.long_is (subst (λ (l : List (List ℕ)). StopsBehind short l) on.left_is stops)
  where
    go : (more rest : List (List ℕ)) → long ≡ short ++ more → StopsBehind short (more ++ rest) → short ≡ long
    go [] rest is stop = sym (append-nil short) ∙ sym is
    go (piece ∷ more) rest is stop = absurd (stop (record {
      report = begins.report;
      ranges = begins.ranges;
      others = more ++ begins.others;
      go_on =
          begins.go_on ∙ ap (λ (ps : List (List ℕ)). ps ++ begins.others) is
          ∙ append_assoc short (piece ∷ more) begins.others
          ∙ sym (append_assoc short (piece ∷ []) (more ++ begins.others));
    }))

same_front : (bytes : List ℕ) (a b : ℕ) (x : IsSyntaxAt bytes a) (y : IsSyntaxAt bytes b) → x.before ≡ y.before
same_front bytes a b x y = elim (compared x.before x.left y.before y.left (sym x.cut ∙ y.cut)) [
  | inl on ↦ no_longer x.before x.left y.before x.stops y.begins on
  | inr on ↦ sym (no_longer y.before y.left x.before y.stops x.begins on)
]

pub one_place : (bytes : List ℕ) (a b : ℕ) → IsSyntaxAt bytes a → IsSyntaxAt bytes b → a ≡ b
one_place bytes a b x y = x.at_place ∙ ap (λ (ps : List (List ℕ)). length (concat ps)) (same_front bytes a b x y) ∙ sym y.at_place

front_within : (xs ys : List ℕ) → length xs ≤ length (xs ++ ys)
front_within [] ys = omega arith
front_within (x ∷ xs) ys = omega (arith, front_within xs ys)

pub place_within : (bytes : List ℕ) (at : ℕ) → IsSyntaxAt bytes at → at ≤ length bytes
place_within bytes at x =
    let whole : bytes ≡ concat x.before ++ concat x.left =
    sym (joined bytes) ∙ ap (λ (ps : List (List ℕ)). concat ps) x.cut ∙ concat-append x.before x.left in
    omega (arith, x.at_place, front_within (concat x.before) (concat x.left), ap (λ (bs : List ℕ). length bs) whole)

pub report_within : (bytes : List ℕ) (report : ReportView) (count : ℕ) → IsReadFrom bytes report count → count ≤ length bytes
report_within bytes report count read =
    omega (arith, read.length_is, front_within (report_text report) read.behind, ap (λ (bs : List ℕ). length bs) read.front)
