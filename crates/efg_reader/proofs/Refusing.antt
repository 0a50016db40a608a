-- How the refusal of a call is that of one behind another.
use Rattle.std.proofs.Common.{◌≡◌, List, [], ◌∷◌, Option, Some, None, ◌⊎◌, inl, inr, refl, ap, sym, subst}
use Rattle.std.specs.Prelude.{Result, Ok, Err, IsErrAnd, IfErr, OnOk}
use Rattle.std.proofs.lemmas.Option.{same_Some}
use Rattle.efg_lines.specs.declared.refusal.FileRefusal.{FileRefusal}
use Rattle.efg_lines.specs.declared.refusal.FileRefusal.TheVariants.{NoMemory}
use Rattle.efg_lines.specs.File.{FileView}
use Rattle.efg_reader.specs.FirstRefusal.{file_refusal, IsRefusalOf}
use Rattle.efg_reader.specs.Rules.{first_of, refusal_in, Refuses}

-- a call refuses by a rule that gives its refusal
pub refuses_by : (refusal : FileRefusal) (rule : Option FileRefusal) → rule ≡ Some refusal → Refuses {A = Unit {0}} (Err refusal) rule
refuses_by NoMemory rule is = tt
refuses_by refusal rule is = is

-- and its refusal is that of the rule, or memory ran out
pub refused : (refusal : FileRefusal) (rule : Option FileRefusal) → Refuses {A = Unit {0}} (Err refusal) rule → (refusal ≡ NoMemory) ⊎ (rule ≡ Some refusal)
refused NoMemory rule is = inl refl
refused refusal rule is = inr is

-- a call refuses by a rule as by another that gives the same refusals
pub refuses_through : (refusal : FileRefusal) (rule other : Option FileRefusal) → Refuses {A = Unit {0}} (Err refusal) rule → (rule ≡ Some refusal → other ≡ Some refusal) → Refuses {A = Unit {0}} (Err refusal) other
refuses_through NoMemory rule other is more = tt
refuses_through refusal rule other is more = more is

pub is_refusal : (file : FileView) (refusal : FileRefusal) → file_refusal file ≡ Some refusal → IsRefusalOf file refusal
is_refusal file NoMemory is = tt
is_refusal file refusal is = is

pub refuses_file : (file : FileView) (refusal : FileRefusal) → Refuses {A = Unit {0}} (Err refusal) (file_refusal file) → IsRefusalOf file refusal
refuses_file file NoMemory is = tt
refuses_file file refusal is = is

-- the first of several rules
pub first_of-some : (rule : Option FileRefusal) (rest : List (Option FileRefusal)) (refusal : FileRefusal) → rule ≡ Some refusal → first_of (rule ∷ rest) ≡ Some refusal
first_of-some rule rest refusal is = ap (λ (r : Option FileRefusal). first_of (r ∷ rest)) is

pub first_of-none : (rule : Option FileRefusal) (rest : List (Option FileRefusal)) → rule ≡ None → first_of (rule ∷ rest) ≡ first_of rest
first_of-none rule rest is = ap (λ (r : Option FileRefusal). first_of (r ∷ rest)) is

pub first_of-one : (rule : Option FileRefusal) → first_of (rule ∷ []) ≡ rule
first_of-one None = refl
first_of-one (Some refusal) = refl

-- two lists of rules that agree where the first rule holds
pub first_of-same : (rule : Option FileRefusal) (rest others : List (Option FileRefusal)) → (rule ≡ None → first_of rest ≡ first_of others) → first_of (rule ∷ rest) ≡ first_of (rule ∷ others)
first_of-same None rest others same = same refl
first_of-same (Some refusal) rest others same = refl

pub first_of-head : (rule : Option FileRefusal) (rest : List (Option FileRefusal)) → first_of (rule ∷ rest) ≡ None → rule ≡ None
first_of-head None rest is = refl
first_of-head (Some refusal) rest is = absurd (cc)

-- the exit of a call that hands a refusal on
pub exit_refuses : {A : Type 0} (answer : Result A FileRefusal) (refusal : FileRefusal) (rule : Option FileRefusal) → IsErrAnd answer (λ e. e ≡ refusal) → Refuses {A = Unit {0}} (Err refusal) rule → Refuses answer rule
exit_refuses (Ok x) refusal rule same is = absurd same
exit_refuses (Err e) refusal rule same is = subst (λ (r : FileRefusal). Refuses {A = Unit {0}} (Err r) rule) (sym same) is

pub exit_file : {A : Type 0} (answer : Result A FileRefusal) (refusal : FileRefusal) (file : FileView) → IsErrAnd answer (λ e. e ≡ refusal) → IsRefusalOf file refusal → IfErr answer (IsRefusalOf file)
exit_file (Ok x) refusal file same is = tt
exit_file (Err e) refusal file same is = subst (IsRefusalOf file) (sym same) is

-- a call that refuses by the file's first rule
pub refuses_if_err : {A : Type 0} (answer : Result A FileRefusal) (file : FileView) → Refuses answer (file_refusal file) → IfErr answer (IsRefusalOf file)
refuses_if_err (Ok x) file is = tt
refuses_if_err (Err e) file is = refuses_file file e is

pub refuses_if_ok : {A : Type 0} (answer : Result A FileRefusal) (rule : Option FileRefusal) → Refuses answer rule → OnOk answer (rule ≡ None)
refuses_if_ok (Ok x) rule is = is
refuses_if_ok (Err e) rule is = tt

pub err_from : {A : Type 0} (answer : Result A FileRefusal) (refusal : FileRefusal) → refusal_in answer ≡ Some refusal → answer ≡ Err refusal
err_from (Ok x) refusal is = absurd (cc)
err_from (Err e) refusal is = ap (λ (r : FileRefusal). Err r) (same_Some e refusal is)
