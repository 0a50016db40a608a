-- A text says one value at most, so that what is read of it is what is given.
use Rattle.std.proofs.Common.{◌≡◌, ℕ, List, Option, Some, None, MatchOption, ap, refl, subst}
use Rattle.command_words.specs.Table.{Says}

pub said : {V : Type 0} (IsSaid : List ℕ → V → Type 0) (found given : Option V) (text : Option (List ℕ)) (name : List ℕ) → ((x y : V) → IsSaid name x → IsSaid name y → x ≡ y)
    → text ≡ Some name → MatchOption found ((value : V) → IsSaid name value → ⊥) (IsSaid name) → Says IsSaid text given → found ≡ given
said {V} IsSaid found given text name one is reads says = go found given reads (subst (λ (t : Option (List ℕ)). Says IsSaid t given) is says)
  where
    go : (found given : Option V) → MatchOption found ((value : V) → IsSaid name value → ⊥) (IsSaid name) → Says IsSaid (Some name) given → found ≡ given
    go None None none says = refl
    go None (Some value) none says = absurd (none value says)
    go (Some found) None reads says = absurd says
    go (Some found) (Some value) reads says = ap (λ (v : V). Some v) (one found value reads says)
