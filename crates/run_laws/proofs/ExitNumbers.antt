-- An exit number that isn't 0 tells the status.
use Rattle.std.proofs.Common.{◌≡◌, ◌↔◌, ◌⊎◌, inl, inr, ℕ, nat_eq, cond, refl, sym, ap, ◌∙◌, arith}
use Rattle.corr_run.specs.declared.status.Status.{Status}
use Rattle.corr_run.specs.declared.status.Status.TheVariants.{Solved, Written, Yes, No, Refused, TooWide, Usage, NoMemory, ReadFault, WriteFault}
use Rattle.corr_run.specs.ExitNumber.{exit_number}

abbrev told : ℕ → Status
told number =
    cond (nat_eq number 1) No (cond (nat_eq number 2) Refused (cond (nat_eq number 3) TooWide (cond (nat_eq number 64) Usage
    (cond (nat_eq number 70) NoMemory (cond (nat_eq number 72) ReadFault WriteFault)))))

back : (status : Status) → (exit_number status ≡ 0) ⊎ (told (exit_number status) ≡ status)
back Solved = inl refl
back Written = inl refl
back Yes = inl refl
back No = inr refl
back Refused = inr refl
back TooWide = inr refl
back Usage = inr refl
back NoMemory = inr refl
back ReadFault = inr refl
back WriteFault = inr refl

pub one_status : (a b : Status) → exit_number a ≡ exit_number b → (a ≡ b) ⊎ (exit_number a ≡ 0)
one_status a b e = elim (back a) [
  | inl none ↦ inr none
  | inr first ↦ elim (back b) [
    | inl none ↦ inr (e ∙ none)
    | inr second ↦ inl (sym first ∙ ap told e ∙ second)
  ]
]

abbrev IsDone : Status → Type 0
IsDone status = (status ≡ Solved) ⊎ ((status ≡ Written) ⊎ (status ≡ Yes))

done : (status : Status) → exit_number status ≡ 0 → IsDone status
done Solved e = inl refl
done Written e = inr (inl refl)
done Yes e = inr (inr refl)
done No e = absurd (omega arith)
done Refused e = absurd (omega arith)
done TooWide e = absurd (omega arith)
done Usage e = absurd (omega arith)
done NoMemory e = absurd (omega arith)
done ReadFault e = absurd (omega arith)
done WriteFault e = absurd (omega arith)

none_else : (status : Status) → IsDone status → exit_number status ≡ 0
none_else status (inl e) = ap exit_number e
none_else status (inr (inl e)) = ap exit_number e
none_else status (inr (inr e)) = ap exit_number e

pub zero_is_done : (status : Status) → (exit_number status ≡ 0) ↔ IsDone status
zero_is_done status = (done status, none_else status)
