-- Fronts of pieces behind known bytes: by cases on what is known before and behind.
use Rattle.std.proofs.Common.{◌≡◌, ℕ, ◌+◌, ◌≤◌, List, [], ◌∷◌, ◌++◌, Some, refl, sym, ap, ◌∙◌, length, length-append, append_assoc}
use Rattle.std.proofs.Common.{append-nil, subst, arith}
use Rattle.std.proofs.KnownBytes.{Appends-nil, Appends-kept, Appends-trans}
use Rattle.std.specs.declared.option.Option.{Option}
use Rattle.std.specs.Io.KnownBytes.{Appends, Keeps}
use Rattle.corr_port.specs.Known.{AppendsFront}

pub front_of_all : (old new : Option (List ℕ)) (piece : List ℕ) → Appends old new piece → AppendsFront old new piece
front_of_all old new piece added = record { front = piece; missing = []; whole = sym (append-nil piece); added = added }

pub front_of_none : (old new : Option (List ℕ)) (piece : List ℕ) → Keeps old new → AppendsFront old new piece
front_of_none old new piece kept =
    record { front = []; missing = piece; whole = refl; added = Appends-kept old old new [] (Appends-nil old) kept }

empty_front : (front missing : List ℕ) → [] ≡ front ++ missing → front ≡ []
empty_front [] missing e = refl
empty_front (byte ∷ rest) missing e = absurd (cc e)

pub only_front_of_none : (old new : Option (List ℕ)) → AppendsFront old new [] → Appends old new []
only_front_of_none old new f = subst (Appends old new) (empty_front f.front f.missing f.whole) f.added

pub fronts_join : (a b c : Option (List ℕ)) (piece more : List ℕ) → Appends a b piece → AppendsFront b c more
    → AppendsFront a c (piece ++ more)
fronts_join a b c piece more first second = record {
  front = piece ++ second.front;
  missing = second.missing;
  whole = ap (λ (bs : List ℕ). piece ++ bs) second.whole ∙ sym (append_assoc piece second.front second.missing);
  added = Appends-trans a b c piece second.front first second.added;
}

pub fronts_within : (old new piece : List ℕ) → AppendsFront (Some old) (Some new) piece
    → (length old ≤ length new) × (length new ≤ length old + length piece)
fronts_within old new piece f =
    let grown : length new ≡ length old + length f.front = ap (λ (bs : List ℕ). length bs) f.added ∙ length-append old f.front in
    let whole : length piece ≡ length f.front + length f.missing =
    ap (λ (bs : List ℕ). length bs) f.whole ∙ length-append f.front f.missing in
    (omega (arith, grown), omega (arith, grown, whole))
