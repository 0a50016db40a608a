-- A front of a piece and the front of what is left of it are a front of the piece: by taking from a list in two steps.
use Rattle.std.proofs.Common.{◌≡◌, ℕ, ◌+◌, List, Result, Ok, Err, OnErr, refl, sym, ap, ◌∙◌, subst, take, drop, take-append-drop}
use Rattle.std.proofs.Math.Seq.{take-add}
use Rattle.std.specs.declared.option.Option.{Option}
use Rattle.std.proofs.KnownBytes.{Appends-trans, Appends-kept}
use Rattle.std.specs.Io.KnownBytes.{Appends, Keeps}
use Rattle.corr_port.specs.Known.{AppendsFront}

-- what holds of any answer holds of an error
pub OnErr-always : {T E P : Type 0} (r : Result T E) → P → OnErr r P
OnErr-always (Ok x) p = tt
OnErr-always (Err e) p = p

-- the first n bytes and then the first m of the rest
pub Appends-more : (a b c : Option (List ℕ)) (piece : List ℕ) (n m : ℕ) → Appends a b (take n piece) → Appends b c (take m (drop n piece)) → Appends a c (take (n + m) piece)
Appends-more a b c piece n m p q = subst (Appends a c) (sym (take-add n m piece)) (Appends-trans a b c _ _ p q)

-- the first n bytes, and then a call that changes nothing
pub AppendsFront-kept : (a b c : Option (List ℕ)) (piece : List ℕ) (n : ℕ) → Appends a b (take n piece) → Keeps b c → AppendsFront a c piece
AppendsFront-kept a b c piece n p q = record {
  front = take n piece;
  missing = drop n piece;
  whole = sym (take-append-drop n piece);
  added = Appends-kept a b c _ p q;
}
