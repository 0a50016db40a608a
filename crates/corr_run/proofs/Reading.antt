-- What is taken from a source in one call after another was taken from it: by joining what each consumed.
use Rattle.std.proofs.Common.{ℕ, ◌+◌, ◌≤◌, List, ◌++◌, length, arith, length-append}
use Rattle.std.specs.declared.option.Option.{Option}
use Rattle.std.proofs.KnownBytes.{Consumes-trans}
use Rattle.std.specs.Io.KnownBytes.{Consumes}
use Rattle.corr_run.specs.Input.{TakesAtMost}

-- some bytes, and then a few more
pub TakesAtMost-behind : (a b c : Option (List ℕ)) (bytes : List ℕ) (few most : ℕ) → Consumes a b bytes → TakesAtMost few b c → length bytes + few ≤ most → TakesAtMost most a c
TakesAtMost-behind a b c bytes few most before more fits = record {
  taken = bytes ++ more.taken;
  within = omega (arith, length-append bytes more.taken, more.within, fits);
  consumed = Consumes-trans a b c bytes more.taken before more.consumed;
}
