-- `decoder::inclusions::put_inclusions` meets its contract: the invariant is that the inclusions in the rows so far are added.
use Prim.Native.Nat.{◌≤◌}
use Rattle.problem.specs.Decoded.{count_of, RowsDecoded}
use Rattle.decoder.specs.Chaining.{Included}
use Rattle.decoder.proofs.inclusions.put_inclusions.Given as goal

abbrev pub invariant-loop-k : goal.invariant-loop-k
invariant-loop-k l = RowsDecoded l.initial.out × (l.k ≤ count_of l.initial.out) × Included l.initial.out l.k l.out
