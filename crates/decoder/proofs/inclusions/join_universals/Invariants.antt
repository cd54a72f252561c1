-- `decoder::inclusions::join_universals` meets its contract: the invariant is that the words so far have joined.
use Prim.Native.Nat.{◌≤◌}
use Rattle.problem.specs.Decoded.{used_of}
use Rattle.decoder.specs.Chaining.{JoinsWords}
use Rattle.decoder.proofs.inclusions.join_universals.Given as goal

abbrev pub invariant-loop-j : goal.invariant-loop-j
invariant-loop-j l = (l.j ≤ used_of l.initial.out) × JoinsWords l.j l.narrow l.wide l.initial.out l.out
