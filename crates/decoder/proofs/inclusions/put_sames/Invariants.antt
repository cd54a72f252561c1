-- `decoder::inclusions::put_sames` meets its contract: the invariant is that each role so far is narrower than itself.
use Prim.Native.Nat.{◌≤◌}
use Rattle.decoder.specs.Chaining.{Sames}
use Rattle.decoder.proofs.inclusions.put_sames.Given as goal

abbrev pub invariant-loop-code : goal.invariant-loop-code
invariant-loop-code l = (l.code ≤ 32) × Sames l.code l.initial.out l.out
