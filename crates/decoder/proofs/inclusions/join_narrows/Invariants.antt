-- `decoder::inclusions::join_narrows` meets its contract: the invariant is that the words so far have joined.
use mathlib.Core.Path.{◌≡◌}
use Prim.Native.Nat.{◌+◌, ◌≤◌}
use lib.ListN.{get_or}
use Rattle.problem.specs.Layout.{narrows_at}
use Rattle.decoder.specs.Chaining.{JoinsNarrows}
use Rattle.decoder.proofs.inclusions.join_narrows.Given as goal

abbrev pub invariant-loop-code : goal.invariant-loop-code
invariant-loop-code l = (l.narrower ≡ get_or l.initial.out (narrows_at + l.narrow) 0) × (l.code ≤ 32)
    × JoinsNarrows l.code l.narrow l.wide l.initial.out l.out
