-- `decoder::inclusions::join_word` meets its contract: the invariant is that the masks so far have joined.
use mathlib.Core.Path.{◌≡◌}
use Prim.Native.Nat.{◌+◌, ◌≤◌}
use lib.ListN.{get_or}
use Rattle.problem.specs.Layout.{narrows_at, role_place}
use Rattle.decoder.specs.Chaining.{JoinsWord}
use Rattle.decoder.proofs.inclusions.join_word.Given as goal

abbrev pub invariant-loop-code : goal.invariant-loop-code
invariant-loop-code l = (l.narrower ≡ get_or l.initial.out (narrows_at + l.narrow) 0) × (l.reached ≡ get_or l.initial.out (role_place l.wide + l.j) 0) ×
    (l.code ≤ 32)
    × JoinsWord l.j l.code l.narrow l.wide l.initial.out l.out
