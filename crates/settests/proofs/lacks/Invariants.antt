-- `settests::lacks` meets its contract: the invariant of both loops is that what the set above lacks of the arguments of the rows left is what it lacks of all.
use Rattle.std.proofs.Common.{◌≡◌, ℕ, List}
use Rattle.concepts.specs.Inclusion.{narrower}
use Rattle.concepts.specs.RowSet.{RowSet, minus}
use Rattle.procedure.specs.SetTests.{lacking}
use Rattle.rowset.specs.SetOf.{set_of}
use Rattle.problem.specs.Decoded.{table_of, problem_of, universal}
use Rattle.settests.specs.MaskLoops.{common_word, Loop}
use Rattle.settests.specs.AnswerLaws.{left_parts}
use Rattle.settests.proofs.lacks.Given as goal

-- the set a lacks of the arguments of the rows x what it lacks of all
abbrev pub Lacked : List ℕ → List ℕ → ℕ → ℕ → RowSet → RowSet → Type 0
Lacked problem s at role a x = minus (left_parts (table_of problem) x) a ≡ lacking (problem_of problem) (set_of s at) role a

-- the loop goes over the rows along the role
abbrev pub Along : List ℕ → ℕ → List ℕ → ℕ → ℕ → RowSet → ℕ → ℕ → Type 0
Along problem mask s at role a = Loop problem (universal (narrower (table_of problem)) role) mask s at (Lacked problem s at role a)

abbrev pub invariant-loop-i : goal.invariant-loop-i
invariant-loop-i l = (goal.iterator-loop-i).can_next l.i-iterator × (goal.iterator-loop-i).is_finite l.i-iterator
    × Along l.problem l.mask l.s l.at l.role (set_of l.above l.there) l.j l.i-iterator.rest

abbrev pub invariant-loop-j : goal.invariant-loop-j
invariant-loop-j l = Along l.problem l.mask l.s l.at l.role (set_of l.above l.there) l.j (common_word l.problem l.mask l.s l.at l.j)
