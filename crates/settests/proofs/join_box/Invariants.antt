-- `settests::join_box` meets its contract: the invariant of both loops is that the set so far and the arguments of the rows left make the whole set.
use Rattle.std.proofs.Common.{◌≡◌, ℕ, List, length}
use Rattle.concepts.specs.Inclusion.{narrower}
use Rattle.concepts.specs.RowSet.{RowSet, union, from_list}
use Rattle.procedure.specs.SetTests.{box}
use Rattle.rowset.specs.SetOf.{set_of}
use Rattle.problem.specs.Decoded.{table_of, problem_of, universal}
use Rattle.settests.specs.MaskLoops.{common_word, Loop}
use Rattle.settests.specs.AnswerLaws.{left_parts}
use Rattle.settests.proofs.join_box.Given as goal

-- the loop goes over the rows along the role
abbrev pub Along : List ℕ → ℕ → List ℕ → ℕ → ℕ → (RowSet → Type 0) → ℕ → ℕ → Type 0
Along problem mask s at role = Loop problem (universal (narrower (table_of problem)) role) mask s at

-- the set so far and the arguments of the rows x are the first set and what is to join it
abbrev pub Gathered : List ℕ → List ℕ → ℕ → RowSet → List ℕ → RowSet → Type 0
Gathered problem out₀ to joined out x = (length out ≡ length out₀) ×
    (union (set_of out to) (left_parts (table_of problem) x) ≡ union (set_of out₀ to) joined)

abbrev pub invariant-loop-i : goal.invariant-loop-i
invariant-loop-i l = (goal.iterator-loop-i).can_next l.i-iterator × (goal.iterator-loop-i).is_finite l.i-iterator
    × Along l.problem l.mask l.s l.at l.role (Gathered l.problem l.fn.out l.to (from_list (box (problem_of l.problem) (set_of l.s l.at) l.role)) l.out)
    l.j l.i-iterator.rest

abbrev pub invariant-loop-j : goal.invariant-loop-j
invariant-loop-j l = Along l.problem l.mask l.s l.at l.role (Gathered l.problem l.fn.out l.to
    (from_list (box (problem_of l.problem) (set_of l.s l.at) l.role)) l.out) l.j (common_word l.problem l.mask l.s l.at l.j)
