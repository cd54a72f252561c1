-- `settests::names_in` meets its contract: the invariant of both loops is that the names so far and those in the rows left are all names.
use Rattle.std.proofs.Common.{◌≡◌, ℕ, List}
use Rattle.concepts.specs.RowSet.{RowSet, union}
use Rattle.rowset.specs.SetOf.{set_of}
use Rattle.problem.specs.Decoded.{table_of, of_kind}
use Rattle.settests.specs.MaskLoops.{common_word, Loop}
use Rattle.settests.specs.AnswerLaws.{left_parts, names_in}
use Rattle.settests.proofs.names_in.Given as goal

-- the names so far and those in the rows x are all
abbrev pub Gathered : List ℕ → ℕ → List ℕ → ℕ → ℕ → RowSet → Type 0
Gathered problem kind s at names x = union names (left_parts (table_of problem) x) ≡ names_in (table_of problem) kind (set_of s at)

abbrev pub invariant-loop-i : goal.invariant-loop-i
invariant-loop-i l = (goal.iterator-loop-i).can_next l.i-iterator × (goal.iterator-loop-i).is_finite l.i-iterator
    × Loop l.problem (of_kind l.kind) l.mask l.s l.at (Gathered l.problem l.kind l.s l.at l.names) l.j l.i-iterator.rest

abbrev pub invariant-loop-j : goal.invariant-loop-j
invariant-loop-j l = Loop l.problem (of_kind l.kind) l.mask l.s l.at (Gathered l.problem l.kind l.s l.at l.names) l.j
    (common_word l.problem l.mask l.s l.at l.j)
