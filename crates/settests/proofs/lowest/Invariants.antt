-- `settests::lowest` meets its contract: the invariant of both loops is that the first answer of the rows left is the first of all.
use Rattle.std.proofs.Common.{◌≡◌, ℕ}
use Rattle.concepts.specs.Concept.{Table}
use Rattle.concepts.specs.Lists.{first}
use Rattle.concepts.specs.RowSet.{RowSet}
use Rattle.procedure.specs.SetTests.{concepts}
use Rattle.rowset.specs.SetOf.{set_of}
use Rattle.problem.specs.Decoded.{table_of, of_kind}
use Rattle.settests.specs.Answers.{only, open_arguments}
use Rattle.settests.specs.MaskLoops.{common_word, Loop}
use Rattle.settests.specs.AnswerLaws.{lowest_open}
use Rattle.settests.proofs.lowest.Given as goal

-- the first answer of the rows x is the first of all
abbrev pub First : Table → ℕ → RowSet → RowSet → Type 0
First t kind set x = lowest_open t kind set x ≡ first (only (of_kind kind) (open_arguments kind set)) (concepts t set)

abbrev pub invariant-loop-i : goal.invariant-loop-i
invariant-loop-i l = (goal.iterator-loop-i).can_next l.i-iterator × (goal.iterator-loop-i).is_finite l.i-iterator
    × Loop l.problem (of_kind l.kind) l.mask l.s l.at (First (table_of l.problem) l.kind (set_of l.s l.at)) l.j l.i-iterator.rest

abbrev pub invariant-loop-j : goal.invariant-loop-j
invariant-loop-j l = Loop l.problem (of_kind l.kind) l.mask l.s l.at (First (table_of l.problem) l.kind (set_of l.s l.at)) l.j
    (common_word l.problem l.mask l.s l.at l.j)
