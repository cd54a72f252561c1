-- `evaluation::literals` meets its contract: a kind 1 row whose name is there, a kind 2 row whose name is not.
use native.Mathlib.Omega.{arith}
use lib.Bits.{and_le_l}
use Rattle.concepts.specs.RowSet.{union, minus}
use Rattle.rowset.specs.NextLaws.{Words}
use Rattle.evaluation.specs.LiteralCases.{named-asks, literals-word}
use Rattle.evaluation.proofs.literals.Goals as goal

pub named-failed-requires : goal.named-failed-requires
named-failed-requires c =
    let words : Words c.args.problem.now = λ i. omega (arith, c.shared_slice_known-1.given i) in
    (c.requires.0, named-asks c.requires.0 (omega arith) c.of_kind-2.ensures words c.requires.1)

pub named-requires : goal.named-requires
named-requires c =
    let words : Words c.args.problem.now = λ i. omega (arith, c.shared_slice_known-1.given i) in
    (c.requires.0, named-asks c.requires.0 (omega arith) c.of_kind.ensures words c.requires.1)

pub overflow_sub-result : goal.overflow_sub-result
overflow_sub-result c = and_le_l _ _

pub returns : goal.returns
unfolding union minus
returns c =
    let words : Words c.args.problem.now = λ i. omega (arith, c.shared_slice_known-1.given i) in
    literals-word c.of_kind.ensures c.of_kind-2.ensures words c.requires.1 c.named.ensures c.named-failed.ensures
