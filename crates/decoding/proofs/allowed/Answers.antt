-- `decoding::allowed` meets its contract: the bit that it tests is that of the definition, and a set of 16 bits has no kind above them.
use Rattle.std.proofs.Common.{rules, arith, sym, le-ltb, ◌∙◌}
use lib.Dec.{not_T}
use Rattle.concepts.specs.Tests.{as-false}
use Rattle.concepts.specs.RowSet.{mem}
use Rattle.concepts.specs.RowSetLaws.{mem-lt}
use Rattle.decoding.proofs.allowed.Goals as goal

pub returns-then-kind-lt16 : goal.returns-then-kind-lt16
unfolding mem
returns-then-kind-lt16 c = search rules

pub returns-else-kind-lt16 : goal.returns-else-kind-lt16
returns-else-kind-lt16 c =
    let a = c.args in
    le-ltb a.kind 16 c.if-kind-lt16.false
    ∙ sym (as-false (mem a.kind a.kinds) (not_T (mem a.kind a.kinds) (λ m. omega (arith, mem-lt 16 a.kind a.kinds (omega arith) m))))
