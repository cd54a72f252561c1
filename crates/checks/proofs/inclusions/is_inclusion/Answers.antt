-- `checks::inclusions::is_inclusion` meets its contract: a row that is there is an inclusion by its kind.
use Rattle.std.proofs.Common.{sym, ap, ◌∙◌, ℕ, arith, le-ltb}
use lib.Dec.{eqb}
use Rattle.rulefile.specs.ReadingLaws.{inclusion-row, inclusion-past}
use Rattle.checks.proofs.inclusions.is_inclusion.Goals as goal

pub returns-then-k-row_count : goal.returns-then-k-row_count
returns-then-k-row_count c =
    let a = c.args in
    ap (λ (x : ℕ). eqb x 7) c.row_byte.ensures ∙ sym
    (inclusion-row a.file.now a.k (omega (arith, c.if-k-row_count.true, c.row_count.ensures)))

pub returns-else-k-row_count : goal.returns-else-k-row_count
returns-else-k-row_count c =
    let a = c.args in
    le-ltb a.k _ c.if-k-row_count.false ∙ sym (inclusion-past a.file.now a.k (omega (arith, c.if-k-row_count.false, c.row_count.ensures)))
