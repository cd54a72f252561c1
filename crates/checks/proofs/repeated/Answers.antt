use Rattle.std.proofs.Common.{sym, ◌∙◌, arith}
use Rattle.concepts.specs.ListLaws.{any-range-found, any-range-none}
use Rattle.rulefile.specs.Format.{same_row, repeated}
use Rattle.checks.proofs.repeated.Goals as goal

pub returns-then-same_row : goal.returns-then-same_row
unfolding repeated
returns-then-same_row c =
    sym (any-range-found (same_row c.args.file.now c.args.k) c.args.k c.loop-j.j (omega arith) (sym c.same_row.ensures ∙ c.if-same_row.true))

pub returns : goal.returns
unfolding repeated
returns c = sym (any-range-none (same_row c.args.file.now c.args.k) c.args.k (λ i h. c.loop-j.invariant i (omega arith)))
