-- `Text::refused` meets its contract: it makes the definition's choice.
-- Assumes nothing.
use mathlib.Core.Path.{sym, ◌∙◌}
use native.Mathlib.Omega.{arith}
use Rattle.answers.specs.Numbers.{numbers_of}
use Rattle.run.specs.PrintedLaws.{refusal_counts-long, refusal_counts-short, refusal_counts-none}
use Rattle.printing.specs.PrintingLaws.{writes-refused}
use Rattle.printing.proofs.Text.refused.Goals as goal

pub returns-then-answer-eq-TOO_LONG : goal.returns-then-answer-eq-TOO_LONG
returns-then-answer-eq-TOO_LONG c =
    let n = numbers_of c.args.answer in
    writes-refused n (refusal_counts-long n c.if-answer-eq-TOO_LONG.true) (omega arith) c.line.ensures

pub returns-then-is_short : goal.returns-then-is_short
returns-then-is_short c =
    let n = numbers_of c.args.answer in
    writes-refused n (refusal_counts-short n c.if-answer-eq-TOO_LONG.false (sym c.is_short.ensures ∙ c.if-is_short.true)) (omega arith)
    c.line-then-is_short.ensures

pub returns : goal.returns
returns c =
    let n = numbers_of c.args.answer in
    writes-refused n (refusal_counts-none n c.if-answer-eq-TOO_LONG.false (sym c.is_short.ensures ∙ c.if-is_short.false)) (omega arith) c.line-2.ensures
