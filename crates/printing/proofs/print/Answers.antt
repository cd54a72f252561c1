-- `printing::print` meets its contract: it makes the definition's choice.
-- Assumes nothing.
use native.Mathlib.Omega.{arith}
use borrow.Author.Rules.{rules}
use Rattle.answers.specs.Numbers.{numbers_of}
use Rattle.printing.specs.PrintingLaws.{wrote_in, wrote-whole, printed-can, printed-cannot, printed-refused}
use Rattle.printing.proofs.print.Goals as goal

pub returns-then-answer-eq-CAN : goal.returns-then-answer-eq-CAN
returns-then-answer-eq-CAN c =
    let a = c.args in
    let choice = printed-can (numbers_of a.answer) a.elements.now a.links.now c.if-answer-eq-CAN.true in
    wrote-whole (wrote_in c.can.ensures.wrote (search rules)) choice (omega arith) (λ other. absurd (other c.if-answer-eq-CAN.true))

pub returns-then-answer-eq-CANNOT : goal.returns-then-answer-eq-CANNOT
returns-then-answer-eq-CANNOT c =
    let a = c.args in
    let choice = printed-cannot (numbers_of a.answer) a.elements.now a.links.now c.if-answer-eq-CANNOT.true in
    wrote-whole (wrote_in c.cannot.ensures.wrote (search rules)) choice (omega arith) (λ other. omega arith)

pub returns : goal.returns
returns c =
    let a = c.args in
    let choice = printed-refused (numbers_of a.answer) a.elements.now a.links.now c.if-answer-eq-CAN.false c.if-answer-eq-CANNOT.false in
    wrote-whole (wrote_in c.refused.ensures.wrote (search rules)) choice (omega arith) (λ other. omega arith)
