use Rattle.std.proofs.Common.{sym, ◌∙◌, arith}
use borrow.Author.Tests.{not-true, not-false}
use Rattle.words.specs.Sizes.{set_words}
use Rattle.rowset.specs.SetOf.{set_of}
use Rattle.problem.specs.Decoded.{table_of}
use Rattle.settests.specs.MaskLoops.{loop-begins, loop-passes, loop-ends, next_row, loop-after}
use Rattle.settests.specs.AnswerLaws.{lowest-here, lowest-later, lowest-none, lowest-masked}
use Rattle.settests.proofs.lowest.Goals as goal

pub loop-j-init : goal.loop-j-init
loop-j-init c =
    let mask = c.of_kind-mask.ensures in
    loop-begins record {
      decoded = c.requires.0;
      masking = mask;
      words = λ i. omega (arith, c.type_inv.problem i);
      bytes = λ i. omega (arith, c.type_inv.s i);
      room = c.requires.2;
    } (lowest-masked (set_of c.args.s.now c.args.at) c.args.kind mask.picked)

pub left_at-left-requires : goal.left_at-left-requires
left_at-left-requires c =
    let next = next_row c.loop-i.invariant.2 (omega arith) c.in-Some.ensures.steps in
    (c.requires.0, next.below)

pub right_at-right-requires : goal.right_at-right-requires
right_at-right-requires c =
    let next = next_row c.loop-i.invariant.2 (omega arith) c.in-Some.ensures.steps in
    (c.requires.0, next.below)

-- the row is unfinished
pub returns-then-not-junction : goal.returns-then-not-junction
returns-then-not-junction c =
    let inv = c.loop-i.invariant.2 in
    let next = next_row inv (omega arith) c.in-Some.ensures.steps in
    let unfinished = sym (c.junction.ensures set_words c.left_at-left.ensures.1 c.right_at-right.ensures.1)
    ∙ not-true c.junction.result c.if-not-junction.true-raw in
    lowest-here (table_of c.args.problem.now) c.args.kind (set_of c.args.s.now c.args.at) next.low next.inside
    c.left_at-left.ensures.0 c.right_at-right.ensures.0 unfinished ∙ inv.midway.holds

-- it is finished
pub loop-i-preserved : goal.loop-i-preserved
loop-i-preserved c =
    let inv = c.loop-i.invariant.2 in
    let next = next_row inv (omega arith) c.in-Some.ensures.steps in
    let done = sym (c.junction.ensures set_words c.left_at-left.ensures.1 c.right_at-right.ensures.1)
    ∙ not-false c.junction.result c.if-not-junction.false-raw in (
      tt,
      tt,
      loop-after inv next (lowest-later (table_of c.args.problem.now) c.args.kind (set_of c.args.s.now c.args.at) next.low next.inside
          c.left_at-left.ensures.0 c.right_at-right.ensures.0 done ∙ inv.midway.holds),
    )

pub loop-j-preserved : goal.loop-j-preserved
loop-j-preserved c = loop-passes c.loop-i.invariant.2 c.in-None.ensures.steps.0

pub returns : goal.returns
returns c = lowest-none (table_of c.args.problem.now) c.args.kind (set_of c.args.s.now c.args.at) ∙ loop-ends c.loop-j.invariant (omega arith)
