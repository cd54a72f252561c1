use Rattle.std.proofs.Common.{sym, ap, ◌∙◌, not, eqb, arith}
use borrow.Author.Tests.{not-true, not-false}
use Rattle.concepts.specs.RowSet.{RowSet, empty, minus}
use Rattle.words.specs.Sizes.{set_words}
use Rattle.rowset.specs.SetOf.{set_of}
use Rattle.problem.specs.Decoded.{table_of, problem_of}
use Rattle.settests.specs.MaskLoops.{loop-begins, loop-passes, loop-ends, next_row, loop-after}
use Rattle.settests.specs.AnswerLaws.{lacks-here, lacks-later, lacks-none, box-masked, minus-lacking}
use Rattle.settests.proofs.lacks.Goals as goal

pub loop-j-init : goal.loop-j-init
loop-j-init c =
    let a = c.args in
    let P = problem_of a.problem.now in
    let set = set_of a.s.now a.at in
    let above = set_of a.above.now a.there in
    let mask = c.universal-mask.ensures in
    loop-begins record {
      decoded = c.requires.0;
      masking = mask;
      words = λ i. omega (arith, c.type_inv.problem i);
      bytes = λ i. omega (arith, c.type_inv.s i);
      room = c.requires.1;
    } (ap (λ (x : RowSet). minus x above) (box-masked P set a.role mask.picked) ∙ minus-lacking P set a.role above)

pub left_at-left-requires : goal.left_at-left-requires
left_at-left-requires c =
    let next = next_row c.loop-i.invariant.2 (omega arith) c.in-Some.ensures.steps in
    (c.requires.0, next.below)

-- the argument is lacked
pub returns-then-not-mem : goal.returns-then-not-mem
returns-then-not-mem c =
    let inv = c.loop-i.invariant.2 in
    let next = next_row inv (omega arith) c.in-Some.ensures.steps in
    let out = sym (c.mem.ensures set_words c.left_at-left.ensures.1) ∙ not-true c.mem.result c.if-not-mem.true-raw in
    lacks-here (table_of c.args.problem.now) next.low next.inside c.left_at-left.ensures.0 (set_of c.args.above.now c.args.there) out
    ∙ ap (λ (x : RowSet). not (eqb x empty)) inv.midway.holds

-- it is not
pub loop-i-preserved : goal.loop-i-preserved
loop-i-preserved c =
    let inv = c.loop-i.invariant.2 in
    let next = next_row inv (omega arith) c.in-Some.ensures.steps in
    let has = sym (c.mem.ensures set_words c.left_at-left.ensures.1) ∙ not-false c.mem.result c.if-not-mem.false-raw in (
      tt,
      tt,
      loop-after inv next (lacks-later (table_of c.args.problem.now) next.low next.inside c.left_at-left.ensures.0 (set_of c.args.above.now c.args.there) has
          ∙ inv.midway.holds),
    )

pub loop-j-preserved : goal.loop-j-preserved
loop-j-preserved c = loop-passes c.loop-i.invariant.2 c.in-None.ensures.steps.0

pub returns : goal.returns
returns c =
    let none = lacks-none (table_of c.args.problem.now) (set_of c.args.above.now c.args.there) in
    ap (λ (x : RowSet). not (eqb x empty)) (sym none ∙ loop-ends c.loop-j.invariant (omega arith))
