use Rattle.std.proofs.Common.{refl, ap, ◌∙◌, length, arith}
use Rattle.concepts.specs.RowSet.{union}
use Rattle.words.specs.Sizes.{set_words}
use Rattle.words.specs.WordLaws.{length-put_le}
use Rattle.rowset.specs.SetOf.{set_of}
use Rattle.problem.specs.Decoded.{table_of, problem_of}
use Rattle.settests.specs.MaskLoops.{loop-begins, loop-passes, loop-ends, next_row, loop-after}
use Rattle.settests.specs.AnswerLaws.{gather-more, gather_none, box-masked}
use Rattle.settests.proofs.join_box.Goals as goal

pub loop-j-init : goal.loop-j-init
loop-j-init c =
    let a = c.args in
    let mask = c.universal-mask.ensures in
    loop-begins record {
      decoded = c.requires.0;
      masking = mask;
      words = λ i. omega (arith, c.type_inv.problem i);
      bytes = λ i. omega (arith, c.type_inv.s i);
      room = c.requires.1;
    } (refl, ap (union (set_of a.out.now a.to)) (box-masked (problem_of a.problem.now) (set_of a.s.now a.at) a.role mask.picked))

pub left_at-left-requires : goal.left_at-left-requires
left_at-left-requires c =
    let next = next_row c.loop-i.invariant.2 (omega arith) c.in-Some.ensures.steps in
    (c.requires.0, next.below)

pub loop-i-preserved : goal.loop-i-preserved
loop-i-preserved c =
    let inv = c.loop-i.invariant.2 in
    let next = next_row inv (omega arith) c.in-Some.ensures.steps in
    let (long, whole) = inv.midway.holds in (
      tt,
      tt,
      loop-after inv next (
        ap length c.insert.ensures.0 ∙ (simp length-put_le) ∙ long,
        gather-more (table_of c.args.problem.now) next.low next.inside c.left_at-left.ensures.0 (set_of c.loop-i.out c.args.to)
            (c.insert.ensures.1 set_words c.left_at-left.ensures.1) ∙ whole,
      ),
    )

pub loop-j-preserved : goal.loop-j-preserved
loop-j-preserved c = loop-passes c.loop-i.invariant.2 c.in-None.ensures.steps.0

pub shape_of-out : goal.shape_of-out
shape_of-out c = c.loop-j.invariant.midway.holds.0

pub returns : goal.returns
returns c =
    let l = c.loop-j in
    let (long, whole) = loop-ends l.invariant (omega arith) in
    (long, gather_none (table_of c.args.problem.now) (set_of l.out c.args.to) ∙ whole)
