use mathlib.Core.Path.{◌≡◌, refl, ap, ◌∙◌}
use mathlib.Core.Bool.{cond}
use Prim.Native.Nat.{ℕ, ◌+◌}
use native.Mathlib.Omega.{arith}
use lib.ListN.{get_or}
use Rattle.concepts.specs.RowSet.{mem, empty, union}
use Rattle.problem.specs.Layout.{narrows_at}
use Rattle.decoder.specs.Chaining.{joining}
use Rattle.decoder.specs.RemadeLaws.{remade-none, stretch-apart, remade-written}
use Rattle.decoder.specs.ChainingLaws.{joined-if}
use Rattle.decoder.proofs.inclusions.join_narrows.Goals as goal

pub overflow_add-narrower : goal.overflow_add-narrower
overflow_add-narrower c = omega (arith, c.requires)

pub offset_bounds-out-narrow : goal.offset_bounds-out-narrow
offset_bounds-out-narrow c = omega (arith, c.requires)

pub bounds-out-narrow : goal.bounds-out-narrow
bounds-out-narrow c = omega (arith, c.requires.0, c.requires.2)

pub loop-code-init : goal.loop-code-init
loop-code-init c =
    let a = c.args in
    let w = a.out.now in
    (refl, omega arith, remade-none (λ x. narrows_at + x) (λ x c. joining (mem a.wide c) (get_or w (narrows_at + a.narrow) 0) c) w)

pub bounds-out-code : goal.bounds-out-code
bounds-out-code c = omega (arith, c.loop-code.invariant.2.longs, c.requires.2)

pub overflow_shr-known : goal.overflow_shr-known
overflow_shr-known c = omega (arith, c.requires.1)

pub overflow_add-out : goal.overflow_add-out
overflow_add-out c = omega (arith, c.loop-code-test.true)

pub offset_bounds-out-code-in-loop-code : goal.offset_bounds-out-code-in-loop-code
offset_bounds-out-code-in-loop-code c = omega (arith, c.loop-code-test.true)

pub bounds-out-code-in-loop-code : goal.bounds-out-code-in-loop-code
bounds-out-code-in-loop-code c = omega (arith, c.loop-code.invariant.2.longs, c.requires.2, c.loop-code-test.true)

pub loop-code-preserved : goal.loop-code-preserved
unfolding mem union
loop-code-preserved c =
    let a = c.args in
    let (is, few, joins) = c.loop-code.invariant in
    let known = get_or c.loop-code.out (narrows_at + c.loop-code.code) 0 in
    let narrower = get_or a.out.now (narrows_at + a.narrow) 0 in
    let test = mem a.wide known in
    let joined = ap (union known) (c.word_if.ensures ∙ ap (λ (x : ℕ). cond test x empty) is) ∙ joined-if test narrower known in
    (is, omega (arith, c.loop-code-test.true), remade-written (stretch-apart narrows_at) joins (omega (arith, c.requires.2, c.loop-code-test.true)) joined)

pub shape_of-out : goal.shape_of-out
shape_of-out c = c.loop-code.invariant.2.longs

pub returns : goal.returns
returns c =
    let l = c.loop-code in
    let all : l.code ≡ 32 = omega arith in
    rw all at l.invariant.2
