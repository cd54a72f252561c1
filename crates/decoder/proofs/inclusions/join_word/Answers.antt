use mathlib.Core.Path.{◌≡◌, refl, ap, ◌∙◌}
use mathlib.Core.Bool.{cond}
use Prim.Native.Nat.{ℕ, ◌+◌}
use native.Mathlib.Omega.{arith}
use lib.ListN.{get_or}
use Rattle.concepts.specs.RowSet.{mem, empty, union}
use Rattle.problem.specs.Layout.{narrows_at, role_place}
use Rattle.decoder.specs.Chaining.{joining}
use Rattle.decoder.specs.RemadeLaws.{remade-none, remade-written}
use Rattle.decoder.specs.ChainingLaws.{joined-if, roles-apart, joins-nothing}
use Rattle.decoder.proofs.inclusions.join_word.Goals as goal

-- no row of the word reaches along the second role
pub returns-then-reached-eq0 : goal.returns-then-reached-eq0
returns-then-reached-eq0 c =
    let a = c.args in
    joins-nothing a.j a.narrow a.wide a.out.now c.if-reached-eq0.true

pub loop-code-init : goal.loop-code-init
loop-code-init c =
    let a = c.args in
    let w = a.out.now in
    let made : ℕ → ℕ → ℕ = λ x. joining (mem x (get_or w (narrows_at + a.narrow) 0)) (get_or w (role_place a.wide + a.j) 0) in
    (refl, refl, omega arith, remade-none (λ x. role_place x + a.j) made w)

pub bounds-out-i : goal.bounds-out-i
bounds-out-i c = omega (arith, c.loop-code.invariant.3.longs)

pub bounds-out-i-in-loop-code : goal.bounds-out-i-in-loop-code
bounds-out-i-in-loop-code c = omega (arith, c.loop-code.invariant.3.longs)

pub loop-code-preserved : goal.loop-code-preserved
unfolding mem union
loop-code-preserved c =
    let a = c.args in
    let w = a.out.now in
    let (is, reached, few, joins) = c.loop-code.invariant in
    let code = c.loop-code.code in
    let rows = get_or c.loop-code.out (role_place code + a.j) 0 in
    let narrower = get_or w (narrows_at + a.narrow) 0 in
    let wide = get_or w (role_place a.wide + a.j) 0 in
    let test = ap (λ (x : ℕ). mem code x) is in
    let value = ap (union rows) (c.word_if.ensures ∙ (λ k. cond (test k) (reached k) empty)) ∙ joined-if (mem code narrower) wide rows in
    (is, reached, omega (arith, c.loop-code-test.true), remade-written (roles-apart a.j) joins (omega (arith, c.requires, c.loop-code-test.true)) value)

pub shape_of-out : goal.shape_of-out
shape_of-out c = c.loop-code.invariant.3.longs

pub returns : goal.returns
returns c =
    let l = c.loop-code in
    let all : l.code ≡ 32 = omega arith in
    rw all at l.invariant.3
