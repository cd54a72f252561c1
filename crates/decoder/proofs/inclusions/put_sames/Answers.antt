use mathlib.Core.Path.{◌≡◌, ◌∙◌}
use Prim.Native.Nat.{◌+◌, ◌*◌, ◌%◌, ◌^◌}
use native.Mathlib.Nat.{one-mul}
use native.Mathlib.Omega.{arith}
use lib.Pow.{shl_exact}
use Rattle.concepts.specs.RowSet.{single}
use Rattle.problem.specs.Layout.{narrows_at}
use Rattle.decoder.specs.RemadeLaws.{remade-none, stretch-apart, remade-written}
use Rattle.decoder.proofs.inclusions.put_sames.Goals as goal

pub loop-code-init : goal.loop-code-init
loop-code-init c = (omega arith, remade-none (λ σ. narrows_at + σ) (λ σ _. single σ) c.args.out.now)

pub bounds-out-code : goal.bounds-out-code
bounds-out-code c = omega (arith, c.loop-code.invariant.1.longs, c.requires)

pub loop-code-preserved : goal.loop-code-preserved
unfolding single
loop-code-preserved c =
    let l = c.loop-code in
    let e : (1 * 2 ^ l.code) % 2 ^ 64 ≡ 2 ^ l.code = shl_exact 1 l.code 64 (omega arith) (omega arith) ∙ one-mul (2 ^ l.code) in
    (omega arith, remade-written (stretch-apart narrows_at) l.invariant.1 (omega (arith, c.requires)) e)

pub shape_of-out : goal.shape_of-out
shape_of-out c = c.loop-code.invariant.1.longs

pub returns : goal.returns
returns c =
    let l = c.loop-code in
    let all : l.code ≡ 32 = omega arith in
    rw all at l.invariant.1
