use mathlib.Core.Path.{◌≡◌, subst}
use Prim.Native.Nat.{ℕ, ◌<◌}
use native.Mathlib.Omega.{arith}
use Rattle.problem.specs.Decoded.{count_of}
use Rattle.decoder.specs.Chaining.{Included}
use Rattle.decoder.specs.ChainingLaws.{included-in-use, roles-at, included-more}
use Rattle.decoder.proofs.inclusions.put_inclusions.Goals as goal

pub bounds-out-0 : goal.bounds-out-0
bounds-out-0 c = omega (arith, c.requires.0.enough)

pub loop-k-init : goal.loop-k-init
loop-k-init c = (c.requires.0, omega arith, c.requires.1)

pub put_inclusion-requires : goal.put_inclusion-requires
put_inclusion-requires c =
    let (ok, few, so_far) = c.loop-k.invariant in
    let h : c.loop-k.k < count_of c.args.out.now = omega (arith, c.loop-k-test.true) in
    (omega (arith, ok.few), omega (arith, so_far.kept.longs, ok.enough), included-in-use ok so_far, roles-at ok h so_far)

pub loop-k-preserved : goal.loop-k-preserved
loop-k-preserved c =
    let (ok, few, so_far) = c.loop-k.invariant in
    (ok, omega (arith, c.loop-k-test.true), included-more ok (omega (arith, c.loop-k-test.true)) so_far c.put_inclusion.ensures)

pub shape_of-out : goal.shape_of-out
shape_of-out c = c.loop-k.invariant.2.kept.longs

pub returns : goal.returns
returns c =
    let l = c.loop-k in
    let all : l.k ≡ count_of c.args.out.now = omega arith in
    subst (λ (x : ℕ). Included c.args.out.now x l.out) all l.invariant.2
