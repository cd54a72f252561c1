use mathlib.Core.Path.{◌≡◌, subst}
use Prim.Native.Nat.{ℕ}
use native.Mathlib.Omega.{arith}
use Rattle.problem.specs.Decoded.{used_of}
use Rattle.decoder.specs.Chaining.{JoinsWords}
use Rattle.decoder.specs.ChainingLaws.{words-none, words_more, words-joined}
use Rattle.decoder.proofs.inclusions.join_universals.Goals as goal

pub bounds-out-1 : goal.bounds-out-1
bounds-out-1 c = omega (arith, c.requires.2)

pub loop-j-init : goal.loop-j-init
loop-j-init c =
    let a = c.args in
    (omega arith, words-none a.narrow a.wide a.out.now)

pub join_word-requires : goal.join_word-requires
join_word-requires c =
    let (narrow, wide, enough, in_use) = c.requires in
    let (few, so_far) = c.loop-j.invariant in
    (narrow, wide, omega (arith, c.loop-j-test.true, in_use.few), omega (arith, so_far.beside.longs, enough))

pub loop-j-preserved : goal.loop-j-preserved
loop-j-preserved c =
    let (narrow, wide, enough, in_use) = c.requires in
    let (few, so_far) = c.loop-j.invariant in
    (omega (arith, c.loop-j-test.true), words_more narrow wide (omega (arith, c.loop-j-test.true, in_use.few)) so_far c.join_word.ensures)

pub shape_of-out : goal.shape_of-out
shape_of-out c = c.loop-j.invariant.1.beside.longs

pub returns : goal.returns
returns c =
    let a = c.args in
    let (narrow, wide, enough, in_use) = c.requires in
    let l = c.loop-j in
    let all : l.j ≡ used_of a.out.now = omega arith in
    words-joined wide a.out.now (λ i. omega (arith, c.slice_known-1.given i)) in_use
    (subst (λ (j : ℕ). JoinsWords j a.narrow a.wide a.out.now l.out) all l.invariant.1)
