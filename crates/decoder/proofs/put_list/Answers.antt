use mathlib.Core.Path.{◌≡◌}
use Prim.Native.Nat.{◌+◌}
use native.Mathlib.Omega.{arith}
use Rattle.concepts.specs.RowSet.{from_list}
use Rattle.rowset.specs.WordOf.{word_of}
use Rattle.decoder.specs.RemadeLaws.{remade-none, stretch-apart, remade-written}
use Rattle.decoder.specs.MarkingLaws.{list_put}
use Rattle.decoder.proofs.put_list.Goals as goal

pub loop-j-init : goal.loop-j-init
loop-j-init c =
    let a = c.args in
    (omega arith, remade-none (λ i. a.at + i) (λ i _. word_of (from_list a.list.now) i) a.out.now)

pub bounds-out-at : goal.bounds-out-at
bounds-out-at c = omega (arith, c.loop-j.invariant.1.longs, c.requires.0)

pub loop-j-preserved : goal.loop-j-preserved
loop-j-preserved c = (omega arith, remade-written (stretch-apart c.args.at) c.loop-j.invariant.1 (omega (arith, c.requires.0)) c.word_of.ensures)

pub shape_of-out : goal.shape_of-out
shape_of-out c = c.loop-j.invariant.1.longs

pub returns : goal.returns
returns c =
    let l = c.loop-j in
    let all : l.j ≡ c.args.n = omega arith in
    list_put c.args.at c.args.n c.requires.1 (rw all at l.invariant.1)
