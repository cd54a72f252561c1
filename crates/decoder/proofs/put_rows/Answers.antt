use mathlib.Core.Path.{◌≡◌, refl, ◌∙◌}
use native.Mathlib.Omega.{arith}
use Rattle.problem.specs.Rows.{row_count}
use Rattle.decoder.specs.WritingLaws.{partly_none, partly_more}
use Rattle.decoder.proofs.put_rows.Goals as goal

pub loop-k-init : goal.loop-k-init
loop-k-init c = (refl, omega arith, λ i. omega (arith, c.slice_known-1.given i), partly_none c.args.rows.now c.requires.1)

pub put_row-requires : goal.put_row-requires
put_row-requires c = (c.requires.0, omega arith, c.loop-k.invariant.3.enough)

pub loop-k-preserved : goal.loop-k-preserved
loop-k-preserved c =
    let (longs, few, words, so_far) = c.loop-k.invariant in
    let more = partly_more c.requires.0 (λ i. omega (arith, c.shared_slice_known-1.given i)) (omega arith) c.loop-k.out words so_far in
    (c.put_row.auto.out ∙ longs, omega arith, λ i. omega (arith, c.slice_known-in-loop-k-1.given i), rw c.put_row.ensures more)

pub shape_of-out : goal.shape_of-out
shape_of-out c = c.loop-k.invariant.0

pub returns : goal.returns
returns c =
    let l = c.loop-k in
    let all : l.k ≡ row_count c.args.rows.now = omega arith in
    rw all at l.invariant.3
