-- `rowset::mem` meets its contract: row k is a row of its word.
use mathlib.Core.Path.{sym, ap, ◌∙◌}
use Prim.Native.Nat.{◌%◌}
use native.Mathlib.Omega.{arith}
use Rattle.concepts.specs.RowSet.{mem}
use Rattle.rowset.specs.ByteLaws.{set-mem}
use Rattle.rowset.proofs.mem.Goals as goal

pub returns : goal.returns
unfolding mem
returns c n l =
    let a = c.args in
    ap (mem (a.k % 64)) c.word-w.ensures ∙ sym (set-mem a.b.now (λ i. omega (arith, c.shared_slice_known-1.given i)) a.at a.k n l)
