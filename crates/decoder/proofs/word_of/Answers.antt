use mathlib.Core.Path.{◌≡◌, sym, ap, ◌∙◌}
use mathlib.Core.Bool.{cond}
use Prim.Native.Nat.{ℕ, ◌+◌, ◌*◌, ◌/◌, ◌%◌, ◌^◌}
use native.Mathlib.Nat.{one-mul}
use native.Mathlib.Omega.{arith}
use lib.Dec.{eqb}
use lib.ListN.{get_or, drop}
use lib.Pow.{shl_exact}
use Rattle.concepts.specs.RowSet.{empty, single, union, from_list}
use Rattle.concepts.specs.RowSetLaws.{empty-union}
use Rattle.rowset.specs.WordOf.{word_of, word-drop, word_end}
use Rattle.decoder.proofs.word_of.Goals as goal

pub loop-row-init : goal.loop-row-init
loop-row-init c = empty-union _

pub loop-row-preserved : goal.loop-row-preserved
unfolding single union
loop-row-preserved c =
    let a = c.args in
    let l = c.loop-row in
    let b : ℕ = get_or a.list.now l.row-index 0 % 64 in
    let bit : (1 * 2 ^ b) % 2 ^ 64 ≡ 2 ^ b = shl_exact 1 b 64 (omega arith) (omega arith) ∙ one-mul (2 ^ b) in
    let row = c.word_if-word.ensures ∙ ap (λ (x : ℕ). cond (eqb (get_or a.list.now l.row-index 0 / 64) a.j) x empty) bit in
    ap (λ (x : ℕ). union (union l.word x) (word_of (from_list (drop (l.row-index + 1) a.list.now)) a.j)) row
    ∙ sym (word-drop a.list.now l.row-index a.j l.word c.loop-row-test.true) ∙ l.invariant

pub returns : goal.returns
returns c =
    let l = c.loop-row in
    word_end c.args.list.now l.row-index c.args.j l.word c.loop-row-test.false ∙ l.invariant
