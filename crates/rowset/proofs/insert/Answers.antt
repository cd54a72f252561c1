-- `rowset::insert` meets its contract: row k joins its word.
use mathlib.Core.Path.{◌≡◌, ap, ◌∙◌}
use mathlib.Core.List.{List}
use Prim.Native.Nat.{ℕ, ◌+◌, ◌*◌, ◌/◌, ◌%◌, ◌^◌}
use native.Mathlib.Nat.{one-mul}
use native.Mathlib.Omega.{arith}
use lib.Bits.{bit_or}
use lib.Pow.{shl_exact}
use Rattle.concepts.specs.RowSet.{single, union, insert}
use Rattle.concepts.specs.RowSetLaws.{insert-lt}
use Rattle.words.specs.Words.{put_le}
use Rattle.rowset.specs.Joined.{word_at, set_at}
use Rattle.rowset.specs.ByteLaws.{AreBytes, set-insert, word_fits}
use Rattle.rowset.proofs.insert.Goals as goal

pub returns : goal.returns
unfolding single union
returns c =
    let a = c.args in
    let b = a.b.now in
    let q : ℕ = a.k / 64 in
    let i : ℕ = a.k % 64 in
    let w : ℕ = c.word-w.result in
    let bit : (1 * 2 ^ i) % 2 ^ 64 ≡ 2 ^ i = shl_exact 1 i 64 (omega arith) (omega arith) ∙ one-mul (2 ^ i) in
    let v : ℕ = bit_or ((1 * 2 ^ i) % 2 ^ 64) w in
    let e : v ≡ insert i (word_at b a.at q) =
    ap (λ (x : ℕ). bit_or x w) bit ∙ ap (λ (x : ℕ). bit_or (2 ^ i) x) c.word-w.ensures in
    let put : c.put_word.new.b ≡ put_le b (a.at + 8 * q) 8 v = c.put_word.ensures in
    let bytes : AreBytes b = λ i. omega (arith, c.slice_known-1.given i) in (
      put ∙ ap (put_le b (a.at + 8 * q) 8) e,
      λ n l. ap (λ (x : List ℕ). set_at x a.at n) put
          ∙ set-insert b bytes a.at a.k n v l (omega arith)
          (omega (arith, insert-lt 64 i (word_at b a.at q) (omega arith) (word_fits b bytes a.at q), e)) e,
    )
