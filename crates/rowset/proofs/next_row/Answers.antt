use Rattle.std.proofs.Common.{◌≡◌, ℕ, false, ◌≤◌, Option, Some, None, ◌+◌, ◌*◌, ◌/◌, ◌%◌, ◌^◌, ◌<◌, List, get_or, bit_and, sym, ap, subst, arith}
use Rattle.std.proofs.Math.Decide.{ℕ_discrete}
use Rattle.std.proofs.lemmas.Nat.{and_le_l}
use Rattle.std.specs.Int.Count.{count_trailing_zeros}
use Rattle.concepts.specs.RowSet.{RowSet, mem, common}
use Rattle.concepts.specs.Lowest.{Above}
use Rattle.concepts.specs.LowestLaws.{above-shifts, shifts_fit, trailing-lowest}
use Rattle.rowset.specs.Joined.{joined, word_at, set_at, mask_at, IsNext}
use Rattle.rowset.specs.ByteLaws.{AreBytes}
use Rattle.rowset.specs.NextLaws.{Words, picked, picked_fits, picked_all, Passed, joined-beyond, pass-start, pass-none, pass-word, pass-all, pass-found}
use Rattle.rowset.proofs.next_row.Goals as goal

module _ (b : List ℕ) (at : ℕ) (ws : List ℕ) (mask n from : ℕ) (hb : AreBytes b) where
  -- what holds of the joined words holds of the common rows
  whole : Words ws → (r : Option ℕ) → IsNext (joined 64 (picked b at ws mask) n) from r → IsNext (common (set_at b at n) (mask_at ws mask n)) from r
  whole hw r h = subst (λ (s : RowSet). IsNext s from r) (picked_all b at ws mask n hb hw) h

  -- the word of the row, without the rows below it
  starts : (w : ℕ) → w ≡ word_at b at (from / 64) → from / 64 < n
      → Passed (picked b at ws mask) n from (from / 64) ((bit_and w (get_or ws (mask + from / 64) 0) / 2 ^ (from % 64) * 2 ^ (from % 64)) % 2 ^ 64)
  starts w e l =
      let f : ℕ → ℕ = picked b at ws mask in
      let fits = picked_fits b at ws mask hb in
      let g : ℕ = from % 64 in
      let x : ℕ = bit_and w (get_or ws (mask + from / 64) 0) in
      let is : x ≡ f (from / 64) = ap (λ (v : ℕ). bit_and v (get_or ws (mask + from / 64) 0)) e in
      let small : x < 2 ^ 64 = omega (arith, is, fits (from / 64)) in
      let m : ℕ = (x / 2 ^ g * 2 ^ g) % 2 ^ 64 in
      let above : Above x g m = subst (Above x g) (sym (shifts_fit 64 x g small)) (above-shifts x g) in
      pass-start f fits n from m l (subst (λ (y : ℕ). Above y g m) is above)

  -- the lowest row of word j that is left is the next
  found : Words ws → (j m : ℕ) → m < 2 ^ 64 → (m ≡ 0 → ⊥) → Passed (picked b at ws mask) n from j m
      → IsNext (common (set_at b at n) (mask_at ws mask n)) from (Some (64 * j + count_trailing_zeros 64 m))
  found hw j m small d p =
      let pos : 0 < m = elim (ℕ_discrete m 0) [ yes e ↦ absurd (d e) | no d ↦ omega arith ] in
      let low = trailing-lowest 64 m pos small in
      whole hw (Some _) (pass-found (picked b at ws mask) (picked_fits b at ws mask hb) n from j m _ p low.0 low.1)

pub returns-then-n-start : goal.returns-then-n-start
returns-then-n-start c =
    let a = c.args in
    let hb : AreBytes a.b.now = λ i. omega (arith, c.type_inv.b i) in
    let hw : Words a.ws.now = λ i. omega (arith, c.type_inv.ws i) in
    whole a.b.now a.at a.ws.now a.mask a.n a.from hb hw None
    (λ k l. joined-beyond a.n (picked a.b.now a.at a.ws.now a.mask) (picked_fits a.b.now a.at a.ws.now a.mask hb) k (omega arith))

pub returns-then-m-ne0 : goal.returns-then-m-ne0
returns-then-m-ne0 c =
    let a = c.args in
    let hb : AreBytes a.b.now = λ i. omega (arith, c.type_inv.b i) in
    let hw : Words a.ws.now = λ i. omega (arith, c.type_inv.ws i) in
    found a.b.now a.at a.ws.now a.mask a.n a.from hb hw (a.from / 64) _ (omega arith) c.if-m-ne0.true
    (starts a.b.now a.at a.ws.now a.mask a.n a.from hb c.word.result c.word.ensures c.if-n-start.false)

pub loop-j-init : goal.loop-j-init
loop-j-init c k l h =
    let a = c.args in
    let hb : AreBytes a.b.now = λ i. omega (arith, c.type_inv.b i) in
    pass-none (picked a.b.now a.at a.ws.now a.mask) (picked_fits a.b.now a.at a.ws.now a.mask hb) a.n a.from (a.from / 64) _ c.if-m-ne0.false
    (starts a.b.now a.at a.ws.now a.mask a.n a.from hb c.word.result c.word.ensures c.if-n-start.false) k l (omega arith)

-- word j is passed, or has the next row
word-passed : (b : List ℕ) (at : ℕ) (ws : List ℕ) (mask n from : ℕ) → AreBytes b → (j w : ℕ) → w ≡ word_at b at j → from / 64 + 1 ≤ j → j < n
    → ((k : ℕ) → from ≤ k → k < 64 * j → mem k (joined 64 (picked b at ws mask) n) ≡ false)
    → Passed (picked b at ws mask) n from j (bit_and w (get_or ws (mask + j) 0))
word-passed b at ws mask n from hb j w e a l none =
    subst (Passed (picked b at ws mask) n from j) (ap (λ (v : ℕ). bit_and v (get_or ws (mask + j) 0)) (sym e))
    (pass-word (picked b at ws mask) (picked_fits b at ws mask hb) n from j l (omega arith) none)

pub returns-then-m-ne0-2 : goal.returns-then-m-ne0-2
returns-then-m-ne0-2 c =
    let a = c.args in
    let hb : AreBytes a.b.now = λ i. omega (arith, c.type_inv.b i) in
    let hw : Words a.ws.now = λ i. omega (arith, c.type_inv.ws i) in
    let w = c.word-in-loop-j in
    let small : bit_and w.result (get_or a.ws.now (a.mask + c.loop-j.j) 0) < 2 ^ 64 = omega (arith, and_le_l w.result (get_or a.ws.now (a.mask + c.loop-j.j) 0), w.type_inv) in
    found a.b.now a.at a.ws.now a.mask a.n a.from hb hw c.loop-j.j _ small c.if-m-ne0-2.true
    (word-passed a.b.now a.at a.ws.now a.mask a.n a.from hb c.loop-j.j w.result w.ensures (omega arith) c.loop-j-test.true c.loop-j.invariant)

pub loop-j-preserved : goal.loop-j-preserved
loop-j-preserved c k l h =
    let a = c.args in
    let hb : AreBytes a.b.now = λ i. omega (arith, c.type_inv.b i) in
    let w = c.word-in-loop-j in
    pass-none (picked a.b.now a.at a.ws.now a.mask) (picked_fits a.b.now a.at a.ws.now a.mask hb) a.n a.from c.loop-j.j _ c.if-m-ne0-2.false
    (word-passed a.b.now a.at a.ws.now a.mask a.n a.from hb c.loop-j.j w.result w.ensures (omega arith) c.loop-j-test.true c.loop-j.invariant)
    k l (omega arith)

pub returns : goal.returns
returns c =
    let a = c.args in
    let hb : AreBytes a.b.now = λ i. omega (arith, c.type_inv.b i) in
    let hw : Words a.ws.now = λ i. omega (arith, c.type_inv.ws i) in
    whole a.b.now a.at a.ws.now a.mask a.n a.from hb hw None
    (pass-all (picked a.b.now a.at a.ws.now a.mask) (picked_fits a.b.now a.at a.ws.now a.mask hb) a.n a.from c.loop-j.j c.loop-j-test.false c.loop-j.invariant)
