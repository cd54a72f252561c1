-- `decoder::inclusions::put_inclusion` meets its contract: the two roles are chained, and both turned round (`inclusion-row`);
-- any other row adds nothing (`other_row`).
use Rattle.std.proofs.Common.{◌≡◌, ◌+◌, ℕ, List, get_or, w64, ap, ◌∙◌, sym, arith}
use Rattle.std.proofs.Math.Path.{subst₂}
use Rattle.std.specs.Int.{to_le_bytes}
use borrow.Author.Tests.{eq-eqb, ne_eqb}
use Rattle.concepts.specs.Role.{inverse, inverse-low}
use Rattle.problem.specs.Layout.{rows_at}
use Rattle.problem.specs.Decoded.{part_of}
use Rattle.decoder.specs.Chaining.{Chains}
use Rattle.decoder.specs.ChainingLaws.{inclusion-row, other_row}
use Rattle.decoder.proofs.inclusions.put_inclusion.Goals as goal

-- the first bytes of a row's word are its parts
module _ (w : List ℕ) (k : ℕ) {bytes : List ℕ} (e : bytes ≡ to_le_bytes w64 (get_or w (rows_at + k) 0)) where
  kind-part : part_of w k 0 ≡ get_or bytes 0 0
  kind-part = omega (arith, ap (λ (b : List ℕ). get_or b 0 0) e)

  narrow-part : get_or bytes 1 0 ≡ part_of w k 1
  narrow-part = ap (λ (b : List ℕ). get_or b 1 0) e

  wide-part : get_or bytes 2 0 ≡ part_of w k 2
  wide-part = ap (λ (b : List ℕ). get_or b 2 0) e

pub chain-requires : goal.chain-requires
chain-requires c =
    let w = c.args.out.now in
    let k = c.args.k in
    let bytes = c.to_le_bytes.ensures in
    let (p, q) = c.requires.3 (kind-part w k bytes ∙ c.if-kind-eq-INCLUSION.true) in
    (omega (arith, p, narrow-part w k bytes), omega (arith, q, wide-part w k bytes), c.requires.1, c.requires.2)

pub chain-requires-then-kind-eq-INCLUSION : goal.chain-requires-then-kind-eq-INCLUSION
chain-requires-then-kind-eq-INCLUSION c =
    let w = c.args.out.now in
    let k = c.args.k in
    let bytes = c.to_le_bytes.ensures in
    let (p, q) = c.requires.3 (kind-part w k bytes ∙ c.if-kind-eq-INCLUSION.true) in
    let narrow = narrow-part w k bytes in
    let wide = wide-part w k bytes in
    let turned : c.inverse.result ≡ inverse (part_of w k 1) = c.inverse.ensures.role (omega arith) ∙ ap inverse narrow in
    let other : c.inverse-then-kind-eq-INCLUSION.result ≡ inverse (part_of w k 2) =
    c.inverse-then-kind-eq-INCLUSION.ensures.role (omega arith) ∙ ap inverse wide in (
      omega (arith, turned, inverse-low _ p),
      omega (arith, other, inverse-low _ q),
      omega (arith, c.chain.auto.out, c.requires.1),
      c.chain.ensures.in_use,
    )

pub returns-then-kind-eq-INCLUSION : goal.returns-then-kind-eq-INCLUSION
returns-then-kind-eq-INCLUSION c =
    let w = c.args.out.now in
    let k = c.args.k in
    let bytes = c.to_le_bytes.ensures in
    let kind = kind-part w k bytes ∙ c.if-kind-eq-INCLUSION.true in
    let (p, q) = c.requires.3 kind in
    let narrow = narrow-part w k bytes in
    let wide = wide-part w k bytes in
    inclusion-row {w = w} {k = k} (eq-eqb _ 7 kind)
    (subst₂ (λ (x y : ℕ). Chains x y w c.chain.new.out) narrow wide c.chain.ensures)
    (subst₂ (λ (x y : ℕ). Chains x y c.chain.new.out c.chain-then-kind-eq-INCLUSION.new.out)
    (c.inverse.ensures.role (omega arith) ∙ ap inverse narrow) (c.inverse-then-kind-eq-INCLUSION.ensures.role (omega arith) ∙ ap inverse wide)
    c.chain-then-kind-eq-INCLUSION.ensures)

pub returns-else-kind-eq-INCLUSION : goal.returns-else-kind-eq-INCLUSION
returns-else-kind-eq-INCLUSION c = other_row (ne_eqb _ 7 (λ e. c.if-kind-eq-INCLUSION.false (sym (kind-part c.args.out.now c.args.k c.to_le_bytes.ensures) ∙ e)))
