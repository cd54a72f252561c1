use mathlib.Core.Path.{◌≡◌, ap}
use Prim.Native.Nat.{ℕ, ◌+◌, ◌-◌, ◌<◌}
use native.Mathlib.Omega.{arith}
use lib.ListN.{get_or}
use Rattle.run.specs.Printed.{hexadecimal}
use Rattle.run.specs.PrintedLaws.{hexadecimal-none}
use Rattle.printing.specs.PrintingLaws.{writes_as, highest-more, pieces_none, pieces_more}
use Rattle.printing.proofs.Text.hexadecimal.Goals as goal

pub loop-i-init : goal.loop-i-init
loop-i-init c =
    let none : c.args.n - c.args.n ≡ 0 = omega arith in
    rw none (pieces_none c.args.self.now (hexadecimal-none _))

pub loop-i-preserved : goal.loop-i-preserved
loop-i-preserved c =
    let a = c.args in
    let done : ℕ = a.n - c.loop-i.i in
    let more : a.n - (c.loop-i.i - 1) ≡ done + 1 = omega arith in
    let here : done < a.n = omega arith in
    let place : a.from + (c.loop-i.i - 1) ≡ a.from + (a.n - (done + 1)) = omega arith in
    let byte : c.byte_of.result ≡ get_or a.area.now (a.from + (a.n - (done + 1))) 0 = rw place at c.byte_of.ensures in
    let small : get_or a.area.now (a.from + (a.n - (done + 1))) 0 < 256 = omega (arith, byte, c.byte_of.type_inv) in
    rw more
    (pieces_more c.loop-i.invariant here (highest-more a.area.now a.from a.n done here small)
    (writes_as c.byte_digits.ensures (ap (hexadecimal 2) byte) (omega arith)))
