-- `printing::half_of` meets its contract: the two bytes that it reads make the number.
-- Assumes nothing.
use Prim.Native.Nat.{◌+◌}
use native.Mathlib.Omega.{arith}
use Rattle.words.specs.WordLaws.{le_at-one, le_at-add}
use Rattle.printing.proofs.half_of.Goals as goal

pub returns : goal.returns
returns c =
    let a = c.args in
    omega (
      arith,
      c.from_le_bytes.ensures,
      c.byte_of.ensures,
      c.byte_of-2.ensures,
      le_at-add a.area.now a.at 1 1,
      le_at-one a.area.now a.at,
      le_at-one a.area.now (a.at + 1),
    )
