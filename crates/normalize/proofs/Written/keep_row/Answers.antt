-- `Written::keep_row` meets its contract: the row is an inclusion by its kind, and its word stands for it.
-- Assumes nothing.
use native.Mathlib.Omega.{arith}
use borrow.Author.Rules.{rules}
use mathlib.Core.Path.{refl}
use Rattle.normalize.specs.ShapeLaws.{draft-parted}
use Rattle.normalize.specs.KeepCases.{kept-room, kept_row, kept-other}
use Rattle.normalize.proofs.Written.keep_row.Goals as goal

pub row_byte-requires : goal.row_byte-requires
row_byte-requires c = (draft-parted c.requires.0.draft, c.requires.1, omega arith)

pub row_byte-requires-then-row_byte-eq-INCLUSION : goal.row_byte-requires-then-row_byte-eq-INCLUSION
row_byte-requires-then-row_byte-eq-INCLUSION c = (draft-parted c.requires.0.draft, c.requires.1, omega arith)

pub row_byte-requires-then-row_byte-eq-INCLUSION-2 : goal.row_byte-requires-then-row_byte-eq-INCLUSION-2
row_byte-requires-then-row_byte-eq-INCLUSION-2 c = (draft-parted c.requires.0.draft, c.requires.1, omega arith)

pub bounds-self-n : goal.bounds-self-n
bounds-self-n c = omega (arith, kept-room c.requires.0 c.requires.1, c.requires.0.held.size)

pub returns-then-row_byte-eq-INCLUSION : goal.returns-then-row_byte-eq-INCLUSION
returns-then-row_byte-eq-INCLUSION c = (
  kept_row c.requires.0 c.requires.1 c.row_byte.ensures c.if-row_byte-eq-INCLUSION.true c.row_byte-then-row_byte-eq-INCLUSION.ensures
      c.row_byte-then-row_byte-eq-INCLUSION-2.ensures (search rules) (search rules)
      c.row_word.ensures,
  refl,
)

pub returns-else-row_byte-eq-INCLUSION : goal.returns-else-row_byte-eq-INCLUSION
returns-else-row_byte-eq-INCLUSION c = (kept-other c.requires.0 c.requires.1 c.row_byte.ensures c.if-row_byte-eq-INCLUSION.false, refl)
