-- `converter::finish` meets its contract: its tests are those of the definition, and what it writes is the file.
-- Assumes nothing.
use mathlib.Core.Path.{ap}
use native.Mathlib.Omega.{arith}
use lib.ListN.{length}
use Rattle.converter.specs.ConvertCases.{words-size, finish-small, text-part, finish-refused, finish-file, finish-written}
use Rattle.converter.proofs.finish.Goals as goal

pub overflow_add-length : goal.overflow_add-length
overflow_add-length c = record { fits = omega (arith, finish-small c.requires, ap length c.rows-rows.ensures, words-size c.requires) }

pub overflow_add-length-2 : goal.overflow_add-length-2
overflow_add-length-2 c = record { fits = omega (arith, finish-small c.requires, ap length c.rows-rows.ensures, words-size c.requires) }

pub overflow_add-length-3 : goal.overflow_add-length-3
overflow_add-length-3 c = record { fits = omega (arith, finish-small c.requires, ap length c.rows-rows.ensures, words-size c.requires) }

pub returns-then-length-area : goal.returns-then-length-area
returns-then-length-area c =
    finish-refused c.requires c.args.area.now c.if-length-area.true (omega (arith, ap length c.rows-rows.ensures, words-size c.requires))

pub slice_bounds-write_file-end : goal.slice_bounds-write_file-end
slice_bounds-write_file-end c = text-part c.requires

pub write_file-requires : goal.write_file-requires
write_file-requires c =
    rw c.rows-rows.ensures
    (finish-file c.requires c.args.area.now c.if-length-area.false (omega (arith, ap length c.rows-rows.ensures, words-size c.requires)))

pub returns : goal.returns
returns c =
    finish-written c.requires c.args.area.now c.if-length-area.false (omega (arith, ap length c.rows-rows.ensures, words-size c.requires))
    (rw c.rows-rows.ensures at c.write_file.ensures)
