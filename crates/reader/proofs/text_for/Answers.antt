-- `reader::text_for` meets its contract: the part that is handed back starts where the file starts, and is as long as the text.
use Rattle.std.proofs.Common.{sym, ap, ◌∙◌, arith, length-take-le, rules}
use Rattle.rulefile.specs.ReadingLaws.{text-refused}
use Rattle.reader.specs.Read.{numbered}
use Rattle.reader.specs.PartLaws.{reads-refused, reads-accepted, laid-text, laid-inside}
use Rattle.reader.proofs.text_for.Goals as goal

pub slice_bounds-result-end-in-Ok : goal.slice_bounds-result-end-in-Ok
slice_bounds-result-end-in-Ok c =
    let a = c.args in
    let inside = laid-inside (reads-accepted a.kinds a.wanted.now a.file.now c.in-Ok.layout (ap numbered (sym c.in-Ok.is) ∙ c.read_for.ensures)) in
    sym (length-take-le c.in-Ok.layout.text a.file.now (omega (arith, inside)))

-- a refused file
pub returns-in-Err : goal.returns-in-Err
returns-in-Err c =
    let a = c.args in
    let e = reads-refused a.kinds a.wanted.now a.file.now _ (ap numbered (sym c.in-Err.is) ∙ c.read_for.ensures) in
    (sym (text-refused a.kinds a.wanted.now a.file.now _ e), search rules)

-- an accepted file
pub returns-in-Ok : goal.returns-in-Ok
returns-in-Ok c =
    let a = c.args in
    let l = reads-accepted a.kinds a.wanted.now a.file.now c.in-Ok.layout (ap numbered (sym c.in-Ok.is) ∙ c.read_for.ensures) in
    (laid-text l, search rules)
