-- `Text::element_line` meets its contract: its pieces one after another are the line of the set that it reads.
use Rattle.listing.specs.Layout.{element_at}
use Rattle.printing.specs.PrintingLaws.{writes-element}
use Rattle.printing.proofs.Text.element_line.Goals as goal

pub returns : goal.returns
returns c =
    let a = c.args in
    writes-element a.d (element_at a.elements.now a.d) c.put.ensures c.number.ensures c.put-2.ensures c.hexadecimal.ensures c.put-3.ensures
