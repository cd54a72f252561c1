-- `conclusion::show` meets its contract: the walk, and the example written if it fits.
-- Assumes nothing.
use Rattle.conclusion.specs.ShowCases.{tried, sizes-small, show-long, show-asks, show-can}
use Rattle.conclusion.proofs.show.Goals as goal

pub fits-requires : goal.fits-requires
fits-requires c = sizes-small c.requires c.walk-sizes.ensures

pub write_example-requires : goal.write_example-requires
write_example-requires c =
    show-asks (tried c.requires c.walk-sizes.ensures c.fits.ensures) c.if-fits.true c.walk-sizes.auto.nodes c.walk-sizes.auto.edges

pub returns-then-fits : goal.returns-then-fits
returns-then-fits c = show-can (tried c.requires c.walk-sizes.ensures c.fits.ensures) c.if-fits.true c.write_example.ensures

pub returns-else-fits : goal.returns-else-fits
returns-else-fits c = show-long (tried c.requires c.walk-sizes.ensures c.fits.ensures) c.if-fits.false
