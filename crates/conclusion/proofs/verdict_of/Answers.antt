-- `conclusion::verdict_of` meets its contract: the run, and then what its root says.
use Rattle.graph.specs.RefineLaws.{passed-on}
use Rattle.conclusion.specs.VerdictCases.{verdict-short, verdict-fits, verdict-can, verdict-cannot}
use Rattle.conclusion.proofs.verdict_of.Goals as goal

pub returns-in_err-c : goal.returns-in_err-c
returns-in_err-c c = rw (passed-on c.from_residual.ensures) (verdict-short c.in_err-c.ensures)

pub status_of-requires : goal.status_of-requires
status_of-requires c = verdict-fits c.in_ok-c.ensures c.requires

pub returns-then-says_can : goal.returns-then-says_can
returns-then-says_can c = verdict-can c.in_ok-c.ensures c.requires c.status_of.result c.status_of.ensures c.says_can.ensures c.if-says_can.true

pub returns-else-says_can : goal.returns-else-says_can
returns-else-says_can c = verdict-cannot c.in_ok-c.ensures c.requires c.status_of.result c.status_of.ensures c.says_can.ensures c.if-says_can.false
