-- `report::report` meets its contract: what the engine promises of the lent areas, and what is then printed, make the report.
-- Assumes nothing.
use native.Mathlib.Omega.{arith}
use Rattle.run.specs.Program.{program_areas}
use Rattle.report.specs.ReportLaws.{reported}
use Rattle.report.proofs.report.Goals as goal

pub returns : goal.returns
unfolding program_areas
returns c = reported c.fit-answer.ensures c.print.ensures (omega arith)
