-- `tableau::taken` meets its contract: by the status.
use Rattle.procedure.specs.TableauLaws.{linked-unset}
use Rattle.tableau.specs.JudgeCases.{taken-kept}
use Rattle.tableau.proofs.taken.Goals as goal

pub returns-in-Sat : goal.returns-in-Sat
returns-in-Sat c = taken-kept c.args.s c.in-Sat.is

pub returns-in-Unset : goal.returns-in-Unset
returns-in-Unset c = λ put z y. rw c.in-Unset.is (linked-unset put z y)
