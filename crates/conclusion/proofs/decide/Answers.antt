-- `conclusion::decide` meets its contract: by the verdict of the run.
-- Assumes nothing.
use mathlib.Core.Path.{refl}
use Rattle.conclusion.specs.DecideCases.{decide-short, decide-cannot, decide-walks, decide-shows}
use Rattle.conclusion.proofs.decide.Goals as goal

pub show-requires : goal.show-requires
show-requires c = decide-walks c.requires (rw c.in-Ok-Can.field-0-is at c.in-Ok-Can.ensures).case refl

pub returns-in-Err : goal.returns-in-Err
returns-in-Err c =
    decide-short c.args.elements.now c.args.links.now c.in-Err.ensures.case
    c.lent-lent.ensures c.verdict_of.auto.nodes c.verdict_of.auto.edges c.verdict_of.auto.alternatives

pub returns-in-Ok-Cannot : goal.returns-in-Ok-Cannot
returns-in-Ok-Cannot c = decide-cannot c.requires (rw c.in-Ok-Cannot.field-0-is at c.in-Ok-Cannot.ensures).case refl c.args.elements.now c.args.links.now

pub returns-in-Ok-Can : goal.returns-in-Ok-Can
returns-in-Ok-Can c = decide-shows c.requires (rw c.in-Ok-Can.field-0-is at c.in-Ok-Can.ensures).case refl c.show.ensures
