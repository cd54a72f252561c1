-- `catalogue::entry` meets its contract: the run wants both rows, and the entry goes by what it says.
use Rattle.catalogue.specs.EntryCases.{both-serve, entry-as}
use Rattle.catalogue.proofs.entry.Goals as goal

pub ask_wanted-requires : goal.ask_wanted-requires
ask_wanted-requires c = (c.requires.decoded, both-serve c.requires)

pub returns-in-Short : goal.returns-in-Short
returns-in-Short c = entry-as _ _ c.ask_wanted.ensures c.in-Short.is

pub returns-in-Cannot : goal.returns-in-Cannot
returns-in-Cannot c = entry-as _ _ c.ask_wanted.ensures c.in-Cannot.is

pub returns-in-Can : goal.returns-in-Can
returns-in-Can c = entry-as _ _ c.ask_wanted.ensures c.in-Can.is
