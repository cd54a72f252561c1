-- `rounds::run` meets its contract: the root, then the rounds.
use Rattle.rowset.specs.ByteLaws.{zeros-empty}
use Rattle.graph.specs.RefineLaws.{passed-on}
use Rattle.rounds.specs.RunCases.{root-short, rounds-asks, rounds-give}
use Rattle.rounds.proofs.run.Goals as goal

pub rounds-requires : goal.rounds-requires
rounds-requires c = rounds-asks c.requires c.args.edges.now c.args.alternatives.now zeros-empty c.add_node.ensures c.in_ok-c.was

pub returns-in_err-c : goal.returns-in_err-c
returns-in_err-c c =
    rw (passed-on c.from_residual.ensures)
    (root-short c.requires c.args.edges.now c.args.alternatives.now zeros-empty c.add_node.ensures c.in_err-c.was)

pub returns : goal.returns
returns c = rounds-give c.requires c.args.edges.now c.args.alternatives.now zeros-empty c.add_node.ensures c.in_ok-c.was c.rounds.ensures
