-- `tableau::join_alternative` meets its contract, by those of the calls.
use mathlib.Core.Path.{ap, ap₂, ◌∙◌}
use native.Mathlib.Omega.{arith}
use borrow.Author.Rules.{rules}
use Rattle.concepts.specs.RowSet.{union}
use Rattle.rowset.specs.SetOf.{set_of}
use Rattle.tableau.proofs.join_alternative.Goals as goal

pub copy-requires : goal.copy-requires
copy-requires c = (omega arith, rw c.alternative_set.ensures c.requires.2)

pub join-requires : goal.join-requires
join-requires c = (search rules, rw c.node_set.ensures c.requires.0)

pub returns : goal.returns
returns c =
    c.join.ensures.1
    ∙ ap₂ union (c.copy.ensures.1 ∙ ap (set_of c.args.alternatives.now) c.alternative_set.ensures)
    (ap (set_of c.args.nodes.now) c.node_set.ensures)
