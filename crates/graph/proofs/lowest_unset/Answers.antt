use Rattle.std.proofs.Common.{sym, ◌∙◌, arith}
use Rattle.graph.specs.Graphs.{work}
use Rattle.graph.specs.SearchLaws.{unset-found, unset-nowhere}
use Rattle.graph.proofs.lowest_unset.Goals as goal

pub returns-then-is_unset : goal.returns-then-is_unset
returns-then-is_unset c = (
  λ e a h. sym (unset-found (work _ e a) _ _ (omega arith) c.loop-x.invariant (sym c.is_unset.ensures ∙ c.if-is_unset.true)),
  c.loop-x.invariant,
)

pub returns : goal.returns
returns c = (λ e a h. sym (unset-nowhere (work _ e a) _ (λ k p. c.loop-x.invariant k (omega arith))), tt)
