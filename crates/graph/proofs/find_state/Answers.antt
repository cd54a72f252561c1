use Rattle.std.proofs.Common.{sym, ◌∙◌, arith}
use Rattle.graph.specs.Graphs.{work}
use Rattle.graph.specs.SearchLaws.{state-found, state-nowhere}
use Rattle.graph.proofs.find_state.Goals as goal

pub returns-then-is_state_with : goal.returns-then-is_state_with
returns-then-is_state_with c =
    λ e a h. sym (state-found (work _ e a) _ _ _ (omega arith) c.loop-x.invariant (sym c.is_state_with.ensures ∙ c.if-is_state_with.true))

pub returns : goal.returns
returns c = λ e a h. sym (state-nowhere (work _ e a) _ _ (λ k p. c.loop-x.invariant k (omega arith)))
