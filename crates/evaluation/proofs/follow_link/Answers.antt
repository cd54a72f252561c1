-- `evaluation::follow_link` meets its contract: the link is taken onward if its code counts for that, and then backward if it counts for that.
use Rattle.std.proofs.Common.{ℕ, ◌||◌}
use mathlib.Core.Path.{refl, sym, ap, ◌∙◌}
use native.Mathlib.Omega.{arith}
use borrow.Author.Tests.{not-true}
use Rattle.evaluation.specs.LinkCases.{Taken, CodeRead, code_read, way-followed, way-passed, link-taken, link-passed}
use Rattle.evaluation.proofs.follow_link.Goals as goal
use Rattle.evaluation.proofs.follow_link.Goals.{then-onward, else-onward}

-- none does
pub returns-then-not-leads : goal.returns-then-not-leads
returns-then-not-leads g c =
    let onward = g.W.Leads.onward c.args.ways.now in
    let backward = g.W.Leads.backward c.args.ways.now in
    let neither =
    sym (c.leads.ensures ∙ ap (λ (code : ℕ). onward code || backward code) c.get2-code.ensures) ∙ not-true _ c.if-not-leads.true-raw in
    link-passed c.requires.argument (code_read c.args.links.now c.args.i onward backward) neither

pub follow-requires-then-backward : goal.follow-requires-then-backward
follow-requires-then-backward g c =
    let onward : Taken c.leads_onward-onward.result c.args.elements.now c.get2-from.result c.get2-to.result c.args.k c.args.left c.args.all c.if-onward.elements =
    elim c.if-onward.branch [
      | then-onward w ↦ way-followed w.if-onward.true w.follow.auto.elements w.follow.ensures w.elements-is
      | else-onward w ↦ way-passed w.if-onward.false w.elements-is
    ] in
    let size = onward.size in record {
      from = omega (arith, c.requires.to, c.get2-to.ensures, size);
      to = omega (arith, c.requires.from, c.get2-from.ensures, size);
      row = c.requires.row;
      argument = omega (arith, c.requires.row, c.requires.argument);
    }

pub shape_of-elements-then-backward : goal.shape_of-elements-then-backward
shape_of-elements-then-backward g c =
    let onward : Taken c.leads_onward-onward.result c.args.elements.now c.get2-from.result c.get2-to.result c.args.k c.args.left c.args.all c.if-onward.elements =
    elim c.if-onward.branch [
      | then-onward w ↦ way-followed w.if-onward.true w.follow.auto.elements w.follow.ensures w.elements-is
      | else-onward w ↦ way-passed w.if-onward.false w.elements-is
    ] in
    c.follow-then-backward.auto.elements ∙ onward.size

pub returns-then-backward : goal.returns-then-backward
returns-then-backward g c =
    let read : CodeRead c.args.links.now c.args.i (g.W.Leads.onward c.args.ways.now) (g.W.Leads.backward c.args.ways.now) c.leads_onward-onward.result c.leads_backward-backward.result =
    let code = c.get2-code.ensures in
    record {
      on-is = c.leads_onward-onward.ensures ∙ ap (g.W.Leads.onward c.args.ways.now) code;
      back_is = c.leads_backward-backward.ensures ∙ ap (g.W.Leads.backward c.args.ways.now) code;
    } in
    let onward : Taken c.leads_onward-onward.result c.args.elements.now c.get2-from.result c.get2-to.result c.args.k c.args.left c.args.all c.if-onward.elements =
    elim c.if-onward.branch [
      | then-onward w ↦ way-followed w.if-onward.true w.follow.auto.elements w.follow.ensures w.elements-is
      | else-onward w ↦ way-passed w.if-onward.false w.elements-is
    ] in
    link-taken c.requires.argument read c.get2-from.ensures c.get2-to.ensures onward
    (way-followed c.if-backward.true c.follow-then-backward.auto.elements c.follow-then-backward.ensures refl)

pub shape_of-elements-else-backward : goal.shape_of-elements-else-backward
shape_of-elements-else-backward g c =
    let onward : Taken c.leads_onward-onward.result c.args.elements.now c.get2-from.result c.get2-to.result c.args.k c.args.left c.args.all c.if-onward.elements =
    elim c.if-onward.branch [
      | then-onward w ↦ way-followed w.if-onward.true w.follow.auto.elements w.follow.ensures w.elements-is
      | else-onward w ↦ way-passed w.if-onward.false w.elements-is
    ] in
    onward.size

pub returns-else-backward : goal.returns-else-backward
returns-else-backward g c =
    let read : CodeRead c.args.links.now c.args.i (g.W.Leads.onward c.args.ways.now) (g.W.Leads.backward c.args.ways.now) c.leads_onward-onward.result c.leads_backward-backward.result =
    let code = c.get2-code.ensures in
    record {
      on-is = c.leads_onward-onward.ensures ∙ ap (g.W.Leads.onward c.args.ways.now) code;
      back_is = c.leads_backward-backward.ensures ∙ ap (g.W.Leads.backward c.args.ways.now) code;
    } in
    let onward : Taken c.leads_onward-onward.result c.args.elements.now c.get2-from.result c.get2-to.result c.args.k c.args.left c.args.all c.if-onward.elements =
    elim c.if-onward.branch [
      | then-onward w ↦ way-followed w.if-onward.true w.follow.auto.elements w.follow.ensures w.elements-is
      | else-onward w ↦ way-passed w.if-onward.false w.elements-is
    ] in
    link-taken c.requires.argument read c.get2-from.ensures c.get2-to.ensures onward
    (way-passed c.if-backward.false refl)
