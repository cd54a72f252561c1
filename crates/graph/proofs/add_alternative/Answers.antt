-- `graph::add_alternative` meets its contract: by what the search found, and by the room that is left.
use Rattle.std.proofs.Common.{rules, Err, ◌≡◌, sym, ◌∙◌}
use Rattle.rowset.specs.SetOf.{set_of}
use Rattle.graph.specs.declared.Area.TheVariants.{Alternatives}
use Rattle.graph.specs.AddLaws.{add-alternative-known, add-alternative-done, add-alternative-full}
use Rattle.graph.proofs.add_alternative.Goals as goal

pub returns-then-has_alternative : goal.returns-then-has_alternative
returns-then-has_alternative c =
    let had = c.has_alternative.ensures in
    add-alternative-known _ c.args.owner (set_of c.args.s.now 0) (λ e. sym (had e) ∙ c.if-has_alternative.true)

pub returns : goal.returns
returns c =
    let had = c.has_alternative.ensures in
    let at = c.in_ok-i.ensures in
    add-alternative-done _ c.args.owner (set_of c.args.s.now 0) c.requires.node (λ e. sym (had e) ∙ c.if-has_alternative.false)
    (rw at.0 at c.store_alternative.ensures) (rw at.0 at c.append.ensures) at.1

pub returns-in_err-i : goal.returns-in_err-i
returns-in_err-i c =
    let had = c.has_alternative.ensures in
    let r : c.from_residual.result ≡ Err Alternatives = search rules in
    rw r (add-alternative-full _ c.args.owner (set_of c.args.s.now 0) (λ e. sym (had e) ∙ c.if-has_alternative.false) c.in_err-i.ensures.1)
