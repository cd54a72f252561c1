-- `reader::read_for` meets its contract: the refusal is that of the checks, and a file that none refuses has the layout of its trailer.
use Rattle.std.specs.Prelude.{◌≡◌, Ok, Err}
use Rattle.std.proofs.Common.{sym, ap, ◌∙◌, rules}
use Rattle.checks.specs.Refusals.{refusal_of}
use Rattle.reader.specs.Read.{numbered}
use Rattle.reader.specs.PartLaws.{read-refused, checked-parted, read-accepted}
use Rattle.reader.proofs.read_for.Goals as goal

pub returns-in_err-check : goal.returns-in_err-check
returns-in_err-check c =
    let a = c.args in
    let e : c.from_residual.result ≡ Err c.in_err-check.field-0.0 = search rules in
    ap numbered e ∙ sym (read-refused a.kinds a.wanted.now a.file.now (sym c.check.ensures ∙ ap refusal_of c.in_err-check.was))

pub layout_of-requires : goal.layout_of-requires
layout_of-requires c = checked-parted c.args.kinds c.args.wanted.now c.args.file.now (sym c.check.ensures ∙ ap refusal_of c.in_ok-check.was)

pub returns : goal.returns
returns c =
    let a = c.args in
    ap Ok c.layout_of.ensures ∙ sym (read-accepted a.kinds a.wanted.now a.file.now (sym c.check.ensures ∙ ap refusal_of c.in_ok-check.was))
