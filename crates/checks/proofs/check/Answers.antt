-- `checks::check` meets its contract: checks 1 to 4 come first.
use Rattle.std.specs.Prelude.{◌≡◌, Err}
use Rattle.std.proofs.Common.{sym, ap, ◌∙◌, rules}
use Rattle.checks.specs.Refusals.{refusal_of}
use Rattle.checks.proofs.RefusalLaws.{refused_early, refused_late}
use Rattle.checks.proofs.check.Goals as goal

pub returns-in_err-check_parts : goal.returns-in_err-check_parts
returns-in_err-check_parts c =
    let a = c.args in
    let e : c.from_residual.result ≡ Err c.in_err-check_parts.field-0.0 = search rules in
    ap refusal_of e
    ∙ sym (refused_early a.kinds a.wanted.now a.file.now
    (sym (c.check_parts.ensures.refusal a.kinds a.wanted.now) ∙ ap refusal_of c.in_err-check_parts.was))

pub returns : goal.returns
returns c =
    let a = c.args in
    c.check_rows.ensures
    ∙ sym (refused_late a.kinds a.wanted.now a.file.now
    (sym (c.check_parts.ensures.refusal a.kinds a.wanted.now) ∙ ap refusal_of c.in_ok-check_parts.was))
