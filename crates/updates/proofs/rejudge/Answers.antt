-- One node judged again: by its status before, the judgement, and its status after.
use borrow.Author.Rules.{rules}
use borrow.Author.Tests.{not-false}
use Rattle.graph.specs.RefineLaws.{passed-on}
use Rattle.updates.specs.UpdateCases.{loaded, update-not, update-opened, update-asks}
use Rattle.updates.specs.UpdateCases.{update-short, update-judged, update-kept, update-settles}
use Rattle.updates.proofs.rejudge.Goals as goal

pub returns-then-not-is_open : goal.returns-then-not-is_open
returns-then-not-is_open c = record { came = search (update-not, loaded, rules) }

pub judge-requires : goal.judge-requires
judge-requires c = update-asks (update-opened c.requires (search (loaded, not-false, rules)))

pub returns-in_err-d : goal.returns-in_err-d
returns-in_err-d c =
    rw (passed-on c.from_residual.ensures)
    (record { came = update-short (update-opened c.requires (search (loaded, not-false, rules))) c.judge.ensures c.in_err-d.was })

pub returns-then-is_open : goal.returns-then-is_open
returns-then-is_open c =
    let judged = update-judged (update-opened c.requires (search (loaded, not-false, rules))) c.judge.ensures c.in_ok-d.was in
    record { came = update-kept judged (search (loaded, rules)) }

pub returns : goal.returns
returns c =
    let judged = update-judged (update-opened c.requires (search (loaded, not-false, rules))) c.judge.ensures c.in_ok-d.was in
    record { came = update-settles judged (search (loaded, rules)) }
