-- `reader::rules_of` meets its contract: the rules stand where the layout says.
use Rattle.std.specs.Prelude.{◌≡◌, ℕ, ◌+◌, ◌-◌, ◌*◌, take, drop}
use Rattle.std.proofs.Common.{ap, ◌∙◌, arith}
use Rattle.reader.specs.PartLaws.{rules-part}
use Rattle.reader.proofs.rules_of.Goals as goal

pub returns : goal.returns
returns c =
    let l = c.args.layout in
    let n : l.text + 4 * l.rows + l.rules - (l.text + 4 * l.rows) ≡ l.rules = omega arith in
    ap (λ (k : ℕ). take k (drop (l.text + 4 * l.rows) c.args.file.now)) n ∙ rules-part c.requires
