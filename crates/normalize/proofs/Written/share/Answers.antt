-- `Written::share` meets its contract.
-- Assumes nothing.
use mathlib.Core.Path.{sym, ◌∙◌}
use native.Mathlib.Omega.{arith}
use Rattle.normalize.specs.PutCases.{share-there, share-next, share-none}
use Rattle.normalize.proofs.Written.share.Goals as goal

pub returns-in-Some : goal.returns-in-Some
returns-in-Some c = share-there c.requires (sym c.find.ensures ∙ c.in-Some.is)

pub returns-then-at-eq-MOST_ROWS : goal.returns-then-at-eq-MOST_ROWS
returns-then-at-eq-MOST_ROWS c = share-none c.requires (sym c.find.ensures ∙ c.in_default.is) (omega arith)

pub returns : goal.returns
returns c = share-next c.requires (sym c.find.ensures ∙ c.in_default.is) (omega (arith, c.requires.held.few))
