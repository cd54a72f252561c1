-- `Written::keep_inclusions` meets its contract: without an inclusion nothing is written; else the words hold those among the first `k` rows.
-- Assumes nothing.
use Rattle.std.specs.Prelude.{◌≡◌}
use Rattle.normalize.specs.Clauses.{Kept}
use Rattle.normalize.proofs.Written.keep_inclusions.Given as goal

abbrev pub invariant-loop-k : goal.invariant-loop-k
invariant-loop-k l = Kept l.draft l.k l.self × (l.self.memo ≡ l.initial.self.memo)
