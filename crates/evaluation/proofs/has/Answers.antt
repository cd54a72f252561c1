-- `evaluation::has` meets its contract: a word has no bits from 64 on.
use mathlib.Core.Path.{◌≡◌, sym}
use mathlib.Core.Bool.{false}
use Prim.Native.Nat.{ℕ, ◌^◌, ◌≤◌, ◌<◌}
use native.Mathlib.Omega.{arith}
use lib.Dec.{not_T}
use Rattle.concepts.specs.Tests.{as-false}
use Rattle.concepts.specs.RowSet.{mem}
use Rattle.concepts.specs.RowSetLaws.{mem-lt}
use Rattle.evaluation.proofs.has.Goals as goal

past : (codes code : ℕ) → codes < 2 ^ 64 → 64 ≤ code → false ≡ mem code codes
past codes code h l = sym (as-false (mem code codes) (not_T (mem code codes) (λ m. absurd (omega (arith, mem-lt 64 code codes h m)))))

pub returns : goal.returns
returns c = past c.args.codes c.args.code (omega arith) (omega arith)
