-- `chains::append` meets its contract: by whether the chain has a record.
-- Assumes nothing.
use native.Mathlib.Omega.{arith}
use Rattle.chains.specs.PlaceLaws.{last_fits, appended-some, appended-none}
use Rattle.chains.proofs.append.Goals as goal

pub overflow_mul-p-then-last-i : goal.overflow_mul-p-then-last-i
overflow_mul-p-then-last-i c = omega (arith, last_fits c.requires c.if-last-i.true)

pub overflow_add-p-then-last-i : goal.overflow_add-p-then-last-i
overflow_add-p-then-last-i c = omega (arith, last_fits c.requires c.if-last-i.true)

pub put2-requires-then-last-i : goal.put2-requires-then-last-i
put2-requires-then-last-i c = omega (arith, last_fits c.requires c.if-last-i.true, c.put2-2.auto.b)

pub returns-then-last-i : goal.returns-then-last-i
returns-then-last-i c = appended-some c.requires c.get2-last.ensures c.if-last-i.true c.put2.ensures (cc (c.put2-2.ensures, c.put2-then-last-i.ensures))

pub returns : goal.returns
returns c = appended-none c.requires c.get2-last.ensures c.if-last-i.false (cc (c.put2.ensures, c.put2-3.ensures)) c.put2-2.ensures
