-- `records::store_alternative` meets its contract: the numbers that it writes are the fields of the alternative.
use mathlib.Core.Path.{◌≡◌}
use Prim.Native.Nat.{◌+◌, ◌*◌}
use native.Mathlib.Omega.{arith}
use borrow.Author.Rules.{rules}
use Rattle.words.specs.Fields.{Apart}
use Rattle.words.specs.Sizes.{alternative_size}
use Rattle.rowset.specs.SetOf.{set_of}
use Rattle.records.specs.Layout.{alternative_extent}
use Rattle.records.specs.Records.{alternative_fields}
use Rattle.records.specs.RecordLaws.{alternative-stored}
use Rattle.records.proofs.store_alternative.Goals as goal

pub returns : goal.returns
returns c =
    let z : alternative_size * c.args.i + 0 ≡ alternative_size * c.args.i = omega arith in
    let apart : Apart 0 alternative_extent (alternative_fields (set_of c.args.s.now 0) c.args.owner) =
    (omega arith, c.put_set.ensures.1, (omega arith, search rules, omega arith)) in
    alternative-stored _ _ c.args.i _ c.args.owner c.requires apart (cc (z, c.put_set.ensures.0, c.put2.ensures))
