-- How large a catalogue can be: at most 32 names, so an area of 1,024 bytes has room for every table.
use mathlib.Core.Path.{◌≡◌, refl}
use mathlib.Core.Bool.{Bool, true, false}
use Prim.Native.Nat.{◌*◌, ◌≤◌}
use native.Mathlib.Nat.{mul-le-mul}
use native.Mathlib.Omega.{arith}
use lib.Dec.{eqb}
use borrow.Author.Tests.{eqb-true, eqb-false}
use Rattle.concepts.specs.Lists.{Bytes}
use Rattle.decoding.specs.Decoding.{rule_kinds}
use Rattle.rulefile.specs.Format.{wanted_rows, RuleFile, Reading, refused, accepted, reading}
use Rattle.rulefile.proofs.FormatLaws.{accepted-admitted}
use Rattle.subsumption.proofs.NameCountLaws.{names-half}
use Rattle.subsumption.specs.Catalogue.{Areas, CatalogueNumbers}
use Rattle.subsumption.specs.Promise.{CataloguePromise}

module _ {file : Bytes} {before : Areas} {r : CatalogueNumbers} {after : Areas} (P : CataloguePromise file before r after) where
  -- each name has two of the 64 rows; with a refusal none is told
  pub count_most : r.count ≤ 32
  count_most = by (reading file) refl
    where
      by-room : (f : RuleFile) → reading file ≡ accepted f → (short : Bool) → eqb r.refusal 17 ≡ short → r.count ≤ 32
      by-room f e true q = rw ((P.right f e).too_short (eqb-true r.refusal 17 q)).1 (omega arith)
      by-room f e false q =
          let filled = (P.right f e).no_other (eqb-false r.refusal 17 q) in
          omega (arith, (P.right f e).count_is filled, names-half f.table, (accepted-admitted rule_kinds (wanted_rows file) file f e).few_rows)

      by : (x : Reading) → reading file ≡ x → r.count ≤ 32
      by (refused n) e = rw (P.refusal n e).0 (omega arith)
      by (accepted f) e = by-room f e (eqb r.refusal 17) refl

  pub table-most : r.count * r.count ≤ 1024
  table-most = mul-le-mul {n₂ = 32} {m₂ = 32} count_most count_most
