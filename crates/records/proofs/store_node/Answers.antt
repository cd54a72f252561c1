-- `records::store_node` meets its contract: the numbers that it writes are the fields of the node.
use mathlib.Core.Path.{◌≡◌}
use Prim.Native.Nat.{ℕ, ◌+◌, ◌*◌}
use native.Mathlib.Omega.{arith}
use borrow.Author.Rules.{rules}
use Rattle.words.specs.Fields.{Apart}
use Rattle.words.specs.Sizes.{node_size}
use Rattle.rowset.specs.SetOf.{set_of}
use Rattle.records.specs.Layout.{node_extent}
use Rattle.records.specs.Records.{node_fields}
use Rattle.records.specs.RecordLaws.{node-apart, node-stored}
use Rattle.records.proofs.store_node.Goals as goal

pub returns : goal.returns
returns c =
    let rows : ℕ = set_of c.args.s.now 0 in
    let apart : Apart 0 node_extent (node_fields rows c.args.n) =
    node-apart rows c.args.n c.put_set.ensures.1 (search rules) (search rules) c.put_link.ensures.1 in
    let z : node_size * c.args.x + 0 ≡ node_size * c.args.x = omega arith in
    node-stored _ _ c.args.x rows c.args.n c.requires apart (cc (z, c.put_set.ensures.0, c.put_link.ensures.0))
