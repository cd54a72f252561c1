-- `catalogue::names::put_place` meets its contract: the row is of the kind, or it is passed over.
use mathlib.Core.Path.{sym, ◌∙◌}
use native.Mathlib.Omega.{arith}
use Prim.Native.Nat.{◌<◌}
use Rattle.concepts.specs.Concept.{concept_at}
use Rattle.decoding.specs.RowParts.{left_of}
use Rattle.problem.specs.Decoded.{table_of}
use Rattle.catalogue.specs.NameCases.{place-row, place-small, place-name, place_other, place-put}
use Rattle.catalogue.proofs.names.put_place.Goals as goal

pub kind_at-requires : goal.kind_at-requires
kind_at-requires c = (c.requires.0, place-row c.requires.0 _ c.requires.2)

pub overflow_cast-places : goal.overflow_cast-places
overflow_cast-places c = omega (arith, place-small c.requires.0 _ c.requires.2)

pub left_at-requires : goal.left_at-requires
left_at-requires c = (c.requires.0, place-row c.requires.0 _ c.requires.2)

pub bounds-places-left_at : goal.bounds-places-left_at
bounds-places-left_at c =
    let name-here : left_of (concept_at (table_of c.args.problem.now) c.args.k) < 64 =
    place-name c.requires.0 _ c.requires.2 c.requires.1 (sym c.kind_at.ensures ∙ c.if-kind_at-kind.true) in
    omega (arith, c.requires.2.all, c.left_at.ensures.0, name-here)

pub returns-then-kind_at-kind : goal.returns-then-kind_at-kind
returns-then-kind_at-kind c =
    let name-here : left_of (concept_at (table_of c.args.problem.now) c.args.k) < 64 =
    place-name c.requires.0 _ c.requires.2 c.requires.1 (sym c.kind_at.ensures ∙ c.if-kind_at-kind.true) in
    place-put c.requires.0 _ c.requires.2 (sym c.kind_at.ensures ∙ c.if-kind_at-kind.true) c.left_at.ensures.0
    (omega (arith, c.left_at.ensures.0, name-here))

pub returns-else-kind_at-kind : goal.returns-else-kind_at-kind
returns-else-kind_at-kind c = place_other c.requires.0 _ c.requires.2 (λ e. c.if-kind_at-kind.false (c.kind_at.ensures ∙ e))
