-- `normalize::shape_of` meets its contract: at each `return` the tests that led there say which case of the definition holds.
-- Assumes nothing.
use native.Mathlib.Omega.{arith}
use Rattle.normalize.specs.ShapeLaws.{draft-parted, row_read, literal-case, unary-case, negation-case, implication-case, binary-case}
use Rattle.normalize.proofs.shape_of.Goals as goal

pub row_byte-kind-requires : goal.row_byte-kind-requires
row_byte-kind-requires c = (draft-parted c.requires.0, c.requires.1, omega arith)

pub row_byte-role-requires : goal.row_byte-role-requires
row_byte-role-requires c = (draft-parted c.requires.0, c.requires.1, omega arith)

pub row_byte-left-requires : goal.row_byte-left-requires
row_byte-left-requires c = (draft-parted c.requires.0, c.requires.1, omega arith)

pub row_byte-right-requires : goal.row_byte-right-requires
row_byte-right-requires c = (draft-parted c.requires.0, c.requires.1, omega arith)

pub returns-then-kind-le-NEGATED : goal.returns-then-kind-le-NEGATED
returns-then-kind-le-NEGATED c =
    literal-case (row_read c.requires c.row_byte-kind.ensures c.row_byte-role.ensures c.row_byte-left.ensures c.row_byte-right.ensures
    c.written_kind-written.ensures)
    c.if-kind-le-NEGATED.true

pub returns-then-kind : goal.returns-then-kind
returns-then-kind c =
    unary-case (row_read c.requires c.row_byte-kind.ensures c.row_byte-role.ensures c.row_byte-left.ensures c.row_byte-right.ensures
    c.written_kind-written.ensures)
    c.if-kind-le-NEGATED.false c.if-kind.true

pub returns-then-kind-eq-NEG : goal.returns-then-kind-eq-NEG
returns-then-kind-eq-NEG c =
    negation-case (row_read c.requires c.row_byte-kind.ensures c.row_byte-role.ensures c.row_byte-left.ensures c.row_byte-right.ensures
    c.written_kind-written.ensures)
    c.if-kind-le-NEGATED.false c.if-kind.false c.if-kind-eq-NEG.true

pub returns-then-kind-eq-IMPL : goal.returns-then-kind-eq-IMPL
returns-then-kind-eq-IMPL c =
    implication-case (row_read c.requires c.row_byte-kind.ensures c.row_byte-role.ensures c.row_byte-left.ensures c.row_byte-right.ensures
    c.written_kind-written.ensures)
    c.if-kind-le-NEGATED.false c.if-kind.false c.if-kind-eq-NEG.false c.if-kind-eq-IMPL.true

pub returns : goal.returns
returns c =
    binary-case (row_read c.requires c.row_byte-kind.ensures c.row_byte-role.ensures c.row_byte-left.ensures c.row_byte-right.ensures
    c.written_kind-written.ensures)
    c.if-kind-le-NEGATED.false c.if-kind.false c.if-kind-eq-NEG.false c.if-kind-eq-IMPL.false
