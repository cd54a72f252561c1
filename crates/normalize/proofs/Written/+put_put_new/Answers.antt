-- The proof of the cycle of calls {put, put_new}: the rows that a row stands over are lower.
--
-- In order: the goals of each function of the cycle, in the code's order; what falls from call to call is in Invariants.antt.
-- Assumes nothing.
use native.Mathlib.Omega.{arith}
use mathlib.Core.List.Memᴰ
use mathlib.Core.Path.{refl}
use borrow.Author.Rules.{rules}
use Rattle.normalize.specs.WordLaws.{literal-row, modal-row, pair_row}
use Rattle.normalize.specs.ShapeLaws.{draft-parted}
use Rattle.normalize.specs.PutCases.{shape-as, gives_as, refused_as, new-case, first-asks, next-asks, literal-ends, other-ends, unary-ends, unary-full}
use Rattle.normalize.specs.PutCases.{first-full, second-full, binary-ends}
use Rattle.normalize.proofs.Written.+put_put_new.Goals as goal

-- ---- put

pub put-slot-at-requires : goal.put-slot-at-requires
put-slot-at-requires t c = omega (arith, c.requires.row, (draft-parted c.requires.draft).few_rows)

pub put-returns : goal.put-returns
put-returns t c = rw c.slot-at.ensures.0 (new-case c.requires c.args.sign (gives_as c.put_new.ensures c.in_ok-place.was))

-- ---- put_new

pub put_new-share-requires : goal.put_new-share-requires
put_new-share-requires t c =
    let literal_at = shape-as c.shape_of.ensures c.in-Literal.is in
    record { held = c.requires.held; own = (literal-row literal_at.fits (search rules) c.row_word.ensures).own }

pub put_new-put-requires : goal.put_new-put-requires
put_new-put-requires t c =
    let (asks, less) = first-asks c.requires (shape-as c.shape_of.ensures c.in-Other.is) _ (Memᴰ.head refl) in
    (omega arith, asks)

pub put_new-put-requires-in-Unary : goal.put_new-put-requires-in-Unary
put_new-put-requires-in-Unary t c =
    let (asks, less) = first-asks c.requires (shape-as c.shape_of.ensures c.in-Unary.is) _ (Memᴰ.head refl) in
    (omega arith, asks)

pub put_new-returns-in_err-i-in-Unary : goal.put_new-returns-in_err-i-in-Unary
put_new-returns-in_err-i-in-Unary t c =
    refused_as (unary-full c.requires (shape-as c.shape_of.ensures c.in-Unary.is) (gives_as c.put-in-Unary.ensures c.in_err-i-in-Unary.was))
    c.from_residual.ensures.0

pub put_new-share-requires-in-Unary : goal.put_new-share-requires-in-Unary
put_new-share-requires-in-Unary t c =
    let unary_at = shape-as c.shape_of.ensures c.in-Unary.is in
    record {
      held = (gives_as c.put-in-Unary.ensures c.in_ok-i-in-Unary.was).gives.held;
      own = (modal-row unary_at.fits (search rules) (search rules) c.row_word-in-Unary.ensures).own;
    }

pub put_new-put-requires-in-Binary : goal.put_new-put-requires-in-Binary
put_new-put-requires-in-Binary t c =
    let (asks, less) = first-asks c.requires (shape-as c.shape_of.ensures c.in-Binary.is) _ (Memᴰ.head refl) in
    (omega arith, asks)

pub put_new-returns-in_err-i-in-Binary : goal.put_new-returns-in_err-i-in-Binary
put_new-returns-in_err-i-in-Binary t c =
    refused_as (first-full c.requires (shape-as c.shape_of.ensures c.in-Binary.is) (gives_as c.put-in-Binary.ensures c.in_err-i-in-Binary.was))
    c.from_residual-in_err-i-in-Binary.ensures.0

pub put_new-put-requires-in-Binary-2 : goal.put_new-put-requires-in-Binary-2
put_new-put-requires-in-Binary-2 t c =
    let before = gives_as c.put-in-Binary.ensures c.in_ok-i-in-Binary.was in
    let (asks, less) = next-asks c.requires (shape-as c.shape_of.ensures c.in-Binary.is) before _ (Memᴰ.tail (Memᴰ.head refl)) in
    (omega arith, asks)

pub put_new-returns-in_err-j-in-Binary : goal.put_new-returns-in_err-j-in-Binary
put_new-returns-in_err-j-in-Binary t c =
    refused_as (second-full c.requires (shape-as c.shape_of.ensures c.in-Binary.is) (gives_as c.put-in-Binary.ensures c.in_ok-i-in-Binary.was)
    (gives_as c.put-in-Binary-2.ensures c.in_err-j-in-Binary.was))
    c.from_residual-in_err-j-in-Binary.ensures.0

pub put_new-share-requires-in-Binary : goal.put_new-share-requires-in-Binary
put_new-share-requires-in-Binary t c =
    let binary_at = shape-as c.shape_of.ensures c.in-Binary.is in
    record {
      held = (gives_as c.put-in-Binary-2.ensures c.in_ok-j-in-Binary.was).gives.held;
      own = (pair_row binary_at.fits (search rules) (search rules) c.row_word-in-Binary.ensures).own;
    }

pub put_new-returns-in-Literal : goal.put_new-returns-in-Literal
put_new-returns-in-Literal t c =
    let literal_at = shape-as c.shape_of.ensures c.in-Literal.is in
    literal-ends c.requires literal_at (literal-row literal_at.fits (search rules) c.row_word.ensures) c.share.ensures

pub put_new-returns-in-Other : goal.put_new-returns-in-Other
put_new-returns-in-Other t c = other-ends c.requires (shape-as c.shape_of.ensures c.in-Other.is) c.put.ensures

pub put_new-returns-in_ok-i-in-Unary : goal.put_new-returns-in_ok-i-in-Unary
put_new-returns-in_ok-i-in-Unary t c =
    let unary_at = shape-as c.shape_of.ensures c.in-Unary.is in
    unary-ends c.requires unary_at (gives_as c.put-in-Unary.ensures c.in_ok-i-in-Unary.was)
    (modal-row unary_at.fits (search rules) (search rules) c.row_word-in-Unary.ensures) c.share-in-Unary.ensures

pub put_new-returns-in_ok-j-in-Binary : goal.put_new-returns-in_ok-j-in-Binary
put_new-returns-in_ok-j-in-Binary t c =
    let binary_at = shape-as c.shape_of.ensures c.in-Binary.is in
    binary-ends c.requires binary_at (gives_as c.put-in-Binary.ensures c.in_ok-i-in-Binary.was)
    (gives_as c.put-in-Binary-2.ensures c.in_ok-j-in-Binary.was)
    (pair_row binary_at.fits (search rules) (search rules) c.row_word-in-Binary.ensures) c.share-in-Binary.ensures
