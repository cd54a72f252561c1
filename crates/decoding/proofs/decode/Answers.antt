-- `decoding::decode` meets its contract: the rows that a row names go by its kind.
use Rattle.std.proofs.Common.{sym, ap, ◌∙◌, ◌≡◌, refl, Bool, true, false, ◌||◌, ◌&&◌, cond, ℕ, Option, None, Some}
use Rattle.std.proofs.Math.Dec.{eqb, leb}
use Rattle.std.specs.Bool.{then_some}
use Rattle.std.specs.Prelude.{List, [], ◌∷◌}
use denote.Enum.Bare.{sameb}
use Rattle.concepts.specs.RowSet.{mem}
use Rattle.concepts.specs.Tests.{impossible}
use Rattle.decoding.specs.contracts.kinds.Kind.{the_type}
use Rattle.decoding.specs.declared.Row.{Row}
use Rattle.decoding.specs.declared.kinds.Kind.{Kind}
use Rattle.decoding.specs.declared.kinds.Kind.TheVariants.{Atomic, Negated, Conj, Disj, Univ, Exist, Inclusion, Neg, Impl}
use Rattle.decoding.specs.Kinds.{kind_named, rows_by}
use Rattle.decoding.specs.Named.{named_rows, named_by}
use Rattle.decoding.specs.DecodingLaws.{named-refused, named-kind, named-no_kind}
use Rattle.decoding.proofs.decode.Goals as goal

-- the tests, in their order
abbrev by_tests : Kind → ℕ → ℕ → ℕ → Option (List ℕ)
by_tests k role left right =
    cond (sameb the_type k Atomic || sameb the_type k Negated) (cond (eqb role 0 && eqb right 0 && leb left 63) (Some []) None)
    (cond (sameb the_type k Univ || sameb the_type k Exist) (cond (eqb right 0 && leb role 31) (Some (left ∷ [])) None)
    (cond (sameb the_type k Inclusion) (cond (eqb right 0 && leb role 31 && leb left 31) (Some []) None)
    (cond (sameb the_type k Neg) (cond (eqb role 0 && eqb right 0) (Some (left ∷ [])) None)
    (cond (eqb role 0) (Some (left ∷ right ∷ [])) None))))

tests-are : (k : Kind) (role left right : ℕ) → by_tests k role left right ≡ rows_by k role left right
tests-are Atomic role left right = refl
tests-are Negated role left right = refl
tests-are Conj role left right = refl
tests-are Disj role left right = refl
tests-are Univ role left right = refl
tests-are Exist role left right = refl
tests-are Inclusion role left right = refl
tests-are Neg role left right = refl
tests-are Impl role left right = refl

module _ (kinds kind role left right : ℕ) where
  -- the rows of the kind k, if the bytes pass a test
  of_kind : {allowed : Bool} {o : Option Kind} {k : Kind} {r : Option Row} (test : Bool) (row : Row) → allowed ≡ mem kind kinds → allowed ≡ true
      → o ≡ kind_named kind → o ≡ Some k → r ≡ then_some test row → cond test (named_by (Some row)) None ≡ by_tests k role left right
      → named_by r ≡ named_rows kinds kind role left right
  of_kind {k = k} test row a t o is r e =
      ap named_by r ∙ some test row ∙ e ∙ tests-are k role left right ∙ sym (named-kind kinds kind role left right (sym a ∙ t) (sym o ∙ is))
    where
      some : (test : Bool) (row : Row) → named_by (then_some test row) ≡ cond test (named_by (Some row)) None
      some true row = refl
      some false row = refl

pub returns-then-not-allowed : goal.returns-then-not-allowed
returns-then-not-allowed c =
    let a = c.args in
    sym (named-refused a.kinds a.kind a.role a.left a.right (sym c.allowed.ensures ∙ c.if-not-allowed.true))

pub returns-in_err-kind : goal.returns-in_err-kind
returns-in_err-kind c =
    let a = c.args in
    ap named_by c.from_residual.ensures ∙ sym (named-no_kind a.kinds a.kind a.role a.left a.right (sym c.of.ensures ∙ c.in_err-kind.was))

pub returns-then-eq : goal.returns-then-eq
returns-then-eq c =
    let a = c.args in
    of_kind a.kinds a.kind a.role a.left a.right _ _ c.allowed.ensures c.if-not-allowed.false c.of.ensures c.in_ok-kind.was
    c.then_some.ensures (rw (sym c.eq.ensures, sym c.eq-2.ensures, c.if-eq.true) refl)

pub returns-then-eq-2 : goal.returns-then-eq-2
returns-then-eq-2 c =
    let a = c.args in
    of_kind a.kinds a.kind a.role a.left a.right _ _ c.allowed.ensures c.if-not-allowed.false c.of.ensures c.in_ok-kind.was
    c.then_some-then-eq-2.ensures
    (rw (sym c.eq.ensures, sym c.eq-2.ensures, c.if-eq.false, sym c.eq-3.ensures, sym c.eq-4.ensures, c.if-eq-2.true) refl)

pub returns-then-eq-3 : goal.returns-then-eq-3
returns-then-eq-3 c =
    let a = c.args in
    of_kind a.kinds a.kind a.role a.left a.right _ _ c.allowed.ensures c.if-not-allowed.false c.of.ensures c.in_ok-kind.was
    c.then_some-then-eq-3.ensures
    (rw (sym c.eq.ensures, sym c.eq-2.ensures, c.if-eq.false, sym c.eq-3.ensures, sym c.eq-4.ensures, c.if-eq-2.false, sym c.eq-5.ensures, c.if-eq-3.true) refl)

pub returns-then-eq-4 : goal.returns-then-eq-4
returns-then-eq-4 c =
    let a = c.args in
    of_kind a.kinds a.kind a.role a.left a.right _ _ c.allowed.ensures c.if-not-allowed.false c.of.ensures c.in_ok-kind.was
    c.then_some-then-eq-4.ensures
    (rw (sym c.eq.ensures, sym c.eq-2.ensures, c.if-eq.false, sym c.eq-3.ensures, sym c.eq-4.ensures, c.if-eq-2.false, sym c.eq-5.ensures, c.if-eq-3.false, sym c.eq-6.ensures, c.if-eq-4.true) refl)

pub returns : goal.returns
returns c =
    let a = c.args in
    of_kind a.kinds a.kind a.role a.left a.right _ _ c.allowed.ensures c.if-not-allowed.false c.of.ensures c.in_ok-kind.was
    c.then_some-2.ensures
    (rw (sym c.eq.ensures, sym c.eq-2.ensures, c.if-eq.false, sym c.eq-3.ensures, sym c.eq-4.ensures, c.if-eq-2.false, sym c.eq-5.ensures, c.if-eq-3.false, sym c.eq-6.ensures, c.if-eq-4.false) refl)
