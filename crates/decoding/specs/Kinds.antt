-- The kinds of rows by their numbers, as the first byte of a row has them.
--
-- In order: the kind of a number; the rows that a row of a kind names. Laws are in DecodingLaws.
-- Assumes nothing.
use Rattle.std.specs.Prelude.{◌&&◌, cond, List, [], ◌∷◌, ℕ, eqb, leb, Option, None, Some}
use Rattle.decoding.specs.declared.kinds.Kind.{Kind}
use Rattle.decoding.specs.declared.kinds.Kind.TheVariants.{Atomic, Negated, Conj, Disj, Univ, Exist, Inclusion, Neg, Impl}

-- none for a number that is no kind's
abbrev pub kind_named : ℕ → Option Kind
kind_named n =
    cond (eqb n 1) (Some Atomic)
    (cond (eqb n 2) (Some Negated)
    (cond (eqb n 3) (Some Conj)
    (cond (eqb n 4) (Some Disj)
    (cond (eqb n 5) (Some Univ)
    (cond (eqb n 6) (Some Exist)
    (cond (eqb n 7) (Some Inclusion)
    (cond (eqb n 8) (Some Neg)
    (cond (eqb n 9) (Some Impl)
    None))))))))

-- names and inclusions have no argument, "both", "either" and "if" two, "all", "some" and "not" one; none if the bytes are not as the kind uses them
abbrev pub rows_by : Kind → ℕ → ℕ → ℕ → Option (List ℕ)
rows_by Atomic role left right = cond (eqb role 0 && eqb right 0 && leb left 63) (Some []) None
rows_by Negated role left right = cond (eqb role 0 && eqb right 0 && leb left 63) (Some []) None
rows_by Conj role left right = cond (eqb role 0) (Some (left ∷ right ∷ [])) None
rows_by Disj role left right = cond (eqb role 0) (Some (left ∷ right ∷ [])) None
rows_by Univ role left right = cond (eqb right 0 && leb role 31) (Some (left ∷ [])) None
rows_by Exist role left right = cond (eqb right 0 && leb role 31) (Some (left ∷ [])) None
rows_by Inclusion role left right = cond (eqb right 0 && leb role 31 && leb left 31) (Some []) None
rows_by Neg role left right = cond (eqb role 0 && eqb right 0) (Some (left ∷ [])) None
rows_by Impl role left right = cond (eqb role 0) (Some (left ∷ right ∷ [])) None
