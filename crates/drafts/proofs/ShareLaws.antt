-- Laws of sharing equal rows.
--
-- In order: rows with the same four bytes are equal; the first equal row (`place_of-at`, `place_of-nowhere`); what sharing a row gives (`Shared`, `share-gives`);
-- a row that is shared once is found again as the table grows (`shared-settled`).
use Rattle.std.specs.Prelude.{◌≡◌, refl, true, ◌&&◌, cond, [], ◌∷◌, ◌++◌, ℕ, ◌+◌, ◌≤◌, ◌<◌, eqb, length, Option, None, Some}
use Rattle.std.proofs.Common.{sym, ap, ◌∙◌, subst, inl, inr, eqb→eq, length-append, get_or-append-add}
use native.Mathlib.Omega.{arith}
use Rattle.std.proofs.Math.Dec.{eqb_refl}
use Rattle.std.proofs.Math.ListN.{get_or}
use Rattle.concepts.specs.Tests.{and_both, and-make, as-true, from-true}
use Rattle.concepts.specs.Lists.{range, NoneBelow}
use Rattle.concepts.specs.ListLaws.{length-range, get_or-range, least-below}
use Rattle.concepts.specs.FirstLaws.{first-at, first-nowhere}
use Rattle.concepts.specs.Begins.{Begins, begins-refl, begins-length, begins-get_or}
use Rattle.concepts.specs.Concept.{Concept, atomic, Table, concept_at, role_of}
use Rattle.decoding.specs.RowParts.{kind_of, left_of, right_of}
use Rattle.decoding.specs.RowPartLaws.{same_parts_lem}
use Rattle.drafts.specs.Normalize.{same_row, place_of, Put, stands, share}
use Rattle.drafts.specs.ShareLaws.{equal_at, Shared}

-- ---- rows with the same four bytes

pub same_row-path : (c d : Concept) → same_row c d ≡ true → c ≡ d
unfolding same_row
same_row-path c d e =
    let (k, more) = and_both (eqb (kind_of c) (kind_of d)) (eqb (role_of c) (role_of d) && (eqb (left_of c) (left_of d) && eqb (right_of c) (right_of d)))
    (from-true _ e) in
    let (r, rest) = and_both (eqb (role_of c) (role_of d)) (eqb (left_of c) (left_of d) && eqb (right_of c) (right_of d)) more in
    let (l, i) = and_both (eqb (left_of c) (left_of d)) (eqb (right_of c) (right_of d)) rest in
    same_parts_lem c d (eqb→eq _ _ k) (eqb→eq _ _ r) (eqb→eq _ _ l) (eqb→eq _ _ i)

pub same_row-refl : (c : Concept) → same_row c c ≡ true
unfolding same_row
same_row-refl c =
    as-true _
    (and-make (eqb (kind_of c) (kind_of c)) _ (eqb_refl (kind_of c))
    (and-make (eqb (role_of c) (role_of c)) _ (eqb_refl (role_of c))
    (and-make (eqb (left_of c) (left_of c)) (eqb (right_of c) (right_of c)) (eqb_refl (left_of c)) (eqb_refl (right_of c)))))

-- ---- the first equal row

module _ (c : Concept) (out : Table) where
  abbrev answer : ℕ → Option ℕ
  answer k = cond (equal_at c out k) (Some k) None

  passed : (k : ℕ) → k ≤ length out → NoneBelow (equal_at c out) k → (j : ℕ) → j < k → answer (get_or (range 0 (length out)) j 0) ≡ None
  passed k h n j l =
      let e : get_or (range 0 (length out)) j 0 ≡ j = get_or-range 0 (length out) j 0 (omega arith) ∙ omega arith in
      rw (e, n j l)

  pub place_of-at : (k : ℕ) → k < length out → NoneBelow (equal_at c out) k → equal_at c out k ≡ true → place_of c out ≡ Some k
  unfolding place_of
  place_of-at k h n e =
      let p : get_or (range 0 (length out)) k 0 ≡ k = get_or-range 0 (length out) k 0 h ∙ omega arith in
      first-at answer (range 0 (length out)) 0 k k (omega (arith, length-range 0 (length out))) (passed k (omega arith) n) (rw (p, e))

  pub place_of-nowhere : NoneBelow (equal_at c out) (length out) → place_of c out ≡ None
  unfolding place_of
  place_of-nowhere n = first-nowhere answer (range 0 (length out)) 0 (λ j l. passed (length out) (omega arith) n j (omega (arith, length-range 0 (length out))))

  pub share-found : (k : ℕ) → place_of c out ≡ Some k → share c out ≡ stands out k
  unfolding share
  share-found k e = rw (e, share)

  pub share-new : place_of c out ≡ None → share c out ≡ stands (out ++ c ∷ []) (length out)
  unfolding share
  share-new e = rw (e, share)

pub concept_at-last : (c : Concept) (out : Table) → concept_at (out ++ c ∷ []) (length out) ≡ c
concept_at-last c out =
    let z : length out + 0 ≡ length out = omega arith in
    rw (← z) (get_or-append-add out (c ∷ []) 0 (atomic 0))

found-shared : (c : Concept) (out : Table) (k : ℕ) → k < length out → NoneBelow (equal_at c out) k → equal_at c out k ≡ true
    → Shared c out (stands out k)
found-shared c out k h n e = record { more = begins-refl out; inside = h; here = sym (same_row-path c (concept_at out k) e); least = n; which = inl refl }

new-shared : (c : Concept) (out : Table) → NoneBelow (equal_at c out) (length out) → Shared c out (stands (out ++ c ∷ []) (length out))
new-shared c out n =
    let b : Begins out (out ++ c ∷ []) = (c ∷ [], refl) in
    record {
      more = b;
      inside = omega (arith, length-append out (c ∷ []));
      here = concept_at-last c out;
      least = λ j l. ap (same_row c) (begins-get_or out (out ++ c ∷ []) j (atomic 0) b l) ∙ n j l;
      which = inr (refl, refl, n);
    }

pub share-gives : (c : Concept) (out : Table) → Shared c out (share c out)
share-gives c out = elim (least-below (equal_at c out) (length out)) [
  | inl (k, h, n, e) ↦ subst (Shared c out) (sym (share-found c out k (place_of-at c out k h n e))) (found-shared c out k h n e)
  | inr n ↦ subst (Shared c out) (sym (share-new c out (place_of-nowhere c out n))) (new-shared c out n)
]

-- ---- as the table grows

module _ {c : Concept} {out : Table} {p : Put} (S : Shared c out p) {u : Table} (b : Begins p.rows u) where
  pub shared-here : concept_at u p.at ≡ c
  shared-here = begins-get_or p.rows u p.at (atomic 0) b S.inside ∙ S.here

  pub shared-settled : share c u ≡ stands u p.at
  shared-settled =
      share-found c u p.at
      (place_of-at c u p.at (omega (arith, S.inside, begins-length p.rows u b))
      (λ j l. ap (same_row c) (begins-get_or p.rows u j (atomic 0) b (omega (arith, S.inside))) ∙ S.least j l)
      (ap (same_row c) shared-here ∙ same_row-refl c))
