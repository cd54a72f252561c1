-- The ways through the functions that list the names, on plain values.
--
-- In order: a row of a kind and of a name; the rows of the names, from the last row to the first; a name more, listed or passed over; all names.
use Rattle.std.specs.Prelude.{◌≡◌, refl, ◌⊎◌, Bool, true, false, ◌&&◌, cond, ℕ, suc, ◌+◌, ◌≤◌, ◌<◌, eqb, ltb, length, get_or, drop, set, replicate, Option, None, Some}
use Rattle.std.proofs.Common.{inl, inr, sym, ◌∙◌, subst, subst₂, add-one, arith, length-set, length-append, drop_of_length-le, get_or-set_same, get_or-set_other, eq-eqb, ne_eqb, lt-ltb, le-ltb}
use Rattle.std.proofs.Math.Path.{ap}
use mathlib.Core.List.{List, [], ◌∷◌, ◌++◌, map, map-id, append-nil}
use Rattle.std.proofs.Math.Decide.{ℕ_discrete}
use Rattle.std.proofs.lemmas.List.{length-replicate, get_or-replicate, length-map}
use Rattle.concepts.specs.Tests.{and-nothing, impossible}
use Rattle.std.specs.Option.{option_zip}
use Rattle.concepts.specs.Lists.{range, select}
use Rattle.concepts.specs.ListLaws.{length-range, range-more, select-append, select_in, select-out, map-append}
use Rattle.concepts.specs.Concept.{Concept, as_atomic, as_negated, Table, concept_at}
use Rattle.concepts.specs.RowSet.{RowSet, single, union, insert, from_list}
use Rattle.concepts.specs.RowSetLaws.{union_comm, union_assoc}
use Rattle.procedure.specs.Problem.{same_name}
use Rattle.decoding.specs.RowParts.{kind_of, left_of}
use Rattle.decoding.specs.RowPartLaws.{views-by-parts}
use Rattle.problem.specs.Decoded.{count_of, table_of, Decoded}
use Rattle.problem.specs.DecodedLaws.{length-table_of, name-lt}
use Rattle.subsumption.specs.Names.{place_of, of_name, positive, negative, has_both, names}
use Rattle.subsumption.proofs.NameLaws.{place_of-none, place_of-drop}
use Rattle.catalogue.specs.Clauses.{name_of, RowAt, PlacesFrom, names_below, Lists, NameAsks, NameFits}
use Rattle.catalogue.specs.declared.Listed.{Listed}

-- ---- a row of a kind and of a name

named_by : (kind a : ℕ) (c : Concept) → of_name (name_of kind) a c ≡ (eqb (kind_of c) kind && eqb a (left_of c))
unfolding of_name
named_by kind a c = go (eqb (kind_of c) kind)
  where
    go : (b : Bool) → same_name (Some a) (cond b (Some (left_of c)) None) ≡ (b && eqb a (left_of c))
    go true = refl
    go false = refl

name_of-atomic : name_of 1 ≡ as_atomic
name_of-atomic i c = sym (views-by-parts c).atomic-is i

name_of-negated : name_of 2 ≡ as_negated
name_of-negated i c = sym (views-by-parts c).negated-is i

-- ---- the rows of the names

row-at : (n : ℕ) {o o' : Option ℕ} {i i' : ℕ} → o ≡ o' → i ≡ i' → RowAt o i n → RowAt o' i' n
row-at n p q r = subst₂ (λ (o : Option ℕ) (i : ℕ). RowAt o i n) p q r

-- behind the last row
pub places-none : (ws : List ℕ) (kind : ℕ) {n : ℕ} → n ≡ count_of ws → PlacesFrom kind (table_of ws) n (replicate 64 None)
places-none ws kind {n} e = record {
  within = omega (arith, length-table_of ws);
  all = length-replicate {A = Option ℕ} 64 None;
  rows = λ a h.
      let p = of_name (name_of kind) a in
      let past : place_of p (drop n (table_of ws)) ≡ 0 =
      ap (place_of p) (drop_of_length-le (table_of ws) {i = n} (omega (arith, length-table_of ws))) ∙ place_of-none p in
      let here : n ≡ n + place_of p (drop n (table_of ws)) = omega arith in
      row-at _ (sym (get_or-replicate 64 a None None h)) here (omega (arith, length-table_of ws));
}

pub places-at : {kind : ℕ} {t : Table} {k j : ℕ} {places : List (Option ℕ)} → PlacesFrom kind t k places → k ≡ j → PlacesFrom kind t j places
places-at {kind} {t} {places = places} P e = subst (λ (n : ℕ). PlacesFrom kind t n places) e P

module _ {ws : List ℕ} (ok : Decoded ws) {kind : ℕ} (k : ℕ) {places : List (Option ℕ)} (P : PlacesFrom kind (table_of ws) (k + 1) places) where
  abbrev t : Table
  t = table_of ws

  pub place-row : k < count_of ws
  place-row = omega (arith, P.within, length-table_of ws)

  pub place-small : k < 256
  place-small = omega (arith, place-row, ok.rows.few)

  -- a row of the kind has a name
  pub place-name : kind < 3 → kind_of (concept_at t k) ≡ kind → left_of (concept_at t k) < 64
  place-name few e = name-lt ok.rows k place-row (omega arith)

  -- the first row from row k on, by whether row k is one
  first-from : (a : ℕ) {b : Bool} → of_name (name_of kind) a (concept_at t k) ≡ b
      → k + place_of (of_name (name_of kind) a) (drop k t) ≡ cond b k (k + 1 + place_of (of_name (name_of kind) a) (drop (k + 1) t))
  first-from a {b} e =
      ap (λ (x : ℕ). k + x) (place_of-drop (of_name (name_of kind) a) t k (omega (arith, P.within)))
      ∙ ap (λ (x : Bool). k + cond x 0 (suc (place_of (of_name (name_of kind) a) (drop (suc k) t)))) e
      ∙ ap (λ (x : ℕ). k + cond b 0 (suc (place_of (of_name (name_of kind) a) (drop x t)))) (sym (add-one k))
      ∙ go b (place_of (of_name (name_of kind) a) (drop (k + 1) t))
    where
      go : (x : Bool) (n : ℕ) → k + cond x 0 (suc n) ≡ cond x k (k + 1 + n)
      go true n = omega arith
      go false n = omega arith

  passed_over : (a : ℕ) → a < 64 → of_name (name_of kind) a (concept_at t k) ≡ false
      → RowAt (get_or places a None) (k + place_of (of_name (name_of kind) a) (drop k t)) (length t)
  passed_over a h e = row-at _ refl (sym (first-from a e)) (P.rows a h)

  -- a row of another kind
  pub place_other : (kind_of (concept_at t k) ≡ kind → ⊥) → PlacesFrom kind t k places
  place_other d = record {
    within = omega (arith, P.within);
    all = P.all;
    rows =
        λ a h. passed_over a h (named_by kind a (concept_at t k)
        ∙ ap (λ (x : Bool). x && eqb a (left_of (concept_at t k))) (ne_eqb (kind_of (concept_at t k)) kind d));
  }

  -- a row of the kind is put down for its name
  pub place-put : kind_of (concept_at t k) ≡ kind → {name : ℕ} → name ≡ left_of (concept_at t k) → name < 64
      → PlacesFrom kind t k (set places name (Some k))
  place-put e {name} l small = record {
    within = omega (arith, P.within);
    all = length-set places name (Some k) ∙ P.all;
    rows = λ a h. elim (ℕ_discrete a name) [
      | yes q ↦
          let stored : get_or (set places name (Some k)) a None ≡ Some k =
          ap (λ (x : ℕ). get_or (set places name (Some k)) x None) q ∙ get_or-set_same places name (Some k) None (omega (arith, P.all)) in
          row-at _ (sym stored) (sym (first-from a (here a ∙ eq-eqb a (left_of (concept_at t k)) (q ∙ l)))) (refl, omega (arith, P.within))
      | no d ↦
          row-at _ (sym (get_or-set_other places name a (Some k) None d)) refl
          (passed_over a h (here a ∙ ne_eqb a (left_of (concept_at t k)) (λ q. d (q ∙ sym l))))
    ];
  }
    where
      here : (a : ℕ) → of_name (name_of kind) a (concept_at t k) ≡ eqb a (left_of (concept_at t k))
      here a = named_by kind a (concept_at t k) ∙ ap (λ (x : Bool). x && eqb a (left_of (concept_at t k))) (eq-eqb (kind_of (concept_at t k)) kind e)

-- from the first row on, they are the rows of the names
pub places-positive : {t : Table} {places : List (Option ℕ)} → PlacesFrom 1 t 0 places → (a : ℕ) → a < 64
    → RowAt (get_or places a None) (positive t a) (length t)
places-positive {t} P a h =
    let all : 0 + place_of (of_name (name_of 1) a) (drop 0 t) ≡ place_of (of_name (name_of 1) a) t = omega arith in
    row-at _ refl (all ∙ ap (λ (view : Concept → Option ℕ). place_of (of_name view a) t) name_of-atomic) (P.rows a h)

pub places-negative : {t : Table} {places : List (Option ℕ)} → PlacesFrom 2 t 0 places → (a : ℕ) → a < 64
    → RowAt (get_or places a None) (negative t a) (length t)
places-negative {t} P a h =
    let all : 0 + place_of (of_name (name_of 2) a) (drop 0 t) ≡ place_of (of_name (name_of 2) a) t = omega arith in
    row-at _ refl (all ∙ ap (λ (view : Concept → Option ℕ). place_of (of_name view a) t) name_of-negated) (P.rows a h)

-- ---- a name more

length-select : (f : ℕ → Bool) (xs : List ℕ) → length (select f xs) ≤ length xs
unfolding select
length-select f [] = omega arith
length-select f (x ∷ xs) = go (f x) (length-select f xs)
  where
    go : (b : Bool) → length (select f xs) ≤ length xs
        → length {A = ℕ} (elim b as (λ _. List ℕ) [ true ↦ x ∷ select f xs | false ↦ select f xs ]) ≤ suc (length xs)
    go true h = omega arith
    go false h = omega arith

from_list-snoc : (ks : List ℕ) (k : ℕ) → from_list (ks ++ k ∷ []) ≡ insert k (from_list ks)
unfolding from_list
from_list-snoc [] k = refl
from_list-snoc (j ∷ ks) k =
    ap (insert j) (from_list-snoc ks k) ∙ sym (union_assoc (single j) (single k) (from_list ks))
    ∙ ap (λ (x : RowSet). union x (from_list ks)) (union_comm (single j) (single k))
    ∙ union_assoc (single k) (single j) (from_list ks)

module _ (t : Table) (a : ℕ) where
  below-few : length (names_below t a) ≤ a
  below-few = omega (arith, length-select (has_both t) (range 0 a), length-range 0 a)

  below_next : names_below t (a + 1) ≡ names_below t a ++ select (has_both t) (a ∷ [])
  below_next =
      let more : range 0 (a + 1) ≡ range 0 a ++ a ∷ [] =
      sym (map-id (range 0 (a + 1))) ∙ range-more (λ x. x) a ∙ ap (λ (l : List ℕ). l ++ a ∷ []) (map-id (range 0 a)) in
      ap (select (has_both t)) more ∙ select-append (has_both t) (range 0 a) (a ∷ [])

  below_in : has_both t a ≡ true → names_below t (a + 1) ≡ names_below t a ++ a ∷ []
  unfolding select
  below_in e = below_next ∙ ap (λ (l : List ℕ). names_below t a ++ l) (select_in (has_both t) a [] e)

  below_out : has_both t a ≡ false → names_below t (a + 1) ≡ names_below t a
  unfolding select
  below_out e = below_next ∙ ap (λ (l : List ℕ). names_below t a ++ l) (select-out (has_both t) a [] e) ∙ append-nil (names_below t a)

-- no name is below 0
pub lists-none : (t : Table) (l : Listed) → l.names ≡ 0 → l.positives ≡ [] → l.negatives ≡ [] → Lists t (names_below t 0) l
unfolding range select from_list
lists-none t l e p n = record { names-are = e; few = omega arith; positives-are = p; negatives-are = n }

-- two answers, both or one that there is none
zip-some : (p n : Option ℕ) {x y : ℕ} → option_zip p n ≡ Some (x, y) → (p ≡ Some x) × (n ≡ Some y)
zip-some (Some v) (Some w) {x} {y} e = let q : ◌≡◌ {A = ℕ × ℕ} (v, w) (x, y) = cc in (ap (λ (z : ℕ × ℕ). Some z.0) q, ap (λ (z : ℕ × ℕ). Some z.1) q)
zip-some (Some v) None e = impossible cc
zip-some None n e = impossible cc

zip-none : (p n : Option ℕ) → option_zip p n ≡ None → (p ≡ None) ⊎ (n ≡ None)
zip-none (Some v) (Some w) e = impossible cc
zip-none (Some v) None e = inr refl
zip-none None n e = inl refl

-- a name more finds place
pub name-fits : {t : Table} {a : ℕ} {l : Listed} → a < 64 → Lists t (names_below t a) l → NameFits a l
name-fits {t} {a} h L = record {
  below = h;
  positives = omega (arith, ap length L.positives-are, length-map (names_below t a) (positive t), below-few t a);
  negatives = omega (arith, ap length L.negatives-are, length-map (names_below t a) (negative t), below-few t a);
}

module _ {t : Table} {a : ℕ} {p n : Option ℕ} {l : Listed} (A : NameAsks t a p n l) where
  -- without one of its rows it is passed over
  passed : has_both t a ≡ false → Lists t (names_below t (a + 1)) l
  passed e = subst (λ (xs : List ℕ). Lists t xs l) (sym (below_out t a e)) A.lists

  no-positive : p ≡ None → has_both t a ≡ false
  no-positive e = ap (λ (x : Bool). x && ltb (negative t a) (length t)) (le-ltb (positive t a) (length t) (row-at _ e refl A.positive-is))

  no-negative : n ≡ None → has_both t a ≡ false
  no-negative e =
      ap (λ (x : Bool). ltb (positive t a) (length t) && x) (le-ltb (negative t a) (length t) (row-at _ e refl A.negative-is))
      ∙ and-nothing (ltb (positive t a) (length t))

  pub name-passed : option_zip p n ≡ None → Lists t (names_below t (a + 1)) l
  name-passed e = passed (elim (zip-none p n e) [ inl q ↦ no-positive q | inr q ↦ no-negative q ])

  -- with both it is listed
  pub name-listed : {x y : ℕ} → option_zip p n ≡ Some (x, y) → {l' : Listed} → l'.names ≡ insert a l.names
      → l'.positives ≡ l.positives ++ x ∷ [] → l'.negatives ≡ l.negatives ++ y ∷ []
      → Lists t (names_below t (a + 1)) l'
  name-listed {x} {y} e {l'} bits ps ns =
      let (ep, en) = zip-some p n e in
      let (hp, hp-in) = row-at _ ep refl A.positive-is in
      let (hn, hn-in) = row-at _ en refl A.negative-is in
      let both : has_both t a ≡ true = ap (λ (b : Bool). b && ltb (negative t a) (length t)) (lt-ltb (positive t a) (length t) hp-in)
      ∙ lt-ltb (negative t a) (length t) hn-in in
      subst (λ (xs : List ℕ). Lists t xs l') (sym (below_in t a both))
      (record {
        names-are = bits ∙ ap (insert a) A.lists.names-are ∙ sym (from_list-snoc (names_below t a) a);
        few = simp length-append (omega (arith, below-few t a, A.below));
        positives-are = row_more (positive t) ps A.lists.positives-are hp;
        negatives-are = row_more (negative t) ns A.lists.negatives-are hn;
      })
    where
      row_more : (f : ℕ → ℕ) {xs xs' : List ℕ} {z : ℕ} → xs' ≡ xs ++ z ∷ [] → xs ≡ map f (names_below t a) → z ≡ f a
          → xs' ≡ map f (names_below t a ++ a ∷ [])
      row_more f es before ez = es ∙ (λ i. before i ++ ez i ∷ []) ∙ sym (map-append f (names_below t a) (a ∷ []))

-- ---- all names

pub names-listed : {t : Table} {l : Listed} {a : ℕ} → Lists t (names_below t a) l → a ≡ 64 → Lists t (names t) l
unfolding names
names-listed {t} {l} L e = subst (λ (n : ℕ). Lists t (names_below t n) l) e L
