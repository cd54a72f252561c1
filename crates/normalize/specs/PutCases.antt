-- The ways through the functions that put one row, on plain values.
--
-- In order: answers by their names; a row that is shared (`share-there`, `share-next`, `share-none`); a row that is put and then
-- remembered (`new-case`); a row that is not remembered, by what becomes of it: literal, other, over one row, over two.
use Rattle.std.specs.Prelude.{◌≡◌, ◌==◌, refl, true, false, ℕ, ◌+◌, ◌≤◌, ◌<◌, length, get_or, set, take, replicate}
use Rattle.std.specs.Prelude.{position, Option, None, Some, Result, Ok, Err, IsErr}
use Rattle.std.proofs.Common.{sym, ◌∙◌, arith, length-set, length-append, get_or-set_same, get_or-set_other}
use Rattle.std.proofs.Math.Path.{ap, subst}
use mathlib.Core.List.{List, [], ◌∷◌, ◌++◌, Memᴰ}
use Rattle.std.proofs.Math.Decide.{ℕ_discrete}
use Rattle.std.proofs.lemmas.List.{get_or-replicate}
use Rattle.concepts.specs.Lists.{Bytes}
use Rattle.concepts.specs.Begins.{Begins, begins-trans, begins-length}
use Rattle.concepts.specs.Concept.{Concept, Table, concept_at, arguments}
use Rattle.decoding.specs.RowParts.{of_parts}
use Rattle.rulefile.specs.Format.{row_count, most_rows}
use Rattle.drafts.specs.Normalize as Normalize
use Rattle.drafts.specs.Normalize.{Sign, other, stands, share, put_shape, put}
use Rattle.drafts.proofs.ShareLaws.{share-found, share-new, share-gives}
use Rattle.drafts.specs.ShapeLaws.{shape_rows}
use Rattle.drafts.proofs.PutLaws.{rows_named, put_as, put-grown}
use Rattle.normalize.specs.declared.Shape.{Shape}
use Rattle.normalize.specs.declared.Shape.TheVariants.{Literal, Other, Unary, Binary}
use Rattle.normalize.specs.declared.TooLarge.{TooLarge}
use Rattle.normalize.specs.declared.Written.{Written}
use Rattle.normalize.specs.Words.{row_in, Held}
use Rattle.normalize.specs.WordLaws.{IsRow, length-rows_in, rows_in-more, held_more, found-place, found-nowhere}
use Rattle.normalize.specs.Shapes.{shape_of, table_of, ShapeAt, slots, slot_of}
use Rattle.normalize.specs.ShapeLaws.{draft-parted, draft-ordered, draft-idle}
use Rattle.normalize.specs.Clauses.{Settled, Remembers, rows_of, ShareAsks, Gives, SharesRow, PutAsks, Still, PutGives}

-- ---- an answer by its name

pub shape-as : {b : Bytes} {k : ℕ} {s : Sign} {σ τ : Shape} → ShapeAt b k s σ → σ ≡ τ → ShapeAt b k s τ
shape-as {b} {k} {s} S e = subst (ShapeAt b k s) e S

pub gives_as : {b : Bytes} {w : Written} {k : ℕ} {s : Sign} {w' : Written} {r q : Result ℕ TooLarge} → PutGives b w k s w' r → r ≡ q
    → PutGives b w k s w' q
gives_as {b} {w} {k} {s} {w'} G e = subst (PutGives b w k s w') e G

-- what one error says another does
pub refused_as : {b : Bytes} {w : Written} {k : ℕ} {s : Sign} {w' : Written} {e : TooLarge} {r : Result ℕ TooLarge} → PutGives b w k s w' (Err e) → IsErr r
    → PutGives b w k s w' r
refused_as {r = Ok place} G i = absurd (cc)
refused_as {r = Err f} G i = record { memo_size = G.memo_size; size = G.size; gives = G.gives; still = tt }

-- ---- a row that is shared

module _ {w : Written} {word : ℕ} (A : ShareAsks w word) where
  abbrev out : Table
  out = rows_of w

  -- an equal row is there
  pub share-there : {r : ℕ} → position (λ v. v == word) (take w.count w.words) ≡ Some r → SharesRow w word w (Ok r)
  share-there {r} f =
      let e : share (row_in word) out ≡ stands out r = share-found (row_in word) out r (found-place A.held A.own r f).1 in
      record {
        size = refl;
        memo_is = refl;
        gives = record { held = A.held; rows = ap (λ (p : Normalize.Put). p.rows) (sym e); at = ap (λ (p : Normalize.Put). p.at) (sym e) };
      }

  module _ (f : position (λ v. v == word) (take w.count w.words) ≡ None) where
    new_row : share (row_in word) out ≡ stands (out ++ row_in word ∷ []) (length out)
    new_row = share-new (row_in word) out (found-nowhere A.held A.own f)

    -- it becomes the next row
    pub share-next : w.count < most_rows
        → SharesRow w word (record { words = set w.words w.count word; count = w.count + 1; memo = w.memo }) (Ok w.count)
    share-next h = record {
      size = length-set w.words w.count word;
      memo_is = refl;
      gives = record {
        held = held_more w.words w.count word A.held h A.own;
        rows = rows_in-more w.words w.count word (omega (arith, A.held.size)) ∙ ap (λ (p : Normalize.Put). p.rows) (sym new_row);
        at = sym (length-rows_in w.words w.count) ∙ ap (λ (p : Normalize.Put). p.at) (sym new_row);
      };
    }

    -- there is no place for it
    pub share-none : {e : TooLarge} → most_rows ≤ w.count → SharesRow w word w (Err e)
    share-none h = record {
      size = refl;
      memo_is = refl;
      gives = rw new_row (omega (arith, length-append out (row_in word ∷ []), length-rows_in w.words w.count));
    }

-- ---- what is remembered

module _ {b : Bytes} where
  remembers-grown : {t u : Table} {memo : List (Option ℕ)} → Remembers b t memo → Begins t u → Remembers b u memo
  remembers-grown {t} {u} R more = record { size = R.size; settled = λ k s place h l v c. R.settled k s place h l v (begins-trans t u v more c) }

  -- nothing is remembered at first
  pub remembers-none : (t : Table) → row_count b ≤ most_rows → Remembers b t (replicate slots None)
  remembers-none t few = record {
    size = refl;
    settled = λ k s place h l. absurd (nothing (slot_of k s) place (slot_lt k s (omega arith)) l);
  }
    where
      slot_lt : (k : ℕ) (s : Sign) → k < most_rows → slot_of k s < slots
      slot_lt k true h = omega arith
      slot_lt k false h = omega arith

      nothing : (at place : ℕ) → at < slots → get_or {A = Option ℕ} (replicate slots None) at None ≡ Some place → ⊥
      nothing at place h e = let none = get_or-replicate {A = Option ℕ} slots at None None h in absurd (cc)

slot_same : (k j : ℕ) (s z : Sign) → slot_of k s ≡ slot_of j z → (k ≡ j) × (s ≡ z)
slot_same k j true true e = (omega arith, refl)
slot_same k j false false e = (omega arith, refl)
slot_same k j true false e = absurd (omega arith)
slot_same k j false true e = absurd (omega arith)

module _ {b : Bytes} {w : Written} {k : ℕ} (A : PutAsks b w k) (s : Sign) where
  -- the row is put, and its place is remembered
  module _ {w' : Written} {place : ℕ} (G : PutGives b w k s w' (Ok place)) where
    now-settled : Settled b s k (rows_of w') place
    now-settled u more =
        (put-grown (table_of b) (draft-ordered A.draft) s k (rows_of w)).settled u (subst (λ (t : Table). Begins t u) G.gives.rows more)
        ∙ ap (stands u) (sym G.gives.at)

    slot-inside : slot_of k s < length w'.memo
    slot-inside = inside s
      where
        inside : (z : Sign) → slot_of k z < length w'.memo
        inside true = omega (arith, G.memo_size, A.row, (draft-parted A.draft).few_rows)
        inside false = omega (arith, G.memo_size, A.row, (draft-parted A.draft).few_rows)

    settled-all : (j : ℕ) (z : Sign) (p : ℕ) → j < row_count b → get_or (set w'.memo (slot_of k s) (Some place)) (slot_of j z) None ≡ Some p
        → Settled b z j (rows_of w') p
    settled-all j z p h l = elim (ℕ_discrete (slot_of j z) (slot_of k s)) [
      | yes e ↦
          let (row, sign) = slot_same j k z s e in
          let here : get_or (set w'.memo (slot_of k s) (Some place)) (slot_of j z) None ≡ Some place =
          rw e (get_or-set_same w'.memo (slot_of k s) (Some place) None slot-inside) in
          let same : place ≡ p = cc in
          rw (row, sign, ← same) now-settled
      | no d ↦
          let other : get_or (set w'.memo (slot_of k s) (Some place)) (slot_of j z) None ≡ get_or w'.memo (slot_of j z) None =
          get_or-set_other w'.memo (slot_of k s) (slot_of j z) (Some place) None d in
          G.still.settled j z p h (sym other ∙ l)
    ]

    pub new-case : PutGives b w k s (record { words = w'.words; count = w'.count; memo = set w'.memo (slot_of k s) (Some place) }) (Ok place)
    new-case = record {
      memo_size = length-set w'.memo (slot_of k s) (Some place) ∙ G.memo_size;
      size = G.size;
      gives = record { held = G.gives.held; rows = G.gives.rows; at = G.gives.at };
      still = record { size = length-set w'.memo (slot_of k s) (Some place) ∙ G.memo_size; settled = settled-all };
    }

-- ---- a row that is not remembered

-- where sharing a row ends the putting of row k
share-ends : {b : Bytes} {w₀ : Written} {k : ℕ} {s : Sign} {w : Written} {word : ℕ} {w' : Written} {r : Result ℕ TooLarge} → Held w.words w.count
    → Remembers b (rows_of w) w.memo
    → put (table_of b) s k (rows_of w₀) ≡ share (row_in word) (rows_of w) → SharesRow w word w' r → PutGives b w₀ k s w' r
share-ends {b} {w = w} {word = word} {w' = w'} {r = r} H R e S = record {
  memo_size = ap length S.memo_is ∙ R.size;
  size = S.size ∙ H.size;
  gives = subst (λ (p : Normalize.Put). Gives p w' r) (sym e) S.gives;
  still = still r S.gives;
}
  where
    still : (r : Result ℕ TooLarge) → Gives (share (row_in word) (rows_of w)) w' r → Still b w' r
    still (Ok place) g =
        rw S.memo_is (remembers-grown R (subst (Begins (rows_of w)) (sym g.rows) (share-gives (row_in word) (rows_of w)).more))
    still (Err e) g = tt

module _ {b : Bytes} {w : Written} {k : ℕ} (A : PutAsks b w k) where
  abbrev t : Table
  t = table_of b

  -- what the row becomes says what is put for it
  module _ {s : Sign} {σ : Shape} (S : ShapeAt b k s σ) where
    put-becomes : put t s k (rows_of w) ≡ put_shape (put t) (shape_of σ) (rows_of w)
    put-becomes = put_as t (draft-ordered A.draft) s k (sym S.becomes) (rows_of w)

    named : (l : ℕ) → Memᴰ l (shape_rows (shape_of σ)) → Memᴰ l (arguments (concept_at t k))
    named l m = rows_named t s k l (sym S.becomes) m

    lower : (l : ℕ) → Memᴰ l (shape_rows (shape_of σ)) → l < k
    lower l m = draft-ordered A.draft k l (named l m)

    -- a row that it stands over may be put
    pub first-asks : (l : ℕ) → Memᴰ l (shape_rows (shape_of σ)) → PutAsks b w l × (l < k)
    first-asks l m =
        let h = lower l m in
        (record { draft = A.draft; row = omega (arith, A.row); idle = draft-idle A.draft k l (named l m); held = A.held; remembered = A.remembered }, h)

    -- and after it another one
    pub next-asks : {w' : Written} {l i : ℕ} {z : Sign} → PutGives b w l z w' (Ok i) → (j : ℕ) → Memᴰ j (shape_rows (shape_of σ))
        → PutAsks b w' j × (j < k)
    next-asks G j m =
        let h = lower j m in (
          record {
            draft = A.draft;
            row = omega (arith, A.row);
            idle = draft-idle A.draft k j (named j m);
            held = G.gives.held;
            remembered = G.still;
          },
          h,
        )

  -- a name
  module _ {s : Sign} {kind name word : ℕ} (S : ShapeAt b k s (Literal kind name)) (R : IsRow word (of_parts kind 0 name 0)) where
    pub literal-ends : {w' : Written} {r : Result ℕ TooLarge} → SharesRow w word w' r → PutGives b w k s w' r
    unfolding put_shape
    literal-ends = share-ends A.held A.remembered (put-becomes S ∙ ap (λ (c : Concept). share c (rows_of w)) (sym R.row))

  -- what becomes of another row
  pub other-ends : {s : Sign} {l : ℕ} {z : Sign} → ShapeAt b k s (Other z l) → {w' : Written} {r : Result ℕ TooLarge}
      → PutGives b w l z w' r
      → PutGives b w k s w' r
  unfolding put_shape
  other-ends {s} S {w'} {r} G = record {
    memo_size = G.memo_size;
    size = G.size;
    gives = subst (λ (p : Normalize.Put). Gives p w' r) (sym (put-becomes S)) G.gives;
    still = G.still;
  }

  -- a row over one
  module _ {s : Sign} {kind role l : ℕ} {z : Sign} (S : ShapeAt b k s (Unary kind role z l)) {w' : Written} where
    pub unary-ends : {i word : ℕ} → PutGives b w l z w' (Ok i) → IsRow word (of_parts kind role i 0) → {w'' : Written} {r : Result ℕ TooLarge}
        → SharesRow w' word w'' r → PutGives b w k s w'' r
    unfolding put_shape
    unary-ends {i} G R =
        share-ends G.gives.held G.still
        (put-becomes S ∙ rw (← G.gives.rows, ← G.gives.at, R.row))

    pub unary-full : {e : TooLarge} → PutGives b w l z w' (Err e) → PutGives b w k s w' (Err e)
    unfolding put_shape
    unary-full G =
        let p = put t z l (rows_of w) in
        let more = (share-gives (of_parts kind role p.at 0) p.rows).more in
        record { memo_size = G.memo_size; size = G.size; gives = rw (put-becomes S) (omega (arith, G.gives, begins-length p.rows _ more)); still = tt }

  -- a row over two
  module _ {s : Sign} {kind l j : ℕ} {z y : Sign} (S : ShapeAt b k s (Binary kind z l y j)) where
    abbrev first : Normalize.Put
    first = put t z l (rows_of w)

    abbrev second : Normalize.Put
    second = put t y j first.rows

    first_more : Begins first.rows (put t s k (rows_of w)).rows
    unfolding put_shape
    first_more =
        rw (put-becomes S)
        (begins-trans first.rows second.rows _ (put-grown t (draft-ordered A.draft) y j first.rows).more
        (share-gives (of_parts kind 0 first.at second.at) second.rows).more)

    second_more : Begins second.rows (put t s k (rows_of w)).rows
    unfolding put_shape
    second_more = rw (put-becomes S) (share-gives (of_parts kind 0 first.at second.at) second.rows).more

    pub first-full : {w' : Written} {e : TooLarge} → PutGives b w l z w' (Err e) → PutGives b w k s w' (Err e)
    first-full G = record { memo_size = G.memo_size; size = G.size; gives = omega (arith, G.gives, begins-length first.rows _ first_more); still = tt }

    module _ {w' : Written} {i : ℕ} (G : PutGives b w l z w' (Ok i)) where
      pub second-full : {w'' : Written} {e : TooLarge} → PutGives b w' j y w'' (Err e) → PutGives b w k s w'' (Err e)
      second-full F =
          let long : most_rows < length second.rows = rw G.gives.rows at F.gives in
          record { memo_size = F.memo_size; size = F.size; gives = omega (arith, begins-length second.rows _ second_more); still = tt }

      pub binary-ends : {w'' : Written} {h word : ℕ} → PutGives b w' j y w'' (Ok h) → IsRow word (of_parts kind 0 i h)
          → {w₃ : Written} {r : Result ℕ TooLarge}
          → SharesRow w'' word w₃ r → PutGives b w k s w₃ r
      unfolding put_shape
      binary-ends F R =
          share-ends F.gives.held F.still
          (put-becomes S ∙ rw (← G.gives.rows, ← G.gives.at, ← F.gives.rows, ← F.gives.at, R.row))
