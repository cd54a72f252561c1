-- The ways through the loop that puts a list of rows, on plain values.
--
-- In order: how far the loop has come (`Course`); its start; the next row; a turn; a turn that finds no place; its end.
use Rattle.std.specs.Prelude.{◌≡◌, refl, ℕ, suc, ◌+◌, ◌≤◌, ◌<◌, get_or, set, Ok, Err}
use Rattle.std.proofs.Math.Path.{sym, ap}
use Rattle.std.proofs.Common.{◌∙◌, add-one, arith, length-set, drop-cons, take-suc-set}
use mathlib.Core.List.{List, [], ◌∷◌, ◌++◌, append-nil, append_assoc}
use Rattle.std.proofs.Math.ListN.{length, take, drop, drop_of_length-le}
use Rattle.concepts.specs.ListLaws.{get_or-mem}
use Rattle.concepts.specs.Begins.{begins-length}
use Rattle.concepts.specs.Concept.{Table}
use Rattle.rulefile.specs.Format.{most_rows}
use Rattle.drafts.specs.Normalize as Normalize
use Rattle.drafts.specs.Normalize.{as_is, put, put_list}
use Rattle.drafts.proofs.PutListLaws.{put_list-grown}
use Rattle.normalize.specs.declared.TooLarge.{TooLarge}
use Rattle.normalize.specs.declared.Written.{Written}
use Rattle.normalize.specs.Words.{Held}
use Rattle.normalize.specs.Shapes.{table_of}
use Rattle.normalize.specs.ShapeLaws.{draft-ordered}
use Rattle.normalize.specs.Clauses.{Remembers, rows_of, PutAsks, PutGives, ListAsks, ListGives}

-- ---- how far the loop has come: i rows are put, and the rest of the list comes to what the whole does

pub record Course (b list : List ℕ) (w₀ : Written) (places₀ : List ℕ) (w : Written) (places : List ℕ) (i : ℕ) : Type 0 where
  pub within : i ≤ length list
  pub held : Held w.words w.count
  pub remembered : Remembers b (rows_of w) w.memo
  pub place_size : length places ≡ length places₀
  pub rows : (put_list (table_of b) (drop i list) (rows_of w)).rows ≡ (put_list (table_of b) list (rows_of w₀)).rows
  pub told : take i places ++ (put_list (table_of b) (drop i list) (rows_of w)).places ≡ (put_list (table_of b) list (rows_of w₀)).places

module _ {b list : List ℕ} {w₀ : Written} {places₀ : List ℕ} (A : ListAsks b list w₀ places₀) where
  abbrev t : Table
  t = table_of b

  pub course-start : Course b list w₀ places₀ w₀ places₀ 0
  course-start = record { within = omega arith; held = A.held; remembered = A.remembered; place_size = refl; rows = refl; told = refl }

  module _ {w : Written} {places : List ℕ} {i : ℕ} (C : Course b list w₀ places₀ w places i) where
    -- ---- the next row

    module _ (h : i < length list) where
      abbrev k : ℕ
      k = get_or list i 0

      abbrev p : Normalize.Put
      p = put t as_is k (rows_of w)

      pub course-asks : PutAsks b w k
      course-asks =
          record {
            draft = A.draft;
            row = A.listed k (get_or-mem list i 0 h);
            idle = A.idle k (get_or-mem list i 0 h);
            held = C.held;
            remembered = C.remembered;
          }

      pub course-room : i < length places
      course-room = omega (arith, A.room, C.place_size)

      -- the rest of the list is this row and the rest after it
      rest-rows : (put_list t (drop i list) (rows_of w)).rows ≡ (put_list t (drop (suc i) list) p.rows).rows
      unfolding put_list
      rest-rows = ap (λ (ks : List ℕ). (put_list t ks (rows_of w)).rows) (drop-cons list i 0 h)

      rest-places : (put_list t (drop i list) (rows_of w)).places ≡ p.at ∷ (put_list t (drop (suc i) list) p.rows).places
      unfolding put_list
      rest-places = ap (λ (ks : List ℕ). (put_list t ks (rows_of w)).places) (drop-cons list i 0 h)

      -- ---- a turn

      module _ {w' : Written} where
        pub course-more : {place : ℕ} → PutGives b w k as_is w' (Ok place) → Course b list w₀ places₀ w' (set places i place) (i + 1)
        course-more {place} G = record {
          within = omega arith;
          held = G.gives.held;
          remembered = G.still;
          place_size = length-set places i place ∙ C.place_size;
          rows = rw (add-one i, G.gives.rows) (sym rest-rows ∙ C.rows);
          told =
              rw (add-one i, take-suc-set places i place course-room, G.gives.rows, G.gives.at)
              (append_assoc (take i places) (p.at ∷ []) _ ∙ ap (λ (l : List ℕ). take i places ++ l) (sym rest-places) ∙ C.told);
        }

        -- ---- no place: the count is as it was

        pub course-full : {e f : TooLarge} {n : ℕ} → PutGives b w k as_is w' (Err e) → n ≡ w₀.count
            → ListGives b list w₀ (record { words = w'.words; count = n; memo = w'.memo }) places₀ places (Err f)
        course-full G same =
            let more = (put_list-grown t (draft-ordered A.draft) (drop (suc i) list) p.rows).more in
            let long : most_rows < length (put_list t (drop (suc i) list) p.rows).rows = omega (arith, G.gives, begins-length p.rows _ more) in
            record { memo_size = G.memo_size; size = G.size; place_size = C.place_size; got = rw (sym rest-rows ∙ C.rows) at long; kept = same }

    -- ---- the end

    pub course-end : {u : Unit {0}} → length list ≤ i → ListGives b list w₀ w places₀ places (Ok u)
    unfolding put_list
    course-end h =
        let whole : i ≡ length list = omega (arith, C.within) in
        let none : drop i list ≡ [] = drop_of_length-le list h in
        record {
          memo_size = C.remembered.size;
          size = C.held.size;
          place_size = C.place_size;
          got = record {
            held = C.held;
            remembered = C.remembered;
            rows = ap (λ (ks : List ℕ). (put_list t ks (rows_of w)).rows) (sym none) ∙ C.rows;
            told =
                ap (λ (j : ℕ). take j places) (sym whole) ∙ sym (append-nil (take i places))
                ∙ ap (λ (ks : List ℕ). take i places ++ (put_list t ks (rows_of w)).places) (sym none) ∙ C.told;
          };
          kept = tt;
        }
