-- From a decision to the answer and the areas afterwards, on plain values; then the promise.
--
-- In order: the numbers of a decision; the work areas after one; an accepted file; a refused file; the promise, with wanted rows that are given and
-- with the file's own.
use Rattle.std.specs.Prelude.{◌≡◌, refl, List, ℕ, ◌≤◌, length, replicate, Ok, Err}
use Rattle.std.proofs.Math.Path.{sym}
use Rattle.std.proofs.Common.{ap, ◌∙◌, subst, subst₂}
use Rattle.concepts.specs.Lists.{Bytes}
use Rattle.rulefile.specs.Format.{wanted_rows, refused, reading_for}
use Rattle.decoding.specs.Decoding.{rule_kinds}
use Rattle.reader.specs.Read.{LaidFor}
use Rattle.rulefile.specs.ReadingLaws.{reading-own}
use Rattle.reader.specs.declared.Layout.{Layout}
use Rattle.procedure.specs.Problem.{Problem}
use Rattle.procedure.specs.Tableau.{run}
use Rattle.run.specs.Run.{Areas, areas_of, lengths, capacity, Answer, answer_result, answer_reading, Numbers, refused_with, numbers, answer_for, zeros, areas_after}
use Rattle.run.specs.Promise.{PromiseFor, Promise}
use Rattle.run.proofs.Verdict.{answer-accepted, answer-refused}
use Rattle.run.proofs.Kept.{promise-kept}
use Rattle.problem.specs.Decoded.{table_of, problem_of}
use Rattle.decoder.specs.FileProblem.{FileDecoded}
use Rattle.conclusion.specs.Clauses.{Outcome, Decides, Decided, DecideGives}
use Rattle.conclusion.specs.declared.Decision.TheVariants.{Cannot, Can}
use Rattle.conclusion.specs.declared.Shortage.TheVariants.{NoPlace, TooLong}
use Rattle.engine.specs.Clauses.{decided_numbers, Answered}

-- ---- the numbers of a decision

decided-numbers : (d : Outcome) (a : Answer) → Decides d a → decided_numbers d ≡ numbers a
unfolding numbers
decided-numbers (Err (NoPlace p n)) a h = sym (ap numbers h)
decided-numbers (Ok (Cannot c)) a h = sym (ap numbers h)
decided-numbers (Ok (Can c s)) a (x, h, (p, q)) = sym (ap numbers h ∙ cc (p, q))
decided-numbers (Err (TooLong s)) a (x, h, (p, q)) = sym (ap numbers h ∙ cc (p, q))

-- ---- the work areas after one

-- "After a verdict, 10 or 11 every byte of all three is zero" (01), and after 13, 14 and 15 as after 10 (02, [4])
record Cleared (a : Answer) (before : Areas) : Type 0 where
  nodes : (areas_after a before).nodes ≡ zeros before.nodes
  edges : (areas_after a before).edges ≡ zeros before.edges
  alternatives : (areas_after a before).alternatives ≡ zeros before.alternatives

cleared : (d : Outcome) (a : Answer) (before : Areas) → Decides d a → Cleared a before
unfolding areas_after
cleared (Err (NoPlace p n)) a before h = subst (λ (k : Answer). Cleared k before) (sym h) (record { nodes = refl; edges = refl; alternatives = refl })
cleared (Ok (Cannot c)) a before h = subst (λ (k : Answer). Cleared k before) (sym h) (record { nodes = refl; edges = refl; alternatives = refl })
cleared (Ok (Can c s)) a before (x, h, z) = subst (λ (k : Answer). Cleared k before) (sym h) (record { nodes = refl; edges = refl; alternatives = refl })
cleared (Err (TooLong s)) a before (x, h, z) = subst (λ (k : Answer). Cleared k before) (sym h) (record { nodes = refl; edges = refl; alternatives = refl })

-- ---- an accepted file

module _ {v b : Bytes} {l : Layout} (L : LaidFor rule_kinds v b l) {ws : List ℕ} (F : FileDecoded v b ws) (before : Areas) where
  answer-is : answer_result (lengths before) (table_of ws) (run (problem_of ws) (capacity (lengths before))) ≡ answer_for v b (lengths before)
  answer-is =
      ap (λ (P : Problem). answer_result (lengths before) P.table (run P (capacity (lengths before)))) (F.problem-is L.file L.reads)
      ∙ sym (answer-accepted v b (lengths before) L.file L.reads)

  -- it was decided
  pub record Settled (d : Outcome) (elements links : Bytes) : Type 0 where
    pub given : Decided (answer_for v b (lengths before)) before d elements links

  pub file-settled : {d : Outcome} {elements links : Bytes} → DecideGives ws before d elements links → Settled d elements links
  file-settled {d} {elements} {links} D = record { given = subst (λ (k : Answer). Decided k before d elements links) answer-is D }

-- and then the work areas are cleared
module _ {v b : Bytes} {l : Layout} {L : LaidFor rule_kinds v b l} {ws : List ℕ} {F : FileDecoded v b ws} {before : Areas} {d : Outcome}
    {elements links : Bytes} (S : Settled L F before d elements links) where
  -- each kept its length until then
  pub file-answered : {k : Numbers} → k ≡ decided_numbers d → {n e a : Bytes} {n₁ e₁ a₁ : ℕ} → n ≡ replicate n₁ 0
      → n₁ ≡ length before.nodes
      → e ≡ replicate e₁ 0 → e₁ ≡ length before.edges → a ≡ replicate a₁ 0 → a₁ ≡ length before.alternatives
      → Answered v b before k (areas_of n e a elements links)
  file-answered hk zn hn ze he za ha =
      let C = cleared d (answer_for v b (lengths before)) before S.given.decides in
      let pn = zn ∙ ap (λ (m : ℕ). replicate m 0) hn ∙ sym C.nodes in
      let pe = ze ∙ ap (λ (m : ℕ). replicate m 0) he ∙ sym C.edges in
      let pa = za ∙ ap (λ (m : ℕ). replicate m 0) ha ∙ sym C.alternatives in
      record {
        numbers_are = hk ∙ decided-numbers d (answer_for v b (lengths before)) S.given.decides;
        areas_are = λ i. record { nodes = pn i; edges = pe i; alternatives = pa i; elements = S.given.elements_are i; links = S.given.links_are i };
      }

-- ---- the promise

module _ (v b : Bytes) (before : Areas) where
  pub promised : (k : Numbers) (after : Areas) → Answered v b before k after → PromiseFor v b before k after
  promised k after A = subst₂ (λ (x : Numbers) (y : Areas). PromiseFor v b before x y) (sym A.numbers_are) (sym A.areas_are) (promise-kept v b before)

  pub refused-answered : (n : ℕ) → reading_for rule_kinds v b ≡ refused n → (k : Numbers) → k ≡ refused_with n → PromiseFor v b before k before
  unfolding numbers areas_after
  refused-answered n e k hk =
      let q = answer-refused v b (lengths before) n e in
      promised k before (record { numbers_are = hk ∙ sym (ap numbers q); areas_are = sym (ap (λ (x : Answer). areas_after x before) q) })

-- document 01's call is the one with the file's own wanted row, which a file that is too short does not have
pub own-promised : {v b : Bytes} {before : Areas} {k : Numbers} {after : Areas} → (8 ≤ length b → v ≡ wanted_rows b) → PromiseFor v b before k after
    → Promise b before k after
unfolding answer_for
own-promised {v} {b} {before} own P =
    let same : answer_for v b (lengths before) ≡ answer_for (wanted_rows b) b (lengths before) = ap (answer_reading (lengths before))
    (reading-own rule_kinds b own) in
    promised (wanted_rows b) b before _ _ (record {
      numbers_are = P.numbers_are ∙ ap numbers same;
      areas_are = P.areas_are ∙ ap (λ (a : Answer). areas_after a before) same;
    })
