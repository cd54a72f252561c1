-- Laws of refinement: steps one after another, changes, and loops over a list.
--
-- In order: a step by another name (`refines-as`); a step after a step, and after one that found no place; changes; a loop over `for_each` (`Course`).
use Rattle.std.specs.Prelude.{◌≡◌, refl, List, [], ◌∷◌, Result, Ok, Err, IsErr, IsErrAnd}
use Rattle.std.proofs.Common.{sym, ap, ◌∙◌, subst, rules}
use Rattle.procedure.specs.Graph as G
use Rattle.procedure.specs.TableauLaws.{bind-reached, short-bind, short-as, for_each-none, for_each-cons}
use Rattle.graph.specs.Graphs.{Work, graph_of, capacity_of, Held, CountsGrown, Sized, Step, Meets, HeldAfter, Operation, Refines, Changes}
use Rattle.graph.specs.GraphLaws.{grown-refl, grown-trans, sized-refl, sized-trans, sized-places}
use Rattle.graph.specs.declared.Counts.{Counts}
use Rattle.graph.specs.declared.Area.{Area}

-- an area that `?` passes on
pub passed-on : {A : Type 0} {r : Result A Area} {p : Area} → IsErr r × IsErrAnd r (λ q. q ≡ p) → r ≡ Err p
passed-on h = search rules

-- what a step holds, as what an earlier one holds further on
held-further : {c d : Counts} (r : Step) (w : Work) → CountsGrown c d → HeldAfter r d w → HeldAfter r c w
held-further (Ok b) w p h = (h.0, grown-trans p h.1)
held-further (Err x) w p h = tt

module _ {w : Work} {c : Counts} {r : Step} {w' : Work} {f : Operation} (R : Refines w c r w' f) where
  -- an answer that is known
  pub refines-answer : {s : Step} → r ≡ s → Refines w c s w' f
  refines-answer e = subst (λ (s : Step). Refines w c s w' f) e R

  -- an operation that gives the same here
  pub refines-as : {h : Operation} → h (capacity_of w) (graph_of w c) ≡ f (capacity_of w) (graph_of w c) → Refines w c r w' h
  refines-as e = record { meets = subst (Meets r w') (sym e) R.meets; held = R.held; sized = R.sized }

-- ---- one step after another; the second may look at the graph of the start

module _ {w : Work} {c d : Counts} {w₁ : Work} {f : Operation} (R : Refines w c (Ok d) w₁ f) where
  pub refines-held : Held w₁ d
  refines-held = R.held.0

  pub refines-then : (next : G.Graph → Operation) {r : Step} {w₂ : Work} → Refines w₁ d r w₂ (next (graph_of w c))
      → Refines w c r w₂ (λ k g. G.◌>>=◌ (f k g) (next g k))
  refines-then next {r} {w₂} S = record {
    meets = subst (Meets r w₂) (ap (λ (k : G.Capacity). next (graph_of w c) k (graph_of w₁ d)) (sized-places R.sized)
        ∙ sym (bind-reached (graph_of w₁ d) (next (graph_of w c) (capacity_of w)))
        ∙ ap (λ (x : G.Result). G.◌>>=◌ x (next (graph_of w c) (capacity_of w))) R.meets) S.meets;
    held = held-further r w₂ R.held.1 S.held;
    sized = sized-trans R.sized S.sized;
  }

pub refines-short : {w : Work} {c : Counts} {p : Area} {w₁ : Work} {f : Operation} → Refines w c (Err p) w₁ f
    → (next : G.Graph → Operation) {w₂ : Work} → Sized w₁ w₂ → Refines w c (Err p) w₂ (λ k g. G.◌>>=◌ (f k g) (next g k))
refines-short {w} {c} {p} R next z = record {
  meets = short-bind R.meets (next (graph_of w c) (capacity_of w));
  held = tt;
  sized = sized-trans R.sized z;
}

-- ---- changes

-- nothing was done
pub refines-none : {w : Work} {c : Counts} → Held w c → Refines w c (Ok c) w (λ k g. G.reached g)
refines-none {w} {c} h = record { meets = refl; held = (h, grown-refl); sized = sized-refl }

module _ {w : Work} {c : Counts} {w₁ : Work} {f : G.Graph → G.Graph} (C : Changes w c w₁ f) where
  pub changes-refines : Refines w c (Ok c) w₁ (λ k g. G.reached (f g))
  changes-refines = record { meets = ap G.reached C.meets; held = (C.held, grown-refl); sized = C.sized }

  -- a step after a change
  pub changes-then : (next : G.Graph → Operation) {r : Step} {w₂ : Work} → Refines w₁ c r w₂ (next (graph_of w c))
      → Refines w c r w₂ (λ k g. next g k (f g))
  changes-then next {r} {w₂} S = record {
    meets = subst (Meets r w₂) (ap (λ (k : G.Capacity). next (graph_of w c) k (graph_of w₁ c)) (sized-places C.sized)
        ∙ ap (next (graph_of w c) (capacity_of w)) C.meets) S.meets;
    held = S.held;
    sized = sized-trans C.sized S.sized;
  }

  pub changes-both : {w₂ : Work} {h : G.Graph → G.Graph} → Changes w₁ c w₂ h → Changes w c w₂ (λ g. h (f g))
  changes-both {h = h} D = record { meets = D.meets ∙ ap h C.meets; held = D.held; sized = sized-trans C.sized D.sized }

-- a change after a step
pub refines-changes : {w : Work} {c d : Counts} {w₁ w₂ : Work} {f : Operation} {h : G.Graph → G.Graph} → Refines w c (Ok d) w₁ f
    → Changes w₁ d w₂ h
    → Refines w c (Ok d) w₂ (λ k g. G.◌>>=◌ (f k g) (λ u. G.reached (h u)))
refines-changes {h = h} R C = refines-then R (λ g k u. G.reached (h u)) (changes-refines C)

-- ---- a loop over a list, in its course: from the areas w with counts c, what is left to do gives what the whole list gives

module _ {A : Type 0} (step : G.Capacity → A → G.Graph → G.Result) (all : List A) where
  pub record Course (w : Work) (c : Counts) (rest : List A) (w' : Work) (d : Counts) : Type 0 where
    pub held : Held w' d
    pub grown : CountsGrown c d
    pub sized : Sized w w'
    pub left : G.for_each (step (capacity_of w)) rest (graph_of w' d) ≡ G.for_each (step (capacity_of w)) all (graph_of w c)

  pub course-start : {w : Work} {c : Counts} → Held w c → Course w c all w c
  course-start {w} {c} h = record { held = h; grown = grown-refl; sized = sized-refl; left = refl }

module _ {A : Type 0} {step : G.Capacity → A → G.Graph → G.Result} {all : List A} {w : Work} {c : Counts} {w' : Work} {d : Counts} where
  pub course-end : Course step all w c [] w' d → Refines w c (Ok d) w' (λ k g. G.for_each (step k) all g)
  course-end L = record {
    meets = sym (for_each-none (step (capacity_of w)) (graph_of w' d)) ∙ L.left;
    held = (L.held, L.grown);
    sized = L.sized;
  }

  module _ {x : A} {rest : List A} (L : Course step all w c (x ∷ rest) w' d) where
    abbrev left_over : G.Graph → G.Result
    left_over g = G.for_each (step (capacity_of w)) rest g

    -- the next step, and then what is left over
    step_then : G.◌>>=◌ (step (capacity_of w') x (graph_of w' d)) left_over ≡ G.for_each (step (capacity_of w)) all (graph_of w c)
    step_then =
        ap (λ (k : G.Capacity). G.◌>>=◌ (step k x (graph_of w' d)) left_over) (sized-places L.sized)
        ∙ sym (for_each-cons (step (capacity_of w)) x rest (graph_of w' d)) ∙ L.left

    pub course-next : {w'' : Work} {d' : Counts} → Refines w' d (Ok d') w'' (λ k g. step k x g) → Course step all w c rest w'' d'
    course-next {w''} {d'} R = record {
      held = R.held.0;
      grown = grown-trans L.grown R.held.1;
      sized = sized-trans L.sized R.sized;
      left = sym (bind-reached (graph_of w'' d') left_over) ∙ ap (λ (y : G.Result). G.◌>>=◌ y left_over) R.meets ∙ step_then;
    }

    pub course-short : {w'' : Work} {p : Area} → Refines w' d (Err p) w'' (λ k g. step k x g)
        → Refines w c (Err p) w'' (λ k g. G.for_each (step k) all g)
    course-short {w''} {p} R = record {
      meets = short-as (short-bind R.meets left_over) step_then;
      held = tt;
      sized = sized-trans L.sized R.sized;
    }
