-- The loop of `update_parents`, which goes from a node's last parent on to that one's parents: a turn, on plain values.
--
-- In order: the loop's invariant (`Climb`) and its measure; its start; the next parent, or the end; what judging it came to; the last parent; any other.
use Rattle.std.specs.Prelude.{◌≡◌, Bool, true, List, ℕ, ◌+◌, ◌-◌, ◌*◌, ◌<◌, Option, None, Result, Ok, Err}
use Rattle.std.proofs.Common.{subst, arith}
use Rattle.concepts.specs.Lists.{Bytes}
use Rattle.words.specs.Sizes.{most_records}
use Rattle.graph.specs.Graphs.{Work, work, Step}
use Rattle.graph.specs.GraphLaws.{held-most}
use Rattle.graph.specs.declared.Counts.{Counts}
use Rattle.graph.specs.declared.Area.{Area}
use Rattle.updates.specs.declared.Rejudged.{Rejudged}
use Rattle.updates.specs.Clauses.{UpdateAsks, unsettled, UpdateGives, ParentsGives, Later, Settles, RejudgedTo, RejudgeGives}
use Rattle.updates.specs.LaterLaws.{later_refl, later_trans, later-unsettled, update-later}
use Rattle.updates.specs.ParentCases.{Tells, TellsNone, ParentsTurn, ParentFound, turn-start, turn_end, turn-asks, turn-less, turn-short, turn-updated}
use Rattle.updates.specs.ParentCases.{turn-jump}

-- ---- the loop's invariant, and its measure

-- of the call from the areas w with counts c at node x, what is left are the parents of `child` from record i on
pub record Climb (ws : List ℕ) (w : Work) (c : Counts) (x : ℕ) (w' : Work) (child : ℕ) (start d : Counts) (i : ℕ) : Type 0 where
  -- the areas when its first parent was looked for
  pub areas : Work
  pub turn : ParentsTurn ws areas start child w' d i
  -- what its parents come to is what the call comes to
  pub whole : (r : Step) (w'' : Work) → ParentsGives ws areas start child r w'' → ParentsGives ws w c x r w''
  pub later : Later w c w' d

-- an unsettled place is worth more than all edges
abbrev pub climbing : Work → Counts → Counts → ℕ → ℕ
climbing w start d i = (most_records + 1) * unsettled w d + (start.edges - i)

pub climb-start : {ws : List ℕ} {w : Work} {c : Counts} {x : ℕ} → UpdateAsks ws w c x → Climb ws w c x w x c c 0
climb-start {w = w} A = record { areas = w; turn = turn-start A; whole = λ r w'' G. G; later = later_refl A.held }

-- ---- a turn

module _ {ws : List ℕ} {w : Work} {c : Counts} {x : ℕ} {n' e' a' : Bytes} {child : ℕ} {start d : Counts} {i : ℕ}
    (I : Climb ws w c x (work n' e' a') child start d i) where
  pub climb-end : {v : Option (ℕ × ℕ)} → Tells n' e' start child i v → v ≡ None → ParentsGives ws w c x (Ok d) (work n' e' a')
  climb-end W ev = I.whole (Ok d) (work n' e' a') (turn_end I.turn W ev)

  module _ {j y : ℕ} (p : ParentFound I.turn j y) where
    module _ {d₂ : Counts} {w'' : Work} (G : UpdateGives ws (work n' e' a') d y (Ok d₂) w'') where
      went_on : Later (work n' e' a') d w'' d₂
      went_on = update-later (turn-asks p) G

      -- parent y is updated
      updated : Climb ws w c x w'' child start d₂ (j + 1)
      updated = record { areas = I.areas; turn = turn-updated p G; whole = I.whole; later = later_trans I.later went_on }

      less : climbing w'' start d₂ (j + 1) < climbing (work n' e' a') start d i
      less = omega (arith, later-unsettled went_on, turn-less p)

    -- ---- what judging parent y came to

    -- its status changed
    abbrev pub Changed : Work → Counts → Type 0
    Changed w₁ d₁ = Settles ws (work n' e' a') d y w₁ d₁

    module _ {v : Result Rejudged Area} {n₁ e₁ a₁ : Bytes} (R : RejudgeGives ws (work n' e' a') d y v (work n₁ e₁ a₁)) where
      abbrev w₁ : Work
      w₁ = work n₁ e₁ a₁

      came-to : {u : Result Rejudged Area} → v ≡ u → RejudgedTo ws (work n' e' a') d y u w₁
      came-to ev = subst (λ (v : Result Rejudged Area). RejudgedTo ws (work n' e' a') d y v w₁) ev R.came

      pub climb-short : {s : Area} → v ≡ Err s → ParentsGives ws w c x (Err s) w₁
      climb-short {s} ev = I.whole (Err s) w₁ (turn-short p (came-to ev))

      pub climb-kept : {d₁ : Counts} → v ≡ Ok (Rejudged.Kept d₁) → Climb ws w c x w₁ child start d₁ (j + 1)
      climb-kept ev = updated (came-to ev)

      pub climb-kept-less : {d₁ : Counts} → v ≡ Ok (Rejudged.Kept d₁) → climbing w₁ start d₁ (j + 1) < climbing (work n' e' a') start d i
      climb-kept-less ev = less (came-to ev)

      pub climb-changed : {d₁ : Counts} → v ≡ Ok (Rejudged.Changed d₁) → Changed w₁ d₁
      climb-changed ev = came-to ev

    -- ---- a parent whose status changed

    module _ {n₁ e₁ a₁ : Bytes} {d₁ : Counts} (S : Changed (work n₁ e₁ a₁) d₁) where
      -- it was the last: its own parents are left
      pub climb-last : {b : Bool} → TellsNone n₁ e₁ start child (j + 1) b → b ≡ true → Climb ws w c x (work n₁ e₁ a₁) y d₁ d₁ 0
      climb-last B eb = record {
        areas = work n₁ e₁ a₁;
        turn = turn-start S.asks;
        whole = λ r w'' G. I.whole r w'' (turn-jump p S B eb r G);
        later = later_trans I.later S.later;
      }

      pub climb-last-less : climbing (work n₁ e₁ a₁) d₁ d₁ 0 < climbing (work n' e' a') start d i
      climb-last-less = omega (arith, S.falls, (held-most S.asks.held).1)

      -- it was not: its own parents are updated by a call
      pub climb-falls : unsettled (work n₁ e₁ a₁) d₁ < unsettled w c
      climb-falls = omega (arith, S.falls, later-unsettled I.later)

      module _ {r : Step} {w₂ : Work} (G : ParentsGives ws (work n₁ e₁ a₁) d₁ y r w₂) where
        went : {s : Step} → r ≡ s → UpdateGives ws (work n' e' a') d y s w₂
        went er = S.whole (subst (λ (r : Step). ParentsGives ws (work n₁ e₁ a₁) d₁ y r w₂) er G)

        pub climb-nested-short : {s : Area} → r ≡ Err s → ParentsGives ws w c x (Err s) w₂
        climb-nested-short {s} er = I.whole (Err s) w₂ (turn-short p (went er))

        pub climb-nested : {d₂ : Counts} → r ≡ Ok d₂ → Climb ws w c x w₂ child start d₂ (j + 1)
        climb-nested er = updated (went er)

        pub climb-nested-less : {d₂ : Counts} → r ≡ Ok d₂ → climbing w₂ start d₂ (j + 1) < climbing (work n' e' a') start d i
        climb-nested-less er = less (went er)
