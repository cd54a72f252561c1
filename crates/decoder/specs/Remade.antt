-- Words that are written: which of them may differ (`Beside`), and what each became (`Remade`). Laws are in RemadeLaws.
use Rattle.std.specs.Prelude.{◌≡◌, List, ◌⊎◌, ℕ, ◌+◌, ◌≤◌, ◌<◌, length, get_or}

-- only the n words from a place on may differ
pub record Beside (at n : ℕ) (w w' : List ℕ) : Type 0 where
  pub longs : length w' ≡ length w
  pub others : (i : ℕ) → (i < at) ⊎ (at + n ≤ i) → get_or w' i 0 ≡ get_or w i 0

-- the words at n places are made by f from what they were, and no other differs
pub record Remade (at : ℕ → ℕ) (n : ℕ) (f : ℕ → ℕ → ℕ) (w w' : List ℕ) : Type 0 where
  pub longs : length w' ≡ length w
  pub others : (i : ℕ) → ((c : ℕ) → c < n → i ≡ at c → ⊥) → get_or w' i 0 ≡ get_or w i 0
  pub made : (c : ℕ) → c < n → get_or w' (at c) 0 ≡ f c (get_or w (at c) 0)
