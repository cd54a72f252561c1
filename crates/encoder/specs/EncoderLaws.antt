-- Laws of Encoder.
--
-- In order: the bytes of words (`length-words_bytes`), and of words that are the rows of a table (`words_bytes-table`);
-- pieces stored one after another; a loop over pieces, of bytes and of words; the parts of a file (`sets-parts_bytes`).
use Rattle.std.specs.Prelude.{◌≡◌, refl, List, [], ◌∷◌, ◌++◌, ℕ, suc, ◌+◌, ◌*◌, ◌≤◌, ◌<◌, length, get_or, take, drop, set}
use Rattle.std.proofs.Common.{sym, ap, ap₂, ◌∙◌, append_assoc, add-one, arith, length-append, take-suc, length-take-le}
use Rattle.std.proofs.lemmas.List.Edits.{sets, sets-eq}
use Rattle.std.proofs.Math.Seq.{length-sets, take-length}
use Rattle.concepts.specs.Lists.{Bytes}
use Rattle.concepts.specs.Concept.{Table, concept_at}
use Rattle.words.specs.Words.{overwrite}
use Rattle.drafts.specs.Encoding.{row_bytes, table_bytes}
use Rattle.encoder.specs.Encoder.{word_bytes, words_bytes, trailer_bytes, parts_bytes, Stored}

-- ---- the bytes of words

pub length-words_bytes : (ws : List ℕ) → length (words_bytes ws) ≡ 4 * length ws
unfolding words_bytes
length-words_bytes [] = refl
length-words_bytes (w ∷ ws) = omega (arith, length-words_bytes ws)

words_bytes-snoc : (ws : List ℕ) (w : ℕ) → words_bytes (ws ++ w ∷ []) ≡ words_bytes ws ++ word_bytes w
unfolding words_bytes
words_bytes-snoc [] w = refl
words_bytes-snoc (v ∷ ws) w = ap (λ (b : Bytes). word_bytes v ++ b) (words_bytes-snoc ws w)

-- ---- words that are the rows of a table

pub words_bytes-table : (ws : List ℕ) (t : Table) → length t ≡ length ws
    → ((i : ℕ) → i < length ws → word_bytes (get_or ws i 0) ≡ row_bytes (concept_at t i))
    → words_bytes ws ≡ table_bytes t
unfolding words_bytes table_bytes
words_bytes-table [] [] e same = refl
words_bytes-table [] (c ∷ t) e same = absurd (omega arith)
words_bytes-table (w ∷ ws) [] e same = absurd (omega arith)
words_bytes-table (w ∷ ws) (c ∷ t) e same =
    ap₂ (λ (a b : Bytes). a ++ b) (same 0 (omega arith)) (words_bytes-table ws t (omega arith) (λ i l. same (suc i) (omega arith)))

-- ---- pieces stored one after another

sets-append : (area : Bytes) (at : ℕ) (xs ys : Bytes) → sets area at (xs ++ ys) ≡ sets (sets area at xs) (at + length xs) ys
sets-append area at [] ys = ap (λ (k : ℕ). sets area k ys) (omega arith)
sets-append area at (x ∷ xs) ys = sets-append (set area at x) (suc at) xs ys ∙ ap (λ (k : ℕ). sets (sets (set area at x) (suc at) xs) k ys) (omega arith)

-- one piece right behind another
sets_behind : (area : Bytes) (at : ℕ) (xs ys : Bytes) {area' area'' : Bytes} {place : ℕ} → area' ≡ sets area at xs → place ≡ at + length xs
    → area'' ≡ sets area' place ys
    → area'' ≡ sets area at (xs ++ ys)
sets_behind area at xs ys first e next = next ∙ ap₂ (λ (b : Bytes) (k : ℕ). sets b k ys) first e ∙ sym (sets-append area at xs ys)

-- ---- a loop over pieces

module _ {up_to : ℕ → Bytes} {count : ℕ} {area : Bytes} {at : ℕ} where
  pub stored-none : up_to 0 ≡ [] → Stored up_to count area at area 0
  stored-none nil = record { within = omega arith; here = ap (sets area at) (sym nil) }

  module _ {area' : Bytes} {i : ℕ} (s : Stored up_to count area at area' i) where
    pub stored-size : length area' ≡ length area
    stored-size = ap length s.here ∙ length-sets area at (up_to i)

    stored_more : (piece : Bytes) {area'' : Bytes} {place : ℕ} → i < count → up_to (i + 1) ≡ up_to i ++ piece → place ≡ at + length (up_to i)
        → area'' ≡ sets area' place piece → Stored up_to count area at area'' (i + 1)
    stored_more piece h more e next = record {
      within = omega arith;
      here = sets_behind area at (up_to i) piece s.here e next
          ∙ ap (sets area at) (sym more);
    }

    pub stored-all : count ≤ i → area' ≡ sets area at (up_to count)
    stored-all h = s.here ∙ ap (λ (k : ℕ). sets area at (up_to k)) (omega (arith, s.within))

-- a byte more is copied
pub stored-byte : (bytes : Bytes) {area area' area'' : Bytes} {at i : ℕ} → Stored (λ k. take k bytes) (length bytes) area at area' i
    → i < length bytes
    → area'' ≡ set area' (at + i) (get_or bytes i 0) → Stored (λ k. take k bytes) (length bytes) area at area'' (i + 1)
stored-byte bytes {i = i} s h next =
    stored_more s (get_or bytes i 0 ∷ []) h (rw add-one (take-suc bytes i 0 h)) (omega (arith, length-take-le i bytes (omega arith))) next

pub stored-copy : (bytes : Bytes) {area area' : Bytes} {at i : ℕ} → Stored (λ k. take k bytes) (length bytes) area at area' i → length bytes ≤ i
    → area' ≡ sets area at bytes
stored-copy bytes {area} {at = at} s h = stored-all s h ∙ ap (sets area at) (take-length bytes)

-- the bytes of the first words
abbrev pub first_words : List ℕ → ℕ → Bytes
first_words ws i = words_bytes (take i ws)

pub first_words-none : (ws : List ℕ) → first_words ws 0 ≡ []
unfolding words_bytes
first_words-none ws = refl

-- a word more is written
pub stored-word : (ws : List ℕ) {area area' area'' : Bytes} {at i : ℕ} → Stored (first_words ws) (length ws) area at area' i → i < length ws
    → area'' ≡ sets area' (at + 4 * i) (word_bytes (get_or ws i 0)) → Stored (first_words ws) (length ws) area at area'' (i + 1)
stored-word ws {i = i} s h next =
    stored_more s (word_bytes (get_or ws i 0)) h
    (rw add-one (ap words_bytes (take-suc ws i 0 h) ∙ words_bytes-snoc (take i ws) (get_or ws i 0)))
    (omega (arith, length-words_bytes (take i ws), length-take-le i ws (omega arith))) next

pub stored-words : (ws : List ℕ) {area area' : Bytes} {at i : ℕ} → Stored (first_words ws) (length ws) area at area' i → length ws ≤ i
    → area' ≡ sets area at (words_bytes ws)
stored-words ws {area} {at = at} s h = stored-all s h ∙ ap (λ (xs : List ℕ). sets area at (words_bytes xs)) (take-length ws)

-- ---- the parts of a file

-- stored from the start on, bytes write an area over
sets-overwrite : (bytes area : Bytes) → length bytes ≤ length area → sets area 0 bytes ≡ overwrite bytes area
sets-overwrite bytes area h = let z : 0 + length bytes ≡ length bytes = omega arith in sets-eq bytes area 0 (omega arith)
    ∙ ap (λ (k : ℕ). bytes ++ drop k area) z

-- the text, the rows, the rule list and the trailer, each stored right behind what comes before it
pub sets-parts_bytes : (area text : Bytes) (ws : List ℕ) (rules : Bytes) (wanted : ℕ) {area₁ area₂ area₃ area₄ : Bytes}
    → length text + 4 * length ws + length rules + 8 ≤ length area
    → area₁ ≡ sets area 0 text
    → area₂ ≡ sets area₁ (length text) (words_bytes ws)
    → area₃ ≡ sets area₂ (length text + 4 * length ws) rules
    → area₄ ≡ sets area₃ (length text + 4 * length ws + length rules) (trailer_bytes (length text) (length ws) (length rules) wanted)
    → area₄ ≡ overwrite (parts_bytes text (words_bytes ws) rules (length ws) wanted) area
unfolding parts_bytes
sets-parts_bytes area text ws rules wanted room e₁ e₂ e₃ e₄ =
    let rows : Bytes = words_bytes ws in
    let trailer : Bytes = trailer_bytes (length text) (length ws) (length rules) wanted in
    let long : length rows ≡ 4 * length ws = length-words_bytes ws in
    let e₁₂ = sets_behind area 0 text rows e₁ (omega arith) e₂ in
    let e₁₃ = sets_behind area 0 (text ++ rows) rules e₁₂ (simp length-append (omega arith)) e₃ in
    let e₁₄ = sets_behind area 0 (text ++ rows ++ rules) trailer e₁₃ (simp length-append (omega arith)) e₄ in
    let joined : text ++ rows ++ rules ++ trailer ≡ text ++ (rows ++ (rules ++ trailer)) = simp append_assoc in
    e₁₄ ∙ ap (sets area 0) joined ∙ sets-overwrite (text ++ (rows ++ (rules ++ trailer))) area (simp length-append (omega arith))
