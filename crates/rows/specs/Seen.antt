-- A relation's breaks as code meets them: step by step among its offsets, place by place in a row.
use Rattle.std.specs.Prelude.{◌≡◌, Bool, true, false, cond, not, ◌&&◌, ◌||◌, ◌⊎◌, List, ℕ, ◌+◌, ◌/◌, ◌%◌, ◌≤◌, ◌<◌, length, eqb, ltb}
use Rattle.rules.specs.Lists.{all_of, ascends}
use Rattle.rules.specs.Book.{count, held, offset, total, row_of, frame_right}
use Rattle.rules.specs.Broken.{word_bad, offset_bad, relation_bad, bad_place}

-- how many entries each row of the relation of key k has to have: d + 1 of d→0, d > 0; else 0
unfoldable pub size_of : ℕ → ℕ
size_of k = cond (eqb (k % 4) 0 && ltb 0 k) (k / 4 + 1) 0

-- an offset falls, or ends a row that has not that many entries; 0 asks nothing
unfoldable pub step_bad : ℕ → ℕ → ℕ → Bool
step_bad before offset size = ltb offset before || (ltb 0 size && not (eqb offset (before + size)))

-- the relation of key k is held, in a book that obeys the frame rule
pub record Stands (ws : List ℕ) (k : ℕ) : Type 0 where
  pub framed : frame_right ws ≡ true
  pub holds : held ws k ≡ true

-- no offset of the relation of key k is bad
abbrev pub Offsets : List ℕ → ℕ → Type 0
Offsets ws k = (q : ℕ) → q ≤ count ws (k / 4) → offset_bad ws k q ≡ false

-- it stands, and no offset of it is bad
pub record Whole (ws : List ℕ) (k : ℕ) : Type 0 where
  pub stands : Stands ws k
  pub fine : Offsets ws k

-- the rows below i have no bad index, equal cells left out
abbrev pub Passed : List ℕ → ℕ → ℕ → Type 0
Passed ws k i = (j : ℕ) → j < i → (q : ℕ) → q < length (row_of ws k j) → word_bad (count ws (k % 4)) (row_of ws k j) q ≡ false

-- the rows below i are passed, and row i, if there is one, ends at a bad offset or does not ascend below N_e
pub record Reached (ws : List ℕ) (k i : ℕ) : Type 0 where
  pub most : i ≤ count ws (k / 4)
  pub offsets : (q : ℕ) → q < i + 1 → offset_bad ws k q ≡ false
  pub rows : Passed ws k i
  pub stopped : i < count ws (k / 4) → (offset_bad ws k (i + 1) ≡ true) ⊎ ((ascends (row_of ws k i) && all_of (λ (j : ℕ). ltb j (count ws (k % 4))) (row_of ws k i)) ≡ false)

-- index p of row i is the first bad one, equal cells left out
pub record IndexMet (ws : List ℕ) (k i p : ℕ) : Type 0 where
  pub fine : Offsets ws k
  pub row : i < count ws (k / 4)
  pub within : p < length (row_of ws k i)
  pub bad : word_bad (count ws (k % 4)) (row_of ws k i) p ≡ true
  pub rows : Passed ws k i
  pub before : (q : ℕ) → q < p → word_bad (count ws (k % 4)) (row_of ws k i) q ≡ false

-- the lowest position of the relation of key k that is seen to break a rule, equal cells left out, or the relation's length
pub data Met (ws : List ℕ) (k r : ℕ) : Type 0 where
  at_offset : r ≤ count ws (k / 4) → offset_bad ws k r ≡ true → ((q : ℕ) → q < r → offset_bad ws k q ≡ false) → Met ws k r
  at-index : (i p : ℕ) → IndexMet ws k i p → r ≡ count ws (k / 4) + 1 + offset ws k i + p → Met ws k r
  nowhere : Offsets ws k → Passed ws k (count ws (k / 4)) → r ≡ count ws (k / 4) + 1 + total ws k → Met ws k r

-- the lowest position of the relation of key k that is seen to break a rule, or the relation's length
pub record SeenIn (ws : List ℕ) (k r : ℕ) : Type 0 where
  pub most : r ≤ count ws (k / 4) + 1 + total ws k
  pub broken : ltb r (count ws (k / 4) + 1 + total ws k) ≡ relation_bad ws k
  pub lowest : r < count ws (k / 4) + 1 + total ws k → r ≡ bad_place ws k
