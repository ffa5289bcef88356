-- Words moved within the book, as lists.
use Rattle.std.specs.Prelude.{◌≡◌, List, ◌++◌, ℕ, ◌+◌, ◌-◌, ◌≤◌, ◌<◌, true, length, get_or, take, drop, set, replicate}
use Rattle.rules.specs.Book.{named, held, rows_of, relations, frame_right, rows_right}

-- from and to are in order and within n words
pub record Within (from to n : ℕ) : Type 0 where
  pub order : from ≤ to
  pub inside : to ≤ n

-- vs is ws with the n words from p on and the n words from u on exchanged
pub record Exchanged (ws : List ℕ) (p u n : ℕ) (vs : List ℕ) : Type 0 where
  pub size : length vs ≡ length ws
  pub first : (k : ℕ) → k < n → get_or vs (p + k) 0 ≡ get_or ws (u + k) 0
  pub second : (k : ℕ) → k < n → get_or vs (u + k) 0 ≡ get_or ws (p + k) 0
  pub below : (k : ℕ) → k < p → get_or vs k 0 ≡ get_or ws k 0
  pub between : (k : ℕ) → p + n ≤ k → k < u → get_or vs k 0 ≡ get_or ws k 0
  pub above : (k : ℕ) → u + n ≤ k → get_or vs k 0 ≡ get_or ws k 0

-- vs is ws with the words from a up to b moved up by n places
pub record Raised (ws : List ℕ) (a b n : ℕ) (vs : List ℕ) : Type 0 where
  pub size : length vs ≡ length ws
  pub moved : (k : ℕ) → a ≤ k → k < b → get_or vs (k + n) 0 ≡ get_or ws k 0
  pub below : (k : ℕ) → k < a + n → get_or vs k 0 ≡ get_or ws k 0
  pub above : (k : ℕ) → b + n ≤ k → get_or vs k 0 ≡ get_or ws k 0

-- xs begins with the n words of ws from p on
pub record Saved (ws : List ℕ) (p n : ℕ) (xs : List ℕ) : Type 0 where
  pub words : (k : ℕ) → k < n → get_or xs k 0 ≡ get_or ws (p + k) 0

-- vs is ws with the first n words of xs from p on
pub record PutBack (ws : List ℕ) (p : ℕ) (xs : List ℕ) (n : ℕ) (vs : List ℕ) : Type 0 where
  pub size : length vs ≡ length ws
  pub words : (k : ℕ) → k < n → get_or vs (p + k) 0 ≡ get_or xs k 0
  pub below : (k : ℕ) → k < p → get_or vs k 0 ≡ get_or ws k 0
  pub above : (k : ℕ) → p + n ≤ k → get_or vs k 0 ≡ get_or ws k 0

-- the words from u up to t brought before those from p up to u
unfoldable pub settled : ℕ → ℕ → ℕ → List ℕ → List ℕ
settled p u t ws = take p ws ++ (take (t - u) (drop u ws) ++ (take (u - p) (drop p ws) ++ drop t ws))

-- vs is ws with the words from a up to b set to 0
pub record Zeroed (ws : List ℕ) (a b : ℕ) (vs : List ℕ) : Type 0 where
  pub size : length vs ≡ length ws
  pub zeros : (k : ℕ) → a ≤ k → k < b → get_or vs k 0 ≡ 0
  pub below : (k : ℕ) → k < a → get_or vs k 0 ≡ get_or ws k 0
  pub above : (k : ℕ) → b ≤ k → get_or vs k 0 ≡ get_or ws k 0

-- the words with every one from p on 0
unfoldable pub cleared : ℕ → List ℕ → List ℕ
cleared p ws = take p ws ++ replicate (length ws - p) 0

-- the words with words 1 to 4 set
unfoldable pub headed : ℕ → ℕ → ℕ → ℕ → List ℕ → List ℕ
headed mask edges faces used ws = set (set (set (set ws 1 mask) 2 edges) 3 faces) 4 used

-- the words from `from` up to `end` brought down to `to`
unfoldable pub lowered : ℕ → ℕ → ℕ → List ℕ → List ℕ
lowered from end to ws = take to ws ++ (take (end - from) (drop from ws) ++ drop (to + (end - from)) ws)

-- the words from p up to q taken out, those up to u moved down, and as many zeros behind them
unfoldable pub closed_up : ℕ → ℕ → ℕ → List ℕ → List ℕ
closed_up p q u ws = take p ws ++ (take (u - q) (drop q ws) ++ (replicate (q - p) 0 ++ drop u ws))

-- the book is right, and holds every relation that the mask names
pub record Leaves (ws : List ℕ) (mask : ℕ) : Type 0 where
  pub frame : frame_right ws ≡ true
  pub rows : rows_right ws ≡ true
  pub holds : (k : ℕ) → named mask k ≡ true → held ws k ≡ true

-- vs has, behind its first five words and up to `end`, the relations of ws that the mask names
pub record Kept (ws : List ℕ) (mask end : ℕ) (vs : List ℕ) : Type 0 where
  pub size : length vs ≡ length ws
  pub place : end ≡ 5 + length (relations (named mask) (rows_of ws) 16)
  pub fits : end ≤ length ws
  pub front : take end vs ≡ take 5 ws ++ relations (named mask) (rows_of ws) 16
