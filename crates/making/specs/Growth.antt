-- A book with one relation more, or as it was where that does not fit; what the steps on the way to a relation ask and leave; and one relation less.
use Rattle.std.specs.Prelude.{◌≡◌, true, false, cond, List, ℕ, ◌/◌, ◌%◌, ◌^◌, ◌≤◌, ◌<◌, length, get_or, take, leb, Result, Ok, Err}
use Rattle.rules.specs.Lists.{all_of, filled}
use Rattle.rules.specs.Book.{dim, key, held, rows_of, relation, needs, frame_right, rows_right}
use Rattle.rules.specs.Made.{made}
use Rattle.rules.specs.Calls.{added, differs, with_key}
use Rattle.kinds.specs.declared.refusals.Refusal.{Refusal}
use Rattle.kinds.specs.declared.refusals.Refusal.TheVariants.{NoRoom}
use Rattle.relations.specs.Words.{Written}

-- the book is right, d→e is not held, and what it is made from is
pub record Makable (ws : List ℕ) (d e : ℕ) : Type 0 where
  pub frame : frame_right ws ≡ true
  pub rows : rows_right ws ≡ true
  pub first : d ≤ dim ws
  pub second : e ≤ dim ws
  pub new : held ws (key d e) ≡ false
  pub sources : all_of (held ws) (needs (dim ws) d e) ≡ true

-- d→e stands behind the used words up to `end`, and has n rows where it is d→0 with d > 0
pub record Appends (ws : List ℕ) (d e dst end n : ℕ) (vs : List ℕ) : Type 0 where
  pub written : Written ws dst (relation (made ws d e)) end vs
  pub count : e ≡ 0 → 0 < d → n ≡ length (made ws d e)

-- accepted where the words vs fit a book as long as ws, and no room where they do not
unfoldable pub room_answer : List ℕ → List ℕ → Result (Unit {0}) Refusal
room_answer vs ws = cond (leb (length vs) (length ws)) (Ok (record {})) (Err NoRoom)

-- the book with d→e made, where it fits
unfoldable pub grown : List ℕ → ℕ → ℕ → List ℕ
grown ws d e = cond (leb (length (added ws d e)) (length ws)) (filled (length ws) (added ws d e)) ws

-- D is a mesh dimension, the mask is a sum of powers of two up to 2^15, and k is the key of a relation between dimensions up to D
pub record Maskable (D mask k : ℕ) : Type 0 where
  pub low : 0 < D
  pub high : D ≤ 3
  pub small : mask < 2 ^ 16
  pub first : k / 4 ≤ D
  pub second : k % 4 ≤ D

-- the words, without their free part, with the relation of key k held and, as far as missing, everything it is made from
unfoldable pub wanted : List ℕ → ℕ → List ℕ
wanted ws k = with_key 6 (take (get_or ws 4 0) ws) k

-- the book is right, k is the key of a relation between dimensions up to D, and no x→0 on the way to it has another number of rows than the N_x that is kept
pub record Askable (ws : List ℕ) (k : ℕ) : Type 0 where
  pub frame : frame_right ws ≡ true
  pub rows : rows_right ws ≡ true
  pub first : k / 4 ≤ dim ws
  pub second : k % 4 ≤ dim ws
  pub alike : (x : ℕ) → x < dim ws → held ws (key x 0) ≡ false → held (wanted ws k) (key x 0) ≡ true → differs ws x ≡ false

-- vs is a right book that holds what ws holds, with the same rows
pub record Keeps (ws vs : List ℕ) : Type 0 where
  pub frame : frame_right vs ≡ true
  pub rows : rows_right vs ≡ true
  pub size : length vs ≡ length ws
  pub first : get_or vs 0 0 ≡ get_or ws 0 0
  pub holds : (j : ℕ) → held ws j ≡ true → held vs j ≡ true
  pub same : (j : ℕ) → held ws j ≡ true → rows_of vs j ≡ rows_of ws j

-- vs holds the relation of key k exactly when all that it wants fits, and has no other words then; else it still keeps what ws holds
pub record Holds (ws : List ℕ) (k : ℕ) (r : Result (Unit {0}) Refusal) (vs : List ℕ) : Type 0 where
  pub fits : r ≡ room_answer (wanted ws k) ws
  pub words : r ≡ Ok (record {}) → vs ≡ filled (length ws) (wanted ws k)
  pub keeps : Keeps ws vs

-- the book with the relation of key k held and everything it is made from, where they fit
unfoldable pub answered : List ℕ → ℕ → List ℕ
answered ws k = cond (leb (length (wanted ws k)) (length ws)) (filled (length ws) (wanted ws k)) ws

-- the book is right, and d→e is held and not D→0
pub record Droppable (ws : List ℕ) (d e : ℕ) : Type 0 where
  pub frame : frame_right ws ≡ true
  pub rows : rows_right ws ≡ true
  pub first : d ≤ dim ws
  pub second : e ≤ dim ws
  pub there : held ws (key d e) ≡ true
  pub inner : d ≡ dim ws → e ≡ 0 → ⊥
