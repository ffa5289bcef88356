-- Load's number is the file's, or 13 where the file has no fault and the book no room.
use mathlib.Core.Path.{◌≡◌, refl, sym, ap, ◌∙◌}
use mathlib.Core.Bool.{Bool, true, false, cond, ◌||◌}
use mathlib.Core.List.{List, [], ◌∷◌, ◌++◌}
use Prim.Native.Nat.{ℕ, ◌+◌, ◌*◌, ◌≤◌, ◌<◌}
use native.Mathlib.Omega.{arith}
use lib.ListN.{length}
use lib.Dec.{eqb, ltb}
use borrow.Author.Tests.{ltb-true, ne_eqb, eq-eqb, lt-ltb, le-ltb}
use Rattle.rules.specs.Lists.{all_of, filled}
use Rattle.rules.specs.File.{field, head_cells, head_dim}
use Rattle.rules.specs.Calls.{Rule, first_broken, loaded, file_rules, file_number, fault_cell, load_rules, load_number, load_cell, load_words}
use Rattle.rules.proofs.Tests.{left, right}
use Rattle.rules.proofs.Head.{head-cells, head-dim}
use Rattle.rules.proofs.LoadedWords.{loaded-length}
use Rattle.std.specs.Prelude.{Result}
use Rattle.kinds.specs.declared.refusals.Refusal.{Refusal}
use Rattle.kinds.specs.Refusals.{answer_number, answer_cell}
use Rattle.dayfile.specs.Faults.{fault_of}
use Rattle.dayfile.proofs.Answers.{number-back, cell-back}

-- the first broken of two lists of rules, none of whose answers is 0
first-of-two : (rs ss : List (Rule ℕ)) → all_of (λ r. ltb 0 r.answer) rs ≡ true
    → first_broken (rs ++ ss) 0 ≡ cond (eqb (first_broken rs 0) 0) (first_broken ss 0) (first_broken rs 0)
unfolding all_of first_broken
first-of-two [] ss h = refl
first-of-two (r ∷ rs) ss h = go r.broken (first-of-two rs ss (right (ltb 0 r.answer) _ h))
  where
    l : 0 < r.answer
    l = search (left, ltb-true)

    go : (b : Bool) → first_broken (rs ++ ss) 0 ≡ cond (eqb (first_broken rs 0) 0) (first_broken ss 0) (first_broken rs 0)
        → cond b r.answer (first_broken (rs ++ ss) 0) ≡ cond (eqb (cond b r.answer (first_broken rs 0)) 0) (first_broken ss 0) (cond b r.answer (first_broken rs 0))
    go true i = rw (ne_eqb r.answer 0 (λ e. omega (arith, l)))
    go false i = i

load-splits : (f ws : List ℕ) → load_number f ws ≡ cond (eqb (file_number f) 0) (cond (ltb (length ws) (length (loaded f))) 13 0) (file_number f)
unfolding load_number load_rules file_number
load-splits f ws = first-of-two (file_rules f) _ (unfold all_of file_rules in refl) ∙ unfold first_broken in refl

-- the cell and the words, from the number
cell-of : (f ws : List ℕ) (n : ℕ) → load_number f ws ≡ n → load_cell f ws ≡ cond (eqb n 7 || eqb n 8 || eqb n 23) (fault_cell f) 0
unfolding load_cell
cell-of f ws n e = rw e

words_of : (f ws : List ℕ) (n : ℕ) → load_number f ws ≡ n → load_words f ws ≡ cond (eqb n 0) (filled (length ws) (loaded f)) ws
unfolding load_words
words_of f ws n e = rw e

-- what a call of Load has to give: the number, the cell and the words
pub record Gives (f ws : List ℕ) (number cell : ℕ) (vs : List ℕ) : Type 0 where
  pub number_is : number ≡ load_number f ws
  pub cell-is : cell ≡ load_cell f ws
  pub words_are : vs ≡ load_words f ws

module _ (f ws : List ℕ) (fault : Result (Unit {0}) Refusal) (found : fault ≡ fault_of (file_number f) (fault_cell f)) where
  number_is : answer_number fault ≡ file_number f
  number_is = ap answer_number found ∙ number-back f

  -- a fault of the file
  pub faulty : (answer_number fault ≡ 0 → ⊥) → Gives f ws (answer_number fault) (answer_cell fault) ws
  faulty q =
      let n : eqb (file_number f) 0 ≡ false = ne_eqb (file_number f) 0 (λ e. q (number_is ∙ e)) in
      let e : load_number f ws ≡ file_number f = load-splits f ws ∙ rw n in
      record {
        number_is = number_is ∙ sym e;
        cell-is = ap answer_cell found ∙ cell-back f ∙ sym (cell-of f ws (file_number f) e);
        words_are = sym (words_of f ws (file_number f) e ∙ rw n);
      }

  module _ (q : answer_number fault ≡ 0) where
    sound : eqb (file_number f) 0 ≡ true
    sound = eq-eqb (file_number f) 0 (sym number_is ∙ q)

    -- no room
    pub crowded : length ws < length (loaded f) → Gives f ws 13 0 ws
    crowded l =
        let e : load_number f ws ≡ 13 = load-splits f ws ∙ rw (sound, lt-ltb (length ws) (length (loaded f)) l) in
        record { number_is = sym e; cell-is = sym (cell-of f ws 13 e); words_are = sym (words_of f ws 13 e) }

    -- accepted
    pub accepted : length (loaded f) ≤ length ws → Gives f ws 0 0 (filled (length ws) (loaded f))
    accepted l =
        let e : load_number f ws ≡ 0 = load-splits f ws ∙ rw (sound, le-ltb (length ws) (length (loaded f)) l) in
        record { number_is = sym e; cell-is = sym (cell-of f ws 0 e); words_are = sym (words_of f ws 0 e) }

-- how many words a loaded mesh takes, from the head
pub words-needed : (f : List ℕ) (h n : ℕ) → h ≡ field f 0 32 → n ≡ 6 + head_cells h + head_cells h * (head_dim h + 1) → n ≡ length (loaded f)
words-needed f h n e q = q ∙ rw (e, head-cells f, head-dim f) (sym (loaded-length f))
