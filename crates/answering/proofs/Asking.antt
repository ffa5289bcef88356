-- Asks in turn: one key more, the first refusal, and the end.
use mathlib.Core.Path.{◌≡◌, refl, sym, ◌∙◌}
use mathlib.Core.Bool.{Bool, true, false, cond}
use mathlib.Core.List.{List, ◌∷◌}
use Prim.Native.Nat.{ℕ, ◌+◌, ◌/◌, ◌%◌, ◌<◌}
use native.Mathlib.Numerals.{add-one}
use lib.ListN.{drop}
use lib.Dec.{eqb}
use lib.Seq.{drop-cons}
use borrow.Author.Tests.{eq-eqb, ne_eqb}
use Rattle.rules.specs.Lists.{up_to, keep}
use Rattle.rules.proofs.Numbered.{get_or-up_to, length-up_to}
use Rattle.rules.specs.Calls.{ask_number, ask_words}
use Rattle.answering.specs.Program.{within, keys_to, asks_number, asks_words}

-- ---- one key: its number, and the words after it
-- the number that an ask for the relation of key k gives, 0 where it is none of the mesh
abbrev key_number : ℕ → List ℕ → ℕ → ℕ
key_number top ws k = cond (within top k) (ask_number ws (k / 4) (k % 4)) 0

-- the words after it
abbrev key_words : ℕ → List ℕ → ℕ → List ℕ
key_words top ws k = cond (within top k) (ask_words ws (k / 4) (k % 4)) ws

module _ (top k : ℕ) (ks ws : List ℕ) where
  one_number : asks_number (keep (within top) (k ∷ ks)) ws
      ≡ cond (eqb (key_number top ws k) 0) (asks_number (keep (within top) ks) (key_words top ws k)) (key_number top ws k)
  unfolding keep asks_number
  one_number = go (within top k) where
    go : (b : Bool) → asks_number (cond b (k ∷ keep (within top) ks) (keep (within top) ks)) ws
        ≡ cond (eqb (cond b (ask_number ws (k / 4) (k % 4)) 0) 0) (asks_number (keep (within top) ks) (cond b (ask_words ws (k / 4) (k % 4)) ws)) (cond b (ask_number ws (k / 4) (k % 4)) 0)
    go true = refl
    go false = refl

  one-words : asks_words (keep (within top) (k ∷ ks)) ws
      ≡ cond (eqb (key_number top ws k) 0) (asks_words (keep (within top) ks) (key_words top ws k)) (key_words top ws k)
  unfolding keep asks_words
  one-words = go (within top k) where
    go : (b : Bool) → asks_words (cond b (k ∷ keep (within top) ks) (keep (within top) ks)) ws
        ≡ cond (eqb (cond b (ask_number ws (k / 4) (k % 4)) 0) 0) (asks_words (keep (within top) ks) (cond b (ask_words ws (k / 4) (k % 4)) ws)) (cond b (ask_words ws (k / 4) (k % 4)) ws)
    go true = refl
    go false = refl

-- the keys from k on
abbrev keys_from : ℕ → ℕ → List ℕ
keys_from top k = keep (within top) (drop k (up_to 16))

-- before the ask for key k: what is left to ask gives what all asks together give
pub record Asking (top : ℕ) (before : List ℕ) (k : ℕ) (ws : List ℕ) : Type 0 where
  pub number : asks_number (keys_to top) before ≡ asks_number (keys_from top k) ws
  pub words : asks_words (keys_to top) before ≡ asks_words (keys_from top k) ws

pub asking : (top : ℕ) (ws : List ℕ) → Asking top ws 0 ws
unfolding keys_to
asking top ws = record { number = refl; words = refl }

module _ {top : ℕ} {before : List ℕ} {k : ℕ} {ws : List ℕ} (a : Asking top before k ws) where
  module _ (l : k < 16) where
    rest : drop k (up_to 16) ≡ k ∷ drop (k + 1) (up_to 16)
    rest = drop-cons (up_to 16) k 0 (rw length-up_to l) ∙ rw (get_or-up_to 16 k 0 l, add-one k)

    number_step : asks_number (keys_to top) before
        ≡ cond (eqb (key_number top ws k) 0) (asks_number (keys_from top (k + 1)) (key_words top ws k)) (key_number top ws k)
    number_step = a.number ∙ rw rest (one_number top k (drop (k + 1) (up_to 16)) ws)

    words_step : asks_words (keys_to top) before
        ≡ cond (eqb (key_number top ws k) 0) (asks_words (keys_from top (k + 1)) (key_words top ws k)) (key_words top ws k)
    words_step = a.words ∙ rw rest (one-words top k (drop (k + 1) (up_to 16)) ws)

    pub asked_more : key_number top ws k ≡ 0 → Asking top before (k + 1) (key_words top ws k)
    asked_more e = record { number = number_step ∙ rw (eq-eqb _ _ e); words = words_step ∙ rw (eq-eqb _ _ e) }

    pub refused_number : (key_number top ws k ≡ 0 → ⊥) → key_number top ws k ≡ asks_number (keys_to top) before
    refused_number h = sym (number_step ∙ rw (ne_eqb _ _ h))

    pub refused_words : (key_number top ws k ≡ 0 → ⊥) → key_words top ws k ≡ asks_words (keys_to top) before
    refused_words h = sym (words_step ∙ rw (ne_eqb _ _ h))

  pub asked_number : k ≡ 16 → 0 ≡ asks_number (keys_to top) before
  unfolding keep asks_number up_to
  asked_number e = sym (rw e at a.number)

  pub asked_words : k ≡ 16 → ws ≡ asks_words (keys_to top) before
  unfolding keep asks_words up_to
  asked_words e = sym (rw e at a.words)
