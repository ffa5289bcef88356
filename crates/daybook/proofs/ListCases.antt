-- A list of asks: refused for its lengths, one answer for all in a book that is not right, or one ask after another.
use mathlib.Core.Path.{◌≡◌, sym, ◌∙◌}
use mathlib.Core.Bool.{true, false}
use mathlib.Core.List.{List}
use Prim.Native.Nat.{ℕ}
use lib.ListN.{length, replicate}
use Rattle.rules.specs.Calls.{first_broken, answers_of, words_of, pairs_off, list_rules, list_number, list_answers, list_words}
use Rattle.rules.proofs.Accepted.{pairs-two}
use Rattle.right.specs.Checks.{right_number}
use Rattle.right.proofs.Checks.{either}
use Rattle.daybook.proofs.MakeCases.{Asks, ask-frame, ask-rows}
use Rattle.daybook.proofs.InTurn.{all_alike}

-- what a list of asks has to give: its number, the answers ms and the book vs
pub record Lists (ws ps ns : List ℕ) (number : ℕ) (ms vs : List ℕ) : Type 0 where
  pub number_is : number ≡ list_number ps ns
  pub answers-are : ms ≡ list_answers ws ps ns
  pub words_are : vs ≡ list_words ws ps ns

module _ (ws ps ns : List ℕ) where
  pub list-refused : pairs_off (length ps) (length ns) ≡ true → Lists ws ps ns 20 ns ws
  unfolding list_answers list_words
  list-refused h =
      let q : list_number ps ns ≡ 20 = unfold list_number list_rules first_broken in rw h in
      record { number_is = sym q; answers-are = rw q; words_are = rw q }

  module _ (h : pairs_off (length ps) (length ns) ≡ false) where
    -- one ask after another
    pub list-each : (ms vs : List ℕ) → ms ≡ answers_of ws ps → vs ≡ words_of ws ps → Lists ws ps ns 0 ms vs
    unfolding list_answers list_words
    list-each ms vs p w =
        let q : list_number ps ns ≡ 0 = unfold list_number list_rules first_broken in rw h in
        record { number_is = sym q; answers-are = rw q p; words_are = rw q w }

    -- one answer for all
    pub list-alike : (right_number ws ≡ 0 → ⊥) → (ms : List ℕ) → ms ≡ replicate (length ns) (right_number ws) → Lists ws ps ns 0 ms ws
    list-alike z ms w =
        let a = either ws (λ k. (d e : ℕ) → Asks ws d e k ws) z (λ f d e. ask-frame ws d e f) (λ f r d e. ask-rows ws d e f r) in
        let r = all_alike ws (right_number ws) (λ d e. (sym (a d e).number_is, sym (a d e).words_are)) ps (length ns) (pairs-two (length ps) (length ns) h) in
        list-each ms ws (w ∙ sym r.0) (sym r.1)
