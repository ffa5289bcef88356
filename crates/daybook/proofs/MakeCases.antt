-- Make, Ask and Drop, case by case: which rule is broken first, the words, and the place that is told.
use mathlib.Core.Path.{◌≡◌, refl, sym, ◌∙◌}
use mathlib.Core.Bool.{Bool, true, false, cond, ◌&&◌}
use mathlib.Core.List.{List}
use Prim.Native.Nat.{ℕ, suc, ◌≤◌, ◌<◌}
use native.Mathlib.Omega.{arith}
use lib.ListN.{length, get_or, take}
use lib.Dec.{eqb, ltb, leb}
use borrow.Author.Tests.{eqb-true, eq-eqb, ne_eqb, lt-ltb, le-ltb, leb-true, leb-false}
use Rattle.rules.specs.Lists.{up_to, any_of, all_of, filled}
use Rattle.rules.specs.Book.{dim, key, held, needs, frame_right, rows_right}
use Rattle.rules.specs.Calls.{first_broken, added, differs, with_key, asked, has_to_make, dropped, make_rules, make_number, make_words, ask_rules, ask_number, ask_words, drop_rules, drop_number, drop_words}
use Rattle.rules.proofs.Tests.{or_right}

-- what a call of Make has to give
pub record Makes (ws : List ℕ) (d e number : ℕ) (vs : List ℕ) : Type 0 where
  pub number_is : number ≡ make_number ws d e
  pub words_are : vs ≡ make_words ws d e

-- and of Ask
pub record Asks (ws : List ℕ) (d e number : ℕ) (vs : List ℕ) : Type 0 where
  pub number_is : number ≡ ask_number ws d e
  pub words_are : vs ≡ ask_words ws d e

-- and of Drop
pub record Drops (ws : List ℕ) (d e number : ℕ) (vs : List ℕ) : Type 0 where
  pub number_is : number ≡ drop_number ws d e
  pub words_are : vs ≡ drop_words ws d e

make-words : (ws : List ℕ) (d e n : ℕ) → make_number ws d e ≡ suc n → make_words ws d e ≡ ws
unfolding make_words
make-words ws d e n q = rw (q, ne_eqb (suc n) 0 (λ z. omega arith))

ask-words : (ws : List ℕ) (d e n : ℕ) → ask_number ws d e ≡ suc n → ask_words ws d e ≡ ws
unfolding ask_words
ask-words ws d e n q = rw (q, ne_eqb (suc n) 0 (λ z. omega arith))

drop-words : (ws : List ℕ) (d e n : ℕ) → drop_number ws d e ≡ suc n → drop_words ws d e ≡ ws
unfolding drop_words
drop-words ws d e n q = rw (q, ne_eqb (suc n) 0 (λ z. omega arith))

and-not : (a b : Bool) → (a ≡ true → b ≡ true → ⊥) → (a && b) ≡ false
and-not true true h = absurd (h refl refl)
and-not true false h = refl
and-not false b h = refl

module _ (ws : List ℕ) (d e : ℕ) where
  make-refused : (n : ℕ) → make_number ws d e ≡ suc n → Makes ws d e (suc n) ws
  make-refused n q = record { number_is = sym q; words_are = sym (make-words ws d e n q) }

  ask-refused : (n : ℕ) → ask_number ws d e ≡ suc n → Asks ws d e (suc n) ws
  ask-refused n q = record { number_is = sym q; words_are = sym (ask-words ws d e n q) }

  drop-refused : (n : ℕ) → drop_number ws d e ≡ suc n → Drops ws d e (suc n) ws
  drop-refused n q = record { number_is = sym q; words_are = sym (drop-words ws d e n q) }

  pub make-frame : frame_right ws ≡ false → Makes ws d e 10 ws
  make-frame f = make-refused 9 (unfold make_number make_rules first_broken in rw f)

  pub ask-frame : frame_right ws ≡ false → Asks ws d e 10 ws
  ask-frame f = ask-refused 9 (unfold ask_number ask_rules first_broken in rw f)

  pub drop-frame : frame_right ws ≡ false → Drops ws d e 10 ws
  drop-frame f = drop-refused 9 (unfold drop_number drop_rules first_broken in rw f)

  module _ (f : frame_right ws ≡ true) where
    pub make-rows : rows_right ws ≡ false → Makes ws d e 11 ws
    make-rows r = make-refused 10 (unfold make_number make_rules first_broken in rw (f, r))

    pub ask-rows : rows_right ws ≡ false → Asks ws d e 11 ws
    ask-rows r = ask-refused 10 (unfold ask_number ask_rules first_broken in rw (f, r))

    pub drop-rows : rows_right ws ≡ false → Drops ws d e 11 ws
    drop-rows r = drop-refused 10 (unfold drop_number drop_rules first_broken in rw (f, r))

    module _ (r : rows_right ws ≡ true) where
      pub make-first : dim ws < d → Makes ws d e 12 ws
      make-first l = make-refused 11 (unfold make_number make_rules first_broken in rw (f, r, lt-ltb (dim ws) d l))

      pub ask-first : dim ws < d → Asks ws d e 12 ws
      ask-first l = ask-refused 11 (unfold ask_number ask_rules first_broken in rw (f, r, lt-ltb (dim ws) d l))

      pub make-second : dim ws < e → Makes ws d e 12 ws
      make-second l = make-refused 11 (unfold make_number make_rules first_broken in rw (f, r, or_right (ltb (dim ws) d) (ltb (dim ws) e) (lt-ltb (dim ws) e l)))

      pub ask-second : dim ws < e → Asks ws d e 12 ws
      ask-second l = ask-refused 11 (unfold ask_number ask_rules first_broken in rw (f, r, or_right (ltb (dim ws) d) (ltb (dim ws) e) (lt-ltb (dim ws) e l)))

      pub drop-first : dim ws < d → Drops ws d e 12 ws
      drop-first l = drop-refused 11 (unfold drop_number drop_rules first_broken in rw (f, r, lt-ltb (dim ws) d l))

      pub drop-second : dim ws < e → Drops ws d e 12 ws
      drop-second l = drop-refused 11 (unfold drop_number drop_rules first_broken in rw (f, r, or_right (ltb (dim ws) d) (ltb (dim ws) e) (lt-ltb (dim ws) e l)))

      module _ (a : d ≤ dim ws) (b : e ≤ dim ws) where
        pub drop-none : held ws (key d e) ≡ false → Drops ws d e 16 ws
        drop-none h = drop-refused 15 (unfold drop_number drop_rules first_broken in rw (f, r, le-ltb (dim ws) d a, le-ltb (dim ws) e b, h))

        module _ (h : held ws (key d e) ≡ true) where
          pub drop_cells : d ≡ dim ws → e ≡ 0 → Drops ws d e 24 ws
          drop_cells p q =
              drop-refused 23 (unfold drop_number drop_rules first_broken in rw (f, r, le-ltb (dim ws) d a, le-ltb (dim ws) e b, h, eq-eqb d (dim ws) p, eq-eqb e 0 q))

          pub drop-whole : (d ≡ dim ws → e ≡ 0 → ⊥) → (vs : List ℕ) → vs ≡ filled (length ws) (dropped ws d e) → Drops ws d e 0 vs
          drop-whole o vs w = record { number_is = sym number; words_are = w ∙ sym (words number) }
            where
              inner : (eqb d (dim ws) && eqb e 0) ≡ false
              inner = and-not (eqb d (dim ws)) (eqb e 0) (λ p q. o (eqb-true d (dim ws) p) (eqb-true e 0 q))

              number : drop_number ws d e ≡ 0
              number = unfold drop_number drop_rules first_broken in rw (f, r, le-ltb (dim ws) d a, le-ltb (dim ws) e b, h, inner)

              words : drop_number ws d e ≡ 0 → drop_words ws d e ≡ filled (length ws) (dropped ws d e)
              words n = unfold drop_words in rw n

        pub make-held : held ws (key d e) ≡ true → Makes ws d e 14 ws
        make-held h = make-refused 13 (unfold make_number make_rules first_broken in rw (f, r, le-ltb (dim ws) d a, le-ltb (dim ws) e b, h))

        pub ask-differs : any_of (λ x. has_to_make ws d e x && differs ws x) (up_to 3) ≡ true → Asks ws d e 25 ws
        ask-differs t = ask-refused 24 (unfold ask_number ask_rules first_broken in rw (f, r, le-ltb (dim ws) d a, le-ltb (dim ws) e b, t))

        module _ (t : any_of (λ x. has_to_make ws d e x && differs ws x) (up_to 3) ≡ false) where
          pub ask-whole : (y : Bool) → y ≡ leb (length (with_key 6 (take (get_or ws 4 0) ws) (key d e))) (length ws)
              → (vs : List ℕ) → vs ≡ cond (leb (length (with_key 6 (take (get_or ws 4 0) ws) (key d e))) (length ws)) (filled (length ws) (with_key 6 (take (get_or ws 4 0) ws) (key d e))) ws
              → Asks ws d e (cond y 0 13) vs
          unfolding asked
          ask-whole true q vs w =
              let l : ltb (length ws) (length (with_key 6 (take (get_or ws 4 0) ws) (key d e))) ≡ false = le-ltb (length ws) _ (leb-true _ _ (sym q)) in
              let n : ask_number ws d e ≡ 0 = number l in
              record { number_is = sym n; words_are = w ∙ rw (← q) (sym (words n)) }
            where
              number : ltb (length ws) (length (asked ws d e)) ≡ false → ask_number ws d e ≡ 0
              number l = unfold ask_number ask_rules first_broken in rw (f, r, le-ltb (dim ws) d a, le-ltb (dim ws) e b, t, l)

              words : ask_number ws d e ≡ 0 → ask_words ws d e ≡ filled (length ws) (asked ws d e)
              words n = unfold ask_words in rw n
          ask-whole false q vs w =
              let l : ltb (length ws) (length (with_key 6 (take (get_or ws 4 0) ws) (key d e))) ≡ true = lt-ltb (length ws) _ (leb-false _ _ (sym q)) in
              let n : ask_number ws d e ≡ 13 = number l in
              record { number_is = sym n; words_are = w ∙ rw (← q) (sym (ask-words ws d e 12 n)) }
            where
              number : ltb (length ws) (length (asked ws d e)) ≡ true → ask_number ws d e ≡ 13
              number l = unfold ask_number ask_rules first_broken in rw (f, r, le-ltb (dim ws) d a, le-ltb (dim ws) e b, t, l)

        module _ (o : held ws (key d e) ≡ false) where
          pub make-need : all_of (held ws) (needs (dim ws) d e) ≡ false → Makes ws d e 15 ws
          make-need n = make-refused 14 (unfold make_number make_rules first_broken in rw (f, r, le-ltb (dim ws) d a, le-ltb (dim ws) e b, o, n))

          pub make-differs : all_of (held ws) (needs (dim ws) d e) ≡ true → (eqb e 0 && differs ws d) ≡ true → Makes ws d e 25 ws
          make-differs n t = make-refused 24 (unfold make_number make_rules first_broken in rw (f, r, le-ltb (dim ws) d a, le-ltb (dim ws) e b, o, n, t))

          pub make-whole : all_of (held ws) (needs (dim ws) d e) ≡ true → (eqb e 0 && differs ws d) ≡ false → (y : Bool) → y ≡ leb (length (added ws d e)) (length ws)
              → (vs : List ℕ) → vs ≡ cond (leb (length (added ws d e)) (length ws)) (filled (length ws) (added ws d e)) ws → Makes ws d e (cond y 0 13) vs
          make-whole k t true q vs w =
              let l : ltb (length ws) (length (added ws d e)) ≡ false = le-ltb (length ws) _ (leb-true _ _ (sym q)) in
              let n : make_number ws d e ≡ 0 = number l in
              record { number_is = sym n; words_are = w ∙ rw (← q) (sym (words n)) }
            where
              number : ltb (length ws) (length (added ws d e)) ≡ false → make_number ws d e ≡ 0
              number l = unfold make_number make_rules first_broken in rw (f, r, le-ltb (dim ws) d a, le-ltb (dim ws) e b, o, k, t, l)

              words : make_number ws d e ≡ 0 → make_words ws d e ≡ filled (length ws) (added ws d e)
              words n = unfold make_words in rw n
          make-whole k t false q vs w =
              let l : ltb (length ws) (length (added ws d e)) ≡ true = lt-ltb (length ws) _ (leb-false _ _ (sym q)) in
              let n : make_number ws d e ≡ 13 = number l in
              record { number_is = sym n; words_are = w ∙ rw (← q) (sym (make-words ws d e 12 n)) }
            where
              number : ltb (length ws) (length (added ws d e)) ≡ true → make_number ws d e ≡ 13
              number l = unfold make_number make_rules first_broken in rw (f, r, le-ltb (dim ws) d a, le-ltb (dim ws) e b, o, k, t, l)
