-- Make, then Drop: on any right book the same words again.
use mathlib.Core.Path.{◌≡◌, refl, sym, ap, ◌∙◌}
use mathlib.Core.Bool.{Bool, true, false, cond, ◌&&◌, true≢false}
use mathlib.Core.List.{List, [], ◌∷◌, ◌++◌}
use Prim.Native.Nat.{ℕ, ◌+◌, ◌-◌, ◌*◌, ◌^◌, ◌<◌}
use native.Mathlib.Decide.{ℕ_discrete}
use native.Mathlib.Omega.{arith}
use lib.ListN.{length, get_or, take}
use lib.Seq.{length-take-le, get_or-take}
use lib.Dec.{eqb, ltb, leb}
use borrow.Author.Tests.{eq-eqb, ne_eqb, le-ltb, lt-ltb, ltb-true, eqb-true}
use Rattle.rules.specs.Lists.{filled}
use Rattle.rules.specs.Book.{dim, count, key, held, mentions, rows_of, relation, most, count_right, Right}
use Rattle.rules.specs.Made.{made}
use Rattle.rules.specs.Calls.{first_broken, count_after, added, make_number, make_words, count_left, dropped, drop_rules, drop_number, drop_words}
use Rattle.rules.proofs.Tests.{left, right, and-off}
use Rattle.rules.proofs.FrameRule.{Framed, framed, count-inner}
use Rattle.rules.proofs.Assembled.{assembled, assembled-is}
use Rattle.rules.proofs.Accepted.{length-filled, Makes, makes, make-is, Drops, drop-is}
use Rattle.rules.proofs.Added.{held-added, dim-added}
use Rattle.rules.proofs.LoadedWords.{get_or-filled}
use Rattle.rules.proofs.RightMake.{alike_of, added-right, added-old, added_new}
use Rattle.rules.proofs.RightUsed.{used-part}
use Rattle.rules.proofs.Differs.{count-other, word-added}
use Rattle.rules.proofs.Dropped.{head_less}
use Rattle.rules.proofs.RightDrop.{dropped-is, head-less}
use Rattle.rules.proofs.Growing.{relations-agree, filled-used, dim-filled, held-filled}

-- Drop accepts where nothing speaks against it
pub drop-accepts : (ws : List ℕ) → Right ws → (d e : ℕ) → Drops ws d e → drop_number ws d e ≡ 0
unfolding drop_number drop_rules first_broken
drop-accepts ws g d e a = rw (g.frame, g.rows, le-ltb (dim ws) d a.first, le-ltb (dim ws) e a.second, a.there, last)
  where
    last : (eqb d (dim ws) && eqb e 0) ≡ false
    last = go (ℕ_discrete d (dim ws)) (ℕ_discrete e 0)
      where
        go : Dec (d ≡ dim ws) → Dec (e ≡ 0) → (eqb d (dim ws) && eqb e 0) ≡ false
        go (yes i) (yes j) = absurd (a.inner i j)
        go (yes i) (no j) = rw (ne_eqb e 0 j, and-off (eqb d (dim ws)))
        go (no i) j = rw (ne_eqb d (dim ws) i)

five-words : (xs : List ℕ) → length xs ≡ 5 → get_or xs 0 0 ∷ get_or xs 1 0 ∷ get_or xs 2 0 ∷ get_or xs 3 0 ∷ get_or xs 4 0 ∷ [] ≡ xs
five-words [] l = absurd (omega arith)
five-words (a ∷ []) l = absurd (omega arith)
five-words (a ∷ b ∷ []) l = absurd (omega arith)
five-words (a ∷ b ∷ c ∷ []) l = absurd (omega arith)
five-words (a ∷ b ∷ c ∷ d ∷ []) l = absurd (omega arith)
five-words (a ∷ b ∷ c ∷ d ∷ e ∷ []) l = refl
five-words (a ∷ b ∷ c ∷ d ∷ e ∷ f ∷ xs) l = absurd (omega arith)

module _ (ws : List ℕ) (g : Right ws) (d e : ℕ) (a : Makes ws d e) where
  f : Framed ws
  f = framed ws g.frame

  abbrev vs : List ℕ
  vs = filled (length ws) (added ws d e)

  made-right : Right vs
  made-right = let b = added-right ws g.frame g.rows d e a.first a.second a.new a.needed a.alike (length ws) in record { frame = b.0; rows = b.1 }

  dim-is : dim vs ≡ dim ws
  dim-is = dim-filled (length ws) (added ws d e) ∙ dim-added ws d e

  dropping : Drops vs d e
  dropping = record {
    first = rw dim-is a.first;
    second = rw dim-is a.second;
    there = held-filled (length ws) (added ws d e) (key d e) ∙ held-added ws d e a.new;
    inner = λ i j. let k : key (dim ws) 0 ≡ key d e = rw (j, i, dim-is) in true≢false (sym f.top ∙ ap (held ws) k ∙ a.new);
  }

  made-number : drop_number vs d e ≡ 0
  made-number = drop-accepts vs made-right d e dropping

  -- ---- the words
  -- word 1 + x goes back to what it was
  count-back : (x : ℕ) → 0 < x → x < 3 → count_right ws x ≡ true
      → cond (ltb x (dim ws) && mentions (held ws) x) (count_after ws d e (length (made ws d e)) x) 0 ≡ get_or ws (1 + x) 0
  unfolding count_right
  count-back x p l c = go (ltb x (dim ws) && mentions (held ws) x) refl c
    where
      go : (b : Bool) → (ltb x (dim ws) && mentions (held ws) x) ≡ b
          → cond b (leb (get_or ws (1 + x) 0) (most (dim ws) x * count ws (dim ws))) (eqb (get_or ws (1 + x) 0) 0) ≡ true
          → cond b (count_after ws d e (length (made ws d e)) x) 0 ≡ get_or ws (1 + x) 0
      go true q h = own (ℕ_discrete e 0) (ℕ_discrete d x)
        where
          below : x < dim ws
          below = ltb-true x (dim ws) (left _ _ q)

          own : Dec (e ≡ 0) → Dec (d ≡ x) → count_after ws d e (length (made ws d e)) x ≡ get_or ws (1 + x) 0
          own (no i) j = count-other ws d e (length (made ws d e)) x (λ y z. i y)
          own (yes i) (no j) = count-other ws d e (length (made ws d e)) x (λ y z. j z)
          own (yes i) (yes j) =
              let t : length (made ws x 0) ≡ count ws x = alike_of ws x p below (right (ltb x (dim ws)) _ q) (rw j at (a.alike i)) in
              let u : length (made ws d e) ≡ length (made ws x 0) = rw (i, j) in
              let w : count_after ws d e (length (made ws d e)) x ≡ length (made ws d e) = unfold count_after in rw (eq-eqb e 0 i, eq-eqb d x j, j, lt-ltb x (dim ws) below) in
              w ∙ u ∙ t ∙ count-inner ws x p below
      go false q h = sym (eqb-true (get_or ws (1 + x) 0) 0 h)

  word : (i : ℕ) → get_or vs i 0 ≡ get_or (added ws d e) i 0
  word i = get_or-filled (length ws) (added ws d e) i

  mask-back : get_or vs 1 0 - 2 ^ key d e ≡ get_or ws 1 0
  mask-back = ap (λ (m : ℕ). m - 2 ^ key d e) (word 1 ∙ first) ∙ omega arith
    where
      first : get_or (added ws d e) 1 0 ≡ get_or ws 1 0 + 2 ^ key d e
      first = unfold added in refl

  used-back : get_or vs 4 0 - length (relation (made ws d e)) ≡ get_or ws 4 0
  used-back = ap (λ (m : ℕ). m - length (relation (made ws d e))) (word 4 ∙ last) ∙ omega arith
    where
      last : get_or (added ws d e) 4 0 ≡ get_or ws 4 0 + length (relation (made ws d e))
      last = unfold added in refl

  first_back : get_or vs 0 0 ≡ get_or ws 0 0
  first_back = word 0 ∙ same
    where
      same : get_or (added ws d e) 0 0 ≡ get_or ws 0 0
      same = unfold added in refl

  left_back : (x : ℕ) → 0 < x → x < 3 → count_right ws x ≡ true → count_left vs (get_or vs 1 0 - 2 ^ key d e) x ≡ get_or ws (1 + x) 0
  left_back x p l c = all ∙ count-back x p l c
    where
      all : count_left vs (get_or vs 1 0 - 2 ^ key d e) x ≡ cond (ltb x (dim ws) && mentions (held ws) x) (count_after ws d e (length (made ws d e)) x) 0
      all = unfold count_left held in rw (mask-back, dim-is, word (1 + x), word-added ws d e x p l)

  head-back : head_less vs (key d e) (length (relation (made ws d e))) ≡ take 5 ws
  head-back = words ∙ five-words (take 5 ws) (length-take-le 5 ws f.long)
    where
      words : head_less vs (key d e) (length (relation (made ws d e))) ≡ get_or (take 5 ws) 0 0 ∷ get_or (take 5 ws) 1 0 ∷ get_or (take 5 ws) 2 0 ∷ get_or (take 5 ws) 3 0 ∷ get_or (take 5 ws) 4 0 ∷ []
      words =
          unfold head_less in
          rw (left_back 1 (omega arith) (omega arith) f.edges, left_back 2 (omega arith) (omega arith) f.faces, first_back, mask-back, used-back, get_or-take 5 ws 0 0 (omega arith), get_or-take 5 ws 1 0 (omega arith), get_or-take 5 ws 2 0 (omega arith), get_or-take 5 ws 3 0 (omega arith), get_or-take 5 ws 4 0 (omega arith))

  rows_back : (j : ℕ) → held (take 5 ws) j ≡ true → rows_of vs j ≡ rows_of ws j
  rows_back j h = added-old ws g.frame g.rows d e a.first a.second a.new a.needed a.alike (length ws) j (sym own ∙ h)
    where
      own : held (take 5 ws) j ≡ held ws j
      own = unfold held in rw (get_or-take 5 ws 1 0 (omega arith))

  dropped-words : dropped vs d e ≡ take (get_or ws 4 0) ws
  dropped-words =
      let n : rows_of vs (key d e) ≡ made ws d e = added_new ws g.frame g.rows d e a.first a.second a.new a.needed a.alike (length ws) in
      let h : head_less (take 5 vs) (key d e) (length (relation (rows_of vs (key d e)))) ≡ take 5 ws
      = ap (λ (rs : List (List ℕ)). head_less (take 5 vs) (key d e) (length (relation rs))) n ∙ sym (head-less vs made-right d e dropping (length (relation (made ws d e)))) ∙ head-back in
      dropped-is vs made-right d e dropping
      ∙ ap (λ (x : List ℕ). assembled x (rows_of vs) []) h
      ∙ assembled-is (take 5 ws) (rows_of vs) []
      ∙ ap (λ (x : List ℕ). take 5 ws ++ (x ++ [])) (relations-agree (held (take 5 ws)) (rows_of ws) (rows_of vs) rows_back 16)
      ∙ sym (assembled-is (take 5 ws) (rows_of ws) []) ∙ sym (used-part ws g)

  long : length vs ≡ length ws
  long = length-filled (length ws) (added ws d e) a.fits

  pub made-words : drop_words vs d e ≡ ws
  made-words = drop-is vs d e ∙ rw (made-number, long, dropped-words) (filled-used ws g)

make-accepted : (ws : List ℕ) (d e : ℕ) → make_number ws d e ≡ 0 → make_words ws d e ≡ filled (length ws) (added ws d e)
make-accepted ws d e h = make-is ws d e ∙ rw h

pub made-back : (ws : List ℕ) → Right ws → (d e : ℕ) → make_number ws d e ≡ 0 → (drop_number (make_words ws d e) d e ≡ 0) × (drop_words (make_words ws d e) d e ≡ ws)
made-back ws g d e h =
    let a = makes ws d e h in
    rw (make-accepted ws d e h) (made-number ws g d e a, made-words ws g d e a)
