-- A relation written behind the used words and settled at its place, with the head's words set, is what Make leaves; and one taken out is what Drop leaves.
use mathlib.Core.Path.{◌≡◌, refl, sym, ap, ap₂, ◌∙◌}
use mathlib.Core.List.{List, [], ◌∷◌, ◌++◌, append_assoc}
use Prim.Native.Nat.{ℕ, zero, suc, ◌+◌, ◌-◌, ◌^◌, ◌≤◌, ◌<◌}
use native.Mathlib.Nat.{sub-zero, zero-sub, suc-sub-suc}
use native.Mathlib.Omega.{arith}
use lib.ListN.{length, get_or, take, drop, set, replicate, length-append, length-take, length-drop, take-append-drop, replicate-append-replicate, get_or-append, length-set, drop_of_length-le}
use lib.Seq.{take_at, drop_at, drop-append-le, length-take-le, drop-drop, get_or-take, get_or-set_same, drop-set-lt}
use Rattle.rules.specs.Lists.{filled}
use Rattle.rules.specs.Book.{key, place, relation, Right}
use Rattle.rules.specs.Made.{made}
use Rattle.rules.specs.Calls.{count_after, added}
use Rattle.rules.proofs.Slices.{slice-take, take-front, part-front}
use Rattle.rules.proofs.FrameRule.{Framed, framed, place-rises}
use Rattle.rules.proofs.RightBook.{free-are}
use Rattle.rules.proofs.Growing.{length-added}
use Rattle.settle.specs.Settled.{settled, cleared, headed, closed_up}

-- the first five words, and the rest
five-words : (ws : List ℕ) → 5 ≤ length ws → ws ≡ get_or ws 0 0 ∷ get_or ws 1 0 ∷ get_or ws 2 0 ∷ get_or ws 3 0 ∷ get_or ws 4 0 ∷ drop 5 ws
five-words [] l = absurd (omega arith)
five-words (a ∷ []) l = absurd (omega arith)
five-words (a ∷ b ∷ []) l = absurd (omega arith)
five-words (a ∷ b ∷ c ∷ []) l = absurd (omega arith)
five-words (a ∷ b ∷ c ∷ d ∷ []) l = absurd (omega arith)
five-words (a ∷ b ∷ c ∷ d ∷ e ∷ ws) l = refl

pub headed-words : (m x y u : ℕ) (ws : List ℕ) → 5 ≤ length ws → headed m x y u ws ≡ get_or ws 0 0 ∷ m ∷ x ∷ y ∷ u ∷ drop 5 ws
unfolding headed
headed-words m x y u ws l = ap (λ (w : List ℕ). set (set (set (set w 1 m) 2 x) 3 y) 4 u) (five-words ws l)

drop-zeros : (n m : ℕ) → ◌≡◌ {A = List ℕ} (drop n (replicate m 0)) (replicate (m - n) 0)
drop-zeros zero m = rw (sub-zero m)
drop-zeros (suc n) zero = rw (zero-sub (suc n))
drop-zeros (suc n) (suc m) = rw (suc-sub-suc m n) (drop-zeros n m)

module _ (ws : List ℕ) (g : Right ws) (d e : ℕ) (low : key d e ≤ 16) where
  f : Framed ws
  f = framed ws g.frame

  abbrev new : List ℕ
  new = relation (made ws d e)

  abbrev used : ℕ
  used = get_or ws 4 0

  abbrev at : ℕ
  at = place ws (key d e)

  at_low : 5 ≤ at
  at_low = let q = place-rises ws 0 (key d e) (omega arith) in unfold place in q

  at_high : at ≤ used
  at_high = omega (arith, place-rises ws (key d e) 16 low, f.ends)

  -- the first words stand, whatever follows them
  module _ (rest : List ℕ) where
    long : 5 ≤ length (take at ws)
    long = simp length-take (omega (arith, at_low, at_high, f.fits))

    first-word : get_or (take at ws ++ rest) 0 0 ≡ get_or ws 0 0
    first-word = get_or-append (take at ws) rest 0 0 (omega (arith, long)) ∙ get_or-take at ws 0 0 (omega (arith, at_low))

    headed-rest : (mask x y u : ℕ) → headed mask x y u (take at ws ++ rest) ≡ get_or ws 0 0 ∷ mask ∷ x ∷ y ∷ u ∷ (take (at - 5) (drop 5 ws) ++ rest)
    headed-rest mask x y u =
        headed-words mask x y u (take at ws ++ rest) (rw length-append (omega (arith, long)))
        ∙ rw (first-word, drop-append-le 5 (take at ws) rest long, slice-take 5 at ws)

  -- the words before the used length stand, and the rest is cleared: nothing has changed
  pub cleared-back : (vs : List ℕ) → length vs ≡ length ws → take used vs ≡ take used ws → cleared used vs ≡ ws
  unfolding cleared
  cleared-back vs n q = rw (q, n, ← free-are ws f g.rows) (take-append-drop used ws)

  module _ (fits : used + length new ≤ length ws) where
    abbrev end : ℕ
    end = used + length new

    front : length (take used ws) ≡ used
    front = length-take-le used ws f.fits

    abbrev appended : List ℕ
    appended = (take used ws ++ new) ++ drop end ws

    both : length (take used ws ++ new) ≡ end
    both = length-append (take used ws) new ∙ rw front

    before : take used appended ≡ take used ws
    before = rw append_assoc (take_at (take used ws) (new ++ drop end ws) used front)

    after-used : drop used appended ≡ new ++ drop end ws
    after-used = rw append_assoc (drop_at (take used ws) (new ++ drop end ws) used front)

    after-end : drop end appended ≡ drop end ws
    after-end = drop_at (take used ws ++ new) (drop end ws) end both

    pub settled-words : settled at used end appended ≡ take at ws ++ (new ++ (take (used - at) (drop at ws) ++ drop end ws))
    unfolding settled
    settled-words =
        let a : take at appended ≡ take at ws = take-front appended ws used before at at_high in
        let b : take (used - at) (drop at appended) ≡ take (used - at) (drop at ws) = part-front appended ws used before at (used - at) (omega (arith, at_high)) in
        let c : take (end - used) (drop used appended) ≡ new = rw after-used (take_at new (drop end ws) (end - used) (omega arith)) in
        rw (a, b, c, after-end)

    free : drop end ws ≡ replicate (length ws - end) 0
    free =
        let z : length ws - used - length new ≡ length ws - end = omega arith in
        sym (drop-drop (length new) used ws) ∙ ap (drop (length new)) (free-are ws f g.rows) ∙ drop-zeros (length new) (length ws - used) ∙ ap (λ (n : ℕ). replicate n 0) z

    abbrev tail : List ℕ
    tail = take (used - at) (drop at ws)

    -- with the head
    pub placed : headed (get_or ws 1 0 + 2 ^ key d e) (count_after ws d e (length (made ws d e)) 1) (count_after ws d e (length (made ws d e)) 2) end (settled at used end appended)
        ≡ filled (length ws) (added ws d e)
    placed =
        rw (settled-words, headed-rest (new ++ (tail ++ drop end ws)) (get_or ws 1 0 + 2 ^ key d e) (count_after ws d e (length (made ws d e)) 1) (count_after ws d e (length (made ws d e)) 2) end, free)
        (sym wanted)
      where
        n : length (added ws d e) ≡ get_or ws 4 0 + length (relation (made ws d e))
        n = length-added ws (framed ws g.frame) d e low

        wanted : filled (length ws) (added ws d e)
            ≡ get_or ws 0 0 ∷ (get_or ws 1 0 + 2 ^ key d e) ∷ count_after ws d e (length (made ws d e)) 1 ∷ count_after ws d e (length (made ws d e)) 2 ∷ (get_or ws 4 0 + length (relation (made ws d e)))
            ∷ (take (place ws (key d e) - 5) (drop 5 ws) ++ (relation (made ws d e) ++ (take (get_or ws 4 0 - place ws (key d e)) (drop (place ws (key d e)) ws) ++ replicate (length ws - (get_or ws 4 0 + length (relation (made ws d e)))) 0)))
        wanted = unfold filled in rw n (unfold added in simp append_assoc)

  -- d→e taken out, with the head
  module _ (below : key d e < 16) where
    abbrev next : ℕ
    next = place ws (suc (key d e))

    abbrev later : List ℕ
    later = take (used - next) (drop next ws)

    next_low : at ≤ next
    next_low = place-rises ws (key d e) (suc (key d e)) (omega arith)

    next-high : next ≤ used
    next-high = omega (arith, place-rises ws (suc (key d e)) 16 (omega arith), f.ends)

    -- the words that are left
    abbrev less : ℕ → ℕ → ℕ → List ℕ
    less mask x y = get_or ws 0 0 ∷ mask ∷ x ∷ y ∷ (used - (next - at)) ∷ (take (at - 5) (drop 5 ws) ++ later)

    less-length : (mask x y : ℕ) → length (less mask x y) ≡ used - (next - at)
    less-length mask x y =
        let a : length (take (at - 5) (drop 5 ws)) ≡ at - 5 = length-take-le (at - 5) (drop 5 ws) (rw length-drop (omega (arith, at_low, at_high, f.fits))) in
        let b : length later ≡ used - next = length-take-le (used - next) (drop next ws) (rw length-drop (omega (arith, next-high, f.fits))) in
        ap (λ (n : ℕ). suc (suc (suc (suc (suc n))))) (length-append (take (at - 5) (drop 5 ws)) later ∙ ap₂ ◌+◌ a b) ∙ five-more
      where
        five-more : suc (suc (suc (suc (suc (at - 5 + (used - next)))))) ≡ used - (next - at)
        five-more = omega (arith, at_low, next_low, next-high)

    zeros-after : (mask x y : ℕ) → replicate (next - at) 0 ++ drop used ws ≡ replicate (length ws - length (less mask x y)) 0
    zeros-after mask x y =
        let z : next - at + (length ws - used) ≡ length ws - length (less mask x y) = omega (arith, less-length mask x y, next_low, next-high, at_low, f.fits) in
        rw (free-are ws f g.rows) (replicate-append-replicate (next - at) (length ws - used) 0 ∙ ap (λ (n : ℕ). replicate n 0) z)

    pub parted : (mask x y u : ℕ) → u ≡ at + (used - next) → headed mask x y u (closed_up at next used ws) ≡ filled (length ws) (less mask x y)
    unfolding closed_up filled
    parted mask x y u q =
        let z : u ≡ used - (next - at) = omega (arith, next_low, next-high, at_low) in
        headed-rest (later ++ (replicate (next - at) 0 ++ drop used ws)) mask x y u ∙ rw (z, zeros-after mask x y) (simp append_assoc)

-- a whole head set
pub headed-head : (head vs : List ℕ) → length head ≡ 5 → 5 ≤ length vs
    → headed (get_or head 1 0) (get_or head 2 0) (get_or head 3 0) (get_or head 4 0) (set vs 0 (get_or head 0 0)) ≡ head ++ drop 5 vs
headed-head head vs n l =
    let z : drop 5 head ≡ [] = drop_of_length-le head {i = 5} (omega arith) in
    let h : head ≡ get_or head 0 0 ∷ get_or head 1 0 ∷ get_or head 2 0 ∷ get_or head 3 0 ∷ get_or head 4 0 ∷ [] = five-words head (omega arith) ∙ rw z in
    headed-words (get_or head 1 0) (get_or head 2 0) (get_or head 3 0) (get_or head 4 0) (set vs 0 (get_or head 0 0)) (simp length-set l)
    ∙ rw (get_or-set_same vs 0 (get_or head 0 0) 0 (omega arith), drop-set-lt 5 vs 0 (get_or head 0 0) (omega arith))
    (ap (λ (w : List ℕ). w ++ drop 5 vs) (sym h))
