-- Words taken out, and whole relations kept one after another.
use mathlib.Core.Path.{◌≡◌, refl, sym, ap, ◌∙◌}
use mathlib.Core.Bool.{true, false}
use mathlib.Core.List.{List, ◌++◌, append_assoc, append-nil}
use Prim.Native.Nat.{ℕ, suc, ◌+◌, ◌-◌, ◌/◌, ◌≤◌, ◌<◌}
use native.Mathlib.Omega.{arith}
use lib.ListN.{length, get_or, take, drop, replicate, length-append, length-drop}
use lib.Seq.{take_at, drop_at, length-take-le, drop-drop, take-append-add}
use Rattle.rules.specs.Lists.{filled}
use Rattle.rules.specs.Book.{named, count, total, rows_of, relation, relations, place as place_of}
use Rattle.rules.specs.Steps.{given_back}
use Rattle.rules.proofs.Slices.{slice-take, drop-later}
use Rattle.rules.proofs.FrameRule.{Framed, framed, place-held, place-rises}
use Rattle.rules.proofs.Assembled.{relations-held, relations-skipped}
use Rattle.rules.proofs.RightBook.{relation-is}
use Rattle.settle.specs.Settled.{Zeroed, cleared, lowered, closed_up, Leaves, Kept}
use Rattle.settle.proofs.Clearing.{zeroed-part}

-- what stands behind a list that was put before the rest
drop-behind : (p vs : List ℕ) (x y : ℕ) → length p ≡ x → x ≤ y → drop y (p ++ drop x vs) ≡ drop y vs
drop-behind p vs x y n l =
    let s : y ≡ x + (y - x) = omega arith in
    ap (λ (i : ℕ). drop i (p ++ drop x vs)) s
    ∙ sym (drop-drop (y - x) x (p ++ drop x vs)) ∙ ap (drop (y - x)) (drop_at p (drop x vs) x n)
    ∙ drop-drop (y - x) x vs ∙ ap (λ (i : ℕ). drop i vs) (sym s)

-- words taken out: what was behind them, brought down, and zeros where it stood last
pub closed-up : (ws : List ℕ) (p q u end : ℕ) (vs us : List ℕ) → p ≤ q → q ≤ u → u ≤ length ws → end ≡ p + (u - q) → vs ≡ lowered q u p ws → Zeroed vs end u us → us ≡ closed_up p q u ws
unfolding lowered closed_up
closed-up ws p q u end vs us a b l e w z =
    let kept = take p ws ++ take (u - q) (drop q ws) in
    let n : length kept ≡ p + (u - q) = length-append (take p ws) (take (u - q) (drop q ws)) ∙ rw (length-take-le p ws (omega arith), length-take-le (u - q) (drop q ws) (rw length-drop (omega arith))) in
    let v : vs ≡ kept ++ drop (p + (u - q)) ws = w ∙ sym (append_assoc (take p ws) (take (u - q) (drop q ws)) (drop (p + (u - q)) ws)) in
    let m : length vs ≡ length ws = ap length v ∙ length-append kept (drop (p + (u - q)) ws) ∙ rw (n, length-drop) (omega arith) in
    let s : u - (p + (u - q)) ≡ q - p = omega arith in
    zeroed-part vs end u us z (omega arith) (omega arith)
    ∙ rw (e, v, take_at kept (drop (p + (u - q)) ws) (p + (u - q)) n, drop-behind kept ws (p + (u - q)) u n (omega arith), s) (append_assoc (take p ws) (take (u - q) (drop q ws)) (replicate (q - p) 0 ++ drop u ws))

-- ---- relations kept
-- the relations of ws below key k that the mask names stand behind the first five words of vs, up to t, and from relation k on vs is ws
pub record Keeping (ws : List ℕ) (mask k t : ℕ) (vs : List ℕ) : Type 0 where
  pub place : t ≡ 5 + length (relations (named mask) (rows_of ws) k)
  pub low : t ≤ place_of ws k
  pub size : length vs ≡ length ws
  pub front : take t vs ≡ take 5 ws ++ relations (named mask) (rows_of ws) k
  pub later : drop (place_of ws k) vs ≡ drop (place_of ws k) ws

module _ (ws : List ℕ) (mask : ℕ) (g : Leaves ws mask) where
  f : Framed ws
  f = framed ws g.frame

  pub keeping_none : Keeping ws mask 0 5 ws
  keeping_none = record {
    place = unfold relations in refl;
    low = unfold place_of in omega arith;
    size = refl;
    front = unfold relations in sym (append-nil (take 5 ws));
    later = refl;
  }

  module _ (k t : ℕ) (vs : List ℕ) (h : Keeping ws mask k t vs) (l : k < 16) where
    abbrev at : ℕ
    at = place_of ws k

    abbrev end : ℕ
    end = place_of ws (suc k)

    order : at ≤ end
    order = place-rises ws k (suc k) (omega arith)

    within-book : end ≤ length ws
    within-book = omega (arith, place-rises ws (suc k) 16 (omega arith), f.ends, f.fits)

    -- a relation that the mask does not name
    pub keeping-skip : named mask k ≡ false → Keeping ws mask (suc k) t vs
    keeping-skip q =
        let e = relations-skipped (named mask) (rows_of ws) k q in
        record {
          place = rw e h.place;
          low = omega (arith, h.low, order);
          size = h.size;
          front = rw e h.front;
          later = drop-later vs ws at end order h.later;
        }

    -- and one that it names
    module _ (q : named mask k ≡ true) where
      block : take (end - at) (drop at vs) ≡ relation (rows_of ws k)
      block =
          let o = g.holds k q in
          let n : end - at ≡ count ws (k / 4) + 1 + total ws k = omega (arith, place-held ws k o) in
          rw (h.later, n) (relation-is ws f g.rows k o)

      block-length : length (relation (rows_of ws k)) ≡ end - at
      block-length = sym (ap length block) ∙ length-take-le (end - at) (drop at vs) (rw length-drop (omega (arith, h.size, within-book)))

      pub keeping-more : Keeping ws mask (suc k) (t + (end - at)) (lowered at end t vs)
      unfolding lowered
      keeping-more =
          let e = relations-held (named mask) (rows_of ws) k q in
          let m : length (take t vs) ≡ t = length-take-le t vs (omega (arith, h.low, h.size, order, within-book)) in
          let p = take t vs ++ relation (rows_of ws k) in
          let n : length p ≡ t + (end - at) = length-append (take t vs) (relation (rows_of ws k)) ∙ rw (m, block-length) in
          let w : take t vs ++ (take (end - at) (drop at vs) ++ drop (t + (end - at)) vs) ≡ p ++ drop (t + (end - at)) vs
          = rw block (sym (append_assoc (take t vs) (relation (rows_of ws k)) (drop (t + (end - at)) vs))) in
          let d : drop end (p ++ drop (t + (end - at)) vs) ≡ drop end vs = drop-behind p vs (t + (end - at)) end n (omega (arith, h.low, order)) in
          record {
            place = rw (e, length-append, block-length) (omega (arith, h.place));
            low = omega (arith, h.low, order);
            size = ap length w ∙ length-append p (drop (t + (end - at)) vs) ∙ rw (n, length-drop) (omega (arith, h.low, h.size, order, within-book));
            front = rw (w, take_at p (drop (t + (end - at)) vs) (t + (end - at)) n, h.front, e) (append_assoc (take 5 ws) (relations (named mask) (rows_of ws) k) (relation (rows_of ws k)));
            later = rw w (d ∙ drop-later vs ws at end order h.later);
          }

  pub keeping_all : (t : ℕ) (vs : List ℕ) → Keeping ws mask 16 t vs → Kept ws mask t vs
  keeping_all t vs h = record {
    size = h.size;
    place = h.place;
    fits = omega (arith, h.low, f.ends, f.fits);
    front = h.front;
  }

-- ---- with a head, and zeros behind
pub given-back : (head ws : List ℕ) (mask end : ℕ) (vs us : List ℕ) → length head ≡ 5 → get_or head 1 0 ≡ mask → Kept ws mask end vs → us ≡ head ++ drop 5 vs → cleared end us ≡ given_back head ws
unfolding cleared given_back filled
given-back head ws mask end vs us five m k e =
    let R = relations (named mask) (rows_of ws) 16 in
    let l : 5 ≤ length ws = omega (arith, k.place, k.fits) in
    let a : end - 5 ≡ length R = omega (arith, k.place) in
    let x : take (end - 5) (drop 5 vs) ≡ R = sym (slice-take 5 end vs) ∙ ap (drop 5) k.front ∙ drop_at (take 5 ws) R 5 (length-take-le 5 ws l) in
    let s : end ≡ length head + (end - 5) = omega (arith, k.place) in
    let y : take end (head ++ drop 5 vs) ≡ head ++ R
    = ap (λ (i : ℕ). take i (head ++ drop 5 vs)) s ∙ take-append-add head (drop 5 vs) (end - 5) ∙ ap (λ (r : List ℕ). head ++ r) x in
    let n : length (head ++ drop 5 vs) ≡ length ws = length-append head (drop 5 vs) ∙ rw (five, length-drop) (omega (arith, k.size)) in
    let o : length (head ++ R) ≡ end = length-append head R ∙ omega (arith, k.place) in
    rw (e, m, y, n, o)
