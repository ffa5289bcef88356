-- A relation taken out: the new head, as the code has it, and what is left behind it.
use mathlib.Core.Path.{◌≡◌, ap, ◌∙◌}
use mathlib.Core.Bool.{Bool, true, false, not}
use mathlib.Core.List.{List, ◌∷◌, ◌++◌}
use Prim.Native.Nat.{ℕ, suc, ◌+◌, ◌-◌, ◌*◌, ◌%◌, ◌^◌, ◌≤◌, ◌<◌}
use native.Mathlib.Nat.{one-mul, mod-eq_of_lt}
use native.Mathlib.Numerals.{add-one}
use native.Mathlib.Omega.{arith}
use lib.ListN.{length, get_or, take, drop}
use borrow.Author.Tests.{lt-ltb, le-ltb}
use Rattle.rules.specs.Lists.{filled}
use Rattle.rules.specs.Book.{dim, key, named, held, mentions, place, Right}
use Rattle.rules.specs.Calls.{count_left, dropped}
use Rattle.rules.proofs.Masks.{one-small, mask-again}
use Rattle.rules.proofs.FrameRule.{Framed, framed, place-rises}
use Rattle.settle.specs.Settled.{Within, headed, closed_up}
use Rattle.settle.proofs.Placed.{parted}
use Rattle.making.specs.Growth.{Droppable}
use Rattle.making.proofs.Walk.{was-on, was-off}

-- ---- N_x once the mask names what is left
module _ (ws : List ℕ) (mask x : ℕ) where
  pub left-cells : dim ws ≤ x → 0 ≡ count_left ws mask x
  unfolding count_left
  left-cells l = rw (le-ltb x (dim ws) l)

  module _ (l : x < dim ws) (b : Bool) (q : b ≡ mentions (named mask) x) where
    pub left-unnamed : not b ≡ true → 0 ≡ count_left ws mask x
    unfolding count_left
    left-unnamed o = rw (lt-ltb x (dim ws) l, ← q, was-off b o)

    pub left-named : not b ≡ false → get_or ws (1 + x) 0 ≡ count_left ws mask x
    unfolding count_left
    left-named o = rw (lt-ltb x (dim ws) l, ← q, was-on b o)

-- ---- what can be dropped
module _ {ws : List ℕ} {d e : ℕ} (p : Droppable ws d e) where
  f : Framed ws
  f = framed ws p.frame

  pub near : (d ≤ 3) × (e ≤ 3)
  near = (omega (arith, p.first, f.high), omega (arith, p.second, f.high))

  module _ (k : ℕ) (q : k ≡ key d e) where
    pub low : k < 16
    low = let z : key d e < 16 = unfold key in omega (arith, near) in omega arith

    on : named (get_or ws 1 0) k ≡ true
    on = let t = p.there in rw q (unfold held in t)

    power : (1 * 2 ^ k) % 2 ^ 32 ≡ 2 ^ k
    power = rw one-mul (mod-eq_of_lt (one-small k 32 (omega (arith, low))))

    module _ (m : ℕ) (r : m ≡ get_or ws 1 0) where
      pub power_in : (1 * 2 ^ k) % 2 ^ 32 ≤ m
      power_in = rw (power, r) (omega (arith, mask-again (get_or ws 1 0) k on))

      pub mask-left : m - (1 * 2 ^ k) % 2 ^ 32 ≡ get_or ws 1 0 - 2 ^ key d e
      mask-left = rw (power, r, q)

    -- the places at which Drop cuts the book
    module _ (at next used : ℕ) (s : at ≡ place ws k) (t : next ≡ place ws (k + 1)) (u : used ≡ get_or ws 4 0) where
      pub cut : Within at next used × (used ≤ length ws)
      cut = (
        record {
          order = omega (arith, place-rises ws k (k + 1) (omega arith));
          inside = omega (arith, place-rises ws (k + 1) 16 (omega (arith, low)), f.ends);
        },
        omega (arith, f.fits),
      )

      -- the used length then is a word, as the one before
      pub end_fits : (end : ℕ) → used < 2 ^ 32 → end ≡ at + (used - next) → end < 2 ^ 32
      end_fits end l e = let c = cut in omega (arith, c.0.order, c.0.inside)

      pub taken_out : (mask edges faces end : ℕ) → mask ≡ get_or ws 1 0 - 2 ^ key d e → edges ≡ count_left ws mask 1 → faces ≡ count_left ws mask 2 → end ≡ at + (used - next)
          → (vs us : List ℕ) → vs ≡ closed_up at next used ws → us ≡ headed mask edges faces end vs → us ≡ filled (length ws) (dropped ws d e)
      taken_out mask edges faces end a b c g vs us v w =
          let x : at ≡ place ws (key d e) = s ∙ ap (place ws) q in
          let y : next ≡ place ws (suc (key d e)) = t ∙ ap (place ws) (add-one k ∙ ap suc q) in
          let z : key d e < 16 = omega (arith, low) in
          let r : Right ws = record { frame = p.frame; rows = p.rows } in
          let h = parted ws r d e (omega arith) z mask edges faces end (rw (x, y, u) at g) in
          w ∙ rw (v, x, y, u) (h ∙ ap (filled (length ws)) less)
        where
          less : get_or ws 0 0 ∷ mask ∷ edges ∷ faces ∷ (get_or ws 4 0 - (place ws (suc (key d e)) - place ws (key d e))) ∷ (take (place ws (key d e) - 5) (drop 5 ws) ++ take (get_or ws 4 0 - place ws (suc (key d e))) (drop (place ws (suc (key d e))) ws)) ≡ dropped ws d e
          less = unfold dropped in rw (b, c, a)
