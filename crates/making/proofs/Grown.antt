-- What `add` leaves, from what the relation's maker, settle and the head's words leave.
use mathlib.Core.Path.{◌≡◌, refl, sym, ap, ◌∙◌}
use mathlib.Core.Bool.{Bool, true, false, cond, ◌&&◌, true≢false}
use mathlib.Core.List.{List}
use Prim.Native.Nat.{ℕ, ◌+◌, ◌*◌, ◌/◌, ◌%◌, ◌^◌, ◌≤◌, ◌<◌}
use native.Mathlib.Nat.{one-mul, mod-eq_of_lt}
use native.Mathlib.Omega.{arith}
use lib.ListN.{length, get_or}
use lib.Dec.{eqb, ltb, leb}
use borrow.Author.Tests.{le-leb, lt-leb, eqb-true, eq-eqb, ne_eqb, lt-ltb, le-ltb}
use Rattle.rules.specs.Lists.{filled}
use Rattle.rules.specs.Book.{dim, key, held, place, relation, Right}
use Rattle.rules.specs.Made.{made}
use Rattle.rules.specs.Calls.{count_after, added}
use Rattle.rules.proofs.Masks.{one-small, mask-more}
use Rattle.rules.proofs.Slices.{get_d_front}
use Rattle.rules.proofs.FrameRule.{Framed, framed, place-rises}
use Rattle.rules.proofs.MadeFits.{make-below}
use Rattle.rules.proofs.Growing.{length-added}
use Rattle.relations.specs.Words.{Written}
use Rattle.relations.specs.Ready.{Ready}
use Rattle.settle.specs.Settled.{Within, settled, cleared, headed}
use Rattle.settle.proofs.Placed.{cleared-back, placed}
use Rattle.std.specs.Prelude.{Ok, Err}
use Rattle.kinds.specs.declared.refusals.Refusal.TheVariants.{NoRoom}
use Rattle.making.specs.Growth.{Makable, Appends, room_answer, grown}
use Rattle.making.proofs.Room.{room-fits, room-none}

-- ---- N_x after a make
pub count-new : (ws : List ℕ) (d e n x : ℕ) → e ≡ 0 → d ≡ x → d < dim ws → n ≡ count_after ws d e n x
unfolding count_after
count-new ws d e n x p q l = rw (eq-eqb e 0 p, eq-eqb d x q, lt-ltb d (dim ws) l)

pub count-level : (ws : List ℕ) (d e n x : ℕ) → (e ≡ 0 → ⊥) → get_or ws (1 + x) 0 ≡ count_after ws d e n x
unfolding count_after
count-level ws d e n x p = rw (ne_eqb e 0 p)

pub count-other : (ws : List ℕ) (d e n x : ℕ) → e ≡ 0 → (d ≡ x → ⊥) → get_or ws (1 + x) 0 ≡ count_after ws d e n x
unfolding count_after
count-other ws d e n x p q = rw (eq-eqb e 0 p, ne_eqb d x q)

pub count-cells : (ws : List ℕ) (d e n x : ℕ) → e ≡ 0 → d ≡ x → dim ws ≤ d → get_or ws (1 + x) 0 ≡ count_after ws d e n x
unfolding count_after
count-cells ws d e n x p q l = rw (eq-eqb e 0 p, eq-eqb d x q, le-ltb d (dim ws) l)

-- it is read from words 0, 2 and 3, and from n only where d→0 with d > 0 is made
pub count_same : (ws vs : List ℕ) (d e n m x : ℕ) → 0 < x → get_or vs 0 0 ≡ get_or ws 0 0 → get_or vs (1 + x) 0 ≡ get_or ws (1 + x) 0 → (e ≡ 0 → 0 < d → n ≡ m)
    → count_after vs d e n x ≡ count_after ws d e m x
unfolding count_after dim
count_same ws vs d e n m x pos a b c = rw (a, b) (go (eqb e 0) (eqb d x) refl refl)
  where
    go : (s t : Bool) → eqb e 0 ≡ s → eqb d x ≡ t
        → cond (s && t && ltb d (get_or ws 0 0 / 2 ^ 30)) n (get_or ws (1 + x) 0) ≡ cond (s && t && ltb d (get_or ws 0 0 / 2 ^ 30)) m (get_or ws (1 + x) 0)
    go false t p q = refl
    go true false p q = refl
    go true true p q =
        let z : d ≡ x = eqb-true d x q in
        rw (c (eqb-true e 0 p) (omega arith))

-- ---- what can be made is ready
module _ (ws : List ℕ) (d e : ℕ) (m : Makable ws d e) where
  right : Right ws
  right = record { frame = m.frame; rows = m.rows }

  f : Framed ws
  f = framed ws m.frame

  pub low-dims : (d ≤ 3) × (e ≤ 3)
  low-dims = (omega (arith, m.first, f.high), omega (arith, m.second, f.high))

  pub key_below : key d e < 16
  unfolding key
  key_below = omega (arith, m.first, m.second, f.high)

  key-low : key d e ≤ 16
  key-low = omega (arith, key_below)

  pub ready : (u : ℕ) → u ≡ get_or ws 4 0 → Ready ws d e u
  ready u q = record {
    frame = m.frame;
    rows = m.rows;
    first = m.first;
    second = m.second;
    sources = m.sources;
    below = λ a b. true≢false (sym f.top ∙ rw (a, b) at m.new);
    used = q;
  }

  -- the places at which Make cuts the book
  pub at_low : 5 ≤ place ws (key d e)
  at_low = let q = place-rises ws 0 (key d e) (omega arith) in unfold place in q

  pub at_high : place ws (key d e) ≤ get_or ws 4 0
  at_high = omega (arith, place-rises ws (key d e) 16 key-low, f.ends)

  -- the sum of powers of two with one more, as the code has it
  module _ (mask k : ℕ) (p : mask ≡ get_or ws 1 0) (q : k ≡ key d e) where
    pub mask_is : mask + (1 * 2 ^ k) % 2 ^ 32 ≡ get_or ws 1 0 + 2 ^ key d e
    mask_is =
        let z : (1 * 2 ^ key d e) % 2 ^ 32 ≡ 2 ^ key d e = rw one-mul (mod-eq_of_lt (one-small (key d e) 32 (omega (arith, key_below)))) in
        rw (p, q, z)

    pub mask_fits : mask + (1 * 2 ^ k) % 2 ^ 32 < 2 ^ 32
    mask_fits = let h = m.new in rw mask_is (omega (arith, mask-more (get_or ws 1 0) (key d e) (unfold held in h) 16 key_below f.mask))

  module _ (u end n : ℕ) (vs : List ℕ) (used : u ≡ get_or ws 4 0) (a : Appends ws d e u end n vs) (size : length vs ≡ length ws) where
    w : Written ws (get_or ws 4 0) (relation (made ws d e)) end vs
    w = rw used at a.written

    added-length : length (added ws d e) ≡ end
    added-length = length-added ws f d e key-low ∙ sym w.place

    pub end_fits : end < 2 ^ 32
    end_fits = rw w.place (make-below ws f m.rows d e m.first m.second m.new)

    -- it does not fit: the free words are cleared
    pub stays : length vs < end → (us : List ℕ) → us ≡ cleared u vs → (Err NoRoom ≡ room_answer (added ws d e) ws) × (us ≡ grown ws d e)
    unfolding grown
    stays l us q =
        let z : leb (length (added ws d e)) (length ws) ≡ false = lt-leb (length (added ws d e)) (length ws) (omega (arith, added-length)) in
        (room-none (added ws d e) ws z, q ∙ ap (λ (x : ℕ). cleared x vs) used ∙ cleared-back ws right d e key-low vs size w.front ∙ rw z)

    -- words 0 to 4 stand
    head-stands : (i : ℕ) → i < 5 → get_or vs i 0 ≡ get_or ws i 0
    head-stands i l = get_d_front vs ws (get_or ws 4 0) w.front i (omega (arith, at_low, at_high))

    count-stands : (x : ℕ) → 0 < x → x < 3 → count_after vs d e n x ≡ count_after ws d e (length (made ws d e)) x
    count-stands x p l = count_same ws vs d e n (length (made ws d e)) x p (head-stands 0 (omega arith)) (head-stands (1 + x) (omega arith)) a.count

    -- it fits: it is settled, and the head is set
    module _ (l : end ≤ length vs) (at : ℕ) (stood : at ≡ place ws (key d e)) where
      pub cut : Within at u (length vs) × Within u end (length vs)
      cut = (
        record { order = omega (arith, at_high); inside = omega (arith, w.place) },
        record { order = omega (arith, w.place); inside = l },
      )

      pub grows : (mask edges faces : ℕ) → mask ≡ get_or ws 1 0 + 2 ^ key d e → edges ≡ count_after vs d e n 1 → faces ≡ count_after vs d e n 2
          → (ss us : List ℕ) → ss ≡ settled at u end vs → us ≡ headed mask edges faces end ss → (Ok (record {}) ≡ room_answer (added ws d e) ws) × (us ≡ grown ws d e)
      unfolding grown
      grows mask edges faces p b c ss us s q =
          let z : leb (length (added ws d e)) (length ws) ≡ true = le-leb (length (added ws d e)) (length ws) (omega (arith, added-length)) in
          let x : end ≤ length ws = omega arith in
          let y : get_or ws 4 0 + length (relation (made ws d e)) ≤ length ws = omega (arith, w.place) in
          let r = placed ws right d e key-low y in
          let i = b ∙ count-stands 1 (omega arith) (omega arith) in
          let j = c ∙ count-stands 2 (omega arith) (omega arith) in
          let g : headed mask edges faces end ss ≡ filled (length ws) (added ws d e) = rw (s, p, i, j, stood, used, w.words x, w.place) r in
          (room-fits (added ws d e) ws z, q ∙ (g ∙ rw z))
