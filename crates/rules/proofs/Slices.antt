-- Parts of a list: from its first on, in two, and alike in lists that begin alike.
use mathlib.Core.Path.{◌≡◌, sym, ap, ◌∙◌}
use mathlib.Core.List.{List, [], ◌∷◌, ◌++◌}
use Prim.Native.Nat.{ℕ, zero, suc, ◌+◌, ◌-◌, ◌≤◌, ◌<◌}
use native.Mathlib.Nat.{sub-zero, suc-sub-suc, zero-sub}
use native.Mathlib.Numerals.{add-one}
use native.Mathlib.Omega.{arith}
use lib.ListN.{length, get_or, take, drop}
use lib.Seq.{slice, slice-cons, take-nil, take-add, take-take, drop-drop, get_or-take}

-- a part is the first of the rest
pub slice-take : (f t : ℕ) (l : List ℕ) → slice f t l ≡ take (t - f) (drop f l)
slice-take zero t l = rw sub-zero
slice-take (suc f) zero l = rw zero-sub
slice-take (suc f) (suc t) [] = sym (take-nil (suc t - suc f))
slice-take (suc f) (suc t) (x ∷ xs) = rw suc-sub-suc (slice-take f t xs)

-- a part's first, and the part after it
pub slice-next : (l : List ℕ) (f t : ℕ) → f < t → t ≤ length l → slice f t l ≡ get_or l f 0 ∷ slice (f + 1) t l
slice-next l f t h k = slice-cons f t l 0 h k ∙ rw add-one

pub slice-split : (f t u : ℕ) (l : List ℕ) → f ≤ t → t ≤ u → slice f u l ≡ slice f t l ++ slice t u l
slice-split f t u l h k =
    let e : u - f ≡ (t - f) + (u - t) = omega arith in
    let d : f + (t - f) ≡ t = omega arith in
    slice-take f u l
    ∙ ap (λ (m : ℕ). take m (drop f l)) e
    ∙ take-add (t - f) (u - t) (drop f l)
    ∙ ap (λ (r : List ℕ). take (t - f) (drop f l) ++ take (u - t) r) (drop-drop (t - f) f l ∙ ap (λ (m : ℕ). drop m l) d)
    ∙ rw (slice-take f t l, slice-take t u l)

-- lists that end alike from one place on do so from a later one on
pub drop-later : (vs ws : List ℕ) (at to : ℕ) → at ≤ to → drop at vs ≡ drop at ws → drop to vs ≡ drop to ws
drop-later vs ws at to l e =
    let g : to ≡ at + (to - at) = omega arith in
    rw g (sym (drop-drop (to - at) at vs) ∙ ap (drop (to - at)) e ∙ drop-drop (to - at) at ws)

-- lists that begin alike have the same words and parts there
module _ (vs ws : List ℕ) (m : ℕ) (e : take m vs ≡ take m ws) where
  pub take-front : (k : ℕ) → k ≤ m → take k vs ≡ take k ws
  take-front k h = sym (take-take k m vs h) ∙ ap (take k) e ∙ take-take k m ws h

  pub get_d_front : (k : ℕ) → k < m → get_or vs k 0 ≡ get_or ws k 0
  get_d_front k h = sym (get_or-take m vs k 0 h) ∙ ap (λ (l : List ℕ). get_or l k 0) e ∙ get_or-take m ws k 0 h

  pub slice_front : (f t : ℕ) → t ≤ m → slice f t vs ≡ slice f t ws
  slice_front f t h = ap (drop f) (take-front t h)

  pub part-front : (a n : ℕ) → a + n ≤ m → take n (drop a vs) ≡ take n (drop a ws)
  part-front a n h =
      let d : a + n - a ≡ n = omega arith in
      rw d at (sym (slice-take a (a + n) vs) ∙ slice_front a (a + n) h ∙ slice-take a (a + n) ws)
