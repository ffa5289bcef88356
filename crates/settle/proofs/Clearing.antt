-- Words set to 0 from a place on.
use mathlib.Core.Path.{◌≡◌, sym, ap, ◌∙◌}
use mathlib.Core.List.{List, ◌++◌}
use Prim.Native.Nat.{ℕ, ◌+◌, ◌-◌, ◌≤◌, ◌<◌}
use native.Mathlib.Decide.{dec_lt}
use native.Mathlib.Omega.{arith}
use lib.ListN.{length, get_or, take, drop, replicate, length-append, length-take, length-drop, length-replicate, get_or-replicate, get_or-append}
use lib.Seq.{get_or-take, get_or-drop, get_or-append-add, length-take-le, ext_get_or}
use Rattle.settle.specs.Settled.{Zeroed, cleared}

-- to the end of the words
pub zeroed_rest : (ws : List ℕ) (a : ℕ) (vs : List ℕ) → Zeroed ws a (length ws) vs → vs ≡ cleared a ws
unfolding cleared
zeroed_rest ws a vs t =
    ext_get_or 0 vs (take a ws ++ replicate (length ws - a) 0) (t.size ∙ sym (simp (length-append, length-take, length-replicate) (omega arith))) at
  where
    at : (k : ℕ) → k < length vs → get_or vs k 0 ≡ get_or (take a ws ++ replicate (length ws - a) 0) k 0
    at k m =
        elim (dec_lt k a) [
          | yes x ↦
              let n : k < length (take a ws) = simp length-take (omega (arith, t.size)) in
              t.below k x ∙ sym (get_or-append (take a ws) (replicate (length ws - a) 0) 0 k n ∙ get_or-take a ws k 0 x)
          | no x ↦
              let e : length (take a ws) ≡ a = length-take-le a ws (omega (arith, t.size)) in
              let s : length (take a ws) + (k - a) ≡ k = omega arith in
              let g = get_or-append-add (take a ws) (replicate (length ws - a) 0) (k - a) 0 in
              t.zeros k (omega arith) (omega (arith, t.size)) ∙ sym (rw s at g ∙ get_or-replicate (length ws - a) (k - a) 0 0 (omega (arith, t.size)))
        ]

-- or up to a place among them
pub zeroed-part : (ws : List ℕ) (a b : ℕ) (vs : List ℕ) → Zeroed ws a b vs → a ≤ b → b ≤ length ws → vs ≡ take a ws ++ (replicate (b - a) 0 ++ drop b ws)
zeroed-part ws a b vs t low high =
    ext_get_or 0 vs (take a ws ++ (replicate (b - a) 0 ++ drop b ws)) (t.size ∙ sym (simp (length-append, length-take, length-replicate, length-drop) (omega arith))) at
  where
    front : length (take a ws) ≡ a
    front = length-take-le a ws (omega arith)

    zeros : length {A = ℕ} (replicate (b - a) 0) ≡ b - a
    zeros = length-replicate (b - a) 0

    behind : (j : ℕ) → get_or (take a ws ++ (replicate (b - a) 0 ++ drop b ws)) (a + j) 0 ≡ get_or (replicate (b - a) 0 ++ drop b ws) j 0
    behind j = let g = get_or-append-add (take a ws) (replicate (b - a) 0 ++ drop b ws) j 0 in rw front at g

    at : (k : ℕ) → k < length vs → get_or vs k 0 ≡ get_or (take a ws ++ (replicate (b - a) 0 ++ drop b ws)) k 0
    at k m =
        elim (dec_lt k a) [
          | yes x ↦
              let n : k < length (take a ws) = rw front x in
              t.below k x ∙ sym (get_or-append (take a ws) (replicate (b - a) 0 ++ drop b ws) 0 k n ∙ get_or-take a ws k 0 x)
          | no x ↦ elim (dec_lt k b) [
            | yes y ↦
                let s : a + (k - a) ≡ k = omega arith in
                let n : k - a < length {A = ℕ} (replicate (b - a) 0) = rw zeros (omega arith) in
                let g = behind (k - a) in
                t.zeros k (omega arith) y ∙ sym (rw s at g ∙ get_or-append (replicate (b - a) 0) (drop b ws) 0 (k - a) n ∙ get_or-replicate (b - a) (k - a) 0 0 (omega arith))
            | no y ↦
                let s : a + (b - a + (k - b)) ≡ k = omega arith in
                let r : b + (k - b) ≡ k = omega arith in
                let g = behind (b - a + (k - b)) in
                let h = get_or-append-add (replicate (b - a) 0) (drop b ws) (k - b) 0 in
                t.above k (omega arith) ∙ sym (rw s at g ∙ rw zeros at h ∙ get_or-drop b ws (k - b) 0 ∙ ap (λ (i : ℕ). get_or ws i 0) r)
          ]
        ]
