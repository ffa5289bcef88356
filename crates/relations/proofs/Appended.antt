-- What is appended: nothing yet, one word more, more behind it, and numbers that pass a test.
use mathlib.Core.Path.{◌≡◌, refl, sym, ap, ◌∙◌}
use mathlib.Core.Bool.{Bool, true, false, cond}
use mathlib.Core.List.{List, [], ◌∷◌, ◌++◌, append_assoc, append-nil}
use Prim.Native.Nat.{ℕ, suc, ◌+◌, ◌≤◌}
use native.Mathlib.Numerals.{add-one}
use native.Mathlib.Omega.{arith}
use lib.ListN.{length, get_or, take, drop, set, length-append, length-drop, take-append-drop}
use lib.Seq.{take-set-le, drop-cons, set_at, take_at, drop_at, length-take-le}
use Rattle.rules.specs.Lists.{up_to, keep}
use Rattle.rules.proofs.Keep.{keep-short}
use Rattle.rules.proofs.First.{keep_append}
use Rattle.rules.proofs.Slices.{take-front, drop-later}
use Rattle.relations.specs.Words.{range, Written}
use Rattle.relations.proofs.Ranges.{range_last, range_split, up_to-split}

pub written_none : (ws : List ℕ) (dst at : ℕ) → at ≡ dst → Written ws dst [] at ws
written_none ws dst at e = record {
  place = omega arith;
  front = refl;
  words = λ l. rw (e, append-nil) (sym (take-append-drop dst ws));
}

-- where what is written fits, the words are as many as they were
written-long : {ws : List ℕ} {dst : ℕ} {new : List ℕ} {at : ℕ} {vs : List ℕ} → Written ws dst new at vs → at ≤ length ws → length vs ≡ length ws
written-long {ws} {dst} {new} {at} w l =
    ap length (w.words l) ∙ simp (length-append, length-drop) (omega (arith, length-take-le dst ws (omega (arith, w.place)), w.place))

module _ {ws : List ℕ} {dst : ℕ} {new : List ℕ} {at : ℕ} {vs : List ℕ} (w : Written ws dst new at vs) where
  pub written-more : (x : ℕ) → Written ws dst (new ++ (x ∷ [])) (at + 1) (set vs at x)
  written-more x = record {
    place = simp length-append (omega (arith, w.place));
    front = take-set-le dst vs at x (omega (arith, w.place)) ∙ w.front;
    words = λ l.
        let long : length (take dst ws ++ new) ≡ at = simp length-append (omega (arith, length-take-le dst ws (omega (arith, w.place)), w.place)) in
        rw (w.words (omega arith), drop-cons ws at 0 (omega arith), add-one at)
        (set_at (take dst ws ++ new) (get_or ws at 0) (drop (suc at) ws) x at long ∙ simp append_assoc);
  }

  -- what is written behind what was written
  pub written_then : {more : List ℕ} {r : ℕ} {us : List ℕ} → Written vs at more r us → Written ws dst (new ++ more) r us
  written_then {more} {r} {us} m =
      record {
        place = simp length-append (omega (arith, w.place, m.place));
        front = take-front us vs at m.front dst (omega (arith, w.place)) ∙ w.front;
        words = λ l.
            let k : at ≤ length ws = omega (arith, m.place) in
            let long : length (take dst ws ++ new) ≡ at = simp length-append (omega (arith, length-take-le dst ws (omega (arith, w.place)), w.place)) in
            let e : take at vs ≡ take dst ws ++ new = ap (take at) (w.words k) ∙ take_at (take dst ws ++ new) (drop at ws) at long in
            let d : drop at vs ≡ drop at ws = ap (drop at) (w.words k) ∙ drop_at (take dst ws ++ new) (drop at ws) at long in
            m.words (omega (arith, written-long w k)) ∙ rw (e, drop-later vs ws at r (omega (arith, m.place)) d) (simp append_assoc);
      }

-- one word, if a test holds
pub written_one : (b : Bool) (ws : List ℕ) (at x r : ℕ) (vs : List ℕ) → b ≡ true → r ≡ at + 1 → vs ≡ set ws at x → Written ws at (cond b (x ∷ []) []) r vs
written_one b ws at x r vs e f g = rw (e, f, g) (written-more (written_none ws at at refl) x)

pub written-nothing : (b : Bool) (ws : List ℕ) (at x : ℕ) → b ≡ false → Written ws at (cond b (x ∷ []) []) at ws
written-nothing b ws at x e = rw e (written_none ws at at refl)

-- ---- the numbers that pass a test
module _ (p : ℕ → Bool) {ws : List ℕ} {dst at : ℕ} {vs : List ℕ} where
  pub kept-below : (xs : List ℕ) → Written ws dst (keep p xs) at vs → at ≤ dst + length xs
  kept-below xs w = omega (arith, w.place, keep-short p xs)

  pub kept_more : (a n : ℕ) → Written ws dst (keep p (range a n)) at vs → {r : ℕ} {us : List ℕ}
      → Written vs at (cond (p (a + n)) ((a + n) ∷ []) []) r us → Written ws dst (keep p (range a (suc n))) r us
  unfolding keep
  kept_more a n w m = rw (range_last a n, keep_append p (range a n) ((a + n) ∷ [])) (written_then w m)

  pub kept-range : (a n : ℕ) → Written ws dst (keep p (up_to a)) at vs → {r : ℕ} {us : List ℕ}
      → Written vs at (keep p (range a n)) r us → Written ws dst (keep p (up_to (a + n))) r us
  kept-range a n w m = rw (up_to-split a n, keep_append p (up_to a) (range a n)) (written_then w m)

  pub kept-later : (a n m : ℕ) → Written ws dst (keep p (range a n)) at vs → {r : ℕ} {us : List ℕ}
      → Written vs at (keep p (range (a + n) m)) r us → Written ws dst (keep p (range a (n + m))) r us
  kept-later a n m w x = rw (range_split a n m, keep_append p (range a n) (range (a + n) m)) (written_then w x)
