-- Drop keeps the true book: its words are the true book's with one key less.
use mathlib.Core.Path.{◌≡◌, refl, sym, ◌∙◌}
use mathlib.Core.Bool.{Bool, true, false, cond, ◌&&◌}
use mathlib.Core.List.{List, []}
use Prim.Native.Nat.{ℕ, ◌+◌, ◌-◌, ◌^◌, ◌≤◌, ◌<◌}
use native.Mathlib.Omega.{arith}
use lib.ListN.{length, get_or, replicate}
use lib.Dec.{ltb}
use borrow.Author.Tests.{ltb-true}
use Rattle.rules.specs.Lists.{filled}
use Rattle.rules.specs.Book.{key, named, held, mentions, relation, relations}
use Rattle.rules.specs.Calls.{count_left, dropped}
use Rattle.rules.specs.Truth.{Mesh, count_word, true_at, true_book}
use Rattle.rules.proofs.Tests.{left, right}
use Rattle.rules.proofs.Masks.{named-keeps, named-less, mask-again}
use Rattle.rules.proofs.Mentions.{mentions-more}
use Rattle.rules.proofs.Dropped.{head_less, dropped-assembled, dropped-used}
use Rattle.rules.proofs.TrueRows.{Formed}
use Rattle.rules.proofs.Proper.{Proper}
use Rattle.rules.proofs.TrueBook.{true_head, true_used, true-held, true-assembled, true-five, true-used, true-bare, true-fill, true-dim, true-sizes, count-word}
use Rattle.rules.proofs.TrueMake.{words-equal}

module _ (m : Mesh) (s : Formed m) (mask : ℕ) (c : Proper m.dims mask) (d e : ℕ) (ld : d ≤ m.dims) (le : e ≤ m.dims)
    (on : named mask (key d e) ≡ true) where
  was-named : (j : ℕ) → named (mask - 2 ^ key d e) j ≡ true → named mask j ≡ true
  was-named j h = rw (mask-again mask (key d e) on) at (named-keeps (mask - 2 ^ key d e) (key d e) (named-less mask (key d e) on) j h)

  word-left : (x : ℕ) → get_or (true_head m mask) (1 + x) 0 ≡ count_word m mask x → count_left (true_head m mask) (mask - 2 ^ key d e) x ≡ count_word m (mask - 2 ^ key d e) x
  unfolding count_left
  word-left x w = rw (w, true-dim m s mask) (go (ltb x m.dims && mentions (named (mask - 2 ^ key d e)) x) refl)
    where
      go : (b : Bool) → (ltb x m.dims && mentions (named (mask - 2 ^ key d e)) x) ≡ b
          → cond b (count_word m mask x) 0 ≡ count_word m (mask - 2 ^ key d e) x
      go true q =
          let l : x < m.dims = ltb-true x m.dims (left _ _ q) in
          let t = right (ltb x m.dims) _ q in
          count-word m s mask x l (mentions-more (named (mask - 2 ^ key d e)) (named mask) was-named x t) ∙ sym (count-word m s (mask - 2 ^ key d e) x l t)
      go false q = unfold count_word in rw q

  key_below : key d e < 16
  unfolding key
  key_below = omega (arith, s.high)

  abbrev size : ℕ
  size = length (relation (true_at m (key d e)))

  used-left : get_or (true_head m mask) 4 0 - size ≡ 5 + length (relations (named (mask - 2 ^ key d e)) (true_at m) 16)
  unfolding head_less true_head held
  used-left = dropped-used (true_head m mask) refl (true_at m) [] (true-sizes m s mask c) refl d e key_below on

  true-left : head_less (true_head m mask) (key d e) size ≡ true_head m (mask - 2 ^ key d e)
  unfolding head_less true_head
  true-left = words-equal _ _ _ _ _ _ _ _ (word-left 1 refl) (word-left 2 refl) used-left

  -- the words that Drop leaves, and with their free part
  module _ (n : ℕ) where
    pub true-dropped : dropped (true_book n m mask) d e ≡ true_book 0 m (mask - 2 ^ key d e)
    true-dropped =
        let t = true-assembled m mask n in
        let free : List ℕ = replicate (n - true_used m mask) 0 in
        let b = dropped-assembled (true_head m mask) (true-five m mask) (true_at m) free (true-sizes m s mask c) (true-used m mask) d e key_below (true-held m mask (key d e) ∙ on) in
        rw (t, b, true-left) (sym (true-bare m (mask - 2 ^ key d e)))

    pub true-left-filled : filled n (dropped (true_book n m mask) d e) ≡ true_book n m (mask - 2 ^ key d e)
    true-left-filled = rw true-dropped (true-fill m (mask - 2 ^ key d e) n)
