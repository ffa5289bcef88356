-- The words of a relation that is dropped are free to the last one; and where all that it is made from is held, Make and Ask give the same words back.
use mathlib.Core.Path.{◌≡◌, refl, sym, ap, ◌∙◌}
use mathlib.Core.Bool.{Bool, true, false}
use mathlib.Core.List.{List, [], ◌∷◌}
use Prim.Native.Nat.{ℕ, suc, ◌+◌, ◌-◌, ◌/◌, ◌%◌, ◌^◌, ◌≤◌, ◌<◌}
use native.Mathlib.Omega.{arith}
use lib.ListN.{length, get_or, get_or-eq_default}
use borrow.Author.Tests.{le-ltb, leb-true}
use Rattle.rules.specs.Lists.{all_of, filled}
use Rattle.rules.specs.Book.{key, named, held, needs}
use Rattle.rules.specs.Calls.{first_broken, added, make_number, make_words, ask_number, ask_words, dropped}
use Rattle.rules.specs.Steps.{mask_through, mask_with}
use Rattle.rules.specs.Truth.{Mesh, true_book}
use Rattle.promises.specs.Plan.{words_for, make_plan, ask_plan}
use Rattle.promises.specs.Demand.{DroppedBack, Freed}
use Rattle.rules.proofs.Tests.{left, right, all-of, all-at}
use Rattle.rules.proofs.Needs.{key-div, key-mod}
use Rattle.rules.proofs.Masks.{mask-again, named-less, named-rest}
use Rattle.rules.proofs.Asked.{rank, within, rank-pos, rank-needs}
use Rattle.rules.proofs.Accepted.{length-filled, make-is, ask-is, Drops, drops, drop-accepted}
use Rattle.rules.proofs.LoadedWords.{get_or-filled}
use Rattle.rules.proofs.Proper.{Proper, proper-less}
use Rattle.rules.proofs.TrueBook.{true-length, true-fill, book-used}
use Rattle.rules.proofs.TrueMake.{true-filled}
use Rattle.rules.proofs.TrueDrop.{true-left-filled}
use Rattle.rules.proofs.RightDrop.{dropped-length}
use Rattle.promises.proofs.Kept.{Kept, kept-held, kept-dim, kept-fits, kept-right, reached-kept}
use Rattle.promises.proofs.Planned.{make-planned, ask-planned, asked-book, same-mask}

depth : (D r k : ℕ) → within D r k ≡ true → rank D k ≤ r
unfolding within
depth D r k w = search (left, right, leb-true)

-- nothing is made from itself
module _ (D : ℕ) (lo : 1 ≤ D) (hi : D ≤ 3) (d e : ℕ) (ld : d ≤ D) (le : e ≤ D) where
  other-needs : (h g : ℕ → Bool) → ((j : ℕ) → (j ≡ key d e → ⊥) → h j ≡ true → g j ≡ true) → all_of h (needs D d e) ≡ true → all_of g (needs D d e) ≡ true
  other-needs h g more a =
      let x = key-div d e (omega arith) in
      let y = key-mod d e (omega arith) in
      let i : key d e / 4 ≤ D = rw x ld in
      let j : key d e % 4 ≤ D = rw y le in
      let r : all_of (within D (rank D (key d e) - 1)) (needs D d e) ≡ true = rw (x, y) at (rank-needs D lo hi (key d e) i j) in
      all-of g (needs D d e) (λ k t. more k (λ q. lower k q (all-at (within D (rank D (key d e) - 1)) r t) (rank-pos D lo hi (key d e) i j)) (all-at h a t))
    where
      lower : (k : ℕ) → k ≡ key d e → within D (rank D (key d e) - 1) k ≡ true → 0 < rank D (key d e) → ⊥
      lower k q w p =
          omega (arith, depth D (rank D (key d e) - 1) k w, ap (rank D) q)

-- keys that are named add nothing to a mask
through-named : (n D mask : ℕ) (ks : List ℕ) → all_of (named mask) ks ≡ true → mask_through (mask_with (suc n) D) mask ks ≡ mask
unfolding mask_through mask_with all_of
through-named n D mask [] a = refl
through-named n D mask (k ∷ ks) a = rw (left (named mask k) _ a) (through-named n D mask ks (right (named mask k) _ a))

mask-with : (n D mask d e : ℕ) → e < 4 → named mask (key d e) ≡ false → all_of (named mask) (needs D d e) ≡ true → mask_with (suc (suc n)) D mask (key d e) ≡ mask + 2 ^ key d e
mask-with n D mask d e l off a =
    let x = key-div d e l in
    let y = key-mod d e l in
    unfold mask_with in rw (off, x, y) (unfold mask_with in rw (through-named n D mask (needs D d e) a))

module _ (m : Mesh) (ws : List ℕ) (k : Kept m ws) (d e : ℕ) (a : Drops ws d e) where
  high : m.dims ≤ 3
  high = k.formed.high

  ld : d ≤ m.dims
  ld = rw (kept-dim m ws k) at a.first

  le : e ≤ m.dims
  le = rw (kept-dim m ws k) at a.second

  on : named k.mask (key d e) ≡ true
  on = sym (kept-held m ws k (key d e)) ∙ a.there

  abbrev mask : ℕ
  mask = k.mask - 2 ^ key d e

  abbrev vs : List ℕ
  vs = filled (length ws) (dropped ws d e)

  long : length vs ≡ length ws
  long = length-filled (length ws) (dropped ws d e) (dropped-length ws (kept-right m ws k) d e a)

  book : vs ≡ true_book (length ws) m mask
  book = ap (λ (w : List ℕ). filled (length ws) (dropped w d e)) k.words ∙ true-left-filled m k.formed k.mask k.proper d e ld le on (length ws)

  left-proper : Proper m.dims mask
  unfolding key
  left-proper = proper-less m.dims k.mask (key d e) on (λ i. a.inner (omega (arith, high, ld, le, kept-dim m ws k)) (omega (arith, high, ld, le))) k.proper

  abbrev left-kept : Kept m vs
  left-kept = record {
    formed = k.formed;
    mask = mask;
    proper = left-proper;
    words = book ∙ ap (λ (n : ℕ). true_book n m mask) (sym long);
  }

  -- what is left is as long as planned, with zeros behind
  used : get_or vs 4 0 ≡ words_for m mask
  unfolding words_for
  used = ap (λ (w : List ℕ). get_or w 4 0) book ∙ book-used m mask (length ws) ∙ omega (arith, true-length m mask 0)

  zeros : (i : ℕ) → words_for m mask ≤ i → get_or vs i 0 ≡ 0
  unfolding words_for
  zeros i l = ap (λ (w : List ℕ). get_or w i 0) (book ∙ sym (true-fill m mask (length ws))) ∙ get_or-filled (length ws) (true_book 0 m mask) i ∙ get_or-eq_default (true_book 0 m mask) 0 l

  -- where all that it is made from is held
  module _ (ns : all_of (held ws) (needs m.dims d e) ≡ true) where
    off : named mask (key d e) ≡ false
    off = named-less k.mask (key d e) on

    needed : all_of (named mask) (needs m.dims d e) ≡ true
    needed = other-needs m.dims k.formed.low high d e ld le (held ws) (named mask) (λ j o h. named-rest k.mask (key d e) on j o ∙ sym (kept-held m ws k j) ∙ h) ns

    again : mask + 2 ^ key d e ≡ k.mask
    again = mask-again k.mask (key d e) on

    fits : words_for m k.mask ≤ length ws
    unfolding words_for
    fits = omega (arith, true-length m k.mask 0, kept-fits m ws k)

    make-number : make_number vs d e ≡ 0
    make-number = make-planned m vs left-kept d e ∙ plan
      where
        plan : make_plan (length vs) m mask d e ≡ 0
        plan = unfold make_plan first_broken in rw (le-ltb m.dims d ld, le-ltb m.dims e le, off, needed, again, long, le-ltb (length ws) (words_for m k.mask) fits)

    make-words : make_words vs d e ≡ ws
    make-words =
        make-is vs d e
        ∙ rw (make-number, long) (ap (λ (w : List ℕ). filled (length ws) (added w d e)) book ∙ true-filled m k.formed mask left-proper d e ld le off needed (length ws) ∙ ap (true_book (length ws) m) again ∙ sym k.words)

    with-key : mask_with 6 m.dims mask (key d e) ≡ k.mask
    with-key = mask-with 4 m.dims mask d e (omega (arith, high, le)) off needed ∙ again

    ask-number : ask_number vs d e ≡ 0
    ask-number = ask-planned m vs left-kept d e ∙ plan
      where
        plan : ask_plan (length vs) m mask d e ≡ 0
        plan = unfold ask_plan first_broken in rw (le-ltb m.dims d ld, le-ltb m.dims e le, with-key, long, le-ltb (length ws) (words_for m k.mask) fits)

    ask-words : ask_words vs d e ≡ ws
    ask-words =
        ask-is vs d e
        ∙ rw (ask-number, long) (ap (filled (length ws)) (asked-book m vs left-kept d e ld le ∙ ap (true_book 0 m) with-key) ∙ true-fill m k.mask (length ws) ∙ sym k.words)

pub dropped-back : DroppedBack
dropped-back m ws r d e h ns =
    let k = reached-kept m ws r in
    let a = drops ws d e h in
    rw (drop-accepted ws d e h) (make-number m ws k d e a ns, make-words m ws k d e a ns, ask-number m ws k d e a ns, ask-words m ws k d e a ns)

pub freed : Freed
freed m ws r mask h d e z =
    let k = reached-kept m ws r in
    let a = drops ws d e z in
    rw (drop-accepted ws d e z, same-mask m ws k mask h) (book m ws k d e a, used m ws k d e a, zeros m ws k d e a)
