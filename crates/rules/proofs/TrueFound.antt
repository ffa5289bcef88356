-- On the true book Build finds as many entities as N_x says, whatever keeps N_x: nothing differs.
use mathlib.Core.Path.{◌≡◌, refl, sym, ap, ◌∙◌, fun_ext}
use mathlib.Core.Bool.{Bool, true, false, not, ◌&&◌}
use mathlib.Core.List.{List}
use Prim.Native.Nat.{ℕ, ◌<◌}
use native.Mathlib.Decide.{dec_lt}
use native.Mathlib.Omega.{arith}
use lib.ListN.{length}
use lib.Dec.{eqb, ltb}
use borrow.Author.Tests.{lt-ltb, le-ltb, eq-eqb}
use Rattle.rules.specs.Lists.{up_to, any_of}
use Rattle.rules.specs.Book.{count, key, named, held, mentions, rows_of}
use Rattle.rules.specs.Made.{made}
use Rattle.rules.specs.Calls.{differs, has_to_make}
use Rattle.rules.specs.Truth.{Mesh, true_rows, true_book}
use Rattle.rules.proofs.Tests.{and-off, any_none}
use Rattle.rules.proofs.Needs.{key-div, key-mod}
use Rattle.rules.proofs.Differs.{made-sets}
use Rattle.rules.proofs.TrueRows.{Formed, length-true_rows, built-true}
use Rattle.rules.proofs.Proper.{Proper}
use Rattle.rules.proofs.TrueBook.{book-dim, book-held, book-count, book-rows}

module _ (m : Mesh) (s : Formed m) (mask : ℕ) (c : Proper m.dims mask) (n : ℕ) where
  -- Build finds the mesh's entities, held already or not
  pub found : (x : ℕ) → 0 < x → x < m.dims → made (true_book n m mask) x 0 ≡ true_rows m x 0
  found x p l =
      let k = key m.dims 0 in
      let r : rows_of (true_book n m mask) k ≡ true_rows m m.dims 0
      = book-rows m s mask c n k c.top ∙ rw (key-div m.dims 0 (omega arith), key-mod m.dims 0 (omega arith)) in
      made-sets (true_book n m mask) x p ∙ rw (book-dim m s mask n, r) (built-true m s x p l)

  pub true-alike : (x : ℕ) → differs (true_book n m mask) x ≡ false
  unfolding differs
  true-alike x = rw (book-dim m s mask n) (go (dec_lt 0 x) (dec_lt x m.dims) (mentions (held (true_book n m mask)) x) refl)
    where
      go : Dec (0 < x) → Dec (x < m.dims) → (b : Bool) → mentions (held (true_book n m mask)) x ≡ b
          → (ltb 0 x && ltb x m.dims && b && not (eqb (length (made (true_book n m mask) x 0)) (count (true_book n m mask) x))) ≡ false
      go (no p) l b q = rw (le-ltb 0 x (omega arith))
      go (yes p) (no l) b q = rw (lt-ltb 0 x p, le-ltb x m.dims (omega arith))
      go (yes p) (yes l) false q = rw (lt-ltb 0 x p, lt-ltb x m.dims l)
      go (yes p) (yes l) true q =
          let t : mentions (named mask) x ≡ true = ap (λ (h : ℕ → Bool). mentions h x) (sym (fun_ext (book-held m mask n))) ∙ q in
          let e : length (made (true_book n m mask) x 0) ≡ count (true_book n m mask) x
          = ap length (found x p l) ∙ length-true_rows m x 0 ∙ sym (book-count m s mask n x (omega arith) (λ z. t)) in
          rw (lt-ltb 0 x p, lt-ltb x m.dims l, eq-eqb _ _ e)

-- where nothing differs, Ask's test for 25 fails
pub none-differs : (ws : List ℕ) → ((x : ℕ) → differs ws x ≡ false) → (d e : ℕ) → any_of (λ x. has_to_make ws d e x && differs ws x) (up_to 3) ≡ false
none-differs ws h d e = any_none (λ x. has_to_make ws d e x && differs ws x) (up_to 3) (λ x i. rw (h x, and-off (has_to_make ws d e x)))
