-- Faults gone through one by one, as code meets them: what is named, from the first that is seen.
use mathlib.Core.Path.{◌≡◌, refl, sym}
use mathlib.Core.Bool.{Bool, true, false, not, ◌&&◌, ◌||◌}
use mathlib.Core.Logic.{◌⊎◌, inl, inr}
use mathlib.Core.List.{List}
use mathlib.Core.Option.{some}
use Prim.Native.Nat.{ℕ, ◌+◌, ◌/◌, ◌≤◌, ◌<◌}
use native.Mathlib.Numerals.{add-one}
use native.Mathlib.Omega.{arith}
use lib.ListN.{length, get_or, drop}
use lib.Dec.{eqb}
use borrow.Author.Tests.{lt-ltb, le-leb, lt-leb, ne_eqb}
use Rattle.rules.specs.Lists.{up_to, any_of, first_at}
use Rattle.rules.specs.Book.{count, held, offset, row_of}
use Rattle.rules.specs.Broken.{offset_bad, index_bad, row_bad, relation_bad, bad_place, broken_key, broken_place, rows_broken, broken_at}
use Rattle.rules.proofs.Tests.{cases, any-of, any_none, get_or-in}
use Rattle.rules.proofs.Keep.{up_to-of, up_to-is}
use Rattle.rules.proofs.Searched.{least-is, first-is}
use Rattle.rules.proofs.Numbered.{last-or-below}

-- ---- in the relation of key k
module _ (ws : List ℕ) (k : ℕ) where
  -- offset p shows the first fault
  module _ (p : ℕ) (l : p ≤ count ws (k / 4)) (b : offset_bad ws k p ≡ true) where
    pub offset-broken : relation_bad ws k ≡ true
    unfolding relation_bad
    offset-broken = rw (any-of (offset_bad ws k) (up_to-of p (count ws (k / 4) + 1) (omega arith)) b)

    pub offset-found : ((q : ℕ) → q < p → offset_bad ws k q ≡ false) → bad_place ws k ≡ p
    unfolding bad_place
    offset-found g = rw (least-is (offset_bad ws k) (count ws (k / 4) + 1) p (omega arith) g (λ m. b), le-leb p (count ws (k / 4)) l)

  -- no offset shows one
  module _ (g : (q : ℕ) → q ≤ count ws (k / 4) → offset_bad ws k q ≡ false) where
    none-offset : first_at (offset_bad ws k) (up_to (count ws (k / 4) + 1)) ≡ count ws (k / 4) + 1
    none-offset = least-is (offset_bad ws k) (count ws (k / 4) + 1) (count ws (k / 4) + 1) (omega arith) (λ q m. g q (omega arith)) (λ m. absurd (omega arith))

    -- index p of row i shows the first fault
    module _ (i p : ℕ) (l : i < count ws (k / 4)) (m : p < length (row_of ws k i)) (b : index_bad ws k i p ≡ true) where
      pub row-broken : row_bad ws k i ≡ true
      unfolding row_bad
      row-broken = any-of (index_bad ws k i) (up_to-of p (length (row_of ws k i)) m) b

      pub index-broken : relation_bad ws k ≡ true
      unfolding relation_bad
      index-broken = rw (any-of (row_bad ws k) (up_to-of i (count ws (k / 4)) l) row-broken) (last (any_of (offset_bad ws k) (up_to (count ws (k / 4) + 1))))
        where
          last : (a : Bool) → (a || true) ≡ true
          last true = refl
          last false = refl

      pub index-found : ((h : ℕ) → h < i → row_bad ws k h ≡ false) → ((q : ℕ) → q < p → index_bad ws k i q ≡ false)
          → bad_place ws k ≡ count ws (k / 4) + 1 + offset ws k i + p
      unfolding bad_place
      index-found rows before =
          rw (none-offset, lt-leb (count ws (k / 4) + 1) (count ws (k / 4)) (omega arith), least-is (row_bad ws k) (count ws (k / 4)) i (omega arith) rows (λ x. row-broken), least-is (index_bad ws k i) (length (row_of ws k i)) p (omega arith) before (λ x. b))

    -- no index shows one
    pub none-broken : ((i : ℕ) → i < count ws (k / 4) → row_bad ws k i ≡ false) → relation_bad ws k ≡ false
    unfolding relation_bad
    none-broken rows =
        rw (any_none (offset_bad ws k) (up_to (count ws (k / 4) + 1)) (λ q x. let y = up_to-is q _ x in g q (omega arith)), any_none (row_bad ws k) (up_to (count ws (k / 4))) (λ i x. rows i (up_to-is i _ x)))

pub row_fine : (ws : List ℕ) (k i : ℕ) → ((p : ℕ) → p < length (row_of ws k i) → index_bad ws k i p ≡ false) → row_bad ws k i ≡ false
unfolding row_bad
row_fine ws k i g = any_none (index_bad ws k i) (up_to (length (row_of ws k i))) (λ p x. g p (up_to-is p _ x))

-- ---- in the book: the relations below key k show none
abbrev pub Fine : List ℕ → ℕ → Type 0
Fine ws k = (j : ℕ) → j < k → (held ws j && relation_bad ws j) ≡ false

pub fine-held : (ws : List ℕ) (k : ℕ) → Fine ws k → (held ws k ≡ true → relation_bad ws k ≡ false) → Fine ws (k + 1)
fine-held ws k f g j l = go (last-or-below j k (rw add-one at l))
  where
    own : (held ws k ≡ true) ⊎ (held ws k ≡ false) → (held ws k && relation_bad ws k) ≡ false
    own (inl h) = rw (h, g h)
    own (inr h) = rw h

    go : (j ≡ k) ⊎ (j < k) → (held ws j && relation_bad ws j) ≡ false
    go (inl e) = rw e (own (cases (held ws k)))
    go (inr m) = f j m

module _ (ws : List ℕ) (k : ℕ) (l : k < 16) (f : Fine ws k) (h : held ws k ≡ true) (b : relation_bad ws k ≡ true) where
  pub key-found : broken_key ws ≡ k
  unfolding broken_key
  key-found = least-is (λ j. held ws j && relation_bad ws j) 16 k (omega arith) f (λ m. rw (h, b))

  pub place_found : broken_place ws ≡ bad_place ws k
  unfolding broken_place
  place_found = rw (key-found, lt-ltb k 16 l)

  pub broken-found : rows_broken ws ≡ true
  unfolding rows_broken
  broken-found = rw (any-of (λ j. held ws j && relation_bad ws j) (up_to-of k 16 l) (rw (h, b)))

  -- so its key and its lowest position are told
  pub relation-told : broken_at ws ≡ some (k, bad_place ws k)
  unfolding broken_at
  relation-told = rw (broken-found, place_found, key-found)

-- no relation shows one
module _ (ws : List ℕ) (f : Fine ws 16) where
  pub key-none : broken_key ws ≡ 16
  unfolding broken_key
  key-none = least-is (λ j. held ws j && relation_bad ws j) 16 16 (omega arith) f (λ m. absurd (omega arith))

  relations-none : any_of (λ j. held ws j && relation_bad ws j) (up_to 16) ≡ false
  relations-none = any_none (λ j. held ws j && relation_bad ws j) (up_to 16) (λ j x. f j (up_to-is j 16 x))

  -- the first nonzero free word stands p after the used length
  module _ (p : ℕ) (l : p < length (drop (get_or ws 4 0) ws)) (b : get_or (drop (get_or ws 4 0) ws) p 0 ≡ 0 → ⊥) where
    word-bad : not (eqb 0 (get_or (drop (get_or ws 4 0) ws) p 0)) ≡ true
    word-bad = rw (ne_eqb 0 (get_or (drop (get_or ws 4 0) ws) p 0) (λ e. b (sym e)))

    pub free-found : ((q : ℕ) → q < p → get_or (drop (get_or ws 4 0) ws) q 0 ≡ 0) → broken_place ws ≡ p
    unfolding broken_place
    free-found g =
        rw key-none
        (first-is (λ w. not (eqb 0 w)) 0 (drop (get_or ws 4 0) ws) p (omega arith) (λ q m. rw (g q m)) (λ m. word-bad))

    free-broken : rows_broken ws ≡ true
    unfolding rows_broken
    free-broken = rw relations-none (any-of (λ w. not (eqb 0 w)) (get_or-in (drop (get_or ws 4 0) ws) p 0 l) word-bad)

    pub free-told : ((q : ℕ) → q < p → get_or (drop (get_or ws 4 0) ws) q 0 ≡ 0) → broken_at ws ≡ some (16, p)
    unfolding broken_at
    free-told g = rw (free-broken, key-none, free-found g)
