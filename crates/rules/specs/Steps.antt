-- Ask, one relation at a time: which relation is made next on the way to the one asked for, the set held at its end, and the way back where one does not fit.
use Rattle.std.specs.Prelude.{Bool, cond, List, [], ◌∷◌, ◌++◌, ℕ, zero, suc, ◌+◌, ◌/◌, ◌%◌, ◌^◌, length, get_or}
use Rattle.rules.specs.Lists.{filled}
use Rattle.rules.specs.Book.{named, rows_of, relations, needs}

-- the first key of the list that is not held, or k where all are
unfoldable pub first_off : (ℕ → Bool) → ℕ → List ℕ → ℕ
first_off h k [] = k
first_off h k (x ∷ xs) = cond (h x) (first_off h k xs) x

-- the key to go on with from k: the first of its needs that is not held, or k itself
unfoldable pub onward : ℕ → (ℕ → Bool) → ℕ → ℕ
onward D h k = first_off h k (needs D (k / 4) (k % 4))

-- the key to make next on the way to k: n steps onward at most
unfoldable pub next_key : ℕ → ℕ → (ℕ → Bool) → ℕ → ℕ
next_key zero D h k = k
next_key (suc n) D h k = next_key n D h (onward D h k)

-- ==== the set held at the end of an ask
-- the masks after f for each key in turn
unfoldable pub mask_through : (ℕ → ℕ → ℕ) → ℕ → List ℕ → ℕ
mask_through f mask [] = mask
mask_through f mask (k ∷ ks) = mask_through f (f mask k) ks

-- the mask with key k: as it is where k is named, else with all that it is made from, and then with it; n bounds the depth
unfoldable pub mask_with : ℕ → ℕ → ℕ → ℕ → ℕ
mask_with zero D mask k = mask
mask_with (suc n) D mask k = cond (named mask k) mask (mask_through (mask_with n D) mask (needs D (k / 4) (k % 4)) + 2 ^ k)

-- ==== the way back
-- the book with a head, and behind it only the relations that the head names, then zeros
unfoldable pub given_back : List ℕ → List ℕ → List ℕ
given_back head ws = filled (length ws) (head ++ relations (named (get_or head 1 0)) (rows_of ws) 16)
