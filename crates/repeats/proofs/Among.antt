-- Rows among those before them: equal ones are in one bucket, and the lowest row that equals an earlier one.
use mathlib.Core.Path.{◌≡◌, sym, ap, ◌∙◌}
use mathlib.Core.Bool.{true, false}
use mathlib.Core.List.{List, [], map}
use Prim.Native.Nat.{ℕ, ◌+◌, ◌*◌, ◌≤◌, ◌<◌}
use native.Mathlib.Nat.{mul-le-mul_left}
use native.Mathlib.Omega.{arith}
use lib.ListN.{length, take}
use lib.Seq.{length-take-le, get_or-take, ext_get_or}
use Rattle.rules.specs.Lists.{up_to, any_of, same, repeated, first_repeated}
use Rattle.rules.proofs.Tests.{same-is}
use Rattle.rules.proofs.Numbered.{length-rows, get_d_rows}
use Rattle.rules.proofs.Searched.{least-is}
use Rattle.repeats.specs.Rows.{row_at, rows_in, bucket_of, bucket_at}
use Rattle.repeats.proofs.Walked.{Only}

-- ---- a row that equals s is in the bucket of s
pub bucket-only : (size : ℕ) (ws s : List ℕ) → Only (bucket_at size ws) (bucket_of s) (row_at size ws) s
unfolding bucket_at
bucket-only size ws s i e = ap bucket_of (sym (same-is s (row_at size ws i) e))

-- ---- rows that fit
pub row_fits : (size i n : ℕ) → i < n → size * i + size ≤ size * n
row_fits size i n l = let e : size * i + size ≡ size * (i + 1) = omega arith in rw e (mul-le-mul_left size (omega arith))

-- ---- row i among those before it
rows-front : (f : ℕ → List ℕ) (n i : ℕ) → i ≤ n → take i (map f (up_to n)) ≡ map f (up_to i)
rows-front f n i l =
    let e : length (take i (map f (up_to n))) ≡ i = rw (length-take-le i (map f (up_to n)) (rw length-rows l)) in
    ext_get_or [] (take i (map f (up_to n))) (map f (up_to i)) (e ∙ sym (length-rows f i))
    (λ j m. let k : j < i = rw e at m in get_or-take i (map f (up_to n)) j [] k ∙ get_d_rows f n j [] (omega arith) ∙ sym (get_d_rows f i j [] k))

module _ (size : ℕ) (ws : List ℕ) (n i : ℕ) where
  pub repeated-among : i < n → repeated (rows_in size ws n) i ≡ any_of (same (row_at size ws i)) (rows_in size ws i)
  unfolding repeated rows_in
  repeated-among l = rw (get_d_rows (row_at size ws) n i [] l, rows-front (row_at size ws) n i (omega arith))

  -- row i is the lowest that equals an earlier one, or i is n
  pub first-row : i ≤ n → ((j : ℕ) → j < i → repeated (rows_in size ws n) j ≡ false) → (i < n → repeated (rows_in size ws n) i ≡ true) → i ≡ first_repeated (rows_in size ws n)
  unfolding first_repeated
  first-row l b t =
      let e : length (rows_in size ws n) ≡ n = unfold rows_in in length-rows (row_at size ws) n in
      rw e (sym (least-is (repeated (rows_in size ws n)) n i l b t))
