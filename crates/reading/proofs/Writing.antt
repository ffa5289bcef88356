-- The file of a right book, from its first word and its cells.
use mathlib.Core.Path.{◌≡◌, refl, sym, ◌∙◌}
use mathlib.Core.Bool.{true, cond}
use mathlib.Core.List.{List, ◌++◌}
use Prim.Native.Nat.{ℕ, suc, ◌≤◌, ◌<◌}
use native.Mathlib.Omega.{arith}
use lib.ListN.{length, get_or, drop}
use lib.Dec.{leb}
use borrow.Author.Tests.{ne_eqb, lt-ltb, le-ltb, lt-leb, le-leb}
use Rattle.rules.specs.Lists.{joined}
use Rattle.rules.specs.File.{head_dim, head_cells, head_length, put_file}
use Rattle.rules.specs.Book.{dim, count, key, rows_of, frame_right, rows_right}
use Rattle.rules.specs.Calls.{first_broken, written, write_length, write_rules, write_number, write_bytes}
use Rattle.rules.proofs.Bits.{write-length}
use Rattle.rules.proofs.FrameRule.{framed, count-top}
use Rattle.reading.specs.Parts.{FilePut}

module _ (ws : List ℕ) (g : frame_right ws ≡ true) where
  head-dim : head_dim (get_or ws 0 0) ≡ dim ws
  unfolding head_dim dim
  head-dim = refl

  head-cells : head_cells (get_or ws 0 0) ≡ count ws (dim ws)
  unfolding head_cells
  head-cells = sym (count-top ws (framed ws g).low)

  head-length : head_length (get_or ws 0 0) ≡ write_length ws
  unfolding head_length
  head-length = rw (head-dim, head-cells) (sym (write-length ws))

  pub file-put : (bs : List ℕ) (n : ℕ) (cs : List ℕ) → n ≡ head_length (get_or ws 0 0)
      → cs ≡ put_file (get_or ws 0 0) (joined (rows_of ws (key (dim ws) 0))) bs → FilePut ws bs n cs
  file-put bs n cs a b = record {
    size = a ∙ head-length;
    bytes = b ∙ same;
  }
    where
      same : put_file (get_or ws 0 0) (joined (rows_of ws (key (dim ws) 0))) bs ≡ cond (leb (write_length ws) (length bs)) (written ws ++ drop (write_length ws) bs) bs
      same = unfold put_file in rw (head-length, head-dim, head-cells) (unfold written in refl)

-- what a call of Write has to give: the number, the length where accepted, and the bytes
pub record Puts (ws bs : List ℕ) (number length : ℕ) (cs : List ℕ) : Type 0 where
  pub number_is : number ≡ write_number ws bs
  pub length-is : number ≡ 0 → length ≡ write_length ws
  pub bytes-are : cs ≡ write_bytes ws bs

bytes_of : (ws bs : List ℕ) (n : ℕ) → write_number ws bs ≡ suc n → write_bytes ws bs ≡ bs
unfolding write_bytes
bytes_of ws bs n e = rw (e, ne_eqb (suc n) 0 (λ q. omega arith))

module _ (ws bs : List ℕ) where
  module _ (f : frame_right ws ≡ true) (r : rows_right ws ≡ true) (n : ℕ) (cs : List ℕ) (p : FilePut ws bs n cs) where
    pub too_short : length bs < n → Puts ws bs 18 0 cs
    too_short l =
        let m : length bs < write_length ws = rw p.size at l in
        let e : write_number ws bs ≡ 18 = number m in
        let c : cs ≡ bs = p.bytes ∙ rw (lt-leb (write_length ws) (length bs) m) in
        record { number_is = sym e; length-is = λ z. absurd (omega arith); bytes-are = c ∙ sym (bytes_of ws bs 17 e) }
      where
        number : length bs < write_length ws → write_number ws bs ≡ 18
        number m = unfold write_number write_rules first_broken in rw (f, r, lt-ltb (length bs) (write_length ws) m)

    pub all-put : n ≤ length bs → Puts ws bs 0 n cs
    all-put l =
        let m : write_length ws ≤ length bs = rw p.size at l in
        let e : write_number ws bs ≡ 0 = number m in
        record { number_is = sym e; length-is = λ z. p.size; bytes-are = p.bytes ∙ rw (le-leb (write_length ws) (length bs) m) (sym (bytes e)) }
      where
        number : write_length ws ≤ length bs → write_number ws bs ≡ 0
        number m = unfold write_number write_rules first_broken in rw (f, r, le-ltb (length bs) (write_length ws) m)

        bytes : write_number ws bs ≡ 0 → write_bytes ws bs ≡ written ws ++ drop (write_length ws) bs
        bytes e = unfold write_bytes in rw e
