-- Cells put down one after another, four words to a cell: stored, read again, and what they say of the file.
use mathlib.Core.Path.{◌≡◌, refl, sym, ap, ◌∙◌}
use mathlib.Core.Bool.{true, false}
use mathlib.Core.List.{List, [], ◌∷◌, ◌++◌, map, map-map}
use Prim.Native.Nat.{ℕ, zero, suc, ◌+◌, ◌-◌, ◌*◌, ◌≤◌, ◌<◌}
use native.Mathlib.Numerals.{add-one}
use native.Mathlib.Omega.{arith}
use lib.Dec.{leb}
use lib.ListN.{length, get_or, take, drop, set, replicate, take-append-drop, length-set, length-take, length-drop}
use lib.Seq.{get_or-set_same, get_or-set_other, take-set-le, drop-set-lt, get_or-take, get_or-drop, take_at, take-add, length-take-le}
use Rattle.rules.specs.Lists.{up_to, joined, first_at, sorted, repeated, first_repeated}
use Rattle.rules.specs.File.{field, file_dim, file_vertices, file_cells, file_cell, cells_in_file, out_of, twice, head_dim, head_vertices, head_cells}
use Rattle.rules.proofs.Head.{head-dim, head-vertices, head-cells}
use Rattle.rules.proofs.Tests.{agree}
use Rattle.rules.proofs.Searched.{least-most, least-agree, first-mapped, Apart, apart-front, twice-front}
use Rattle.rules.proofs.Sorted.{any-sorted, twice-sorted}
use Rattle.rules.proofs.Unlike.{repeated-of, repeated-is}
use Rattle.rules.proofs.Joined.{map_last, joined-more}
use Rattle.rules.proofs.LoadedWords.{row-size}
use Rattle.rules.proofs.Slices.{drop-later}
use Rattle.rules.proofs.Numbered.{rows_agree, length-rows, get_d_rows, four-members}
use Rattle.repeats.specs.Rows.{row_at, rows_in}
use Rattle.repeats.proofs.Parts.{front-part}
use Rattle.dayfile.specs.Words.{four_words, Put, cells_in}

-- the words of cell i: four, and one by one
pub row-long : (ws : List ℕ) (i : ℕ) → 4 * i + 4 ≤ length ws → length (row_at 4 ws i) ≡ 4
unfolding row_at
row-long ws i l = simp (length-take, length-drop) (omega arith)

pub row_is : (ws : List ℕ) (i : ℕ) → 4 * i + 4 ≤ length ws → row_at 4 ws i ≡ get_or ws (4 * i) 0 ∷ get_or ws (4 * i + 1) 0 ∷ get_or ws (4 * i + 2) 0 ∷ get_or ws (4 * i + 3) 0 ∷ []
unfolding row_at
row_is ws i l =
    let z : 4 * i + 0 ≡ 4 * i = omega arith in
    let r = four-members (take 4 (drop (4 * i) ws)) (row-long ws i l) in
    r ∙ rw (word 0 (omega arith), word 1 (omega arith), word 2 (omega arith), word 3 (omega arith), z)
  where
    word : (j : ℕ) → j < 4 → get_or (take 4 (drop (4 * i) ws)) j 0 ≡ get_or ws (4 * i + j) 0
    word j m = get_or-take 4 (drop (4 * i) ws) j 0 m ∙ get_or-drop (4 * i) ws j 0

-- a member that stands twice, or none, among the first n
pub front-apart : (w : List ℕ) (n : ℕ) → n ≤ length w → Apart w n → twice (take n w) ≡ false
front-apart w n l f = apart-front (take n w) (drop n w) (rw (take-append-drop n w, length-take-le n w l) f)

pub front-twice : (w : List ℕ) (n a b : ℕ) → n ≤ length w → a < b → b < n → get_or w a 0 ≡ get_or w b 0 → twice (take n w) ≡ true
front-twice w n a b l k m e = twice-front (take n w) (drop n w) a b k (rw (length-take-le n w l) m) (rw (take-append-drop n w) e)

-- four words put down as those of cell i
module _ (xs : List ℕ) (i a b c d : ℕ) where
  abbrev one : List ℕ
  one = set xs (4 * i) a

  abbrev two : List ℕ
  two = set one (4 * i + 1) b

  abbrev three : List ℕ
  three = set two (4 * i + 2) c

  abbrev pub stored : List ℕ
  stored = set three (4 * i + 3) d

  pub stored-long : length stored ≡ length xs
  stored-long = simp length-set

  pub stored-front : take (4 * i) stored ≡ take (4 * i) xs
  stored-front =
      take-set-le (4 * i) three (4 * i + 3) d (omega arith) ∙ take-set-le (4 * i) two (4 * i + 2) c (omega arith)
      ∙ take-set-le (4 * i) one (4 * i + 1) b (omega arith) ∙ take-set-le (4 * i) xs (4 * i) a (omega arith)

  pub stored-rest : drop (4 * (i + 1)) stored ≡ drop (4 * (i + 1)) xs
  stored-rest =
      drop-set-lt (4 * (i + 1)) three (4 * i + 3) d (omega arith) ∙ drop-set-lt (4 * (i + 1)) two (4 * i + 2) c (omega arith)
      ∙ drop-set-lt (4 * (i + 1)) one (4 * i + 1) b (omega arith) ∙ drop-set-lt (4 * (i + 1)) xs (4 * i) a (omega arith)

  pub stored_row : 4 * i + 4 ≤ length xs → row_at 4 stored i ≡ a ∷ b ∷ c ∷ d ∷ []
  stored_row l = row_is stored i (rw stored-long l) ∙ rw (zeroth, first, second, third)
    where
      third : get_or stored (4 * i + 3) 0 ≡ d
      third = get_or-set_same three (4 * i + 3) d 0 (simp length-set (omega arith))

      second : get_or stored (4 * i + 2) 0 ≡ c
      second = get_or-set_other three (4 * i + 3) (4 * i + 2) d 0 (λ e. omega arith) ∙ get_or-set_same two (4 * i + 2) c 0 (simp length-set (omega arith))

      first : get_or stored (4 * i + 1) 0 ≡ b
      first =
          get_or-set_other three (4 * i + 3) (4 * i + 1) d 0 (λ e. omega arith) ∙ get_or-set_other two (4 * i + 2) (4 * i + 1) c 0 (λ e. omega arith)
          ∙ get_or-set_same one (4 * i + 1) b 0 (simp length-set (omega arith))

      zeroth : get_or stored (4 * i) 0 ≡ a
      zeroth =
          get_or-set_other three (4 * i + 3) (4 * i) d 0 (λ e. omega arith) ∙ get_or-set_other two (4 * i + 2) (4 * i) c 0 (λ e. omega arith)
          ∙ get_or-set_other one (4 * i + 1) (4 * i) b 0 (λ e. omega arith) ∙ get_or-set_same xs (4 * i) a 0 (omega arith)

-- words that are alike before cell n have the same n cells
pub row-front : (xs ys : List ℕ) (n i : ℕ) → i < n → take (4 * n) ys ≡ take (4 * n) xs → row_at 4 ys i ≡ row_at 4 xs i
unfolding row_at
row-front xs ys n i l e =
    sym (front-part (4 * i) 4 (4 * n) ys (omega arith)) ∙ ap (λ (zs : List ℕ). take 4 (drop (4 * i) zs)) e ∙ front-part (4 * i) 4 (4 * n) xs (omega arith)

pub rows-front : (xs ys : List ℕ) (n : ℕ) → take (4 * n) ys ≡ take (4 * n) xs → rows_in 4 ys n ≡ rows_in 4 xs n
unfolding rows_in
rows-front xs ys n e = rows_agree (row_at 4 ys) (row_at 4 xs) n (λ i l. row-front xs ys n i l e)

-- the first n cells one behind the other are the words before cell n
pub rows-joined : (ws : List ℕ) (n : ℕ) → joined (rows_in 4 ws n) ≡ take (4 * n) ws
unfolding rows_in
rows-joined ws zero = unfold joined up_to in refl
rows-joined ws (suc n) =
    let r : 4 * n + 4 ≡ 4 * suc n = omega arith in
    let s : take (4 * n) ws ++ row_at 4 ws n ≡ take (4 * n + 4) ws = unfold row_at in sym (take-add (4 * n) 4 ws) in
    rw (← add-one n, joined-more (row_at 4 ws) n, rows-joined ws n, s, r, add-one n)

-- no cell is put down yet, and one cell more
pub put-none : (f ws : List ℕ) → length ws ≡ 16384 → Put f ws ws 0
put-none f ws l = record { long = l; rows = unfold rows_in up_to in refl; rest = refl }

pub put-more : (f was xs ys : List ℕ) (n : ℕ) → Put f was xs n → length ys ≡ 16384 → take (4 * n) ys ≡ take (4 * n) xs → drop (4 * (n + 1)) ys ≡ drop (4 * (n + 1)) xs → row_at 4 ys n ≡ four_words f n
    → Put f was ys (n + 1)
put-more f was xs ys n p l e q g =
    let u : rows_in 4 ys (n + 1) ≡ rows_in 4 ys n ++ (row_at 4 ys n ∷ []) = unfold rows_in in map_last (row_at 4 ys) n in
    record {
      long = l;
      rows = u ∙ rw (rows-front xs ys n e, p.rows, g, map_last (four_words f) n);
      rest = q ∙ drop-later xs was (4 * n) (4 * (n + 1)) (omega arith) p.rest;
    }

-- ---- words behind each row, the same behind all, leave the lowest that equals an earlier one as it is
module _ (f : ℕ → List ℕ) (z : List ℕ) (s n : ℕ) (long : (i : ℕ) → i < n → length (f i) ≡ s) where
  abbrev padded : List (List ℕ)
  padded = map (λ i. f i ++ z) (up_to n)

  abbrev bare : List (List ℕ)
  bare = map f (up_to n)

  repeated-bare : (i : ℕ) → i < n → repeated padded i ≡ repeated bare i
  repeated-bare i l = agree (repeated padded i) (repeated bare i) there back
    where
      there : repeated padded i ≡ true → repeated bare i ≡ true
      there h =
          let (j, k, e) = repeated-is padded i (rw (length-rows (λ i. f i ++ z) n) l) h in
          let m : j < n = omega arith in
          let q : f i ++ z ≡ f j ++ z = sym (get_d_rows (λ i. f i ++ z) n i [] l) ∙ e ∙ get_d_rows (λ i. f i ++ z) n j [] m in
          let w : f i ≡ f j = sym (take_at (f i) z s (long i l)) ∙ ap (take s) q ∙ take_at (f j) z s (long j m) in
          repeated-of bare i j k (rw (length-rows f n) l) (get_d_rows f n i [] l ∙ w ∙ sym (get_d_rows f n j [] m))

      back : repeated bare i ≡ true → repeated padded i ≡ true
      back h =
          let (j, k, e) = repeated-is bare i (rw (length-rows f n) l) h in
          let m : j < n = omega arith in
          let w : f i ≡ f j = sym (get_d_rows f n i [] l) ∙ e ∙ get_d_rows f n j [] m in
          repeated-of padded i j k (rw (length-rows (λ i. f i ++ z) n) l)
          (get_d_rows (λ i. f i ++ z) n i [] l ∙ ap (λ (x : List ℕ). x ++ z) w ∙ sym (get_d_rows (λ i. f i ++ z) n j [] m))

  first-bare : first_repeated padded ≡ first_repeated bare
  unfolding first_repeated
  first-bare = rw (length-rows (λ i. f i ++ z) n, length-rows f n) (least-agree (repeated padded) (repeated bare) n repeated-bare)

-- ---- the cells of a file, put down whole
front-sorted : (f : List ℕ) (c : ℕ) → take (file_dim f + 1) (four_words f c) ≡ sorted (file_cell f c)
unfolding four_words
front-sorted f c = take_at (sorted (file_cell f c)) (replicate (3 - file_dim f) 0) (file_dim f + 1) (row-size f c)

module _ (f was ws : List ℕ) (h : ℕ) (e : h ≡ field f 0 32) (p : Put f was ws (head_cells h)) where
  count-is : head_cells h ≡ file_cells f
  count-is = rw e (head-cells f)

  rows_are : rows_in 4 ws (head_cells h) ≡ map (four_words f) (up_to (file_cells f))
  rows_are = p.rows ∙ rw count-is

  -- the cells are the file's, each ascending
  pub cells_are : cells_in h ws ≡ map sorted (cells_in_file f)
  unfolding cells_in cells_in_file
  cells_are =
      let m : map (λ c. take (head_dim h + 1) (row_at 4 ws c)) (up_to (head_cells h)) ≡ map (take (head_dim h + 1)) (rows_in 4 ws (head_cells h))
      = unfold rows_in in sym (map-map (take (head_dim h + 1)) (row_at 4 ws) (up_to (head_cells h))) in
      m ∙ rw (rows_are, e, head-dim f) (map-map (take (file_dim f + 1)) (four_words f) (up_to (file_cells f)) ∙ rows_agree (λ c. take (file_dim f + 1) (four_words f c)) (λ c. sorted (file_cell f c)) (file_cells f) (λ c l. front-sorted f c)
      ∙ sym (map-map sorted (file_cell f) (up_to (file_cells f))))

  -- the lowest cell with a vertex out of range, that names a vertex twice, that repeats an earlier one
  pub out-put : first_at (out_of (head_vertices h)) (cells_in h ws) ≡ first_at (out_of (file_vertices f)) (cells_in_file f)
  out-put = rw (cells_are, e, head-vertices f) (first-mapped (out_of (file_vertices f)) sorted (λ x. unfold out_of in any-sorted (λ v. leb (file_vertices f) v) x) (cells_in_file f))

  pub twice-put : first_at twice (cells_in h ws) ≡ first_at twice (cells_in_file f)
  twice-put = rw cells_are (first-mapped twice sorted twice-sorted (cells_in_file f))

  pub again-put : first_repeated (rows_in 4 ws (head_cells h)) ≡ first_repeated (map sorted (cells_in_file f))
  unfolding four_words cells_in_file
  again-put =
      ap first_repeated rows_are ∙ first-bare (λ c. sorted (file_cell f c)) (replicate (3 - file_dim f) 0) (file_dim f + 1) (file_cells f) (λ c l. row-size f c)
      ∙ ap first_repeated (sym (map-map sorted (file_cell f) (up_to (file_cells f))))

-- the lowest row is one of them, or their number
pub again-most : (ws : List ℕ) (n : ℕ) → first_repeated (rows_in 4 ws n) ≤ n
unfolding first_repeated
again-most ws n =
    let e : length (rows_in 4 ws n) ≡ n = unfold rows_in in length-rows (row_at 4 ws) n in
    rw e (least-most (repeated (rows_in 4 ws n)) n)
