-- In a right book the rows of 1→0 and of 2→0 stand one after another behind the offsets, two or three vertices each.
use mathlib.Core.Path.{◌≡◌, refl, sym, ap, ap₂, ◌∙◌, subst}
use mathlib.Core.Bool.{Bool, true}
use mathlib.Core.List.{List, [], ◌∷◌, map, map-map, Memᴰ as In}
use Prim.Native.Nat.{ℕ, ◌+◌, ◌-◌, ◌*◌, ◌/◌, ◌%◌, ◌≤◌, ◌<◌}
use native.Mathlib.Nat.{mul_comm, mul-suc, mul-le-mul_left, lt_of_lt_of_le, add-zero}
use native.Mathlib.Omega.{arith}
use lib.ListN.{length, get_or, take, drop, length-take, length-drop}
use lib.Seq.{get_or-drop, get_or-take}
use lib.Dec.{ltb, lit<}
use lib.IntN.{ℤ}
use Rattle.rules.specs.Lists.{up_to, all_of, joined}
use Rattle.rules.specs.Book.{key, count, place, offset, total, row_of, rows_of}
use Rattle.rules.proofs.Tests.{all_append, all-of, left, right}
use Rattle.rules.proofs.Keep.{up_to-is}
use Rattle.rules.proofs.Numbered.{rows_agree, two-members, three-members}
use Rattle.rules.proofs.FrameRule.{framed, room}
use Rattle.rules.proofs.RowRule.{row-all, row-length, row-vertices, offset-vertices}
use Rattle.rules.proofs.RightBook.{joined-all}
use Rattle.rules.specs.Closures.{edge_step, edge_byte, face_closure, steps_of, bytes_of, closures_of}
use Rattle.closures.specs.Rows.{pair_at, triple_at, Rowed}
use Rattle.closing.specs.Ready.{Ready}

-- rows whose members all pass, one after another
all-joined : (p : ℕ → Bool) (f : ℕ → List ℕ) (xs : List ℕ) → all_of (λ i. all_of p (f i)) xs ≡ true → all_of p (joined (map f xs)) ≡ true
unfolding joined all_of
all-joined p f [] h = refl
all-joined p f (x ∷ xs) h = all_append p (f x) (joined (map f xs)) (left (all_of p (f x)) (all_of (λ i. all_of p (f i)) xs) h) (all-joined p f xs (right (all_of p (f x)) (all_of (λ i. all_of p (f i)) xs) h))

-- numbers that the rows' places ask for
before : (s i n t : ℕ) → i < n → t < s → s * i + t < s * n
before s i n t l b = lt_of_lt_of_le (subst (λ (x : ℕ). s * i + t < x) (sym (mul-suc s i)) (omega arith)) (mul-le-mul_left s l)

along : (p c n o s t : ℕ) → c ≡ n → o ≡ s → p + c + 1 + o + t ≡ p + n + 1 + (s + t)
along p c n o s t e f = omega arith

module _ (ws : List ℕ) (k : ℕ) (counts : List ℤ) (n : ℕ) (r : Ready ws k counts n) (e : k % 4 ≡ 0) (p : 0 < k) where
  -- where the rows begin, and what they are
  abbrev pub begin : ℕ
  begin = place ws k + n + 1

  abbrev pub part : List ℕ
  part = take ((k / 4 + 1) * n) (drop begin ws)

  total-is : total ws k ≡ (k / 4 + 1) * n
  unfolding total
  total-is = offset-vertices ws (framed ws r.frame) r.rows k r.holds e p (count ws (k / 4)) (omega arith) ∙ ap (λ (x : ℕ). x * (k / 4 + 1)) (sym r.many) ∙ mul_comm n (k / 4 + 1)

  pub fits : begin + (k / 4 + 1) * n ≤ length ws
  fits = omega (arith, room ws (framed ws r.frame) k r.holds, (framed ws r.frame).fits, total-is, r.many)

  -- the part as the code cuts it out
  pub part_at : (x : ℕ) → x ≡ place ws k → take (x + n + 1 + (k / 4 + 1) * n - (x + n + 1)) (drop (x + n + 1) ws) ≡ part
  part_at x f = ap₂ (λ (a b : ℕ). take a (drop b ws)) (cut (x + n + 1) ((k / 4 + 1) * n)) (ap (λ (y : ℕ). y + n + 1) f)
    where
      cut : (a b : ℕ) → a + b - a ≡ b
      cut a b = omega arith

  part-is : joined (rows_of ws k) ≡ part
  part-is = joined-all ws (framed ws r.frame) r.rows k r.holds ∙ ap₂ (λ (t s : ℕ). take t (drop (place ws k + s + 1) ws)) total-is (sym r.many)

  below : all_of (λ v. ltb v (length counts)) part ≡ true
  unfolding rows_of
  below = subst (λ (l : List ℕ). all_of (λ v. ltb v (length counts)) l ≡ true) part-is
      (all-joined (λ v. ltb v (length counts)) (row_of ws k) (up_to (count ws (k / 4))) (all-of (λ i. all_of (λ v. ltb v (length counts)) (row_of ws k i)) (up_to (count ws (k / 4))) each))
    where
      each : (i : ℕ) → In i (up_to (count ws (k / 4))) → all_of (λ v. ltb v (length counts)) (row_of ws k i) ≡ true
      each i j = rw (r.sized, ← e) (row-all ws (framed ws r.frame) r.rows k r.holds i (up_to-is i (count ws (k / 4)) j))

  pub rowed : Rowed (k / 4 + 1) n part counts
  rowed = record { sized = simp (length-take, length-drop) (omega (arith, fits)); inside = below; right = r.right }

  pub row-size : (i : ℕ) → i < n → length (row_of ws k i) ≡ k / 4 + 1
  row-size i l = row-vertices ws (framed ws r.frame) r.rows k r.holds e p i (omega (arith, r.many))

  -- a row's members, by their places in the part
  pub member : (i t : ℕ) → i < n → t < k / 4 + 1 → get_or (row_of ws k i) t 0 ≡ get_or part ((k / 4 + 1) * i + t) 0
  unfolding row_of
  member i t l b =
      let f = framed ws r.frame in
      let m : i < count ws (k / 4) = omega (arith, r.many) in
      let o : offset ws k i ≡ (k / 4 + 1) * i = offset-vertices ws f r.rows k r.holds e p i (omega arith) ∙ mul_comm i (k / 4 + 1) in
      let w : t < offset ws k (i + 1) - offset ws k i = subst (λ (x : ℕ). t < x) (sym (row-size i l) ∙ row-length ws f r.rows k r.holds i m) b in
      let v : (k / 4 + 1) * i + t < (k / 4 + 1) * n = before (k / 4 + 1) i n t l b in
      get_or-take (offset ws k (i + 1) - offset ws k i) (drop (place ws k + count ws (k / 4) + 1 + offset ws k i) ws) t 0 w
      ∙ get_or-drop (place ws k + count ws (k / 4) + 1 + offset ws k i) ws t 0
      ∙ ap (λ (x : ℕ). get_or ws x 0) (along (place ws k) (count ws (k / 4)) n (offset ws k i) ((k / 4 + 1) * i) t (sym r.many) o)
      ∙ sym (get_or-take ((k / 4 + 1) * n) (drop begin ws) ((k / 4 + 1) * i + t) 0 v ∙ get_or-drop begin ws ((k / 4 + 1) * i + t) 0)

  -- what is written for all rows, row by row of the part
  pub rows-part {ℓ} : {A : Type ℓ} (g : List ℕ → A) (at : List ℕ → ℕ → List ℕ) → ((i : ℕ) → i < n → row_of ws k i ≡ at part i) → map g (rows_of ws k) ≡ map (λ i. g (at part i)) (up_to n)
  unfolding rows_of
  rows-part g at h = map-map g (row_of ws k) (up_to (count ws (k / 4))) ∙ ap (λ (c : ℕ). map (λ i. g (row_of ws k i)) (up_to c)) (sym r.many) ∙ rows_agree (λ i. g (row_of ws k i)) (λ i. g (at part i)) n (λ i l. ap g (h i l))

module _ (ws : List ℕ) (counts : List ℤ) (n : ℕ) where
  pairs : (r : Ready ws 4 counts n) (i : ℕ) → i < n → row_of ws 4 i ≡ pair_at (part ws 4 counts n r refl (lit< tt)) i
  unfolding pair_at
  pairs r i l =
      two-members (row_of ws 4 i) (row-size ws 4 counts n r refl (lit< tt) i l)
      ∙ ap₂ (λ (x y : ℕ). x ∷ y ∷ []) (member ws 4 counts n r refl (lit< tt) i 0 l (lit< tt) ∙ ap (λ (x : ℕ). get_or (part ws 4 counts n r refl (lit< tt)) x 0) (add-zero (2 * i))) (member ws 4 counts n r refl (lit< tt) i 1 l (lit< tt))

  triples : (r : Ready ws 8 counts n) (i : ℕ) → i < n → row_of ws 8 i ≡ triple_at (part ws 8 counts n r refl (lit< tt)) i
  unfolding triple_at
  triples r i l =
      three-members (row_of ws 8 i) (row-size ws 8 counts n r refl (lit< tt) i l)
      ∙ rw (member ws 8 counts n r refl (lit< tt) i 0 l (lit< tt), add-zero (3 * i), member ws 8 counts n r refl (lit< tt) i 1 l (lit< tt), member ws 8 counts n r refl (lit< tt) i 2 l (lit< tt))

  pub steps-part : (r : Ready ws 4 counts n) → steps_of ws counts ≡ map (λ i. edge_step counts (pair_at (part ws 4 counts n r refl (lit< tt)) i)) (up_to n)
  unfolding steps_of key
  steps-part r = rows-part ws 4 counts n r refl (lit< tt) (edge_step counts) pair_at (pairs r)

  pub bytes-part : (r : Ready ws 4 counts n) → bytes_of ws counts ≡ map (λ i. edge_byte counts (pair_at (part ws 4 counts n r refl (lit< tt)) i)) (up_to n)
  unfolding bytes_of key
  bytes-part r = rows-part ws 4 counts n r refl (lit< tt) (edge_byte counts) pair_at (pairs r)

  pub closures-part : (r : Ready ws 8 counts n) → closures_of ws counts ≡ map (λ i. face_closure counts (triple_at (part ws 8 counts n r refl (lit< tt)) i)) (up_to n)
  unfolding closures_of key
  closures-part r = rows-part ws 8 counts n r refl (lit< tt) (face_closure counts) triple_at (triples r)
