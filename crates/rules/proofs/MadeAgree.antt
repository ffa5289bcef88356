-- What is made depends only on the counts and on the rows of what it is made from; so the free words of a right book have no say in it.
use mathlib.Core.Path.{◌≡◌, refl, sym, ap, ◌∙◌}
use mathlib.Core.Bool.{true}
use mathlib.Core.List.Memᴰ.{head as here}
use mathlib.Core.List.Memᴰ.{tail as there}
use mathlib.Core.List.{List, [], Memᴰ as In}
use Prim.Native.Nat.{ℕ, ◌+◌, ◌-◌, ◌/◌, ◌%◌, ◌≤◌, ◌<◌}
use native.Mathlib.Omega.{arith}
use lib.ListN.{get_or, take, drop}
use lib.Seq.{get_or-take, take-take}
use lib.Dec.{ltb}
use borrow.Author.Tests.{ltb-true}
use Rattle.rules.specs.Lists.{all_of, has}
use Rattle.rules.specs.Book.{dim, count, key, held, place, row_of, rows_of, needs, Right}
use Rattle.rules.specs.Made.{built, turned, listed_at, intersected, neighbours, vertex_neighbours, made_from, made}
use Rattle.rules.specs.Calls.{count_after, added}
use Rattle.rules.proofs.Tests.{all-at}
use Rattle.rules.proofs.Slices.{part-front}
use Rattle.rules.proofs.Numbered.{rows_agree, rows_by-agree, any-agree, get_d_rows}
use Rattle.rules.proofs.Needs.{Kind, set, up, down, level, points, kind, key-div, key-mod, needs-build, needs-up, needs-down, needs-across, needs-vertices}
use Rattle.rules.proofs.FrameRule.{Framed, framed, held_below, place-rises}
use Rattle.rules.proofs.RowRule.{row-all}
use Rattle.rules.proofs.FiveRules.{made-set, made_up, made-down, made-level, made-points, made-is}
use Rattle.rules.proofs.Assembled.{assembled-place, assembled-rows}
use Rattle.rules.proofs.RightUsed.{parts, whole, used-part, bare-dim}

-- two relations of n rows agree
abbrev Same : ℕ → (ℕ → List ℕ) → (ℕ → List ℕ) → Type 0
Same n r s = (i : ℕ) → i < n → r i ≡ s i

-- the rows of a relation name members below m
abbrev Below : ℕ → ℕ → (ℕ → List ℕ) → Type 0
Below n m r = (i : ℕ) → i < n → (v : ℕ) → In v (r i) → v < m

listed-agree : (m : ℕ) (lists lists' : ℕ → List ℕ) → Same m lists lists' → (vs : List ℕ) → ((v : ℕ) → In v vs → v < m) → (j : ℕ) → listed_at lists vs j ≡ listed_at lists' vs j
unfolding listed_at
listed-agree m lists lists' e vs b j = any-agree _ _ vs (λ v i. ap (has j) (e v (b v i)))

turned-agree : (m n : ℕ) (r s : ℕ → List ℕ) → Same n r s → turned m n r ≡ turned m n s
unfolding turned
turned-agree m n r s e = rows_by-agree m n _ _ (λ i j a b. ap (has i) (e j b))

intersected-agree : (m n v : ℕ) (d0 d0' e0 e0' at at' : ℕ → List ℕ) → Same m d0 d0' → Same n e0 e0' → Same v at at' → Below m v d0
    → intersected m n d0 e0 at ≡ intersected m n d0' e0' at'
unfolding intersected
intersected-agree m n v d0 d0' e0 e0' at at' p q r b =
    rows_by-agree m n _ _ (λ i j x y. rw (listed-agree v at at' r (d0 i) (b i x) j, p i x, q j y))

neighbours-agree : (n v : ℕ) (d0 d0' at at' : ℕ → List ℕ) → Same n d0 d0' → Same v at at' → Below n v d0 → neighbours n d0 at ≡ neighbours n d0' at'
unfolding neighbours
neighbours-agree n v d0 d0' at at' p r b = rows_by-agree n n _ _ (λ i j x y. rw (listed-agree v at at' r (d0 i) (b i x) j, p i x))

points-agree : (n v : ℕ) (at at' cells cells' : ℕ → List ℕ) → Same n at at' → Same v cells cells' → Below n v at → vertex_neighbours n at cells ≡ vertex_neighbours n at' cells'
unfolding vertex_neighbours
points-agree n v at at' cells cells' p r b = rows_by-agree n n _ _ (λ i j x y. rw (listed-agree v cells cells' r (at i) (b i x) j, p i x))

-- the five together
module _ (D : ℕ) (n n' : ℕ → ℕ) (r r' : ℕ → ℕ → ℕ → List ℕ) (counts : (x : ℕ) → x ≤ D → n x ≡ n' x) where
  pub made-agree : (d e : ℕ) → Kind d e → d ≤ D → e ≤ D → (e ≡ 0 → d < D)
      → ((x y : ℕ) → x ≤ D → y ≤ D → In (key x y) (needs D d e) → Same (n x) (r x y) (r' x y) × Below (n x) (n y) (r x y))
      → made_from D n r d e ≡ made_from D n' r' d e
  made-agree d e (set h) l k q g =
      let a = g D 0 (omega arith) (omega arith) (rw (needs-build D d h (omega (arith, q refl))) (here refl)) in
      rw (made-set D n r d h, made-set D n' r' d h, ← counts D (omega arith)) (ap (built d []) (rows_agree (r D 0) (r' D 0) (n D) a.0))
  made-agree d e (up h) l k q g =
      let a = g e d k l (rw (needs-up D d e h) (here refl)) in
      rw (made_up D n r d e h, made_up D n' r' d e h, ← counts d l, ← counts e k) (turned-agree (n d) (n e) (r e d) (r' e d) a.0)
  made-agree d e (down h o) l k q g =
      let w = needs-down D d e h o in
      let a = g d 0 l (omega arith) (rw w (here refl)) in
      let b = g 0 e (omega arith) k (rw w (there (here refl))) in
      let c = g e 0 k (omega arith) (rw w (there (there (here refl)))) in
      rw (made-down D n r d e h o, made-down D n' r' d e h o, ← counts d l, ← counts e k)
      (intersected-agree (n d) (n e) (n 0) (r d 0) (r' d 0) (r e 0) (r' e 0) (r 0 e) (r' 0 e) a.0 c.0 b.0 a.1)
  made-agree d e (level h) l k q g =
      let w = needs-across D d h in
      let a = g d 0 l (omega arith) (rw w (here refl)) in
      let b = g 0 d (omega arith) l (rw w (there (here refl))) in
      rw (made-level D n r d h, made-level D n' r' d h, ← counts d l) (neighbours-agree (n d) (n 0) (r d 0) (r' d 0) (r 0 d) (r' 0 d) a.0 b.0 a.1)
  made-agree d e points l k q g =
      let w = needs-vertices D in
      let a = g 0 D (omega arith) (omega arith) (rw w (here refl)) in
      let b = g D 0 (omega arith) (omega arith) (rw w (there (here refl))) in
      rw (made-points D n r, made-points D n' r', ← counts 0 (omega arith)) (points-agree (n 0) (n D) (r 0 D) (r' 0 D) (r D 0) (r' D 0) a.0 b.0 a.1)

-- ---- a right book, and its used words alone
module _ (ws : List ℕ) (g : Right ws) where
  abbrev used : List ℕ
  used = take (get_or ws 4 0) ws

  f : Framed ws
  f = framed ws g.frame

  pub five : 5 ≤ get_or ws 4 0
  five = omega (arith, (parts ws g).used, get_or-take 5 ws 4 0 (omega arith))

  pub used-word : (i : ℕ) → i < 5 → get_or used i 0 ≡ get_or ws i 0
  used-word i l = get_or-take (get_or ws 4 0) ws i 0 (omega (arith, five))

  pub used-held : (k : ℕ) → held used k ≡ held ws k
  unfolding held
  used-held k = rw (used-word 1 (omega arith))

  pub used-count : (x : ℕ) → x < 4 → count used x ≡ count ws x
  unfolding count dim
  used-count x l = rw (used-word 0 (omega arith), used-word (1 + x) (omega arith))

  pub used-place : (k : ℕ) → k ≤ 16 → place used k ≡ place ws k
  used-place k l =
      let s = parts ws g in
      ap (λ (w : List ℕ). place w k) (used-part ws g) ∙ assembled-place (take 5 ws) s.five (rows_of ws) [] s.sizes k l
      ∙ sym (ap (λ (w : List ℕ). place w k) (whole ws g) ∙ assembled-place (take 5 ws) s.five (rows_of ws) _ s.sizes k l)

  pub used-rows : (k : ℕ) → held ws k ≡ true → rows_of used k ≡ rows_of ws k
  used-rows k h =
      let s = parts ws g in
      let l = held_below ws k f.mask h in
      ap (λ (w : List ℕ). rows_of w k) (used-part ws g) ∙ assembled-rows (take 5 ws) s.five (rows_of ws) [] s.sizes k l (unfold held in rw (get_or-take 5 ws 1 0 (omega arith)) h)

  row_same : (k i : ℕ) → held ws k ≡ true → i < count ws (k / 4) → row_of used k i ≡ row_of ws k i
  row_same k i h l =
      let b = held_below ws k f.mask h in
      let c : count used (k / 4) ≡ count ws (k / 4) = used-count (k / 4) (omega arith) in
      let m : i < count used (k / 4) = rw c l in
      let x : get_or (rows_of used k) i [] ≡ row_of used k i = unfold rows_of in get_d_rows (row_of used k) (count used (k / 4)) i [] m in
      let y : get_or (rows_of ws k) i [] ≡ row_of ws k i = unfold rows_of in get_d_rows (row_of ws k) (count ws (k / 4)) i [] l in
      sym x ∙ ap (λ (rs : List (List ℕ)). get_or rs i []) (used-rows k h) ∙ y

  -- a relation that is needed: its rows are the same, and name what is there
  needed-same : (x y : ℕ) → y ≤ dim ws → held ws (key x y) ≡ true
      → Same (count ws x) (row_of ws (key x y)) (row_of used (key x y)) × Below (count ws x) (count ws y) (row_of ws (key x y))
  needed-same x y l h =
      let p = key-div x y (omega (arith, f.high)) in
      let q = key-mod x y (omega (arith, f.high)) in (
        λ i m. sym (row_same (key x y) i h (rw p m)),
        λ i m v j. let a = row-all ws f g.rows (key x y) h i (rw p m) in let z : v < count ws (key x y % 4) = ltb-true v (count ws (key x y % 4)) (all-at (λ z. ltb z (count ws (key x y % 4))) a j) in rw q at z,
      )

  pub used-made : (d e : ℕ) → d ≤ dim ws → e ≤ dim ws → (e ≡ 0 → d < dim ws) → all_of (held ws) (needs (dim ws) d e) ≡ true → made used d e ≡ made ws d e
  used-made d e a b c ns =
      rw (made-is used d e, made-is ws d e, bare-dim ws g)
      (sym (made-agree (dim ws) (count ws) (count used) (λ x y. row_of ws (key x y)) (λ x y. row_of used (key x y)) (λ x l. sym (used-count x (omega (arith, f.high)))) d e (kind d e) a b c
      (λ x y l m i. needed-same x y m (all-at (held ws) ns i))))

  -- Make's words from the used words alone
  pub used-added : (d e : ℕ) → d ≤ dim ws → e ≤ dim ws → (e ≡ 0 → d < dim ws) → all_of (held ws) (needs (dim ws) d e) ≡ true → added used d e ≡ added ws d e
  unfolding added count_after
  used-added d e a b c ns =
      let k : key d e ≤ 16 = unfold key in omega (arith, f.high) in
      let p = place ws (key d e) in
      let u = get_or ws 4 0 in
      let r : p ≤ u = omega (arith, place-rises ws (key d e) 16 k, f.ends) in
      let front : take u used ≡ take u ws = take-take u u ws (omega arith) in
      let x : take (p - 5) (drop 5 used) ≡ take (p - 5) (drop 5 ws) = part-front used ws u front 5 (p - 5) (omega (arith, five)) in
      let y : take (u - p) (drop p used) ≡ take (u - p) (drop p ws) = part-front used ws u front p (u - p) (omega arith) in
      rw (used-word 0 (omega arith), used-word 1 (omega arith), used-word 2 (omega arith), used-word 3 (omega arith), used-word 4 (omega arith), bare-dim ws g, used-place (key d e) k, used-made d e a b c ns, x, y)
