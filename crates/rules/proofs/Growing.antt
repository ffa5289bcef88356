-- Ask on a right book, one relation after another: on the way the book is right, what it held stays, and what Ask gives is the same from there.
use mathlib.Core.Path.{◌≡◌, refl, sym, ap, ◌∙◌, fun_ext}
use mathlib.Core.Bool.{Bool, true, false, cond, ◌&&◌, true≢false}
use mathlib.Core.List.{List, [], ◌++◌, append-nil}
use Prim.Native.Nat.{ℕ, zero, suc, ◌+◌, ◌-◌, ◌/◌, ◌%◌, ◌≤◌, ◌<◌}
use native.Mathlib.Nat.{le_refl}
use native.Mathlib.Omega.{arith}
use lib.ListN.{length, get_or, take, drop, replicate, length-append, length-drop, take-append-drop}
use lib.Seq.{take_at, length-take-le, get_or-take}
use borrow.Author.Tests.{le-leb}
use Rattle.rules.specs.Lists.{up_to, any_of, all_of, filled}
use Rattle.rules.specs.Book.{dim, key, named, held, place, rows_of, relation, relations, needs, Right}
use Rattle.rules.specs.Made.{made}
use Rattle.rules.specs.Calls.{added, differs, with_key, has_to_make}
use Rattle.rules.specs.Steps.{next_key, given_back}
use Rattle.rules.proofs.FrameRule.{Framed, framed, place-rises}
use Rattle.rules.proofs.Needs.{key-again}
use Rattle.rules.proofs.Added.{held-added, keeps-added, dim-added}
use Rattle.rules.proofs.Accepted.{length-filled, to_make}
use Rattle.rules.proofs.Tests.{none_of}
use Rattle.rules.proofs.Keep.{up_to-of}
use Rattle.rules.proofs.LoadedWords.{get_or-filled}
use Rattle.rules.proofs.RightBook.{free-are}
use Rattle.rules.proofs.RightMake.{added-right, added-old}
use Rattle.rules.proofs.Asked.{rank, within, rank-five, with_key-held, asked_is, key-reaches, on-way, way-keeps, way-holds}
use Rattle.rules.proofs.RightUsed.{bare-dim, used-part}
use Rattle.rules.proofs.Differs.{differs-used}
use Rattle.rules.proofs.RightAsk.{Stays, stays-added, stays-missing}
use Rattle.rules.proofs.Assembled.{assembled-is}
use Rattle.rules.proofs.MadeAgree.{used-held, used-added}
use Rattle.rules.proofs.Stepped.{Next, next}

-- the used words of a book
abbrev pub used_of : List ℕ → List ℕ
used_of ws = take (get_or ws 4 0) ws

-- ---- the length of Make's words
module _ (ws : List ℕ) (f : Framed ws) (d e : ℕ) (l : key d e ≤ 16) where
  pub length-added : length (added ws d e) ≡ get_or ws 4 0 + length (relation (made ws d e))
  unfolding added
  length-added =
      let p = place ws (key d e) in
      let u = get_or ws 4 0 in
      let a : 5 ≤ p = low in
      let b : p ≤ u = omega (arith, place-rises ws (key d e) 16 l, f.ends) in
      let x : length (take (p - 5) (drop 5 ws)) ≡ p - 5 = length-take-le (p - 5) (drop 5 ws) (rw length-drop (omega (arith, f.fits))) in
      let y : length (take (u - p) (drop p ws)) ≡ u - p = length-take-le (u - p) (drop p ws) (rw length-drop (omega (arith, f.fits))) in
      rw (length-append, length-append, x, y) (omega arith)
    where
      low : 5 ≤ place ws (key d e)
      low = let q = place-rises ws 0 (key d e) (omega arith) in unfold place in q

  pub used-after : get_or (added ws d e) 4 0 ≡ length (added ws d e)
  used-after = unfold added in refl ∙ sym length-added

-- words filled up, and their used part
pub used-filled : (n : ℕ) (xs : List ℕ) → get_or xs 4 0 ≡ length xs → used_of (filled n xs) ≡ xs
unfolding filled
used-filled n xs e = take_at xs (replicate (n - length xs) 0) _ (sym (get_or-filled n xs 4 ∙ e))

pub filled-used : (ws : List ℕ) (g : Right ws) → filled (length ws) (used_of ws) ≡ ws
unfolding filled
filled-used ws g =
    let f = framed ws g.frame in
    let u : length (used_of ws) ≡ get_or ws 4 0 = length-take-le (get_or ws 4 0) ws f.fits in
    rw (u, ← free-are ws f g.rows) (take-append-drop (get_or ws 4 0) ws)

pub dim-filled : (n : ℕ) (xs : List ℕ) → dim (filled n xs) ≡ dim xs
unfolding dim
dim-filled n xs = rw (get_or-filled n xs 0)

pub held-filled : (n : ℕ) (xs : List ℕ) (j : ℕ) → held (filled n xs) j ≡ held xs j
unfolding held
held-filled n xs j = rw (get_or-filled n xs 1)

first-added : (ws : List ℕ) (d e : ℕ) → get_or (added ws d e) 0 0 ≡ get_or ws 0 0
unfolding added
first-added ws d e = refl

-- ---- Ask never shortens the words
-- a right book of dimension D without free words, of l words or more, on the way from us
record Long (D : ℕ) (us : List ℕ) (P : ℕ → Bool) (l : ℕ) (ws : List ℕ) : Type 0 where
  stays : Stays D us P ws
  tight : get_or ws 4 0 ≡ length ws
  most : l ≤ length ws

key-low : (D d e : ℕ) → D ≤ 3 → d ≤ D → e ≤ D → key d e ≤ 16
unfolding key
key-low D d e h a b = omega arith

long-added : (D : ℕ) (us : List ℕ) (P : ℕ → Bool) (l : ℕ) (ws : List ℕ) (d e : ℕ) → Long D us P l ws → d ≤ D → e ≤ D → held ws (key d e) ≡ false → all_of (held ws) (needs D d e) ≡ true
    → P (key d e) ≡ true → Long D us P l (added ws d e)
long-added D us P l ws d e s a b off ns z =
    let q = s.stays.dims in
    let f = framed ws s.stays.right.frame in
    let k = key-low D d e (rw q at f.high) a b in
    record {
      stays = stays-added D us P ws d e s.stays a b off ns z;
      tight = used-after ws f d e k;
      most = omega (arith, length-added ws f d e k, s.tight, s.most);
    }

-- ---- on the way to key k
-- the book holds what it held, with the same rows
pub record Grown (ws vs : List ℕ) : Type 0 where
  pub size : length vs ≡ length ws
  pub first : get_or vs 0 0 ≡ get_or ws 0 0
  pub keeps : (j : ℕ) → held ws j ≡ true → held vs j ≡ true
  pub rows : (j : ℕ) → held ws j ≡ true → rows_of vs j ≡ rows_of ws j

-- what is held once key k is
abbrev pub goal : List ℕ → ℕ → ℕ → Bool
goal ws k = held (with_key 6 (used_of ws) k)

-- vs is a right book on the way from ws to key k, a right one
pub record Under (ws : List ℕ) (k : ℕ) (vs : List ℕ) : Type 0 where
  pub right : Right vs
  pub dims : dim vs ≡ dim ws
  pub grown : Grown ws vs
  pub same : with_key 6 (used_of vs) k ≡ with_key 6 (used_of ws) k
  pub alike : (x : ℕ) → x < dim ws → held vs (key x 0) ≡ false → goal ws k (key x 0) ≡ true → differs vs x ≡ false

-- the way begins where no x→0 that has to be made on it would have another number of rows than the N_x that is kept
pub under-start : (ws : List ℕ) (k : ℕ) → Right ws → ((x : ℕ) → x < dim ws → held ws (key x 0) ≡ false → goal ws k (key x 0) ≡ true → differs ws x ≡ false) → Under ws k ws
under-start ws k g a = record {
  alike = a;
  right = g;
  dims = refl;
  grown = record { size = refl; first = refl; keeps = λ j h. h; rows = λ j h. refl };
  same = refl;
}

-- and there is none where Ask's test for 25 fails
pub start-alike : (ws : List ℕ) → Right ws → (d e : ℕ) → any_of (λ x. has_to_make ws d e x && differs ws x) (up_to 3) ≡ false
    → (x : ℕ) → x < dim ws → held ws (key x 0) ≡ false → goal ws (key d e) (key x 0) ≡ true → differs ws x ≡ false
start-alike ws g d e h x l f t =
    let m = to_make ws d e x f (rw (asked_is ws d e) t) in
    let i : x < 3 = omega (arith, (framed ws g.frame).high) in
    rw m at (none_of (λ y. has_to_make ws d e y && differs ws y) h (up_to-of x 3 i))

module _ (ws : List ℕ) (r : Right ws) (k : ℕ) (a : k / 4 ≤ dim ws) (b : k % 4 ≤ dim ws) (vs : List ℕ) (u : Under ws k vs) where
  f : Framed vs
  f = framed vs u.right.frame

  -- k is there: the words are those that Ask gives
  pub under-held : held vs k ≡ true → vs ≡ filled (length ws) (with_key 6 (used_of ws) k)
  under-held h =
      let e : with_key 6 (used_of ws) k ≡ used_of vs = sym u.same ∙ with_key-held 5 (used_of vs) k (used-held vs u.right k ∙ h) in
      rw (e, ← u.grown.size) (sym (filled-used vs u.right))

  pub under-fits : held vs k ≡ true → length (with_key 6 (used_of ws) k) ≤ length ws
  under-fits h =
      let e : with_key 6 (used_of ws) k ≡ used_of vs = sym u.same ∙ with_key-held 5 (used_of vs) k (used-held vs u.right k ∙ h) in
      rw (e, length-take-le (get_or vs 4 0) vs f.fits) (omega (arith, f.fits, u.grown.size))

  -- as an ask that begins with the used words of ws
  standing : Stays (dim ws) (used_of ws) (goal ws k) vs
  standing = record { right = u.right; dims = u.dims; keeps = λ j h. u.grown.keeps j (sym (used-held ws r j) ∙ h); alike = u.alike }

  missing : (vs' : List ℕ) (j : ℕ) → Stays (dim ws) (used_of ws) (goal ws k) vs' → held vs' j ≡ false → goal ws k j ≡ true → all_of (goal ws k) (needs (dim ws) (j / 4) (j % 4)) ≡ true
  missing vs' j s h t =
      let g = framed ws r.frame in
      on-way (dim ws) g.low g.high (used_of ws) k (bare-dim ws r) a b j (stays-missing (dim ws) (used_of ws) (goal ws k) vs' j s h) t

  -- k is missing: the next key on the way to it
  module _ (off : held vs k ≡ false) where
    abbrev y : ℕ
    y = next_key 6 (dim vs) (held vs) k

    ahead : Next (dim vs) 6 (rank (dim vs) k) (used_of vs) k y
    ahead =
        let h : held (used_of vs) ≡ held vs = fun_ext (used-held vs u.right) in
        let i : k / 4 ≤ dim vs = rw u.dims a in
        let j : k % 4 ≤ dim vs = rw u.dims b in
        let x = next (dim vs) f.low f.high 6 (used_of vs) k (bare-dim vs u.right) i j (omega (arith, rank-five (dim vs) f.low f.high k i j)) (used-held vs u.right k ∙ off) in
        rw h at x

    pub next-new : held vs y ≡ false
    next-new = sym (used-held vs u.right y) ∙ ahead.new

    pub next-needed : all_of (held vs) (needs (dim vs) (y / 4) (y % 4)) ≡ true
    next-needed = let h : held (used_of vs) ≡ held vs = fun_ext (used-held vs u.right) in rw h at ahead.needed

    pub next-first : y / 4 ≤ dim vs
    next-first = ahead.first

    pub next-second : y % 4 ≤ dim vs
    next-second = ahead.second

    -- it is not D→0, which is held
    pub next-inner : y % 4 ≡ 0 → y / 4 < dim vs
    next-inner z =
        let n : y / 4 ≡ dim vs → ⊥ = λ q. true≢false (sym f.top ∙ ap (held vs) (sym (cells q) ∙ key-again y) ∙ next-new) in
        omega (arith, next-first)
      where
        cells : next_key 6 (dim vs) (held vs) k / 4 ≡ dim vs → key (next_key 6 (dim vs) (held vs) k / 4) (next_key 6 (dim vs) (held vs) k % 4) ≡ key (dim vs) 0
        cells q = rw (q, z)

    made_alike : added (used_of vs) (y / 4) (y % 4) ≡ added vs (y / 4) (y % 4)
    made_alike = used-added vs u.right (y / 4) (y % 4) next-first next-second next-inner next-needed

    onward-same : with_key 6 (added vs (y / 4) (y % 4)) k ≡ with_key 6 (used_of ws) k
    onward-same = ap (λ (w : List ℕ). with_key 6 w k) (sym made_alike) ∙ sym ahead.same ∙ u.same

    own : held vs (key (y / 4) (y % 4)) ≡ false
    own = rw (key-again y) next-new

    -- it is on the way
    next-goal : goal ws k y ≡ true
    next-goal =
        let i : k / 4 ≤ dim vs = rw u.dims a in
        let j : k % 4 ≤ dim vs = rw u.dims b in
        let h : held (added vs (y / 4) (y % 4)) y ≡ true = ap (held (added vs (y / 4) (y % 4))) (sym (key-again y)) ∙ held-added vs (y / 4) (y % 4) own in
        rw (← onward-same) (way-keeps (dim vs) f.low f.high (added vs (y / 4) (y % 4)) k (dim-added vs (y / 4) (y % 4)) i j y h)

    next-stays : Stays (dim ws) (used_of ws) (goal ws k) (added vs (y / 4) (y % 4))
    next-stays =
        let q = u.dims in
        stays-added (dim ws) (used_of ws) (goal ws k) vs (y / 4) (y % 4) standing (rw (← q) next-first) (rw (← q) next-second) own (rw (← q) next-needed) (rw (key-again y) next-goal)

    -- where it is x→0, its rows are as many as N_x says
    pub next-alike : y % 4 ≡ 0 → differs vs (y / 4) ≡ false
    next-alike z =
        let e : key (y / 4) 0 ≡ y = ap (key (y / 4)) (sym z) ∙ key-again y in
        u.alike (y / 4) (rw (← u.dims) (next-inner z)) (rw e next-new) (rw e next-goal)

    low : key (y / 4) (y % 4) ≤ 16
    low = key-low (dim vs) (y / 4) (y % 4) f.high next-first next-second

    -- with the next key made
    pub under_more : length (added vs (y / 4) (y % 4)) ≤ length vs → Under ws k (filled (length vs) (added vs (y / 4) (y % 4)))
    under_more l =
        let n = length vs in
        let xs = added vs (y / 4) (y % 4) in
        let r = added-right vs u.right.frame u.right.rows (y / 4) (y % 4) next-first next-second own next-needed next-alike n in
        record {
          right = record { frame = r.0; rows = r.1 };
          dims = dim-filled n xs ∙ dim-added vs (y / 4) (y % 4) ∙ u.dims;
          grown = record {
            size = length-filled n xs l ∙ u.grown.size;
            first = get_or-filled n xs 0 ∙ first-added vs (y / 4) (y % 4) ∙ u.grown.first;
            keeps = λ j h. held-filled n xs j ∙ keeps-added vs (y / 4) (y % 4) own j (u.grown.keeps j h);
            rows = λ j h. added-old vs u.right.frame u.right.rows (y / 4) (y % 4) next-first next-second own next-needed next-alike n j (u.grown.keeps j h) ∙ u.grown.rows j h;
          };
          same = ap (λ (w : List ℕ). with_key 6 w k) (used-filled n xs (used-after vs f (y / 4) (y % 4) low)) ∙ onward-same;
          alike = λ x m h t.
              sym (differs-used (filled n xs) (record { frame = r.0; rows = r.1 }) x) ∙ ap (λ (w : List ℕ). differs w x) (used-filled n xs (used-after vs f (y / 4) (y % 4) low))
              ∙ next-stays.alike x m (sym (held-filled n xs (key x 0)) ∙ h) t;
        }

    -- or it does not fit, and so Ask does not
    pub under-stuck : length vs < length (added vs (y / 4) (y % 4)) → length ws < length (with_key 6 (used_of ws) k)
    under-stuck l =
        let xs = added vs (y / 4) (y % 4) in
        let D = dim ws in
        let g = framed ws r.frame in
        let s : Long D (used_of ws) (goal ws k) (length xs) xs = record { stays = next-stays; tight = used-after vs f (y / 4) (y % 4) low; most = le_refl _ } in
        let w : within D 6 k ≡ true = unfold within in rw (le-leb (k / 4) D a, le-leb (k % 4) D b) (le-leb (rank D k) 6 (omega (arith, rank-five D g.low g.high k a b))) in
        let m = key-reaches D g.low g.high (Long D (used_of ws) (goal ws k) (length xs)) (λ v t. t.stays.dims) (goal ws k) (λ v j t. missing v j t.stays)
        (λ v d e. long-added D (used_of ws) (goal ws k) (length xs) v d e) 6 6 xs k (omega arith) s w (way-holds D g.low g.high (used_of ws) k (bare-dim ws r) a b) in
        rw (← onward-same) (omega (arith, m.inv.most, u.grown.size))

-- ---- and the way back: the relations that ws held, with its head, are ws
pub relations-agree : (h : ℕ → Bool) (rows news : ℕ → List (List ℕ)) → ((j : ℕ) → h j ≡ true → news j ≡ rows j) → (n : ℕ) → relations h news n ≡ relations h rows n
unfolding relations
relations-agree h rows news e zero = refl
relations-agree h rows news e (suc n) = go (h n) refl (relations-agree h rows news e n)
  where
    go : (b : Bool) → h n ≡ b → relations h news n ≡ relations h rows n → relations h news n ++ cond b (relation (news n)) [] ≡ relations h rows n ++ cond b (relation (rows n)) []
    go true q i = rw (i, e n q)
    go false q i = rw i

head-named : (ws : List ℕ) → held (take 5 ws) ≡ named (get_or ws 1 0)
head-named ws = fun_ext (λ k. unfold held in ap (λ (m : ℕ). named m k) (get_or-take 5 ws 1 0 (omega arith)))

pub back-again : (ws vs : List ℕ) → Right ws → Grown ws vs → given_back (take 5 ws) vs ≡ ws
unfolding given_back held
back-again ws vs g r =
    let h : named (get_or (take 5 ws) 1 0) ≡ named (get_or ws 1 0) = ap named (get_or-take 5 ws 1 0 (omega arith)) in
    let e : relations (named (get_or ws 1 0)) (rows_of vs) 16 ≡ relations (named (get_or ws 1 0)) (rows_of ws) 16 = relations-agree (named (get_or ws 1 0)) (rows_of ws) (rows_of vs) r.rows 16 in
    rw (h, e, r.size) (ap (filled (length ws)) (sym whole) ∙ filled-used ws g)
  where
    whole : used_of ws ≡ take 5 ws ++ relations (named (get_or ws 1 0)) (rows_of ws) 16
    whole = used-part ws g ∙ assembled-is (take 5 ws) (rows_of ws) [] ∙ rw (append-nil, head-named ws)
