-- The invariant: the ends of the edges passed stand at the front.
use mathlib.Core.Path.{◌≡◌, refl, sym, ap, ap₂, ◌∙◌}
use mathlib.Core.Bool.{true}
use mathlib.Core.List.{List, [], ◌∷◌, ◌++◌, map, map-append}
use Prim.Native.Nat.{ℕ, zero, suc, ◌+◌, ◌*◌, ◌≤◌, ◌<◌}
use native.Mathlib.Numerals.{add-one}
use borrow.Author.Rules.{rules}
use native.Mathlib.Omega.{arith}
use lib.ListN.{length, get_or, take, drop, set, length-append}
use lib.Dec.{ltb, lit<}
use lib.Seq.{sets, take-suc, take_all, take_at}
use borrow.Author.Tests.{ltb-true}
use Rattle.rules.specs.Lists.{all_of, joined}
use Rattle.rules.specs.Book.{count, key}
use Rattle.rules.specs.Sheet.{ends_at, Flat}
use Rattle.rules.proofs.Tests.{all-place}
use Rattle.rules.proofs.Numbered.{two-members}
use Rattle.rules.proofs.Joined.{joined-last, put-behind}
use Rattle.rules.proofs.FrameRule.{framed}
use Rattle.rules.proofs.RowRule.{row-vertices}
use Rattle.sheets.proofs.rims.put_ends.Invariants.{front}
use Rattle.sheets.proofs.rims.put_ends.Goals as goal
use Rattle.sheets.proofs.rims.put_ends.Goals.{After-ends-ends}

-- an edge that is listed
module _ (ws : List ℕ) (f : Flat ws) (edges : List ℕ) (low : all_of (λ k. ltb k (count ws 1)) edges ≡ true) where
  module _ (j : ℕ) (l : j < length edges) where
    abbrev k : ℕ
    k = get_or edges j 0

    edge : k < count ws 1
    edge = ltb-true _ _ (all-place (λ k. ltb k (count ws 1)) edges 0 low j l)

    two : length (ends_at ws k) ≡ 2
    unfolding ends_at key
    two = row-vertices ws (framed ws f.frame) f.rows 4 f.ends refl (lit< tt) k edge

    front-more : front ws edges (j + 1) ≡ front ws edges j ++ ends_at ws k
    front-more = rw (add-one j, take-suc edges j 0 l, map-append) (joined-last (map (ends_at ws) (take j edges)) (ends_at ws k))

  front_length : (j : ℕ) → j ≤ length edges → length (front ws edges j) ≡ 2 * j
  front_length zero l = unfold joined in refl
  front_length (suc j) l =
      rw (← add-one j, front-more j l, length-append) (omega (arith, front_length j (omega arith), two j l))

-- two stores
two-puts : (out : List ℕ) (at x y : ℕ) → set (set out at x) (at + 1) y ≡ sets out at (x ∷ y ∷ [])
two-puts out at x y = rw (add-one at)

pub loop-j-init : goal.loop-j-init
loop-j-init c = unfold joined in refl

pub ends-ends-requires : goal.ends-ends-requires
ends-ends-requires c = edge c.args.triangles.now.book.now c.args.triangles.now.flat c.args.edges.now c.requires.low c.loop-j.j (omega arith)

pub loop-j-preserved : goal.loop-j-preserved
loop-j-preserved c =
    let t = c.loop-j in
    let ws = c.args.triangles.now.book.now in
    let f = c.args.triangles.now.flat in
    let edges = c.args.edges.now in
    let out = c.args.out.now in
    let l : t.j < length edges = omega arith in
    let room : length out ≡ 8192 = search rules in
    let z = two ws f edges c.requires.low t.j l in
    let k : length (front ws edges t.j) ≡ 2 * t.j = front_length ws f edges c.requires.low t.j (omega arith) in
    rw c.ends-ends.ensures (two-puts t.out (2 * t.j) _ _
    ∙ ap₂ (λ (o v : List ℕ). sets o (2 * t.j) v) t.invariant (sym (two-members (ends_at ws (get_or edges t.j 0)) z))
    ∙ ap (λ (n : ℕ). sets (front ws edges t.j ++ drop (length (front ws edges t.j)) out) n (ends_at ws (get_or edges t.j 0))) (sym k)
    ∙ put-behind (front ws edges t.j) (ends_at ws (get_or edges t.j 0)) out (omega (arith, c.requires.few))
    ∙ rw (front-more ws f edges c.requires.low t.j l))

-- both ends are there
there : (c : After-ends-ends) → length c.ends-ends.result.now ≡ 2
there c = ap length c.ends-ends.ensures ∙ two c.args.triangles.now.book.now c.args.triangles.now.flat c.args.edges.now c.requires.low c.loop-j.j (omega arith)

pub bounds-ends-0 : goal.bounds-ends-0
bounds-ends-0 c = omega (arith, there (goal.at.bounds-ends-0 c).After-ends-ends)

pub bounds-ends-1 : goal.bounds-ends-1
bounds-ends-1 c = omega (arith, there (goal.at.bounds-ends-1 c).After-ends-ends)

pub returns : goal.returns
returns c =
    let t = c.loop-j in
    let ws = c.args.triangles.now.book.now in
    let edges = c.args.edges.now in
    let out = c.args.out.now in
    let n = length edges in
    let all = front ws edges in
    let e : t.j ≡ n = omega arith in
    let f : length (all n) ≡ 2 * n = front_length ws c.args.triangles.now.flat edges c.requires.low n (omega arith) in
    let o : t.out ≡ all n ++ drop (length (all n)) out = t.invariant ∙ ap (λ (j : ℕ). all j ++ drop (length (all j)) out) e in
    ap (take (2 * n)) o ∙ take_at (all n) (drop (length (all n)) out) (2 * n) f ∙ ap (λ (ks : List ℕ). joined (map (ends_at ws) ks)) (take_all n edges (omega arith))
