-- The invariant: the pairs of the cells passed stand at the front, and the rest as it was.
use mathlib.Core.Path.{◌≡◌, refl, sym, ◌∙◌}
use mathlib.Core.List.{List, ◌++◌, map}
use Prim.Native.Nat.{ℕ, ◌+◌, ◌*◌, ◌≤◌, ◌<◌}
use native.Mathlib.Omega.{arith}
use lib.ListN.{length, get_or, drop, length-append, length-drop, get_or-map}
use lib.Seq.{sets}
use Rattle.rules.specs.Lists.{up_to, keep, joined}
use Rattle.rules.proofs.Joined.{put-behind}
use Rattle.std.specs.Prelude.{None}
use Rattle.salvaging.specs.Reasons.{why_number}
use Rattle.salvaging.specs.Listed.{pair_of, pairs_by, pairs_in}
use Rattle.salvaging.proofs.Pairs.{pair-most, pairs-more, pairs-most}
use Rattle.salvaging.proofs.listing.list_dropped.Goals as goal

pub loop-c-init : goal.loop-c-init
unfolding pairs_in pairs_by keep joined up_to
loop-c-init c = (refl, refl)

few-pairs : (whys : List ℕ) (c : ℕ) → length (pairs_in whys c) ≤ 2 * c
unfolding pairs_in
few-pairs whys c = pairs-most (λ i. get_or whys i 0) c

-- what stands at the front, with one pair more, is within the list
module _ (whys list : List ℕ) (n c : ℕ) (few : c < n) (long : 2 * n ≤ length list) where
  room : length (pairs_in whys c) + 2 ≤ length list
  room = omega (arith, few-pairs whys c)

  kept-long : length (pairs_in whys c ++ drop (length (pairs_in whys c)) list) ≡ length list
  kept-long = rw (length-append, length-drop) (omega (arith, room))

  one_more : pairs_in whys (c + 1) ≡ pairs_in whys c ++ pair_of c (get_or whys c 0)
  unfolding pairs_in
  one_more = pairs-more (λ i. get_or whys i 0) c

  put-more : sets (pairs_in whys c ++ drop (length (pairs_in whys c)) list) (length (pairs_in whys c)) (pair_of c (get_or whys c 0)) ≡ pairs_in whys (c + 1) ++ drop (length (pairs_in whys (c + 1))) list
  put-more = put-behind (pairs_in whys c) (pair_of c (get_or whys c 0)) list (omega (arith, room, pair-most c (get_or whys c 0))) ∙ rw one_more

pub put_dropped-at-requires : goal.put_dropped-at-requires
put_dropped-at-requires c =
    let t = c.loop-c in
    let l = c.loop-c-test.true in
    let whys = map why_number c.args.whys.now in
    rw (t.invariant.0, t.invariant.1) (omega (arith, room whys c.args.list.now (length c.args.whys.now) t.c l c.requires.room, kept-long whys c.args.list.now (length c.args.whys.now) t.c l c.requires.room))

pub loop-c-preserved : goal.loop-c-preserved
loop-c-preserved c =
    let t = c.loop-c in
    let l = c.loop-c-test.true in
    let p = c.put_dropped-at in
    let whys = map why_number c.args.whys.now in
    let list = c.args.list.now in
    let e : why_number (get_or c.args.whys.now t.c None) ≡ get_or whys t.c 0 = sym (get_or-map why_number c.args.whys.now t.c None) in (
      p.ensures.place ∙ rw (e, t.invariant.0, one_more whys list (length c.args.whys.now) t.c l c.requires.room, length-append),
      p.ensures.list ∙ rw (e, t.invariant.0, t.invariant.1) (put-more whys list (length c.args.whys.now) t.c l c.requires.room),
    )
