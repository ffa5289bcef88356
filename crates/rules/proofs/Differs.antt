-- The number of entities that Build would find against the N_x that is kept: it depends on the cells, on N_x and on whether x is named.
use mathlib.Core.Path.{◌≡◌, refl, sym, ap, ◌∙◌, fun_ext}
use mathlib.Core.Bool.{Bool, true, false, cond, not, ◌&&◌}
use mathlib.Core.List.{List, [], append-nil}
use Prim.Native.Nat.{ℕ, zero, suc, ◌+◌, ◌≤◌, ◌<◌}
use native.Mathlib.Nat.{zero-sub}
use native.Mathlib.Decide.{dec_lt}
use native.Mathlib.Omega.{arith}
use lib.ListN.{length, get_or, take}
use lib.Dec.{eqb, ltb}
use borrow.Author.Tests.{lt-ltb, le-ltb, eqb-true}
use Rattle.rules.specs.Lists.{all_of, filled}
use Rattle.rules.specs.Book.{dim, count, key, held, mentions, row_of, rows_of, needs, Right}
use Rattle.rules.specs.Made.{built, made}
use Rattle.rules.specs.Calls.{count_after, added, differs}
use Rattle.rules.proofs.Tests.{left, right}
use Rattle.rules.proofs.Mentions.{mentions-after}
use Rattle.rules.proofs.FrameRule.{Framed, framed, count-inner}
use Rattle.rules.proofs.FiveRules.{made-set, made-is}
use Rattle.rules.proofs.RightCells.{cells_of, cells-rows}
use Rattle.rules.proofs.Added.{other-added, keeps-added, dim-added}
use Rattle.rules.proofs.RightMake.{added-old}
use Rattle.rules.proofs.RightUsed.{bare-dim}
use Rattle.rules.proofs.MadeAgree.{used-held, used-count, used-rows}

-- what Build makes, from the rows of D→0
pub made-sets : (ws : List ℕ) (x : ℕ) → 0 < x → made ws x 0 ≡ built x [] (rows_of ws (key (dim ws) 0))
made-sets ws x p = made-is ws x 0 ∙ made-set (dim ws) (count ws) (λ a b. row_of ws (key a b)) x p ∙ ap (built x []) (unfold cells_of in cells-rows ws)

pub differs-agree : (ws vs : List ℕ) (x : ℕ) → dim vs ≡ dim ws
    → (0 < x → x < dim ws → (mentions (held vs) x ≡ mentions (held ws) x) × (count vs x ≡ count ws x))
    → rows_of vs (key (dim ws) 0) ≡ rows_of ws (key (dim ws) 0) → differs vs x ≡ differs ws x
unfolding differs
differs-agree ws vs x q e r = go (dec_lt 0 x) (dec_lt x (dim ws))
  where
    go : Dec (0 < x) → Dec (x < dim ws)
        → (ltb 0 x && ltb x (dim vs) && mentions (held vs) x && not (eqb (length (made vs x 0)) (count vs x)))
        ≡ (ltb 0 x && ltb x (dim ws) && mentions (held ws) x && not (eqb (length (made ws x 0)) (count ws x)))
    go (no p) l = rw (le-ltb 0 x (omega arith))
    go (yes p) (no l) = rw (lt-ltb 0 x p, q, le-ltb x (dim ws) (omega arith))
    go (yes p) (yes l) =
        let (a, b) = e p l in
        let m : made vs x 0 ≡ made ws x 0 = made-sets vs x p ∙ ap (built x []) (ap (λ (n : ℕ). rows_of vs (key n 0)) q ∙ r) ∙ sym (made-sets ws x p) in
        rw (q, a, b, m)

-- ---- one relation more, which is not x→0
filled_none : (xs : List ℕ) → filled 0 xs ≡ xs
unfolding filled
filled_none xs = rw (zero-sub, append-nil)

pub count-other : (ws : List ℕ) (d e n x : ℕ) → (e ≡ 0 → d ≡ x → ⊥) → count_after ws d e n x ≡ get_or ws (1 + x) 0
unfolding count_after
count-other ws d e n x o = go (eqb e 0 && eqb d x && ltb d (dim ws)) refl
  where
    go : (b : Bool) → (eqb e 0 && eqb d x && ltb d (dim ws)) ≡ b → cond b n (get_or ws (1 + x) 0) ≡ get_or ws (1 + x) 0
    go true q = absurd (o (eqb-true e 0 (search (left, right))) (eqb-true d x (search (left, right))))
    go false q = refl

pub word-added : (ws : List ℕ) (d e x : ℕ) → 0 < x → x < 3 → get_or (added ws d e) (1 + x) 0 ≡ count_after ws d e (length (made ws d e)) x
unfolding added
word-added ws d e zero p l = absurd (omega arith)
word-added ws d e (suc zero) p l = refl
word-added ws d e (suc (suc zero)) p l = refl
word-added ws d e (suc (suc (suc x))) p l = absurd (omega arith)

module _ (ws : List ℕ) (g : Right ws) (d e : ℕ) (ld : d ≤ dim ws) (le : e ≤ dim ws) (off : held ws (key d e) ≡ false)
    (ns : all_of (held ws) (needs (dim ws) d e) ≡ true) (eq : e ≡ 0 → differs ws d ≡ false) where
  pub differs-added : (x : ℕ) → (e ≡ 0 → d ≡ x → ⊥) → differs (added ws d e) x ≡ differs ws x
  differs-added x o = differs-agree ws (added ws d e) x (dim-added ws d e) parts rows
    where
      f : Framed ws
      f = framed ws g.frame

      parts : 0 < x → x < dim ws → (mentions (held (added ws d e)) x ≡ mentions (held ws) x) × (count (added ws d e) x ≡ count ws x)
      parts p l = (
        mentions-after (held ws) (held (added ws d e)) (dim ws) d e x f.high ld le p o ns (other-added ws d e off) (keeps-added ws d e off),
        count-inner (added ws d e) x p (rw (dim-added ws d e) l) ∙ word-added ws d e x p (omega (arith, f.high)) ∙ count-other ws d e (length (made ws d e)) x o ∙ sym (count-inner ws x p l),
      )

      rows : rows_of (added ws d e) (key (dim ws) 0) ≡ rows_of ws (key (dim ws) 0)
      rows = ap (λ (w : List ℕ). rows_of w (key (dim ws) 0)) (sym (filled_none (added ws d e))) ∙ added-old ws g.frame g.rows d e ld le off ns eq 0 (key (dim ws) 0) f.top

-- ---- the used words alone
pub differs-used : (ws : List ℕ) (g : Right ws) (x : ℕ) → differs (take (get_or ws 4 0) ws) x ≡ differs ws x
differs-used ws g x =
    let f = framed ws g.frame in
    differs-agree ws (take (get_or ws 4 0) ws) x (bare-dim ws g)
    (λ p l. (ap (λ (h : ℕ → Bool). mentions h x) (fun_ext (used-held ws g)), used-count ws g x (omega (arith, f.high))))
    (used-rows ws g (key (dim ws) 0) f.top)
