-- What stands of the cells looked at: the vertices of those kept, and for each why it is dropped.
use mathlib.Core.Path.{◌≡◌, refl, sym, ap, ◌∙◌}
use mathlib.Core.Logic.{◌⊎◌, inl, inr}
use mathlib.Core.Bool.{Bool, true, false, cond}
use mathlib.Core.List.{List, [], ◌++◌, append-nil}
use Prim.Native.Nat.{ℕ, ◌+◌, ◌*◌, ◌<◌}
use native.Mathlib.Numerals.{add-one}
use native.Mathlib.Omega.{arith}
use lib.ListN.{length, get_or, take, set, length-set}
use lib.Seq.{get_or-set_same, get_or-set_other}
use lib.Dec.{eqb}
use borrow.Author.Tests.{eqb-true, eqb-false}
use Rattle.rules.specs.Lists.{joined}
use Rattle.rules.specs.File.{file_dim, file_cell}
use Rattle.rules.specs.Salvage.{kept_of, why}
use Rattle.rules.proofs.Numbered.{last-or-below}
use Rattle.rules.proofs.Joined.{joined-last}
use Rattle.salvaging.proofs.Looking.{kept_more, kept_same}

-- c cells are looked at, and k of them are kept
pub record Kept (f vertices whys : List ℕ) (c k : ℕ) : Type 0 where
  pub front : take ((file_dim f + 1) * k) vertices ≡ joined (kept_of f c)
  pub long : length vertices ≡ 16384
  pub places : length whys ≡ 4096
  pub told : (i : ℕ) → i < c → get_or whys i 0 ≡ why f i

pub kept-none : (f vertices whys : List ℕ) → length vertices ≡ 16384 → length whys ≡ 4096 → Kept f vertices whys 0 0
kept-none f vertices whys l m = record {
  front = let z : (file_dim f + 1) * 0 ≡ 0 = omega arith in rw z (unfold kept_of joined in refl);
  long = l;
  places = m;
  told = λ i h. absurd (omega arith);
}

-- the vertices of one cell more, where it is kept
joined-kept : (f : List ℕ) (c : ℕ) → joined (kept_of f (c + 1)) ≡ joined (kept_of f c) ++ cond (eqb (why f c) 0) (file_cell f c) []
joined-kept f c = go (eqb (why f c) 0) refl
  where
    go : (b : Bool) → eqb (why f c) 0 ≡ b → joined (kept_of f (c + 1)) ≡ joined (kept_of f c) ++ cond b (file_cell f c) []
    go true e = ap joined (kept_more f c (eqb-true (why f c) 0 e)) ∙ joined-last (kept_of f c) (file_cell f c)
    go false e = ap joined (kept_same f c (eqb-false (why f c) 0 e)) ∙ sym (append-nil (joined (kept_of f c)))

-- one cell more
pub kept_step : {f vertices whys : List ℕ} {c k : ℕ} → Kept f vertices whys c k → c < 4096 → (r : ℕ) → r ≡ why f c → (now : List ℕ) (k' : ℕ) → length now ≡ 16384
    → take ((file_dim f + 1) * k') now ≡ take ((file_dim f + 1) * k) vertices ++ cond (eqb r 0) (file_cell f c) [] → Kept f now (set whys c r) (c + 1) k'
kept_step {f} {vertices} {whys} {c} {k} p l r e now k' n h = record {
  front = h ∙ rw (p.front, e) (sym (joined-kept f c));
  long = n;
  places = length-set whys c r ∙ p.places;
  told = λ i m. told i (last-or-below i c (rw add-one at m));
}
  where
    told : (i : ℕ) → (i ≡ c) ⊎ (i < c) → get_or (set whys c r) i 0 ≡ why f i
    told i (inl q) = rw q (get_or-set_same whys c r 0 (omega (arith, p.places)) ∙ e)
    told i (inr m) = get_or-set_other whys c i r 0 (λ q. omega arith) ∙ p.told i m
