-- Each of the five makers is asked for what it makes, and what it writes is d→e.
use mathlib.Core.Path.{◌≡◌, refl, sym, ◌∙◌}
use mathlib.Core.List.{List}
use Prim.Native.Nat.{ℕ, ◌≤◌, ◌<◌}
use native.Mathlib.Omega.{arith}
use lib.ListN.{length}
use Rattle.rules.specs.Book.{dim, relation}
use Rattle.rules.specs.Made.{made}
use Rattle.rules.proofs.FrameRule.{framed}
use Rattle.relations.specs.declared.Source.{Source}
use Rattle.relations.specs.Words.{Written}
use Rattle.relations.specs.Ready.{Ready, Stands}
use Rattle.building.specs.Cells as given
use Rattle.making.specs.Growth.{Appends}

-- a source under equal names
named : (ws : List ℕ) (d e x y : ℕ) (s : Source) → x ≡ d → y ≡ e → Stands ws d e s → Stands ws x y s
named ws d e x y s p q h = rw (p, q) h

-- D→0 as Build asks for it
pub cells-source : {ws : List ℕ} {D : ℕ} {s : Source} → D ≡ dim ws → Stands ws D 0 s → given.Source ws s.from s.at.0 s.rows
cells-source t h = record { top = h.from ∙ t; stands = rw h.from h.at; rows = rw h.from h.rows }

module _ (ws : List ℕ) (d e u : ℕ) (r : Ready ws d e u) where
  pub low : (d ≤ 3) × ((e ≤ 3) × (dim ws ≤ 3))
  low = let f = framed ws r.frame in (omega (arith, r.first, f.high), (omega (arith, r.second, f.high), f.high))

  same : (x y : ℕ) → x ≡ d → y ≡ e → Ready ws x y u
  same x y p q = rw (p, q) r

  -- d→0 with d > 0, by Build
  pub for-sets : e ≡ 0 → 0 < d → (D : ℕ) → D ≡ dim ws → (s : Source) → Stands ws D 0 s → Ready ws d 0 u × (given.Source ws s.from s.at.0 s.rows × (0 < d))
  for-sets q l D t s h = (rw q at r, (cells-source t h, l))

  pub sets : e ≡ 0 → (end n : ℕ) (vs : List ℕ) → Written ws u (relation (made ws d 0)) end vs → n ≡ length (made ws d 0) → Appends ws d e u end n vs
  sets q end n vs w c = record { written = rw q w; count = λ a b. rw q c }

  -- 0→0
  pub for-points : e ≡ 0 → d ≤ 0 → (D : ℕ) → D ≡ dim ws → (own back : Source) → Stands ws 0 D own → Stands ws D 0 back
      → Ready ws 0 0 u × (Stands ws 0 (dim ws) own × Stands ws (dim ws) 0 back)
  for-points q l D t own back a b =
      let z : 0 ≡ d = omega arith in
      let y : 0 ≡ e = sym q in
      (same 0 0 z y, (rw t at a, rw t at b))

  -- a relation that is not d→0 with d > 0
  pub other : (x y : ℕ) → x ≡ d → y ≡ e → (e ≡ 0 → 0 < d → ⊥) → (end n : ℕ) (vs : List ℕ) → Written ws u (relation (made ws x y)) end vs → Appends ws d e u end n vs
  other x y p q z end n vs w = record { written = rw (p, q) at w; count = λ a b. absurd (z a b) }

  -- d→e with d < e, by Transpose
  pub for-turned : d < e → (s : Source) → Stands ws e d s → Ready ws s.to s.from u × (Stands ws s.from s.to s × (s.to < s.from))
  for-turned l s h = (same s.to s.from h.to h.from, (named ws e d _ _ s h.from h.to h, omega (arith, h.to, h.from)))

  -- d→e with d > e > 0, by Intersection
  pub for-insides : (e ≡ 0 → ⊥) → e < d → (own back sub : Source) → Stands ws d 0 own → Stands ws 0 e back → Stands ws e 0 sub
      → Ready ws own.from sub.from u × (Stands ws own.from 0 own × (Stands ws 0 sub.from back × (Stands ws sub.from 0 sub × ((0 < sub.from) × (sub.from < own.from)))))
  for-insides n l own back sub a b c = (
    same own.from sub.from a.from c.from,
    (named ws d 0 _ _ own a.from refl a, (named ws 0 e _ _ back refl c.from b, (named ws e 0 _ _ sub c.from refl c, (omega (arith, c.from), omega (arith, a.from, c.from))))),
  )

  -- d→d with d > 0
  pub for-neighbours : (e ≡ 0 → ⊥) → e ≤ d → d ≤ e → (own back : Source) → Stands ws d 0 own → Stands ws 0 e back
      → Ready ws own.from own.from u × (Stands ws own.from 0 own × (Stands ws 0 own.from back × (0 < own.from)))
  for-neighbours n l m own back a b =
      let z : own.from ≡ e = omega (arith, a.from) in
      (same own.from own.from a.from z, (named ws d 0 _ _ own a.from refl a, (named ws 0 e _ _ back refl z b, omega (arith, a.from))))

  pub points : e ≡ 0 → d ≤ 0 → (end n : ℕ) (vs : List ℕ) → Written ws u (relation (made ws 0 0)) end vs → Appends ws d e u end n vs
  points q l end n vs w =
      let z : 0 ≡ d = omega arith in
      other 0 0 z (sym q) (λ a b. omega arith) end n vs w

  pub level : (e ≡ 0 → ⊥) → e ≤ d → d ≤ e → (x : ℕ) → x ≡ d → (end n : ℕ) (vs : List ℕ) → Written ws u (relation (made ws x x)) end vs → Appends ws d e u end n vs
  level z l m x p end n vs w =
      let y : x ≡ e = omega arith in
      other x x p y (λ a b. z a) end n vs w
