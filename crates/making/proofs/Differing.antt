-- Whether a relation x→0 would have another number of rows than N_x says: the test for one x, and for all that an ask has to make.
use mathlib.Core.Path.{◌≡◌, refl, sym, ap, ◌∙◌}
use mathlib.Core.Bool.{Bool, true, false, not, ◌&&◌, ◌||◌}
use mathlib.Core.List.{List}
use Prim.Native.Nat.{ℕ, ◌+◌, ◌*◌, ◌%◌, ◌^◌, ◌≤◌, ◌<◌}
use native.Mathlib.Nat.{one-mul, mod-eq_of_lt}
use native.Mathlib.Omega.{arith}
use lib.ListN.{length, get_or}
use lib.Dec.{eqb, ltb}
use borrow.Author.Tests.{lt-ltb, le-ltb}
use Rattle.rules.specs.Lists.{up_to, any_of, all_of}
use Rattle.rules.specs.Book.{dim, count, key, named, held, mentions, Right}
use Rattle.rules.specs.Made.{made}
use Rattle.rules.specs.Calls.{differs, has_to_make}
use Rattle.rules.specs.Steps.{next_key, mask_with}
use Rattle.rules.proofs.Tests.{and-off}
use Rattle.rules.proofs.Masks.{pow_pos, one-small, mask-more}
use Rattle.rules.proofs.Needs.{key-div, key-mod, needs-build}
use Rattle.rules.proofs.FrameRule.{framed}
use Rattle.rules.proofs.AskedMask.{asked-held, mask-there, mask_next, mask-new}
use Rattle.relations.specs.declared.Source.{Source}
use Rattle.relations.specs.Ready.{Ready, Stands}
use Rattle.building.specs.Cells as given
use Rattle.making.proofs.Dispatch.{cells-source}
use Rattle.making.specs.Growth.{Maskable}
use Rattle.making.proofs.Walk.{was-on, was-off, next_small}

-- ---- one x
second-off : (a b c : Bool) → false ≡ (a && false && b && c)
second-off true b c = refl
second-off false b c = refl

module _ (ws : List ℕ) (x : ℕ) where
  pub differs-vertices : x ≡ 0 → false ≡ differs ws x
  unfolding differs
  differs-vertices q = rw q

  pub differs-cells : dim ws ≤ x → false ≡ differs ws x
  unfolding differs
  differs-cells l = rw (le-ltb x (dim ws) l) (second-off (ltb 0 x) (mentions (held ws) x) (not (eqb (length (made ws x 0)) (count ws x))))

  module _ (p : 0 < x) (l : x < dim ws) (b : Bool) (q : b ≡ mentions (named (get_or ws 1 0)) x) where
    pub differs-unnamed : not b ≡ true → false ≡ differs ws x
    unfolding differs held
    differs-unnamed o = rw (lt-ltb 0 x p, lt-ltb x (dim ws) l, ← q, was-off b o)

    pub differs-found : not b ≡ false → (n m : ℕ) → n ≡ length (made ws x 0) → m ≡ count ws x → not (eqb n m) ≡ differs ws x
    unfolding differs held
    differs-found o n m f c = rw (lt-ltb 0 x p, lt-ltb x (dim ws) l, ← q, was-on b o, f, c)

  -- x→0 can be built
  pub findable : Right ws → 0 < x → x < dim ws → (D : ℕ) → D ≡ dim ws → (s : Source) → Stands ws D 0 s
      → Ready ws x 0 (get_or ws 4 0) × (given.Source ws s.from s.at.0 s.rows × (0 < x))
  findable r p l D t s h =
      let f = framed ws r.frame in (
        record {
          frame = r.frame;
          rows = r.rows;
          first = omega arith;
          second = omega arith;
          sources = rw (needs-build (dim ws) x p (λ e. omega arith)) (unfold all_of in rw f.top);
          below = λ e z. omega arith;
          used = refl;
        },
        (cells-source t h, p),
      )

-- ---- the mask at the end of an ask
module _ {D mask k : ℕ} (m : Maskable D mask k) where
  pub key-near : k < 16
  key-near = omega (arith, m.first, m.second, m.high)

  module _ (now : ℕ) (small : now < 2 ^ 16) (b : Bool) (q : b ≡ named now k) where
    pub ends : not b ≡ false → now ≡ mask_with 6 D now k
    ends o = sym (mask-there 5 D now k (sym q ∙ was-on b o))

    module _ (o : not b ≡ true) (y : ℕ) (z : y ≡ next_key 6 D (named now) k) where
      off : named now k ≡ false
      off = sym q ∙ was-off b o

      pub next-near : y < 16
      next-near = rw z (next_small 6 D (named now) k m.high key-near)

      new : named now y ≡ false
      new = rw z (mask-new D m.low m.high now k m.first m.second off)

      power : (1 * 2 ^ y) % 2 ^ 32 ≡ 2 ^ y
      power = rw one-mul (mod-eq_of_lt (one-small y 32 (omega (arith, next-near))))

      pub more-small : now + (1 * 2 ^ y) % 2 ^ 32 < 2 ^ 16
      more-small = rw power (mask-more now y new 16 next-near small)

      pub more : now < now + (1 * 2 ^ y) % 2 ^ 32
      more = rw power (omega (arith, pow_pos y))

      pub more_same : mask_with 6 D (now + (1 * 2 ^ y) % 2 ^ 32) k ≡ mask_with 6 D now k
      more_same = rw (power, z) (sym (mask_next D m.low m.high now k m.first m.second off))

-- ---- all that an ask has to make
-- the test for x, by the mask that the ask ends with
abbrev pub Apart : List ℕ → ℕ → ℕ → Bool
Apart ws goal x = (not (held ws (key x 0)) && named goal (key x 0)) && differs ws x

any-apart : (ws : List ℕ) → Right ws → (d e goal : ℕ) → goal ≡ mask_with 6 (dim ws) (get_or ws 1 0) (key d e) → (a b : Bool) → a ≡ Apart ws goal 1 → b ≡ Apart ws goal 2
    → (a || b) ≡ any_of (λ x. has_to_make ws d e x && differs ws x) (up_to 3)
unfolding any_of up_to
any-apart ws r d e goal g a b p q = rw (p, q, each 1, each 2, none, or-none (has_to_make ws d e 2 && differs ws 2))
  where
    each : (x : ℕ) → Apart ws goal x ≡ (has_to_make ws d e x && differs ws x)
    each x = unfold has_to_make in rw (asked-held ws (record { frame = r.frame; rows = r.rows }) d e (key x 0), g)

    none : (has_to_make ws d e 0 && differs ws 0) ≡ false
    none = ap (λ (b : Bool). has_to_make ws d e 0 && b) (sym (differs-vertices ws 0 refl)) ∙ and-off (has_to_make ws d e 0)

    or-none : (b : Bool) → (b || false) ≡ b
    or-none true = refl
    or-none false = refl

-- ---- as the code goes through them
module _ (ws : List ℕ) (d e D m k : ℕ) (p : D ≡ dim ws) (q : m ≡ get_or ws 1 0) (s : k ≡ key d e) where
  pub goal-is : (goal : ℕ) → goal ≡ mask_with 6 D m k → goal ≡ mask_with 6 (dim ws) (get_or ws 1 0) (key d e)
  goal-is goal g = rw (p, q, s) at g

  pub maskable : Right ws → d ≤ dim ws → e ≤ dim ws → Maskable D m k
  maskable r a b =
      let f = framed ws r.frame in
      let l : e < 4 = omega (arith, f.high) in
      record {
        low = omega (arith, f.low);
        high = omega (arith, f.high);
        small = rw q f.mask;
        first = rw (s, key-div d e l, p) a;
        second = rw (s, key-mod d e l, p) b;
      }

module _ (ws : List ℕ) (r : Right ws) (d e goal : ℕ) (g : goal ≡ mask_with 6 (dim ws) (get_or ws 1 0) (key d e)) where
  pub any-first : true ≡ Apart ws goal 1 → true ≡ any_of (λ x. has_to_make ws d e x && differs ws x) (up_to 3)
  any-first p = any-apart ws r d e goal g true (Apart ws goal 2) p refl

  pub any-second : false ≡ Apart ws goal 1 → (b : Bool) → b ≡ Apart ws goal 2 → b ≡ any_of (λ x. has_to_make ws d e x && differs ws x) (up_to 3)
  any-second p b q = any-apart ws r d e goal g false b p q
