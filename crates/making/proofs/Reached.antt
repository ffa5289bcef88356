-- On the way to key k: each make goes one relation further, or shows that Ask does not fit; and the way back.
use mathlib.Core.Path.{◌≡◌, refl, sym, ◌∙◌}
use mathlib.Core.Bool.{Bool, true, false, not}
use mathlib.Core.List.{List, [], ◌∷◌}
use Prim.Native.Nat.{ℕ, ◌+◌, ◌-◌, ◌/◌, ◌%◌, ◌^◌, ◌≤◌, ◌<◌}
use native.Mathlib.Omega.{arith}
use lib.ListN.{length, get_or, take}
use lib.Dec.{leb}
use borrow.Author.Tests.{le-leb, lt-leb, leb-true, leb-false}
use Rattle.rules.specs.Lists.{filled}
use Rattle.rules.specs.Book.{dim, key, named, held, Right}
use Rattle.rules.specs.Calls.{added}
use Rattle.rules.specs.Steps.{next_key, given_back}
use Rattle.rules.proofs.Masks.{pow_pos}
use Rattle.rules.proofs.FrameRule.{Framed, framed}
use Rattle.rules.proofs.Needs.{key-again}
use Rattle.rules.proofs.LoadedWords.{get_or-filled}
use Rattle.rules.proofs.Growing.{Grown, Under, under-start, under-held, under-fits, under_more, under-stuck, next-new, next-needed, next-first, next-second, back-again}
use Rattle.std.specs.Prelude.{Result, Ok, Err, is_err}
use Rattle.kinds.specs.declared.refusals.Refusal.{Refusal}
use Rattle.settle.specs.Settled.{Leaves}
use Rattle.making.specs.Growth.{Makable, room_answer, grown, Askable, wanted, Keeps, Holds, answered}
use Rattle.making.proofs.Room.{room-fits, room-none, room-test}
use Rattle.making.proofs.Walk.{was-on, was-off}

-- a book with d→e made where it fits, by cases
grown-more : (ws : List ℕ) (d e : ℕ) → leb (length (added ws d e)) (length ws) ≡ true → grown ws d e ≡ filled (length ws) (added ws d e)
unfolding grown
grown-more ws d e q = rw q

grown-none : (ws : List ℕ) (d e : ℕ) → leb (length (added ws d e)) (length ws) ≡ false → grown ws d e ≡ ws
unfolding grown
grown-none ws d e q = rw q

second_word : (n : ℕ) (ws : List ℕ) (d e : ℕ) → get_or (filled n (added ws d e)) 1 0 ≡ get_or ws 1 0 + 2 ^ key d e
second_word n ws d e = get_or-filled n (added ws d e) 1 ∙ unfold added in refl

module _ (ws : List ℕ) (k : ℕ) (a : Askable ws k) where
  right : Right ws
  right = record { frame = a.frame; rows = a.rows }

  pub begins : Under ws k ws
  unfolding wanted
  begins = under-start ws k right a.alike

  module _ (vs : List ℕ) (u : Under ws k vs) where
    f : Framed vs
    f = framed vs u.right.frame

    pub near : (D : ℕ) → D ≡ dim vs → (D ≤ 3) × (k < 16)
    near D q = (omega (arith, f.high), omega (arith, a.first, u.dims, f.high))

    -- the next key, from D and word 1
    pub next-same : (D m y : ℕ) → D ≡ dim vs → m ≡ get_or vs 1 0 → y ≡ next_key 6 D (named m) k → y ≡ next_key 6 (dim vs) (held vs) k
    unfolding held
    next-same D m y p q e = rw (p, q) at e

    keeps : Keeps ws vs
    keeps = record {
      frame = u.right.frame;
      rows = u.right.rows;
      size = u.grown.size;
      first = u.grown.first;
      holds = u.grown.keeps;
      same = u.grown.rows;
    }

    -- it is held
    pub done : (b : Bool) → b ≡ held vs k → not b ≡ false → Holds ws k (Ok (record {})) vs
    unfolding wanted
    done b q o =
        let h : held vs k ≡ true = sym q ∙ was-on b o in
        record {
          fits = room-fits _ _ (le-leb _ _ (under-fits ws right k a.first a.second vs u h));
          words = λ t. under-held ws right k a.first a.second vs u h;
          keeps = keeps;
        }

    -- it is not
    module _ (b : Bool) (q : b ≡ held vs k) (o : not b ≡ true) (y : ℕ) (z : y ≡ next_key 6 (dim vs) (held vs) k) where
      off : held vs k ≡ false
      off = sym q ∙ was-off b o

      pub makable : Makable vs (y / 4) (y % 4)
      makable = record {
        frame = u.right.frame;
        rows = u.right.rows;
        first = rw z (next-first ws right k a.first a.second vs u off);
        second = rw z (next-second ws right k a.first a.second vs u off);
        new = rw (key-again y, z) (next-new ws right k a.first a.second vs u off);
        sources = rw z (next-needed ws right k a.first a.second vs u off);
      }

      module _ (us : List ℕ) (t : us ≡ grown vs (y / 4) (y % 4)) where
        pub stuck : (r : Refusal) → Err r ≡ room_answer (added vs (y / 4) (y % 4)) vs → Holds ws k (Err r) us
        unfolding wanted
        stuck r s =
            let x : leb (length (added vs (y / 4) (y % 4))) (length vs) ≡ false = room-test _ _ (Err r) s in
            let m : length vs < length (added vs (y / 4) (y % 4)) = leb-false (length (added vs (y / 4) (y % 4))) (length vs) x in
            let l = rw z at m in
            let e : us ≡ vs = t ∙ grown-none vs (y / 4) (y % 4) x in
            record {
              fits = s ∙ sym (room-none _ _ x) ∙ room-none _ _ (lt-leb _ _ (under-stuck ws right k a.first a.second vs u off l));
              words = λ t. cc;
              keeps = rw e keeps;
            }

        module _ (s : Ok (record {}) ≡ room_answer (added vs (y / 4) (y % 4)) vs) where
          fit : leb (length (added vs (y / 4) (y % 4))) (length vs) ≡ true
          fit = room-test _ _ (Ok (record {})) s

          more : us ≡ filled (length vs) (added vs (y / 4) (y % 4))
          more = t ∙ grown-more vs (y / 4) (y % 4) fit

          pub further : Under ws k us
          further =
              let m : length (added vs (y / 4) (y % 4)) ≤ length vs = leb-true (length (added vs (y / 4) (y % 4))) (length vs) fit in
              let l = rw z at m in
              rw (more, z) (under_more ws right k a.first a.second vs u off l)

          pub less : 2 ^ 16 - get_or us 1 0 < 2 ^ 16 - get_or vs 1 0
          less = rw (more, second_word) (omega (arith, f.mask, pow_pos (key (y / 4) (y % 4))))

  -- ---- the answer
  module _ (r : Result (Unit {0}) Refusal) (vs : List ℕ) (h : Holds ws k r vs) where
    test : leb (length (wanted ws k)) (length ws) ≡ not (is_err r)
    test = room-test _ _ r h.fits

    pub all_held : is_err r ≡ false → vs ≡ answered ws k
    unfolding answered
    all_held o =
        let z : leb (length (wanted ws k)) (length ws) ≡ true = test ∙ rw o in
        h.words (h.fits ∙ sym (room-fits _ _ z)) ∙ rw z

    module _ (o : is_err r ≡ true) where
      pub leaves : (m : ℕ) → m ≡ get_or ws 1 0 → Leaves vs m
      leaves m q = record {
        frame = h.keeps.frame;
        rows = h.keeps.rows;
        holds = λ j l. h.keeps.holds j (unfold held in rw q at l);
      }

      pub given-back : (head us : List ℕ) → head ≡ take 5 ws → us ≡ given_back head vs → us ≡ answered ws k
      unfolding answered
      given-back head us e q =
          let z : leb (length (wanted ws k)) (length ws) ≡ false = test ∙ rw o in
          let g : Grown ws vs = record { size = h.keeps.size; first = h.keeps.first; keeps = h.keeps.holds; rows = h.keeps.same } in
          let same : given_back head vs ≡ ws = rw e (back-again ws vs right g) in
          q ∙ (same ∙ rw z)

-- the five words of a head
pub five-words : (ws : List ℕ) → 5 ≤ length ws → (v w x y z : ℕ) → v ≡ get_or ws 0 0 → w ≡ get_or ws 1 0 → x ≡ get_or ws 2 0 → y ≡ get_or ws 3 0 → z ≡ get_or ws 4 0
    → v ∷ w ∷ x ∷ y ∷ z ∷ [] ≡ take 5 ws
five-words [] l v w x y z p q r s t = absurd (omega arith)
five-words (a ∷ []) l v w x y z p q r s t = absurd (omega arith)
five-words (a ∷ b ∷ []) l v w x y z p q r s t = absurd (omega arith)
five-words (a ∷ b ∷ c ∷ []) l v w x y z p q r s t = absurd (omega arith)
five-words (a ∷ b ∷ c ∷ d ∷ []) l v w x y z p q r s t = absurd (omega arith)
five-words (a ∷ b ∷ c ∷ d ∷ e ∷ ws) l v w x y z p q r s t = rw (p, q, r, s, t)
