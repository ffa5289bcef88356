-- On a book as in demand 3: the closures that are written for the faces of a tetrahedron with no masked vertex cancel.
use mathlib.Core.Path.{◌≡◌, refl, sym, ap, ◌∙◌, subst}
use mathlib.Core.Bool.{true, false}
use mathlib.Core.List.Memᴰ
use mathlib.Core.List.Memᴰ.{head as here}
use mathlib.Core.List.Memᴰ.{tail as there}
use mathlib.Core.List.{List, [], ◌∷◌, Memᴰ as In}
use Prim.Native.Nat.{ℕ, ◌<◌}
use native.Mathlib.Omega.{arith}
use lib.ListN.{length, get_or}
use lib.Dec.{T}
use lib.IntN.{ℤ, pos}
use lib.Ieee.{Float}
use Rattle.rules.specs.Lists.{ascends, has}
use Rattle.rules.specs.Book.{key, held, count, row_of}
use Rattle.rules.specs.Truth.{Mesh, number, entity}
use Rattle.rules.specs.Phases.{masked, phased, counted}
use Rattle.rules.specs.Closures.{count_at, face_closure, close_number, closures_after}
use Rattle.rules.proofs.Tests.{inside_of, all-place}
use Rattle.rules.proofs.Accepted.{closes}
use Rattle.rules.proofs.PhaseCounts.{unmasked, closures-cancel}
use Rattle.rules.proofs.TrueRows.{good, vertex-row, number-low}
use Rattle.promises.specs.Faces.{FaceOf, Cancelled, FacesCancel}
use Rattle.promises.proofs.Kept.{Kept, kept-held, reached-kept}
use Rattle.promises.proofs.DemandThree.{first_count, second-count, row-true}
use Rattle.promises.proofs.FaceEdges.{sub-entity, listed-inside, three_up, four-apart}
use Rattle.promises.proofs.StepsAgree.{faces, face-row, closure-at}

module _ (m : Mesh) (ws : List ℕ) (k : Kept m ws) (counts closures : List ℤ) (steps : List Float) (bytes : List ℕ)
    (z : close_number ws counts (length closures) (length steps) (length bytes) ≡ 0) (three : m.dims ≡ 3) where
  -- the cells are held
  cells-held : held ws (key 3 0) ≡ true
  cells-held = kept-held m ws k (key 3 0) ∙ rw three at k.proper.top

  cells : count ws 3 ≡ number m 3
  cells = first_count m ws k 3 0 (omega arith) cells-held

  cell_row : (i : ℕ) → i < number m 3 → row_of ws (key 3 0) i ≡ entity m 3 i
  cell_row i l = row-true m ws k 3 0 (omega arith) cells-held i l ∙ vertex-row m k.formed 3 i (omega arith) (omega (arith, three)) l

  -- a cell's vertex has a count, and it may be lent
  phase : (i v : ℕ) → i < number m 3 → In v (entity m 3 i) → masked (get_or counts v (pos 0)) ≡ false → T (phased (get_or counts v (pos 0)))
  phase i v l j u =
      let p = closes ws counts (length closures) (length steps) (length bytes) z in
      let n : length counts ≡ m.vertices = p.a-vertex ∙ second-count m ws k 3 0 (omega arith) cells-held ∙ number-low m in
      let b : v < length counts = rw n ((good m k.formed 3 i (omega arith) (omega (arith, three)) l).below v j) in
      unmasked (get_or counts v (pos 0)) (subst T (sym (all-place counted counts (pos 0) p.lent v b)) tt) u

  -- three of its vertices are a face
  record Face (i p q r : ℕ) : Type 0 where
    face : ℕ
    is : FaceOf ws i p q r face
    closure : get_or (closures_after ws counts closures steps bytes) face (pos 0) ≡ face_closure counts (p ∷ q ∷ r ∷ [])

  face-of : (i p q r : ℕ) → i < number m 3 → ascends (p ∷ q ∷ r ∷ []) ≡ true → In p (entity m 3 i) → In q (entity m 3 i) → In r (entity m 3 i) → Face i p q r
  face-of i p q r l up a b c =
      let (f, n, e) = sub-entity m k.formed 2 3 i (p ∷ q ∷ r ∷ []) (omega arith) (omega (arith, three)) (omega arith) (omega (arith, three)) l up refl all in
      let w : row_of ws (key 2 0) f ≡ p ∷ q ∷ r ∷ [] = face-row m ws k counts closures steps bytes z f n ∙ e in
      let x : f < count ws 2 = rw (faces m ws k counts closures steps bytes z) n in
      record {
        face = f;
        is = record {
          below = x;
          corners = w;
          listed = λ h. ap (has f) (row-true m ws k 3 2 (omega (arith, three)) h i l) ∙ listed-inside m k.formed 3 2 i f (omega arith) n ∙ rw e (inside_of (p ∷ q ∷ r ∷ []) (entity m 3 i) all);
        };
        closure = closure-at m ws k counts closures steps bytes z f x ∙ ap (face_closure counts) w;
      }
    where
      all : (v : ℕ) → In v (p ∷ q ∷ r ∷ []) → In v (entity m 3 i)
      all v (here e) = rw e a
      all v (there (here e)) = rw e b
      all v (there (there (here e))) = rw e c
      all v (there (there (there n))) = absurd (Memᴰ.not-nil n)

  four-faces : (i a b c d : ℕ) → i < number m 3 → entity m 3 i ≡ a ∷ b ∷ c ∷ d ∷ []
      → masked (get_or counts a (pos 0)) ≡ false → masked (get_or counts b (pos 0)) ≡ false → masked (get_or counts c (pos 0)) ≡ false → masked (get_or counts d (pos 0)) ≡ false
      → Cancelled ws (closures_after ws counts closures steps bytes) i a b c d
  unfolding face_closure count_at
  four-faces i a b c d l e A B C D =
      let (x, y, w) = four-apart a b c d (ap ascends (sym e) ∙ (good m k.formed 3 i (omega arith) (omega (arith, three)) l).up) in
      let first : In a (entity m 3 i) = rw e (here refl) in
      let second : In b (entity m 3 i) = rw e (there (here refl)) in
      let third : In c (entity m 3 i) = rw e (there (there (here refl))) in
      let fourth : In d (entity m 3 i) = rw e (there (there (there (here refl)))) in
      let bcd = face-of i b c d l (three_up b c d y w) second third fourth in
      let acd = face-of i a c d l (three_up a c d (omega (arith, x, y)) w) first third fourth in
      let abd = face-of i a b d l (three_up a b d x (omega (arith, y, w))) first second fourth in
      let abc = face-of i a b c l (three_up a b c x y) first second third in
      record {
        bcd = bcd.face;
        acd = acd.face;
        abd = abd.face;
        abc = abc.face;
        without_a = bcd.is;
        without_b = acd.is;
        without_c = abd.is;
        without_d = abc.is;
        none = rw (bcd.closure, acd.closure, abd.closure, abc.closure)
            (closures-cancel (get_or counts a (pos 0)) (get_or counts b (pos 0)) (get_or counts c (pos 0)) (get_or counts d (pos 0)) (phase i a l first A) (phase i b l second B) (phase i c l third C) (phase i d l fourth D));
      }

pub faces-cancel : FacesCancel
faces-cancel m ws r counts closures steps bytes z three i a b c d l e A B C D =
    let k = reached-kept m ws r in
    let n : i < number m 3 = rw (cells m ws k counts closures steps bytes z three) at l in
    four-faces m ws k counts closures steps bytes z three i a b c d n (sym (cell_row m ws k counts closures steps bytes z three i n) ∙ e) A B C D
