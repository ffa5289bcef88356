-- A relation written row by row: the offsets so far, the rows so far, and the words not reached yet.
use mathlib.Core.Path.{◌≡◌, refl, sym, ap, ◌∙◌}
use mathlib.Core.List.{List, [], ◌∷◌, ◌++◌, map, append_assoc}
use Prim.Native.Nat.{ℕ, suc, ◌+◌, ◌-◌, ◌*◌, ◌≤◌, ◌<◌}
use native.Mathlib.Omega.{arith}
use lib.ListN.{length, take, drop, set, length-append, length-set, take-append-drop}
use lib.Seq.{take-suc-set, take-set-lt, take-set-le, drop-set-lt, take-take, drop-append-le, take_at, drop_at, length-take-le, slice_empty}
use Rattle.rules.specs.Lists.{up_to, joined}
use Rattle.rules.specs.Book.{offsets, relation}
use Rattle.rules.proofs.Numbered.{length-rows, get_d_rows}
use Rattle.rules.proofs.Slices.{take-front, drop-later}
use Rattle.rules.proofs.Relation.{length-offsets}
use Rattle.rules.proofs.Joined.{joined-more, offsets-more}
use Rattle.rules.proofs.WordsFit.{joined-short}
use Rattle.relations.specs.Words.{Written}

-- rows of fewer than 65536 members
pub rows_short : (r : ℕ → List ℕ) (i : ℕ) → ((k : ℕ) → k < i → length (r k) < 65536) → length (joined (map r (up_to i))) ≤ i * 65535
rows_short r i h =
    rw (length-rows r i) at
    (joined-short 65535 (map r (up_to i))
    (λ k l. let m : k < i = rw (length-rows r i) at l in rw (get_d_rows r i k [] m) (omega (arith, h k m))))

-- i rows of n are written; ws is as it was at entry, vs and at as they are now
pub record Filled (r : ℕ → List ℕ) (n dst : ℕ) (ws vs : List ℕ) (i at : ℕ) : Type 0 where
  pub size : length vs ≡ length ws
  pub count : at ≡ dst + n + 1 + length (joined (map r (up_to i)))
  pub front : take dst vs ≡ take dst ws
  pub heads : at ≤ length ws → take (dst + i + 1) vs ≡ take dst ws ++ offsets 0 (map r (up_to i))
  pub rows : at ≤ length ws → drop (dst + n + 1) (take at vs) ≡ joined (map r (up_to i))
  pub back : at ≤ length ws → drop at vs ≡ drop at ws

-- the first offset is 0
pub filled_none : (r : ℕ → List ℕ) (n dst : ℕ) (ws us : List ℕ) → us ≡ set ws dst 0 → Filled r n dst us us 0 (dst + n + 1)
unfolding joined up_to offsets
filled_none r n dst ws us q =
    let size : length us ≡ length ws = rw q (length-set ws dst 0) in
    record {
      size = refl;
      count = omega arith;
      front = refl;
      heads = λ l.
          let e : dst + 0 + 1 ≡ suc dst = omega arith in
          rw (e, q) (take-suc-set ws dst 0 (omega arith) ∙ ap (λ (p : List ℕ). p ++ (0 ∷ [])) (sym (take-set-le dst ws dst 0 (omega arith))));
      rows = λ l. slice_empty (dst + n + 1) us;
      back = λ l. refl;
    }

-- what was written over a first offset 0
pub written_over : (ws us vs : List ℕ) (dst : ℕ) (new : List ℕ) (at : ℕ) → us ≡ set ws dst 0 → dst < at → Written us dst new at vs
    → Written ws dst new at vs
written_over ws us vs dst new at q l w =
    record {
      place = w.place;
      front = w.front ∙ rw q (take-set-le dst ws dst 0 (omega arith));
      words = λ m.
          let s : length us ≡ length ws = rw q (length-set ws dst 0) in
          w.words (omega arith) ∙ rw (q, take-set-le dst ws dst 0 (omega arith), drop-set-lt at ws dst 0 l);
    }

module _ {r : ℕ → List ℕ} {n dst : ℕ} {ws vs : List ℕ} {i at : ℕ} (f : Filled r n dst ws vs i at) where
  module _ {us : List ℕ} {to : ℕ} (h : i < n) (s : length us ≡ length vs) (w : Written vs at (r i) to us) where
    pub filled-count : to ≡ dst + n + 1 + length (joined (map r (up_to (i + 1))))
    filled-count = rw (joined-more r i) (simp length-append (omega (arith, f.count, w.place)))

    pub filled_row : to - (dst + n + 1) ≡ length (joined (map r (up_to (i + 1))))
    filled_row = omega (arith, filled-count)

    sealed : (k : ℕ) → k ≤ at → take k us ≡ take k vs
    sealed k l = take-front us vs at w.front k l

    rising : at ≤ to
    rising = omega (arith, w.place)

    reached : to ≤ length ws → length (take at vs ++ r i) ≡ to
    reached l =
        length-append (take at vs) (r i) ∙ omega (arith, length-take-le at vs (omega (arith, rising, f.size)), w.place)

    written : to ≤ length ws → take to us ≡ take at vs ++ r i
    written l = rw (w.words (omega (arith, f.size))) (take_at (take at vs ++ r i) (drop to vs) to (reached l))

    kept : to ≤ length ws → drop to us ≡ drop to vs
    kept l = rw (w.words (omega (arith, f.size))) (drop_at (take at vs ++ r i) (drop to vs) to (reached l))

    pub filled_more : (x : ℕ) → x ≡ to - (dst + n + 1) → Filled r n dst ws (set us (dst + i + 1) x) (i + 1) to
    filled_more x e =
        let a : dst + n + 1 ≤ at = omega (arith, f.count) in
        let c : at ≤ to = rising in
        let z : length us ≡ length ws = s ∙ f.size in
        record {
          size = length-set us (dst + i + 1) x ∙ z;
          count = filled-count;
          front = take-set-le dst us (dst + i + 1) x (omega arith) ∙ sealed dst (omega arith) ∙ f.front;
          heads = λ l.
              let g : dst + (i + 1) + 1 ≡ suc (dst + i + 1) = omega arith in
              rw (g, offsets-more r i, ← filled_row, ← e)
              (take-suc-set us (dst + i + 1) x (omega arith)
              ∙ rw (sealed (dst + i + 1) (omega arith), f.heads (omega arith))
              (append_assoc (take dst ws) (offsets 0 (map r (up_to i))) (x ∷ [])));
          rows = λ l.
              rw (take-set-lt to us (dst + i + 1) x (omega arith), drop-set-lt (dst + n + 1) (take to us) (dst + i + 1) x (omega arith), written l)
              (drop-append-le (dst + n + 1) (take at vs) (r i) (omega (arith, length-take-le at vs (omega (arith, f.size))))
              ∙ rw (f.rows (omega arith)) (sym (joined-more r i)));
          back = λ l.
              drop-set-lt to us (dst + i + 1) x (omega arith) ∙ kept l ∙ drop-later vs ws at to c (f.back (omega arith));
        }

pub filled-all : (r : ℕ → List ℕ) (n dst : ℕ) (ws vs : List ℕ) (at : ℕ) → Filled r n dst ws vs n at
    → Written ws dst (relation (map r (up_to n))) at vs
unfolding relation
filled-all r n dst ws vs at f =
    let long : length (map r (up_to n)) ≡ n = length-rows r n in
    let whole : at ≤ length ws → take at vs ≡ take dst ws ++ relation (map r (up_to n)) =
    λ l.
    sym (take-append-drop (dst + n + 1) (take at vs))
    ∙ rw (f.rows l, take-take (dst + n + 1) at vs (omega (arith, f.count)), f.heads l)
    (append_assoc (take dst ws) (offsets 0 (map r (up_to n))) (joined (map r (up_to n)))) in
    record {
      place = simp length-append (omega (arith, f.count, long, length-offsets 0 (map r (up_to n))));
      front = f.front;
      words = λ l. sym (take-append-drop at vs) ∙ rw (whole l, f.back l);
    }
