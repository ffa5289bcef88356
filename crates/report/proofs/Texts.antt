-- A line, field by field; and loops that put one field or one line more in each turn.
use mathlib.Core.Path.{◌≡◌, refl, sym}
use mathlib.Core.Bool.{Bool, true, false, cond}
use mathlib.Core.List.{List, [], ◌∷◌, ◌++◌, map, append_assoc, append-nil, map-append}
use Prim.Native.Nat.{ℕ, ◌+◌, ◌/◌, ◌%◌, ◌<◌}
use native.Mathlib.Numerals.{add-one}
use lib.ListN.{length, get_or, take}
use lib.Seq.{take-suc}
use Rattle.rules.specs.Lists.{up_to, keep, joined}
use Rattle.rules.proofs.Joined.{map_last}
use Rattle.rules.proofs.First.{keep-last}
use Rattle.rules.proofs.Relation.{joined-append}
use Rattle.rules.specs.Book.{dim, count, total}
use Rattle.report.specs.Lines.{digits, spaced, line, mesh_line, relation_line, refused_line}
use Rattle.report.specs.declared.printer.Printer.{Printer}
use Rattle.report.specs.Printed.{Puts}
use Rattle.report.proofs.Putting.{puts_then}

-- ---- a text, one byte more
pub put-more : {m : ℕ} {p q r : Printer} (text : List ℕ) (i : ℕ) → i < length text
    → Puts m p (take i text) q → Puts 1 q (get_or text i 0 ∷ []) r → Puts (m + 1) p (take (i + 1) text) r
put-more text i h a b = rw (add-one i, take-suc text i 0 h) (puts_then a b)

-- ---- fields, one more
spaced-append : (xs ys : List (List ℕ)) → spaced (xs ++ ys) ≡ spaced xs ++ spaced ys
unfolding spaced
spaced-append [] ys = refl
spaced-append (x ∷ xs) ys = rw (spaced-append xs ys) (sym (append_assoc (32 ∷ x) (spaced xs) (spaced ys)))

spaced-last : (f : ℕ → List ℕ) (d : ℕ) → spaced (map f (up_to (d + 1))) ≡ spaced (map f (up_to d)) ++ (32 ∷ f d)
spaced-last f d = rw (map_last f d, spaced-append (map f (up_to d)) (f d ∷ [])) (unfold spaced in rw append-nil)

pub put-spaced : {m n : ℕ} {p q r : Printer} (f : ℕ → List ℕ) (d : ℕ)
    → Puts m p (spaced (map f (up_to d))) q → Puts n q (32 ∷ f d) r → Puts (m + n) p (spaced (map f (up_to (d + 1)))) r
put-spaced f d a b = rw (spaced-last f d) (puts_then a b)

-- ---- lines, one more if its relation is held
lines-one : (f : ℕ → List ℕ) (b : Bool) (k : ℕ) → joined (map f (cond b (k ∷ []) [])) ≡ cond b (f k) []
unfolding joined
lines-one f true k = append-nil (f k)
lines-one f false k = refl

lines-last : (f : ℕ → List ℕ) (h : ℕ → Bool) (k : ℕ)
    → joined (map f (keep h (up_to (k + 1)))) ≡ joined (map f (keep h (up_to k))) ++ cond (h k) (f k) []
lines-last f h k =
    rw (add-one k, keep-last h k, map-append f (keep h (up_to k)) (cond (h k) (k ∷ []) []), joined-append (map f (keep h (up_to k))) (map f (cond (h k) (k ∷ []) [])), lines-one f (h k) k)

pub put-lines : {m n : ℕ} {p q r : Printer} (f : ℕ → List ℕ) (h : ℕ → Bool) (k : ℕ)
    → Puts m p (joined (map f (keep h (up_to k)))) q → Puts n q (cond (h k) (f k) []) r → Puts (m + n) p (joined (map f (keep h (up_to (k + 1))))) r
put-lines f h k a b = rw (lines-last f h k) (puts_then a b)

-- ---- a line: its first field, further fields, the newline
put_first : {m : ℕ} {p q : Printer} {f : List ℕ} → Puts m p f q → Puts m p (f ++ spaced []) q
unfolding spaced
put_first {f = f} a = rw (append-nil f) a

module _ {m n : ℕ} {p q r : Printer} (f : List ℕ) (fs : List (List ℕ)) (a : Puts m p (f ++ spaced fs) q) where
  put-fields : (gs : List (List ℕ)) → Puts n q (spaced gs) r → Puts (m + n) p (f ++ spaced (fs ++ gs)) r
  put-fields gs b = rw (spaced-append fs gs, ← append_assoc f (spaced fs) (spaced gs)) (puts_then a b)

  put_next : (g : List ℕ) → Puts n q (32 ∷ g) r → Puts (m + n) p (f ++ spaced (fs ++ (g ∷ []))) r
  put_next g b = put-fields (g ∷ []) (unfold spaced in rw (append-nil g) b)

  put-end : Puts n q (10 ∷ []) r → Puts (m + n) p (line (f ∷ fs)) r
  unfolding line
  put-end b = rw (← append_assoc f (spaced fs) (10 ∷ [])) (puts_then a b)

-- d, d', N_d, number of indices
pub put-relation-line : (ws : List ℕ) (k n t : ℕ) → n ≡ count ws (k / 4) → t ≡ total ws k → {p q r s u v : Printer} → Puts 10 p (digits (k / 4)) q
    → Puts 11 q (32 ∷ digits (k % 4)) r → Puts 11 r (32 ∷ digits n) s → Puts 11 s (32 ∷ digits t) u → Puts 1 u (10 ∷ []) v → Puts 44 p (relation_line ws k) v
unfolding relation_line
put-relation-line ws k n t e g a b c d z =
    rw (← e, ← g)
    (put-end (digits (k / 4)) (digits (k % 4) ∷ digits n ∷ digits t ∷ [])
    (put_next (digits (k / 4)) (digits (k % 4) ∷ digits n ∷ [])
    (put_next (digits (k / 4)) (digits (k % 4) ∷ [])
    (put_next (digits (k / 4)) [] (put_first a) (digits (k % 4)) b) (digits n) c) (digits t) d) z)

-- "mesh", then D and N_0 to N_D
pub put-mesh-line : (ws : List ℕ) (n : ℕ) → n ≡ dim ws → {p q r s u : Printer} → Puts 4 p (109 ∷ 101 ∷ 115 ∷ 104 ∷ []) q → Puts 11 q (32 ∷ digits n) r
    → Puts 44 r (spaced (map (λ (d : ℕ). digits (count ws d)) (up_to (dim ws + 1)))) s → Puts 1 s (10 ∷ []) u → Puts 60 p (mesh_line ws) u
unfolding mesh_line
put-mesh-line ws n e a b c z =
    let mesh : List ℕ = 109 ∷ 101 ∷ 115 ∷ 104 ∷ [] in
    let counts : List (List ℕ) = map (λ (d : ℕ). digits (count ws d)) (up_to (dim ws + 1)) in
    put-end mesh (digits (dim ws) ∷ counts) (put-fields mesh (digits (dim ws) ∷ []) (put_next mesh [] (put_first a) (digits (dim ws)) (rw e at b)) counts c) z

-- "refused" and the number
pub put-refused-line : (n : ℕ) {p q r s : Printer} → Puts 7 p (114 ∷ 101 ∷ 102 ∷ 117 ∷ 115 ∷ 101 ∷ 100 ∷ []) q → Puts 11 q (32 ∷ digits n) r → Puts 1 r (10 ∷ []) s → Puts 19 p (refused_line n) s
unfolding refused_line
put-refused-line n a b c =
    let word : List ℕ = 114 ∷ 101 ∷ 102 ∷ 117 ∷ 115 ∷ 101 ∷ 100 ∷ [] in
    put-end word (digits n ∷ []) (put_next word [] (put_first a) (digits n) b) c
