-- Two outcomes that a contract of this crate allows are equal.
use mathlib.Core.Path.{◌≡◌, sym, ap, ap₂, ◌∙◌}
use mathlib.Core.List.{List, ◌++◌}
use Prim.Native.Nat.{ℕ, ◌+◌, ◌*◌}
use native.Mathlib.Omega.{arith}
use lib.ListN.{take, drop, take-append-drop}
use lib.Seq.{drop-drop}
use Rattle.rules.specs.Lists.{joined}
use Rattle.rules.specs.File.{field, head_length, put_file}
use Rattle.rules.specs.Calls.{file_number, fault_cell}
use Rattle.repeats.specs.Rows.{row_at}
use Rattle.kinds.specs.declared.Vertex.{Vertex}
use Rattle.dayfile.specs.declared.shapes.Header.{Header}
use Rattle.dayfile.specs.declared.shapes.Corners.{Corners}
use Rattle.std.specs.Prelude.{Result}
use Rattle.kinds.specs.declared.refusals.Refusal.{Refusal}
use Rattle.dayfile.specs.Faults.{fault_of, head_number}
use Rattle.dayfile.specs.Numbers.{numbers}
use Rattle.dayfile.specs.Words.{Put}
use Rattle.dayfile.proofs.FourWords.{rows-joined}
use Rattle.dayfile.proofs.Numbers.{numbers-same}

-- the first 32 bits
pub headers-equal : (f : List ℕ) (h k : Header) → h.0 ≡ field f 0 32 → k.0 ≡ field f 0 32 → h ≡ k
headers-equal f h k e g = λ i. record { 0 = (e ∙ sym g) i }

-- what a head says of itself, by one of its definitions: D, N_0, N_D, the spare bits, the file's length
pub parts-equal : (part : ℕ → ℕ) (h : Header) (r s : ℕ) → r ≡ part h.0 → s ≡ part h.0 → r ≡ s
parts-equal part h r s e g = e ∙ sym g

-- a cell's vertices
pub corners-equal : (ns : List ℕ) (p q : Corners) → numbers p.vertices ≡ ns → numbers q.vertices ≡ ns → p ≡ q
corners-equal ns p q e g = λ i. record { vertices = numbers-same p.vertices q.vertices (e ∙ sym g) i }

-- vertices, by their numbers
pub vertices-equal : (ns : List ℕ) (p q : List Vertex) → numbers p ≡ ns → numbers q ≡ ns → p ≡ q
vertices-equal ns p q e g = numbers-same p q (e ∙ sym g)

-- the first fault of the head and the length
pub head-faults-equal : (f : List ℕ) (a b : Result (Unit {0}) Refusal) → a ≡ fault_of (head_number f) 0 → b ≡ fault_of (head_number f) 0 → a ≡ b
head-faults-equal f a b e g = e ∙ sym g

-- the first fault
pub faults-equal : (f : List ℕ) (a b : Result (Unit {0}) Refusal) → a ≡ fault_of (file_number f) (fault_cell f) → b ≡ fault_of (file_number f) (fault_cell f) → a ≡ b
faults-equal f a b e g = e ∙ sym g

-- the words in which cells are put down
pub puts-equal : (f was ws vs : List ℕ) (n : ℕ) → Put f was ws n → Put f was vs n → ws ≡ vs
puts-equal f was ws vs n p q =
    let e : take (4 * n) ws ≡ take (4 * n) vs = sym (rows-joined ws n) ∙ ap joined (p.rows ∙ sym q.rows) ∙ rows-joined vs n in
    sym (take-append-drop (4 * n) ws) ∙ ap₂ (λ (xs ys : List ℕ). xs ++ ys) e (p.rest ∙ sym q.rest) ∙ take-append-drop (4 * n) vs

-- the words after one cell is put down
split-row : (ws : List ℕ) (c : ℕ) → ws ≡ take (4 * c) ws ++ (row_at 4 ws c ++ drop (4 * (c + 1)) ws)
unfolding row_at
split-row ws c =
    let e : 4 * c + 4 ≡ 4 * (c + 1) = omega arith in
    sym (take-append-drop (4 * c) ws) ∙ ap (λ (xs : List ℕ). take (4 * c) ws ++ xs) (sym (take-append-drop 4 (drop (4 * c) ws)) ∙ rw (drop-drop, e))

pub one-put-equal : (was row ws vs : List ℕ) (c : ℕ) → (row_at 4 ws c ≡ row) × (take (4 * c) ws ≡ take (4 * c) was) × (drop (4 * (c + 1)) ws ≡ drop (4 * (c + 1)) was)
    → (row_at 4 vs c ≡ row) × (take (4 * c) vs ≡ take (4 * c) was) × (drop (4 * (c + 1)) vs ≡ drop (4 * (c + 1)) was) → ws ≡ vs
one-put-equal was row ws vs c p q = split-row ws c ∙ rw (p.0, p.1, p.2, ← q.0, ← q.1, ← q.2) (sym (split-row vs c))

-- the length that Write gives, and the bytes after it
pub files-equal : (h : Header) (vs bs : List ℕ) (r s : ℕ) (cs ds : List ℕ) → (r ≡ head_length h.0) × (cs ≡ put_file h.0 vs bs)
    → (s ≡ head_length h.0) × (ds ≡ put_file h.0 vs bs) → (r ≡ s) × (cs ≡ ds)
files-equal h vs bs r s cs ds e g = (e.0 ∙ sym g.0, e.1 ∙ sym g.1)
