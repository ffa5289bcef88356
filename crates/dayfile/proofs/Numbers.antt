-- The numbers of vertices: as many as the vertices, read and set one by one; vertices are known by them.
use mathlib.Core.Path.{◌≡◌, refl, sym, ap, ◌∙◌}
use mathlib.Core.List.{List, [], ◌∷◌, map}
use Prim.Native.Nat.{ℕ, zero, suc}
use lib.ListN.{length, get_or, set, length-map, get_or-map}
use Rattle.kinds.specs.declared.Vertex.{Vertex}
use Rattle.dayfile.specs.Numbers.{numbers}

pub length-numbers : (vs : List Vertex) → length (numbers vs) ≡ length vs
unfolding numbers
length-numbers vs = length-map vs (λ v. v.0)

pub number_at : (vs : List Vertex) (i : ℕ) → get_or (numbers vs) i 0 ≡ (get_or vs i (record { 0 = 0 })).0
unfolding numbers
number_at vs i = get_or-map (λ v. v.0) vs i (record { 0 = 0 })

pub number-set : (vs : List Vertex) (i : ℕ) (v : Vertex) → numbers (set vs i v) ≡ set (numbers vs) i v.0
unfolding numbers
number-set [] i v = refl
number-set (w ∷ vs) zero v = refl
number-set (w ∷ vs) (suc i) v = ap (λ (ns : List ℕ). w.0 ∷ ns) (number-set vs i v)

-- two lists of vertices with the same numbers are the same
vertex : ℕ → Vertex
vertex n = record { 0 = n }

known : (vs : List Vertex) → map vertex (numbers vs) ≡ vs
unfolding numbers vertex
known [] = refl
known (v ∷ vs) = ap (λ (ws : List Vertex). v ∷ ws) (known vs)

pub numbers-same : (us vs : List Vertex) → numbers us ≡ numbers vs → us ≡ vs
numbers-same us vs e = sym (known us) ∙ ap (map vertex) e ∙ known vs
