-- The rim of a sheet as it is gathered: its edges, their ends, the vertices among these, and the file written from them.
use mathlib.Core.Path.{◌≡◌, refl, sym, ap, ap₂, ◌∙◌}
use mathlib.Core.Bool.{Bool, true}
use mathlib.Core.List.{List, [], ◌∷◌, ◌++◌, map, map-map, map-append, Memᴰ as In}
use Prim.Native.Nat.{ℕ, ◌+◌, ◌*◌, ◌^◌, ◌≤◌}
use native.Mathlib.Omega.{arith}
use lib.ListN.{length, drop, length-map}
use lib.Dec.{eqb, ltb}
use borrow.Author.Tests.{lt-ltb}
use Rattle.rules.specs.Lists.{up_to, all_of, keep, first_at, has, joined}
use Rattle.rules.specs.File.{length_of, head_length, put_file}
use Rattle.rules.specs.Book.{count}
use Rattle.rules.specs.Truth.{first_word}
use Rattle.rules.specs.Sheet.{ends_at, rim_edges_of, rim_vertices_of, rim_number, rim_mesh, rim_file, rim_length_of, Flat}
use Rattle.rules.proofs.Tests.{all-of, has_of}
use Rattle.rules.proofs.Keep.{keep-is, up_to-is}
use Rattle.rules.proofs.Numbered.{any-map}
use Rattle.rules.proofs.First.{keep_same}
use Rattle.rules.proofs.Members.{has-joined}
use Rattle.rules.proofs.Distinct.{map_is}
use Rattle.rules.proofs.Bits.{all-joined}
use Rattle.rules.proofs.FrameRule.{framed}
use Rattle.rules.proofs.Head.{head-length}
use Rattle.rules.proofs.Stored.{word-is, dims-back, count-back, length-file}
use Rattle.rules.proofs.Rim.{rim-cells, rim-below, rim-file, ends-below, ends-in, rim-stored, rim-put}

-- rows whose members are all changed, one after another
map-joined : (g : ℕ → ℕ) (rs : List (List ℕ)) → map g (joined rs) ≡ joined (map (map g) rs)
unfolding joined
map-joined g [] = refl
map-joined g (r ∷ rs) = map-append g r (joined rs) ∙ ap (λ (t : List ℕ). map g r ++ t) (map-joined g rs)

module _ (ws : List ℕ) (f : Flat ws) where
  -- the ends of the rim's edges, one edge after another
  abbrev pub all_ends : List ℕ
  all_ends = joined (map (ends_at ws) (rim_edges_of ws))

  -- all ends pass what each end of each of its edges does
  ends-pass : (p : ℕ → Bool) → ((k v : ℕ) → In k (rim_edges_of ws) → In v (ends_at ws k) → p v ≡ true) → all_of p all_ends ≡ true
  ends-pass p h =
      all-joined p (map (ends_at ws) (rim_edges_of ws))
      (all-of (all_of p) (map (ends_at ws) (rim_edges_of ws)) (λ r i. let (k, j, e) = map_is (ends_at ws) (rim_edges_of ws) i in rw e (all-of p (ends_at ws k) (λ v m. h k v j m))))

  pub edges-low : all_of (λ k. ltb k (count ws 1)) (rim_edges_of ws) ≡ true
  edges-low = all-of _ (rim_edges_of ws) (λ k i. lt-ltb k (count ws 1) (rim-below ws k i))

  vertices-most : count ws 0 ≤ 8192
  vertices-most = (framed ws f.frame).vertices

  pub ends_low : all_of (λ v. ltb v 8192) all_ends ≡ true
  ends_low = ends-pass (λ v. ltb v 8192) (λ k v i j. lt-ltb v 8192 (omega (arith, ends-below ws f k v (rim-below ws k i) j, vertices-most)))

  pub vertices-low : all_of (λ v. ltb v 8192) (rim_vertices_of ws) ≡ true
  unfolding rim_vertices_of
  vertices-low = all-of _ (rim_vertices_of ws) (λ v i. lt-ltb v 8192 (omega (arith, up_to-is v (count ws 0) (keep-is _ (up_to (count ws 0)) i).0, vertices-most)))

  pub ends-listed : all_of (λ v. has v (rim_vertices_of ws)) all_ends ≡ true
  ends-listed = ends-pass (λ v. has v (rim_vertices_of ws)) (λ k v i j. has_of (ends-in ws f k v i j))

  -- the vertices that they name are the rim's
  pub named-are : keep (λ v. has v all_ends) (up_to (count ws 0)) ≡ rim_vertices_of ws
  unfolding rim_vertices_of
  named-are = keep_same _ _ (count ws 0) (λ v l. has-joined v (map (ends_at ws) (rim_edges_of ws)) ∙ any-map (has v) (ends_at ws) (rim_edges_of ws))

  -- by their places they are the cells of the rim's file
  numbered-are : map (λ v. first_at (eqb v) (rim_vertices_of ws)) all_ends ≡ joined (rim_mesh ws).cells
  unfolding rim_number
  numbered-are = map-joined (rim_number ws) (map (ends_at ws) (rim_edges_of ws)) ∙ ap joined (map-map (map (rim_number ws)) (ends_at ws) (rim_edges_of ws) ∙ sym (rim-cells ws))

  -- the first 32 bits
  pub head-is : 2 ^ 30 * 1 + 2 ^ 16 * length (rim_vertices_of ws) + 2 ^ 3 * length (rim_edges_of ws) ≡ first_word (rim_mesh ws)
  unfolding first_word rim_mesh
  head-is = rw length-map

  module _ (few : length (rim_edges_of ws) ≤ 4096) where
    pub length-is : head_length (first_word (rim_mesh ws)) ≡ rim_length_of ws
    unfolding rim_length_of
    length-is =
        let m = rim_mesh ws in
        let s = rim-stored ws f few in
        ap head_length (sym (word-is m s)) ∙ head-length _ ∙ ap₂ length_of (dims-back m s) (count-back m s) ∙ sym (length-file m s) ∙ ap length (sym (rim-file ws))

    pub file-is : (bs : List ℕ) → rim_length_of ws ≤ length bs → put_file (first_word (rim_mesh ws)) (map (λ v. first_at (eqb v) (rim_vertices_of ws)) all_ends) bs ≡ rim_file ws ++ drop (rim_length_of ws) bs
    file-is bs l = ap (λ (vs : List ℕ). put_file (first_word (rim_mesh ws)) vs bs) numbered-are ∙ rim-put ws f few bs l
