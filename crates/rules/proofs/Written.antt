-- The file of a well-formed mesh: the mesh is read from it again, Load accepts it, and the true book writes it.
use mathlib.Core.Path.{◌≡◌, refl, ap, ◌∙◌}
use mathlib.Core.List.Memᴰ.{head as here}
use mathlib.Core.List.Memᴰ.{tail as there}
use mathlib.Core.List.{List, [], ◌∷◌, map, Memᴰ as In}
use Prim.Native.Nat.{ℕ, suc, ◌≤◌}
use native.Mathlib.Nat.{le_refl}
use native.Mathlib.Omega.{arith}
use lib.ListN.{length, get_or, length-append}
use Rattle.rules.specs.Lists.{sorted}
use Rattle.rules.specs.File.{twice, file_bytes}
use Rattle.rules.specs.Book.{key, named, rows_of, relation, relations}
use Rattle.rules.specs.Calls.{loaded, written}
use Rattle.rules.specs.Truth.{Mesh, mesh_of, first_word, true_at, true_book}
use Rattle.rules.proofs.Tests.{any_none}
use Rattle.rules.proofs.Sorted.{sorted-same, up-once}
use Rattle.rules.proofs.Needs.{key-div, key-mod}
use Rattle.rules.proofs.Assembled.{relations-held, relations-split}
use Rattle.rules.proofs.Accepted.{Loads}
use Rattle.rules.proofs.TrueRows.{Formed, number-top, entities-top, vertex-rows}
use Rattle.rules.proofs.Proper.{Proper}
use Rattle.rules.proofs.TrueBook.{true_head, true_used, own-rows, book-word, book-dim, book-rows, count-first}
use Rattle.rules.proofs.Stored.{Stored, file_bits, file_of, dims-back, vertices-back, cells-back, stored-loads}

pub map_same {ℓ} : {A : Type ℓ} (f : A → A) (xs : List A) → ((x : A) → In x xs → f x ≡ x) → map f xs ≡ xs
map_same f [] h = refl
map_same f (x ∷ xs) h = cc (h x (here refl), map_same f xs (λ y i. h y (there i)))

module _ (m : Mesh) (s : Formed m) where
  -- a well-formed mesh is one that a file may hold
  pub stored : Stored m
  stored = record { low = s.low; high = s.high; vertices = s.vertices; cells = s.cells; size = s.size; below = s.below }

  -- its cells ascend already
  in_order : map sorted m.cells ≡ m.cells
  in_order = map_same sorted m.cells (λ c i. sorted-same c (s.up c i))

  pub mesh-back : mesh_of (file_of m) ≡ m
  unfolding mesh_of
  mesh-back = rw (dims-back m stored, vertices-back m stored, cells-back m stored, in_order)

  pub file-loads : (ws : List ℕ) → length (loaded (file_of m)) ≤ length ws → Loads (file_of m) ws
  file-loads = stored-loads m stored (any_none twice m.cells (λ c i. up-once c (s.up c i))) (rw in_order s.unlike)

  -- ---- the true book writes it
  module _ (mask : ℕ) (c : Proper m.dims mask) (n : ℕ) where
    pub book-written : written (true_book n m mask) ≡ file_of m
    unfolding written file_bytes file_of file_bits
    book-written =
        let k = key m.dims 0 in
        let w : get_or (true_book n m mask) 0 0 ≡ first_word m = book-word m mask n 0 (omega arith) ∙ unfold true_head in refl in
        let r : rows_of (true_book n m mask) k ≡ m.cells
        = book-rows m s mask c n k c.top ∙ rw (key-div m.dims 0 (omega arith), key-mod m.dims 0 (omega arith)) (vertex-rows m s m.dims s.low (le_refl _) ∙ entities-top m s.low) in
        rw (book-dim m s mask n, count-first m s mask c m.dims 0 (omega arith) c.top n, number-top m s.low, w, r)

    -- and has room for it
    pub book-room : length (loaded (file_of m)) ≤ true_used m mask
    unfolding loaded true_used
    book-room =
        let k = key m.dims 0 in
        let t = relations-split (named mask) (true_at m) (suc k) 16 (unfold key in omega (arith, s.high)) in
        let o : true_at m k ≡ m.cells = own-rows m m.dims 0 (omega arith) ∙ vertex-rows m s m.dims s.low (le_refl _) ∙ entities-top m s.low in
        let p = ap length t.1 ∙ length-append (relations (named mask) (true_at m) (suc k)) t.0 in
        let q = ap length (relations-held (named mask) (true_at m) k c.top) ∙ length-append (relations (named mask) (true_at m) k) (relation (true_at m k)) in
        let u = ap (λ (rs : List (List ℕ)). length (relation rs)) o in
        rw (cells-back m stored, in_order) (omega arith)
