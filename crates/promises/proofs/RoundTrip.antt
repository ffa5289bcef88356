-- The round trip: what Write gives has the mesh that was loaded, and is accepted again.
use mathlib.Core.Path.{◌≡◌, sym, ap, ◌∙◌}
use mathlib.Core.List.{List}
use Prim.Native.Nat.{ℕ, ◌^◌, ◌≤◌}
use native.Mathlib.Omega.{arith}
use lib.ListN.{length}
use borrow.Author.Tests.{le-ltb}
use Rattle.rules.specs.File.{length_of, file_dim, file_cells}
use Rattle.rules.specs.Book.{key}
use Rattle.rules.specs.Calls.{first_broken, loaded, load_number, load_words, written}
use Rattle.rules.specs.Truth.{Mesh, mesh_of, true_book}
use Rattle.promises.specs.Plan.{write_plan}
use Rattle.promises.specs.Demand.{FileBack, MeshBack, WordsBack, RoomToWrite}
use Rattle.rules.proofs.Accepted.{length-filled, loads, load-accepted, accepts}
use Rattle.rules.proofs.TrueLoad.{mesh-dims, mesh-vertices, mesh-cells, cells_are, true-load}
use Rattle.rules.proofs.Stored.{file_of, dims-back, vertices-back, cells-back}
use Rattle.rules.proofs.Written.{stored, mesh-back, file-loads, book-written, book-room}
use Rattle.promises.proofs.Kept.{Kept, kept-fits, load_kept, reached-kept}
use Rattle.promises.proofs.Planned.{write-planned}

-- a kept book writes the file of its mesh
kept-written : (m : Mesh) (ws : List ℕ) → Kept m ws → written ws ≡ file_of m
kept-written m ws k = ap written k.words ∙ book-written m k.formed k.mask k.proper (length ws)

pub file-back : FileBack
file-back f ws h =
    let k = load_kept f ws h in
    let s = stored (mesh_of f) k.formed in
    rw (kept-written (mesh_of f) (load_words f ws) k)
    (dims-back (mesh_of f) s ∙ mesh-dims f, vertices-back (mesh_of f) s ∙ mesh-vertices f, cells-back (mesh_of f) s ∙ mesh-cells f)

pub mesh-again : MeshBack
mesh-again m ws r =
    let k = reached-kept m ws r in
    let s = k.formed in
    rw (kept-written m ws k)
    (cells-back m (stored m s), mesh-back m s, λ vs l. accepts (file_of m) vs (file-loads m s vs (omega (arith, book-room m s k.mask k.proper (length ws), kept-fits m ws k))))

-- the file that a kept book writes is accepted by every book that is as long
kept-accepted : (m : Mesh) (ws vs : List ℕ) (k : Kept m ws) → length ws ≤ length vs → load_number (file_of m) vs ≡ 0
kept-accepted m ws vs k l =
    accepts (file_of m) vs (file-loads m k.formed vs (omega (arith, book-room m k.formed k.mask k.proper (length ws), kept-fits m ws k)))

-- the words of an accepted load, from its mesh
load-words : (f ws : List ℕ) (h : load_number f ws ≡ 0) → load_words f ws ≡ true_book (length ws) (mesh_of f) (2 ^ key (mesh_of f).dims 0)
load-words f ws h = true-load f ws (loads f ws h) h

same_length : (f ws : List ℕ) → load_number f ws ≡ 0 → length (load_words f ws) ≡ length ws
same_length f ws h = ap length (load-accepted f ws h) ∙ length-filled (length ws) (loaded f) (loads f ws h).fits

pub words_back : WordsBack
words_back f ws vs h l =
    let k = load_kept f ws h in
    let w = kept-written (mesh_of f) (load_words f ws) k in
    let a : load_number (file_of (mesh_of f)) vs ≡ 0 = kept-accepted (mesh_of f) (load_words f ws) vs k (omega (arith, same_length f ws h)) in
    rw w (a, load-words (file_of (mesh_of f)) vs a ∙ rw (mesh-back (mesh_of f) k.formed, l) (sym (load-words f ws h)))

-- a buffer as long as the file has room
room : (f us bs : List ℕ) → load_number f us ≡ 0 → length f ≤ length bs → write_plan (length bs) (mesh_of f) ≡ 0
unfolding write_plan first_broken
room f us bs h l =
    let s : length f ≡ length_of (file_dim f) (file_cells f) = (loads f us h).size in
    rw (mesh-dims f, mesh-cells f, cells_are f, ← s, le-ltb (length bs) (length f) l)

pub room-to-write : RoomToWrite
room-to-write f us ws bs h r l = write-planned (mesh_of f) ws (reached-kept (mesh_of f) ws r) bs ∙ room f us bs h l
