-- Document 02, "A plain engine beside it": what is promised of its answers on a book as in demand 3, drops and lists of asks included, and on any right book.
use Rattle.std.specs.Prelude.{◌≡◌, true, List, ℕ, ◌≤◌}
use Rattle.rules.specs.Lists.{has}
use Rattle.rules.specs.Book.{key, held, count, row_of, Right}
use Rattle.rules.specs.Calls.{find_number, find_found}
use Rattle.rules.specs.Truth.{Mesh, number, incident}
use Rattle.rules.specs.Plain.{mesh_in, plain_number, plain_yes}
use Rattle.rules.specs.Sequence.{Reached}

-- the mesh that it works from is the last accepted one
abbrev pub SameMesh : Type 0
SameMesh = (m : Mesh) (ws : List ℕ) → Reached m ws → mesh_in ws ≡ m

-- its own counts are N_d, for every d
abbrev pub PlainCounts : Type 0
PlainCounts = (m : Mesh) (ws : List ℕ) → Reached m ws → (d : ℕ) → number (mesh_in ws) d ≡ number m d

-- and the book's, on both sides of a relation held
abbrev pub BookCounts : Type 0
BookCounts = (m : Mesh) (ws : List ℕ) → Reached m ws → (d e : ℕ) → e ≤ m.dims → held ws (key d e) ≡ true
    → (number (mesh_in ws) d ≡ count ws d) × (number (mesh_in ws) e ≡ count ws e)

-- where d→e is held and the question is accepted, it says yes exactly when j is in row i
abbrev pub PlainAgrees : Type 0
PlainAgrees = (m : Mesh) (ws : List ℕ) → Reached m ws → (d e i j : ℕ) → held ws (key d e) ≡ true → plain_number ws d e i j ≡ 0
    → plain_yes ws d e i j ≡ has j (row_of ws (key d e) i)

-- held or not, an accepted question is answered yes exactly where (e, j) is truly incident to (d, i)
abbrev pub PlainTrue : Type 0
PlainTrue = (m : Mesh) (ws : List ℕ) → Reached m ws → (d e i j : ℕ) → plain_number ws d e i j ≡ 0 → plain_yes ws d e i j ≡ incident m d e i j

-- where d→e is held, it accepts and refuses as Find does, with the same number; and what Find accepts, both answer alike
abbrev pub PlainFinds : Type 0
PlainFinds = (m : Mesh) (ws : List ℕ) → Reached m ws → (d e i j : ℕ)
    → (held ws (key d e) ≡ true → plain_number ws d e i j ≡ find_number ws d e i j)
    × (find_number ws d e i j ≡ 0 → plain_yes ws d e i j ≡ find_found ws d e i j)

-- on any right books, whoever wrote them: the same D, N_0 and cells, the same number and the same answer, whatever else they hold
abbrev pub CellsAlone : Type 0
CellsAlone = (ws vs : List ℕ) → Right ws → Right vs → mesh_in ws ≡ mesh_in vs → (d e i j : ℕ)
    → (plain_number ws d e i j ≡ plain_number vs d e i j) × (plain_yes ws d e i j ≡ plain_yes vs d e i j)
