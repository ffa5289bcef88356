-- Document 02, "Cells sent in another order": what cannot differ between two meshes with the same cells, between two accepted files, and between any two books reached from them.
use Rattle.std.specs.Prelude.{◌≡◌, true, false, List, map, ℕ, ◌≤◌, ◌<◌, length, get_or}
use Rattle.rules.specs.Lists.{has, repeats, sorted}
use Rattle.rules.specs.File.{file_dim, file_vertices, cells_in_file}
use Rattle.rules.specs.Book.{dim, key, held, mentions, count, row_of, rows_of, relation, relation_words}
use Rattle.rules.specs.Calls.{load_number, make_number, ask_number, drop_number, answers_of, euler_number, euler_of}
use Rattle.rules.specs.Boxes.{vertices_of}
use Rattle.rules.specs.Truth.{Mesh, mesh_of, entities, number, entity, incident, true_rows, true_euler}
use Rattle.rules.specs.Plain.{mesh_in, plain_number, plain_yes}
use Rattle.rules.specs.Sequence.{Reached}
use Rattle.rules.specs.SameCells.{same_sets, SameCells}
use Rattle.promises.specs.Plan.{words_for}

-- ==== two meshes
-- one number, and no other, below n that has what is looked for
abbrev pub Only : ℕ → (ℕ → Type 0) → Type 0
Only n P = (k : ℕ) × (k < n) × P k × ((l : ℕ) → l < n → P l → l ≡ k)

-- the same but for the numbers of entities
pub record SameByVertices (m n : Mesh) : Type 0 where
  -- the entity vertex sets of each dimension are the same sets
  pub sets : (d : ℕ) → same_sets (entities m d) (entities n d) ≡ true
  -- every N_d is equal
  pub counts : (d : ℕ) → number m d ≡ number n d
  -- the Euler number is equal
  pub euler : true_euler m ≡ true_euler n
  -- the words of 0→0 are equal
  pub points : relation (true_rows m 0 0) ≡ relation (true_rows n 0 0)
  -- each entity of one has one with the same vertices in the other, and only one
  pub partner : (d i : ℕ) → i < number m d → Only (number n d) (λ k. entity n d k ≡ entity m d i)
  -- two entities are incident in one exactly when those with the same vertices are in the other
  pub incidence : (d e i j k l : ℕ) → i < number m d → j < number m e → k < number n d → l < number n e
      → entity m d i ≡ entity n d k → entity m e j ≡ entity n e l → incident m d e i j ≡ incident n d e k l
  -- the same set of relations takes as many words
  pub room : (mask : ℕ) → words_for m mask ≡ words_for n mask

-- two meshes, no cell twice in either, with the same cells
abbrev pub MeshesSame : Type 0
MeshesSame = (m n : Mesh) → SameCells m n → repeats m.cells ≡ false → repeats n.cells ≡ false → SameByVertices m n

-- ==== two files
-- two accepted files, each in some book, with equal D, N_0 and set of cells as vertex sets
pub record SameFiles (f g : List ℕ) : Type 0 where
  pub book : List ℕ
  pub accepted : load_number f book ≡ 0
  pub other_book : List ℕ
  pub other_accepted : load_number g other_book ≡ 0
  pub dims : file_dim f ≡ file_dim g
  pub vertices : file_vertices f ≡ file_vertices g
  pub cells : same_sets (map sorted (cells_in_file f)) (map sorted (cells_in_file g)) ≡ true

-- their meshes have the same cells
abbrev pub FilesCells : Type 0
FilesCells = (f g : List ℕ) → SameFiles f g → SameCells (mesh_of f) (mesh_of g)

-- and are the same by vertices
abbrev pub FilesSame : Type 0
FilesSame = (f g : List ℕ) → SameFiles f g → SameByVertices (mesh_of f) (mesh_of g)

-- where the order of the cells is the same too, and at most the order of the vertices within a cell is another, the mesh is the same
abbrev pub SameOrder : Type 0
SameOrder = (f g : List ℕ) → file_dim f ≡ file_dim g → file_vertices f ≡ file_vertices g → map sorted (cells_in_file f) ≡ map sorted (cells_in_file g) → mesh_of f ≡ mesh_of g

-- in books of the same length Load gives both the same number
abbrev pub FilesRoom : Type 0
FilesRoom = (f g : List ℕ) → SameFiles f g → (us vs : List ℕ) → length us ≡ length vs → load_number f us ≡ load_number g vs

-- ==== two books
-- the book tells the vertices of the entities of dimension d: a vertex is its own, and else d→0 is held
abbrev pub Tells : List ℕ → ℕ → Type 0
Tells ws d = 0 < d → held ws (key d 0) ≡ true

-- the same but for the numbers of entities
pub record BooksByVertices (ws vs : List ℕ) : Type 0 where
  -- the meshes of their cells, whatever else is held
  pub meshes : SameByVertices (mesh_in ws) (mesh_in vs)
  -- the rows of d→0 are the same sets
  pub sets : (d : ℕ) → 0 < d → held ws (key d 0) ≡ true → held vs (key d 0) ≡ true → same_sets (rows_of ws (key d 0)) (rows_of vs (key d 0)) ≡ true
  -- N_d is equal where both hold a relation that names d
  pub counts : (d : ℕ) → mentions (held ws) d ≡ true → mentions (held vs) d ≡ true → count ws d ≡ count vs d
  -- the Euler number that both calls give is equal
  pub euler : euler_number ws ≡ 0 → euler_number vs ≡ 0 → euler_of ws ≡ euler_of vs
  -- the words of 0→0 are equal
  pub points : held ws (key 0 0) ≡ true → held vs (key 0 0) ≡ true → relation_words ws (key 0 0) ≡ relation_words vs (key 0 0)
  -- each entity whose vertices both tell has one with the same vertices in the other, and only one
  pub partner : (d i : ℕ) → Tells ws d → Tells vs d → i < count ws d → Only (count vs d) (λ k. vertices_of vs d k ≡ vertices_of ws d i)
  -- where both hold d→e, one lists a pair exactly when the other lists the pair with the same vertices
  pub incidence : (d e i j k l : ℕ) → e ≤ dim ws → held ws (key d e) ≡ true → held vs (key d e) ≡ true
      → i < count ws d → j < count ws e → k < count vs d → l < count vs e
      → entity (mesh_in ws) d i ≡ entity (mesh_in vs) d k → entity (mesh_in ws) e j ≡ entity (mesh_in vs) e l
      → has j (row_of ws (key d e) i) ≡ has l (row_of vs (key d e) k)
  -- the same by the vertices that both tell
  pub listed : (d e i j k l : ℕ) → held ws (key d e) ≡ true → held vs (key d e) ≡ true
      → Tells ws d → Tells ws e → Tells vs d → Tells vs e → i < count ws d → j < count ws e → k < count vs d → l < count vs e
      → vertices_of ws d i ≡ vertices_of vs d k
      → vertices_of ws e j ≡ vertices_of vs e l → has j (row_of ws (key d e) i) ≡ has l (row_of vs (key d e) k)
  -- the plain engine, whatever is held, says the same of two entities as of those with the same vertices
  pub plain : (d e i j k l : ℕ) → plain_number ws d e i j ≡ 0 → plain_number vs d e k l ≡ 0
      → entity (mesh_in ws) d i ≡ entity (mesh_in vs) d k → entity (mesh_in ws) e j ≡ entity (mesh_in vs) e l
      → plain_yes ws d e i j ≡ plain_yes vs d e k l
  -- as many words are used where both hold the same relations
  pub room : ((k : ℕ) → k < 16 → held ws k ≡ held vs k) → get_or ws 4 0 ≡ get_or vs 4 0
  -- and where they are as long too, Make, Ask and Drop give the same numbers, and a list of asks the same answers
  pub numbers : ((k : ℕ) → k < 16 → held ws k ≡ held vs k) → length ws ≡ length vs → (d e : ℕ) (ps : List ℕ)
      → (make_number ws d e ≡ make_number vs d e) × (ask_number ws d e ≡ ask_number vs d e) × (drop_number ws d e ≡ drop_number vs d e) × (answers_of ws ps ≡ answers_of vs ps)

-- any two books reached from meshes with the same cells, whatever the calls
abbrev pub BooksSame : Type 0
BooksSame = (m n : Mesh) → SameCells m n → (ws vs : List ℕ) → Reached m ws → Reached n vs → BooksByVertices ws vs
