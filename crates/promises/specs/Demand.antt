-- Demand 3, part by part, and the round trip: what is promised of a book after any sequence of calls, and of any right book.
use Rattle.std.specs.Prelude.{◌≡◌, true, false, cond, not, ◌||◌, List, [], ◌∷◌, map, ℕ, ◌+◌, ◌-◌, ◌*◌, ◌/◌, ◌%◌, ◌^◌, ◌≤◌, ◌<◌, length, get_or, take, eqb, ℤ, Float}
use Rattle.rules.specs.Lists.{any_of, all_of, has, inside, sorted}
use Rattle.rules.specs.File.{file_dim, file_vertices, cells_in_file}
use Rattle.rules.specs.Book.{key, named, held, count, row_of, rows_of, frame_right, rows_right, needs}
use Rattle.rules.specs.Calls.{load_number, load_words, make_number, make_words, ask_number, ask_words, answers_of, words_of, list_number, list_answers, list_words, row_number, row_part, find_number, find_found, written, write_number, euler_number, alternating, euler_of, held_number, drop_number, drop_words}
use Rattle.rules.specs.Closures.{close_number}
use Rattle.rules.specs.Boxes.{box_number, whole_number}
use Rattle.rules.specs.Sheet.{sheet_answer, sheet_number}
use Rattle.rules.specs.Plain.{plain_number}
use Rattle.rules.specs.Truth.{Mesh, mesh_of, number, incident, true_rows, true_euler, true_book}
use Rattle.rules.specs.Sequence.{State, ask_list, after, after_all, asks_of, Reached}
use Rattle.promises.specs.Plan.{words_for, make_plan, ask_plan, answers_plan, row_plan, find_plan, write_plan, euler_plan, close_plan, box_plan, whole_plan, drop_plan, plain_plan}
use Rattle.promises.specs.SheetPlan.{sheet_plan}

-- ==== demand 3, part by part
-- every relation held is the true incidence of the last accepted mesh
abbrev pub HeldTrue : Type 0
HeldTrue = (m : Mesh) (ws : List ℕ) → Reached m ws → (k : ℕ) → held ws k ≡ true → rows_of ws k ≡ true_rows m (k / 4) (k % 4)

-- the edges, the faces and the cells are all different vertex sets
abbrev pub Different : Type 0
Different = (m : Mesh) (ws : List ℕ) → Reached m ws → (d i j : ℕ) → 0 < d → d ≤ m.dims → held ws (key d 0) ≡ true
    → i < count ws d → j < count ws d → row_of ws (key d 0) i ≡ row_of ws (key d 0) j → i ≡ j

-- and each edge and face that is no cell lies inside some cell
abbrev pub InSomeCell : Type 0
InSomeCell = (m : Mesh) (ws : List ℕ) → Reached m ws → (d i : ℕ) → 0 < d → d < m.dims → held ws (key d 0) ≡ true
    → i < count ws d → any_of (inside (row_of ws (key d 0) i)) m.cells ≡ true

-- where a relation and its reverse are both held, one lists a pair exactly when the other does
abbrev pub BothWays : Type 0
BothWays = (m : Mesh) (ws : List ℕ) → Reached m ws → (d e i j : ℕ) → d ≤ m.dims → e ≤ m.dims → held ws (key d e) ≡ true → held ws (key e d) ≡ true
    → i < count ws d → j < count ws e → has j (row_of ws (key d e) i) ≡ has i (row_of ws (key e d) j)

-- every index of a relation held is a valid row number in its own dimension, and that dimension's count is the mesh's
abbrev pub Valid : Type 0
Valid = (m : Mesh) (ws : List ℕ) → Reached m ws → (d e i j : ℕ) → d ≤ m.dims → e ≤ m.dims → held ws (key d e) ≡ true
    → i < count ws d → has j (row_of ws (key d e) i) ≡ true → (j < count ws e) × (count ws e ≡ number m e)

-- the same of every index that Row gives out, whatever it is asked
abbrev pub GivenOut : Type 0
GivenOut = (m : Mesh) (ws : List ℕ) → Reached m ws → (d e i j : ℕ) → has j (row_part ws d e i) ≡ true → (j < count ws e) × (count ws e ≡ number m e)

-- Find says yes exactly where (e, j) is truly incident to (d, i)
abbrev pub FoundTrue : Type 0
FoundTrue = (m : Mesh) (ws : List ℕ) → Reached m ws → (d e i j : ℕ) → find_number ws d e i j ≡ 0 → find_found ws d e i j ≡ incident m d e i j

-- the Euler number is the mesh's, whatever else is held and whatever calls led there
abbrev pub EulerTrue : Type 0
EulerTrue = (m : Mesh) (ws : List ℕ) → Reached m ws → euler_number ws ≡ 0 → euler_of ws ≡ true_euler m

-- points nobody uses change nothing: meshes with the same D and the same cells, whatever their N_0, have one Euler number
abbrev pub UnusedPoints : Type 0
UnusedPoints = (m n : Mesh) (ws vs : List ℕ) → Reached m ws → Reached n vs → m.dims ≡ n.dims → m.cells ≡ n.cells
    → euler_number ws ≡ 0 → euler_number vs ≡ 0 → euler_of ws ≡ euler_of vs

-- where every point lies in some cell, it is what document 01 has, with the file's N_0
abbrev pub AllUsed : Type 0
AllUsed = (m : Mesh) (ws : List ℕ) → Reached m ws → ((v : ℕ) → v < m.vertices → any_of (has v) m.cells ≡ true)
    → euler_of ws ≡ alternating m.dims (count ws 0) (count ws)

-- the words of the book depend only on its length, that mesh and which relations are held
abbrev pub Determined : Type 0
Determined = (m : Mesh) (ws : List ℕ) → Reached m ws → ws ≡ true_book (length ws) m (get_or ws 1 0)

-- the same of two books: equal length, mesh and relations held make equal words
abbrev pub Alike : Type 0
Alike = (m : Mesh) (ws vs : List ℕ) → Reached m ws → Reached m vs → length ws ≡ length vs → ((k : ℕ) → k < 16 → held ws k ≡ held vs k) → ws ≡ vs

-- the frame rule and the row rule hold, and no call gives 10, 11 or 25
abbrev pub NothingElse : Type 0
NothingElse = (m : Mesh) (ws : List ℕ) → Reached m ws → (frame_right ws ≡ true) × (rows_right ws ≡ true) × ((d e i j : ℕ) (bs : List ℕ) (counts : List ℤ) (closures steps bytes : ℕ) (coordinates : List Float) (axes acrosses rim vertices edges : ℕ)
    → all_of (λ n. not (eqb n 10 || eqb n 11 || eqb n 25)) (make_number ws d e ∷ ask_number ws d e ∷ drop_number ws d e ∷ row_number ws d e i ∷ find_number ws d e i j ∷ write_number ws bs ∷ euler_number ws ∷ held_number ws ∷ close_number ws counts closures steps bytes ∷ box_number ws coordinates axes d i ∷ whole_number ws coordinates axes ∷ sheet_number ws acrosses rim vertices edges ∷ plain_number ws d e i j ∷ []) ≡ true)

-- nor does any answer of a list of asks
abbrev pub ListedFine : Type 0
ListedFine = (m : Mesh) (ws : List ℕ) → Reached m ws → (ps : List ℕ) → all_of (λ n. not (eqb n 10 || eqb n 11 || eqb n 25)) (answers_of ws ps) ≡ true

-- the mask is the set of relations that the book holds
pub record Holds (ws : List ℕ) (mask : ℕ) : Type 0 where
  pub small : mask < 2 ^ 16
  pub names : (k : ℕ) → k < 16 → named mask k ≡ held ws k

-- each call's number, and with a sheet's refusal what it carries, is the one planned from the book's length, the mesh and the set of relations held
abbrev pub Planned : Type 0
Planned = (m : Mesh) (ws : List ℕ) → Reached m ws → (mask : ℕ) → Holds ws mask → (d e i j : ℕ) (bs : List ℕ) (counts : List ℤ) (closures steps bytes : ℕ) (coordinates : List Float) (axes acrosses rim vertices edges : ℕ)
    → (make_number ws d e ≡ make_plan (length ws) m mask d e)
    × (ask_number ws d e ≡ ask_plan (length ws) m mask d e)
    × (drop_number ws d e ≡ drop_plan m mask d e)
    × (row_number ws d e i ≡ row_plan m mask d e i)
    × (find_number ws d e i j ≡ find_plan m mask d e i j)
    × (write_number ws bs ≡ write_plan (length bs) m)
    × (euler_number ws ≡ euler_plan m mask)
    × (held_number ws ≡ 0)
    × (close_number ws counts closures steps bytes ≡ close_plan m mask counts closures steps bytes)
    × (box_number ws coordinates axes d i ≡ box_plan m mask coordinates axes d i)
    × (whole_number ws coordinates axes ≡ whole_plan m coordinates axes)
    × (sheet_answer ws acrosses rim vertices edges ≡ sheet_plan m mask acrosses rim vertices edges)
    × (plain_number ws d e i j ≡ plain_plan m d e i j)

-- and so is each answer of a list of asks
abbrev pub ListPlanned : Type 0
ListPlanned = (m : Mesh) (ws : List ℕ) → Reached m ws → (mask : ℕ) → Holds ws mask → (ps : List ℕ)
    → answers_of ws ps ≡ answers_plan (length ws) m mask ps

-- a list of asks is read as those asks: the state after it is the state after them, and a refused list leaves the state
abbrev pub ReadAsAsks : Type 0
ReadAsAsks = (s : State) (ps ns : List ℕ)
    → after s (ask_list ps ns) ≡ cond (eqb (list_number ps ns) 0) (after_all s (asks_of ps)) s

-- and each pair's answer is the number of its ask, on the book that the asks before it leave
abbrev pub AnsweredAsAsks : Type 0
AnsweredAsAsks = (ws ps ns : List ℕ) → list_number ps ns ≡ 0 → (i : ℕ) → i < length ns
    → get_or (list_answers ws ps ns) i 0 ≡ ask_number (words_of ws (take (2 * i) ps)) (get_or ps (2 * i) 0) (get_or ps (2 * i + 1) 0)

-- a relation dropped while all that it is made from is held: Make and Ask give the same words back
abbrev pub DroppedBack : Type 0
DroppedBack = (m : Mesh) (ws : List ℕ) → Reached m ws → (d e : ℕ) → drop_number ws d e ≡ 0 → all_of (held ws) (needs m.dims d e) ≡ true
    → (make_number (drop_words ws d e) d e ≡ 0) × (make_words (drop_words ws d e) d e ≡ ws)
    × (ask_number (drop_words ws d e) d e ≡ 0)
    × (ask_words (drop_words ws d e) d e ≡ ws)

-- the words of a relation that was dropped are free to the last one: the book is the true one of the smaller set, as long as planned, and zeros follow
abbrev pub Freed : Type 0
Freed = (m : Mesh) (ws : List ℕ) → Reached m ws → (mask : ℕ) → Holds ws mask → (d e : ℕ) → drop_number ws d e ≡ 0
    → (drop_words ws d e ≡ true_book (length ws) m (mask - 2 ^ key d e))
    × (get_or (drop_words ws d e) 4 0 ≡ words_for m (mask - 2 ^ key d e))
    × ((i : ℕ) → words_for m (mask - 2 ^ key d e) ≤ i → get_or (drop_words ws d e) i 0 ≡ 0)

-- ==== books that somebody else wrote
-- on any book whose frame and rows are right, Make, Ask, a list of asks and Drop leave a book whose frame and rows are right
abbrev pub StaysRight : Type 0
StaysRight = (ws : List ℕ) → frame_right ws ≡ true → rows_right ws ≡ true → (d e : ℕ) (ps ns : List ℕ)
    → (frame_right (make_words ws d e) ≡ true) × (rows_right (make_words ws d e) ≡ true)
    × (frame_right (ask_words ws d e) ≡ true)
    × (rows_right (ask_words ws d e) ≡ true)
    × (frame_right (list_words ws ps ns) ≡ true)
    × (rows_right (list_words ws ps ns) ≡ true)
    × (frame_right (drop_words ws d e) ≡ true)
    × (rows_right (drop_words ws d e) ≡ true)

-- an accepted Drop takes that relation out alone: every other is held as before, with the same rows
abbrev pub OneLess : Type 0
OneLess = (ws : List ℕ) → frame_right ws ≡ true → rows_right ws ≡ true → (d e : ℕ) → drop_number ws d e ≡ 0
    → (held (drop_words ws d e) (key d e) ≡ false)
    × ((k : ℕ) → (k ≡ key d e → ⊥) → (held (drop_words ws d e) k ≡ held ws k) × (held ws k ≡ true → rows_of (drop_words ws d e) k ≡ rows_of ws k))

-- and what was made can be dropped again: the same words
abbrev pub MadeThenDropped : Type 0
MadeThenDropped = (ws : List ℕ) → frame_right ws ≡ true → rows_right ws ≡ true → (d e : ℕ) → make_number ws d e ≡ 0
    → (drop_number (make_words ws d e) d e ≡ 0) × (drop_words (make_words ws d e) d e ≡ ws)

-- ==== the round trip
-- from an accepted file: the file that Write gives has the same D and N_0, and the same cells in their order, each ascending
abbrev pub FileBack : Type 0
FileBack = (f ws : List ℕ) → load_number f ws ≡ 0
    → (file_dim (written (load_words f ws)) ≡ file_dim f) × (file_vertices (written (load_words f ws)) ≡ file_vertices f) × (cells_in_file (written (load_words f ws)) ≡ map sorted (cells_in_file f))

-- from any sequence of calls: the file that Write gives has the last accepted mesh, and a book that is as long accepts it
abbrev pub MeshBack : Type 0
MeshBack = (m : Mesh) (ws : List ℕ) → Reached m ws
    → (cells_in_file (written ws) ≡ m.cells) × (mesh_of (written ws) ≡ m) × ((vs : List ℕ) → length ws ≤ length vs → load_number (written ws) vs ≡ 0)

-- Load, Write, Load: in a book of the same length, the same words
abbrev pub WordsBack : Type 0
WordsBack = (f ws vs : List ℕ) → load_number f ws ≡ 0 → length vs ≡ length ws
    → (load_number (written (load_words f ws)) vs ≡ 0) × (load_words (written (load_words f ws)) vs ≡ load_words f ws)

-- Write never gives 18 for a buffer as long as a file from which the mesh was loaded
abbrev pub RoomToWrite : Type 0
RoomToWrite = (f us ws bs : List ℕ) → load_number f us ≡ 0 → Reached (mesh_of f) ws → length f ≤ length bs → write_number ws bs ≡ 0
