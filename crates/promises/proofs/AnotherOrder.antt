-- Cells sent in another order: what cannot differ, read off the two meshes and the two true books.
use mathlib.Core.Path.{◌≡◌, refl, sym, ap, ◌∙◌}
use mathlib.Core.Bool.{true, ◌&&◌, ◌||◌}
use mathlib.Core.Logic.{inl, inr}
use mathlib.Core.List.{List, [], ◌∷◌, Memᴰ as In}
use Prim.Native.Nat.{ℕ, ◌+◌, ◌^◌, ◌/◌, ◌%◌, ◌≤◌, ◌<◌}
use native.Mathlib.Omega.{arith}
use lib.ListN.{length}
use lib.Dec.{eqb}
use borrow.Author.Tests.{eqb-true}
use Rattle.rules.specs.Lists.{up_to, has}
use Rattle.rules.specs.Book.{count, key, named, held, mentions, row_of, rows_of, relation, relation_words}
use Rattle.rules.specs.Calls.{loaded}
use Rattle.rules.specs.Truth.{Mesh, mesh_of, entities, number, entity, true_rows}
use Rattle.rules.specs.SameCells.{SameCells}
use Rattle.rules.specs.Steps.{mask_with}
use Rattle.promises.specs.Plan.{words_for, make_plan, ask_plan, mask_after, answers_plan, drop_plan}
use Rattle.promises.specs.AnotherOrder.{SameByVertices, MeshesSame, FilesCells, FilesSame, FilesRoom, SameOrder, BooksSame}
use Rattle.rules.proofs.Tests.{both, or_cases, any-is}
use Rattle.rules.proofs.Numbered.{any-agree}
use Rattle.rules.proofs.FrameRule.{framed}
use Rattle.rules.proofs.Accepted.{Loads, loads, load-room, plains}
use Rattle.rules.proofs.RightBook.{relation-is}
use Rattle.rules.proofs.TrueRows.{has-incident, vertex-rows}
use Rattle.rules.proofs.TrueFacts.{one_place}
use Rattle.rules.proofs.TrueBook.{true_used, true-length, book-count}
use Rattle.rules.proofs.TrueLoad.{mesh-dims, mesh-vertices, mesh-cells, true-loaded}
use Rattle.rules.proofs.SameCells.{partner, same-entities, same_numbers, same-euler, same_points, same-incidence}
use Rattle.rules.proofs.SameRoom.{same-room}
use Rattle.promises.proofs.Kept.{Kept, kept-held, kept-dim, kept-right, kept-used, kept-masks, reached-kept}
use Rattle.promises.proofs.DemandThree.{first_count, second-count, row-true, rows_true}
use Rattle.promises.proofs.Euler.{euler-true}
use Rattle.promises.proofs.Planned.{make-planned, ask-planned, drop-planned}
use Rattle.promises.proofs.Listed.{answers-planned}
use Rattle.promises.proofs.Plain.{same-mesh, plain-true}
use Rattle.promises.proofs.EntityVertices.{tells-below, entity-count, entity-vertices}

-- ---- two meshes
words-used : (m : Mesh) (mask : ℕ) → words_for m mask ≡ true_used m mask
unfolding words_for
words-used m mask = let e = true-length m mask 0 in omega arith

pub meshes-same : MeshesSame
meshes-same m n c once other = record {
  sets = same-entities m n c;
  counts = same_numbers m n c once other;
  euler = same-euler m n c once other;
  points = ap relation (same_points m n c);
  partner = λ d i l. let (k, x, e) = partner m n c d i l in (k, x, e, λ h y q. one_place n other d h k y x (q ∙ sym e));
  incidence = same-incidence m n c once other;
  room = λ mask. words-used m mask ∙ same-room m n c once other mask ∙ sym (words-used n mask);
}

-- the numbers planned for Make, Ask, a list of asks and Drop
make-plan : (m n : Mesh) → SameCells m n → SameByVertices m n → (l mask d e : ℕ) → make_plan l m mask d e ≡ make_plan l n mask d e
unfolding make_plan
make-plan m n c s l mask d e = rw (s.room (mask + 2 ^ key d e), c.dims)

ask-plan : (m n : Mesh) → SameCells m n → SameByVertices m n → (l mask d e : ℕ) → ask_plan l m mask d e ≡ ask_plan l n mask d e
unfolding ask_plan
ask-plan m n c s l mask d e = rw (s.room (mask_with 6 m.dims mask (key d e)), c.dims)

mask-plan : (m n : Mesh) → SameCells m n → SameByVertices m n → (l mask d e : ℕ) → mask_after l m mask d e ≡ mask_after l n mask d e
unfolding mask_after
mask-plan m n c s l mask d e = rw (ask-plan m n c s l mask d e, c.dims)

answers-plan : (m n : Mesh) → SameCells m n → SameByVertices m n → (l mask : ℕ) (ps : List ℕ) → answers_plan l m mask ps ≡ answers_plan l n mask ps
unfolding answers_plan
answers-plan m n c s l mask [] = refl
answers-plan m n c s l mask (d ∷ []) = refl
answers-plan m n c s l mask (d ∷ e ∷ ps) = rw (ask-plan m n c s l mask d e, mask-plan m n c s l mask d e, answers-plan m n c s l (mask_after l n mask d e) ps)

drop-plan : (m n : Mesh) → SameCells m n → (mask d e : ℕ) → drop_plan m mask d e ≡ drop_plan n mask d e
unfolding drop_plan
drop-plan m n c mask d e = rw c.dims

-- ---- two files
pub files-cells : FilesCells
files-cells f g s = record {
  dims = rw (mesh-dims f, mesh-dims g) s.dims;
  vertices = rw (mesh-vertices f, mesh-vertices g) s.vertices;
  cells = rw (mesh-cells f, mesh-cells g) s.cells;
}

pub files-same : FilesSame
files-same f g s =
    meshes-same (mesh_of f) (mesh_of g) (files-cells f g s) (rw (mesh-cells f) (loads f s.book s.accepted).unlike) (rw (mesh-cells g) (loads g s.other_book s.other_accepted).unlike)

-- the words that a file takes
file-words : (f ws : List ℕ) → Loads f ws → length (loaded f) ≡ words_for (mesh_of f) (2 ^ key (mesh_of f).dims 0)
unfolding words_for
file-words f ws a = ap length (true-loaded f ws a)

pub files-room : FilesRoom
files-room f g s us vs l =
    let x = loads f s.book s.accepted in
    let y = loads g s.other_book s.other_accepted in
    let e : length (loaded f) ≡ length (loaded g) =
    file-words f s.book x ∙ (files-same f g s).room (2 ^ key (mesh_of f).dims 0)
    ∙ ap (λ (D : ℕ). words_for (mesh_of g) (2 ^ key D 0)) (files-cells f g s).dims ∙ sym (file-words g s.other_book y) in
    load-room f s.book us x ∙ rw (l, e) (sym (load-room g s.other_book vs y))

pub same-order : SameOrder
unfolding mesh_of
same-order f g d v c = rw (d, v, c)

-- ---- one book: what it tells is the mesh's
module _ (m : Mesh) (ws : List ℕ) (k : Kept m ws) where
  -- a dimension that some relation held names is one of the mesh's, and its count is the mesh's
  named_count : (d : ℕ) → mentions (held ws) d ≡ true → count ws d ≡ number m d
  named_count d h =
      ap (λ (w : List ℕ). count w d) k.words ∙ book-count m k.formed k.mask (length ws) d (below (any-is _ (up_to 16) (unfold mentions in h))) (λ p. rw (← mentioned) h)
    where
      mentioned : mentions (held ws) d ≡ mentions (named k.mask) d
      mentioned = unfold mentions in any-agree (λ j. held ws j && (eqb (j / 4) d || eqb (j % 4) d)) (λ j. named k.mask j && (eqb (j / 4) d || eqb (j % 4) d)) (up_to 16) (λ j i. rw (kept-held m ws k j))

      below : (j : ℕ) × In j (up_to 16) × ((held ws j && (eqb (j / 4) d || eqb (j % 4) d)) ≡ true) → d ≤ m.dims
      below t =
          let (j, i, q) = t in
          let (a, b) = both (held ws j) (eqb (j / 4) d || eqb (j % 4) d) q in
          let n = sym (kept-held m ws k j) ∙ a in
          elim (or_cases (eqb (j / 4) d) (eqb (j % 4) d) b) [
            | inl x ↦ rw (eqb-true (j / 4) d x) at (k.proper.first j n)
            | inr y ↦ rw (eqb-true (j % 4) d y) at (k.proper.second j n)
          ]

  -- the words of a relation held are those of the true relation
  held-words : (d e : ℕ) → e ≤ m.dims → held ws (key d e) ≡ true → relation_words ws (key d e) ≡ relation (true_rows m d e)
  unfolding relation_words
  held-words d e l h =
      let g = kept-right m ws k in
      relation-is ws (framed ws g.frame) g.rows (key d e) h ∙ ap relation (rows_true m ws k d e l h)

  -- the rows of d→0 are the entities
  held-sets : (d : ℕ) → 0 < d → held ws (key d 0) ≡ true → rows_of ws (key d 0) ≡ entities m d
  held-sets d p h = rows_true m ws k d 0 (omega arith) h ∙ vertex-rows m k.formed d p (tells-below m ws k d (λ q. h))

-- ---- two books
-- a relation that both hold lists two pairs with the same vertices alike
listed : (m n : Mesh) → SameCells m n → (ws vs : List ℕ) → Kept m ws → Kept n vs → (d e i j k l : ℕ) → e ≤ m.dims → e ≤ n.dims
    → held ws (key d e) ≡ true → held vs (key d e) ≡ true → i < count ws d → j < count ws e → k < count vs d → l < count vs e
    → entity m d i ≡ entity n d k → entity m e j ≡ entity n e l → has j (row_of ws (key d e) i) ≡ has l (row_of vs (key d e) k)
listed m n c ws vs a b d e i j k l u v h o li lj lk ll p q =
    let i' : i < number m d = rw (first_count m ws a d e u h) at li in
    let j' : j < number m e = rw (second-count m ws a d e u h) at lj in
    let k' : k < number n d = rw (first_count n vs b d e v o) at lk in
    let l' : l < number n e = rw (second-count n vs b d e v o) at ll in
    ap (has j) (row-true m ws a d e u h i i') ∙ has-incident m d e i j j'
    ∙ same-incidence m n c a.formed.unlike b.formed.unlike d e i j k l i' j' k' l' p q
    ∙ sym (ap (has l) (row-true n vs b d e v o k k') ∙ has-incident n d e k l l')

pub books-same : BooksSame
books-same m n c ws vs r t =
    let a = reached-kept m ws r in
    let b = reached-kept n vs t in
    let s = meshes-same m n c a.formed.unlike b.formed.unlike in
    let f = same-mesh m ws r in
    let g = same-mesh n vs t in record {
      meshes = rw (f, g) s;
      sets = λ d p h o. rw (held-sets m ws a d p h, held-sets n vs b d p o) (s.sets d);
      counts = λ d h o. named_count m ws a d h ∙ s.counts d ∙ sym (named_count n vs b d o);
      euler = λ y z. euler-true m ws r y ∙ s.euler ∙ sym (euler-true n vs t z);
      points = λ h o. held-words m ws a 0 0 (omega arith) h ∙ s.points ∙ sym (held-words n vs b 0 0 (omega arith) o);
      partner = λ d i u v l.
          let y = entity-count n vs b d v in
          let p = entity-vertices m ws a d i u l in
          let (k, x, e, only) = s.partner d i (rw (entity-count m ws a d u) at l) in
          let z : k < count vs d = rw y x in
          (k, z, entity-vertices n vs b d k v z ∙ e ∙ sym p, λ h w q. only h (rw y at w) (sym (entity-vertices n vs b d h v w) ∙ q ∙ p));
      incidence = λ d e i j k l z h o li lj lk ll p q.
          let u : e ≤ m.dims = rw (kept-dim m ws a) at z in
          let v : e ≤ n.dims = rw (← c.dims) u in
          listed m n c ws vs a b d e i j k l u v h o li lj lk ll (rw (f, g) at p) (rw (f, g) at q);
      listed = λ d e i j k l h o td te sd se li lj lk ll p q.
          listed m n c ws vs a b d e i j k l (tells-below m ws a e te) (tells-below n vs b e se) h o li lj lk ll
          (sym (entity-vertices m ws a d i td li) ∙ p ∙ entity-vertices n vs b d k sd lk)
          (sym (entity-vertices m ws a e j te lj) ∙ q ∙ entity-vertices n vs b e l se ll);
      plain = λ d e i j k l y z p q.
          let u = plains ws d e i j y in
          let v = plains vs d e k l z in
          plain-true m ws r d e i j y
          ∙ s.incidence d e i j k l (rw f at u.below) (rw f at u.other) (rw g at v.below) (rw g at v.other) (rw (f, g) at p) (rw (f, g) at q)
          ∙ sym (plain-true n vs t d e k l z);
      room = λ h.
          kept-used m ws a ∙ same-room m n c a.formed.unlike b.formed.unlike a.mask
          ∙ ap (true_used n) (kept-masks m n ws vs a b h) ∙ sym (kept-used n vs b);
      numbers = λ h l d e ps.
          let q = kept-masks m n ws vs a b h in (
            make-planned m ws a d e ∙ rw (l, q) (make-plan m n c s (length vs) b.mask d e) ∙ sym (make-planned n vs b d e),
            ask-planned m ws a d e ∙ rw (l, q) (ask-plan m n c s (length vs) b.mask d e) ∙ sym (ask-planned n vs b d e),
            drop-planned m ws a d e ∙ rw q (drop-plan m n c b.mask d e) ∙ sym (drop-planned n vs b d e),
            answers-planned m ps ws a ∙ rw (l, q) (answers-plan m n c s (length vs) b.mask ps) ∙ sym (answers-planned n ps vs b),
          );
    }
