-- Each test that holds leaves the rest of the frame rule, and one that fails decides it.
use mathlib.Core.Path.{◌≡◌, refl, ◌∙◌}
use native.Mathlib.Omega.{arith}
use borrow.Author.Tests.{le-leb, lt-leb}
use lib.ListN.{length}
use Rattle.rules.proofs.AnyWords.{dim-most}
use Rattle.frame.proofs.SoFar.{made, not_made, to_head, to_mask, to_keys, to_cells, to_edges, to_faces, used_right, whole_frame}
use Rattle.frame.proofs.frame_right.Goals.{Joined-count_right, then-book-ge-HEAD, else-book-ge-HEAD, then-head_right, else-head_right, then-word-lt-MASKS, else-word-lt-MASKS, then-keys_right, else-keys_right, then-held, else-held, then-count_right, else-count_right}
use Rattle.frame.proofs.frame_right.Goals as goal

pub key-requires : goal.key-requires
key-requires c = let m = dim-most c.args.book.now (λ i. (c.type_inv.book i).fits) in (omega (arith, m, c.dim.ensures), omega arith)

module _ (c : Joined-count_right) where
  headed : c.if-book-ge-HEAD.value ≡ to_head c.args.book.now
  headed = elim c.if-book-ge-HEAD.branch [
    | then-book-ge-HEAD w ↦ rw (le-leb 5 (length c.args.book.now) w.if-book-ge-HEAD.true) (w.value-is ∙ w.head_right.ensures)
    | else-book-ge-HEAD w ↦ let f = lt-leb 5 (length c.args.book.now) w.if-book-ge-HEAD.false in rw f (w.value-is ∙ f)
  ]

  masked : c.if-head_right.value ≡ to_mask c.args.book.now
  masked = elim c.if-head_right.branch [
    | then-head_right w ↦ made headed w.if-head_right.true (w.value-is ∙ rw w.word.ensures)
    | else-head_right w ↦ not_made _ headed w.if-head_right.false w.value-is
  ]

  keyed : c.if-word-lt-MASKS.value ≡ to_keys c.args.book.now
  keyed = elim c.if-word-lt-MASKS.branch [
    | then-word-lt-MASKS w ↦ made masked w.if-word-lt-MASKS.true (w.value-is ∙ w.keys_right.ensures)
    | else-word-lt-MASKS w ↦ not_made _ masked w.if-word-lt-MASKS.false w.value-is
  ]

  celled : c.if-keys_right.value ≡ to_cells c.args.book.now
  celled = elim c.if-keys_right.branch [
    | then-keys_right w ↦ made keyed w.if-keys_right.true (w.value-is ∙ w.held.ensures ∙ rw (w.key.ensures, w.dim.ensures))
    | else-keys_right w ↦ not_made _ keyed w.if-keys_right.false w.value-is
  ]

  edged : c.if-held.value ≡ to_edges c.args.book.now
  edged = elim c.if-held.branch [
    | then-held w ↦ made celled w.if-held.true (w.value-is ∙ w.count_right.ensures)
    | else-held w ↦ not_made _ celled w.if-held.false w.value-is
  ]

  faced : c.if-count_right.value ≡ to_faces c.args.book.now
  faced = elim c.if-count_right.branch [
    | then-count_right w ↦ made edged w.if-count_right.true (w.value-is ∙ w.count_right-then-count_right.ensures)
    | else-count_right w ↦ not_made _ edged w.if-count_right.false w.value-is
  ]

pub returns-then-count_right-2 : goal.returns-then-count_right-2
returns-then-count_right-2 c =
    made (faced (goal.at.returns-then-count_right-2 c).Joined-count_right) c.if-count_right-2.true c.used_right.ensures ∙ whole_frame c.args.book.now

pub returns-else-count_right-2 : goal.returns-else-count_right-2
returns-else-count_right-2 c =
    let b = c.args.book.now in
    not_made (used_right b) (faced (goal.at.returns-else-count_right-2 c).Joined-count_right) c.if-count_right-2.false refl ∙ whole_frame b
