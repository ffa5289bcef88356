-- When a relation can be made: what a maker of d→e may rely on, and where its sources stand.
use Rattle.std.specs.Prelude.{◌≡◌, true, List, ℕ, ◌≤◌, get_or}
use Rattle.rules.specs.Lists.{all_of}
use Rattle.relations.specs.declared.Source.{Source}
use Rattle.rules.specs.Book.{dim, count, key, held, place, needs, frame_right, rows_right}

-- the book is right, what d→e is made from is held, d→e is not D→0, and dst is the used length
pub record Ready (ws : List ℕ) (d e dst : ℕ) : Type 0 where
  pub frame : frame_right ws ≡ true
  pub rows : rows_right ws ≡ true
  pub first : d ≤ dim ws
  pub second : e ≤ dim ws
  pub sources : all_of (held ws) (needs (dim ws) d e) ≡ true
  pub below : d ≡ dim ws → e ≡ 0 → ⊥
  pub used : dst ≡ get_or ws 4 0

-- the source is d→e, where it stands in the book, with N_d rows of indices below N_e
pub record Stands (ws : List ℕ) (d e : ℕ) (source : Source) : Type 0 where
  pub from : source.from ≡ d
  pub to : source.to ≡ e
  pub at : source.at.0 ≡ place ws (key d e)
  pub rows : source.rows ≡ count ws d
  pub below : source.below ≡ count ws e
