-- What it means that a relation stands among the words of the book.
use Rattle.std.specs.Prelude.{◌≡◌, true, List, ℕ, ◌+◌, ◌/◌}
use Rattle.rules.specs.Book.{count, place, held, frame_right, rows_right}
use Rattle.sheets.specs.declared.stands.Stand.{Stand}

-- the book is right and holds the relation of this key: its offsets from its place on, its indices behind its N_d + 1 offsets
pub record Stands (ws : List ℕ) (at : Stand) : Type 0 where
  pub frame : frame_right ws ≡ true
  pub rows : rows_right ws ≡ true
  pub holds : held ws at.key ≡ true
  pub offsets : at.offsets.0 ≡ place ws at.key
  pub indices : at.indices.0 ≡ place ws at.key + count ws (at.key / 4) + 1
