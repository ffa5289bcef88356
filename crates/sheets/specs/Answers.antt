-- What the entities of a right book with D = 2 show, and the rim that is given, as numbers.
use Rattle.std.specs.Prelude.{List, [], ◌∷◌, ℕ, Result, Ok, Err}
use Rattle.rules.specs.Book.{count}
use Rattle.rules.specs.Calls.{first_broken}
use Rattle.rules.specs.Sheet.{unused, branched, unmatched, not_sheet}
use Rattle.kinds.specs.declared.refusals.NotSheet.{NotSheet}
use Rattle.kinds.specs.Refusals.{why_answer}
use Rattle.sheets.specs.declared.answers.Rim.{Rim}

-- the refusals that the entities of a right book with D = 2 decide, 0 alone where it is a sheet
unfoldable pub by_entities : List ℕ → List ℕ
by_entities ws =
    first_broken (not_sheet 2 (unused ws) (count ws 0) ∷ not_sheet 3 (branched ws) (count ws 1) ∷ not_sheet 4 (unmatched ws) (count ws 2) ∷ []) (0 ∷ [])

-- what the entities show: 0 for a sheet, or why it is not one
abbrev pub tested_answer : Result (Unit {0}) NotSheet → List ℕ
tested_answer (Ok u) = 0 ∷ []
tested_answer (Err w) = why_answer w

-- the rim that is given: the length of its file, and the numbers of its vertices and edges
abbrev pub rim_given : Rim → List ℕ
rim_given r = r.length ∷ r.vertices ∷ r.edges ∷ []
