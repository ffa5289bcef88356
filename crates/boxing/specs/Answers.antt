-- The ends of the box that is given, none where there is none.
use Rattle.std.specs.Prelude.{List, [], Option, Some, None, Float}
use Rattle.boxes.specs.declared.shapes.Bounds.{Bounds}
use Rattle.boxes.specs.Growing.{ends_of}

-- the ends of a box, if there is one
abbrev pub some_ends : Option Bounds → List Float
some_ends None = []
some_ends (Some b) = ends_of b
