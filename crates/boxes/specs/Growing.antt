-- Boxes as the code has them: a point, a box begun as one and grown by one more, and the box's ends in the order of the rules.
use Rattle.std.specs.Prelude.{List, [], ◌∷◌, ℕ, Float}
use Rattle.std.specs.Float.Ieee.{lt}
use Rattle.rules.specs.Boxes.{greater, replaced, coordinate}
use Rattle.boxes.specs.declared.shapes.Point.{Point}
use Rattle.boxes.specs.declared.shapes.Bounds.{Bounds}

-- the point of vertex v
unfoldable pub point_of : ℕ → List Float → ℕ → Point
point_of axes coordinates v = record { x = coordinate axes coordinates 0 v; y = coordinate axes coordinates 1 v; z = coordinate axes coordinates 2 v }

-- the box of one point
unfoldable pub begins_as : Point → Bounds
begins_as p = record { least_x = p.x; greatest_x = p.x; least_y = p.y; greatest_y = p.y; least_z = p.z; greatest_z = p.z }

-- the box after one point more
unfoldable pub grown_by : Bounds → Point → Bounds
grown_by b p = record {
  least_x = replaced lt b.least_x p.x;
  greatest_x = replaced greater b.greatest_x p.x;
  least_y = replaced lt b.least_y p.y;
  greatest_y = replaced greater b.greatest_y p.y;
  least_z = replaced lt b.least_z p.z;
  greatest_z = replaced greater b.greatest_z p.z;
}

-- the ends of a box: least x, greatest x, least y, greatest y, least z, greatest z
unfoldable pub ends_of : Bounds → List Float
ends_of b = b.least_x ∷ b.greatest_x ∷ b.least_y ∷ b.greatest_y ∷ b.least_z ∷ b.greatest_z ∷ []
