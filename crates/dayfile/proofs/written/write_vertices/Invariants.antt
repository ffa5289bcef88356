-- The invariant: the bytes now, with the vertices from k on still to come, are the bytes at the start with all of them; past the end nothing is written.
use mathlib.Core.Path.{◌≡◌}
use lib.ListN.{length, drop}
use Rattle.rules.proofs.BitsWritten.{Bytes}
use Rattle.dayfile.specs.Fields.{with_fields}
use Rattle.dayfile.proofs.written.write_vertices.Given as goal

abbrev pub invariant-loop-vertex : goal.invariant-loop-vertex
invariant-loop-vertex l = (length l.bytes ≡ length l.initial.bytes) × Bytes l.bytes × (with_fields l.bytes l.at (drop l.vertex-index l.vertices) ≡ with_fields l.initial.bytes 32 l.vertices)
