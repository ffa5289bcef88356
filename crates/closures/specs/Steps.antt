-- Document 02, "Phase closures": a vertex's reading and an edge's step as the code has them, over counts and over floats.
use Rattle.std.specs.Prelude.{cond, ◌||◌, ℕ, ℤ, pos, negsuc, Float}
use Rattle.std.specs.Float.{binary64}
use Rattle.std.specs.Float.Ieee.{add, sub, lt}
use Rattle.rules.specs.Phases.{masked, step_count, turns}
use Rattle.closures.specs.declared.values.Reading.{Reading}
use Rattle.closures.specs.declared.values.Reading.TheVariants as readings
use Rattle.closures.specs.declared.values.Step.{Step}
use Rattle.closures.specs.declared.values.Step.TheVariants as steps

-- ==== over whole counts
-- the reading of a count
unfoldable pub reading_of : ℤ → Reading
reading_of k = cond (masked k) readings.Masked (readings.Phase (turns k))

-- the step between two counts: masked if either end is
unfoldable pub step_of : ℤ → ℤ → Step
step_of lower higher = cond (masked lower || masked higher) steps.Masked (steps.Turns (turns (step_count lower higher)))

-- ==== over floats
-- a difference of phases brought by a whole turn, in floats
unfoldable pub wrapped_turns : Float → Float
wrapped_turns x =
    cond (lt x (turns (negsuc 32767))) (add binary64 x (turns (pos 65536)))
    (cond (lt x (turns (pos 32768))) x (sub binary64 x (turns (pos 65536))))

-- −1 below 0.0, 1 above it, else 0
unfoldable pub whole_turns : Float → ℤ
whole_turns x = cond (lt x (turns (pos 0))) (negsuc 0) (cond (lt (turns (pos 0)) x) (pos 1) (pos 0))

-- the step between two readings
unfoldable pub step_between : Reading → Reading → Step
step_between readings.Masked r = steps.Masked
step_between (readings.Phase x) readings.Masked = steps.Masked
step_between (readings.Phase x) (readings.Phase y) = steps.Turns (wrapped_turns (sub binary64 y x))

-- the closure of three steps
unfoldable pub closure_between : Step → Step → Step → ℤ
closure_between steps.Masked bc ac = pos 2
closure_between (steps.Turns x) steps.Masked ac = pos 2
closure_between (steps.Turns x) (steps.Turns y) steps.Masked = pos 2
closure_between (steps.Turns x) (steps.Turns y) (steps.Turns z) = whole_turns (sub binary64 (add binary64 x y) z)

-- ==== as they are written
-- a step's float, 0.0 where masked
unfoldable pub turns_written : Step → Float
turns_written steps.Masked = turns (pos 0)
turns_written (steps.Turns x) = x

-- a step's byte, 1 for masked, else 0
unfoldable pub byte_written : Step → ℕ
byte_written steps.Masked = 1
byte_written (steps.Turns x) = 0
