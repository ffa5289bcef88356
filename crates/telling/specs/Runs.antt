-- Runs in a list of pairs, a cell's number and why it is dropped: cells one after another, for the same reason.
use Rattle.std.specs.Prelude.{cond, ◌&&◌, List, [], ◌∷◌, ℕ, suc, ◌+◌, ◌-◌, ◌*◌, get_or, eqb}
use Rattle.telling.specs.Words.{run_line}

-- how many pairs at the front have the numbers c, c + 1 and so on, and the reason w
unfoldable pub goes_on : ℕ → ℕ → List ℕ → ℕ
goes_on c w [] = 0
goes_on c w (d ∷ []) = 0
goes_on c w (d ∷ v ∷ ps) = cond (eqb d c && eqb v w) (suc (goes_on (c + 1) w ps)) 0

-- how many pairs the run has that the pairs begin with
unfoldable pub run_size : List ℕ → ℕ
run_size ps = goes_on (get_or ps 0 0) (get_or ps 1 0) ps

-- its line
unfoldable pub run_text : List ℕ → List ℕ
run_text ps = run_line (get_or ps 0 0) (get_or ps (2 * (run_size ps - 1)) 0) (get_or ps 1 0)
