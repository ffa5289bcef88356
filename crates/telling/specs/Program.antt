-- What the program daysalvage writes for a file on standard output, what it knows after that, and the words with which it ends on standard error.
use Rattle.std.specs.Prelude.{Bool, cond, ◌&&◌, List, [], ◌++◌, ℕ, length, eqb}
use Rattle.rules.specs.File.{file_cells}
use Rattle.rules.specs.Salvage.{kept, dropped_count, saved, spare_was, pad_was, length_was, salvage_number}
use Rattle.report.specs.Lines.{refused_line}
use Rattle.telling.specs.Words.{spare_line, pad_line, length_line, kept_line, refusal_line}
use Rattle.telling.specs.declared.Outcome.{Outcome}

-- what is written: the file saved, or "refused" and the number
unfoldable pub answered : List ℕ → List ℕ → List ℕ → List ℕ
answered f bytes list =
    let n = salvage_number f bytes list in
    cond (eqb n 0) (saved f) (refused_line n)

-- what is known then
unfoldable pub outcome_of : List ℕ → List ℕ → List ℕ → Outcome
outcome_of f bytes list =
    let n = salvage_number f bytes list in
    record {
      number = n;
      length = length (answered f bytes list);
      cells = file_cells f;
      kept = cond (eqb n 0) (length (kept f)) 0;
      dropped = cond (eqb n 0) (dropped_count f) 0;
      spare = eqb n 0 && spare_was f;
      pad = eqb n 0 && pad_was f;
      wrong_length = eqb n 0 && length_was f;
    }

-- a line, if it holds
unfoldable pub only_if : Bool → List ℕ → List ℕ
only_if holds line = cond holds line []

-- the last words: what was wrong besides and how much was kept, or the refusal
unfoldable pub last_words : Outcome → List ℕ
last_words a =
    cond (eqb a.number 0)
    (only_if a.spare spare_line ++ (only_if a.pad pad_line ++ (only_if a.wrong_length length_line ++ kept_line a.kept a.cells a.length)))
    (refusal_line a.number)
