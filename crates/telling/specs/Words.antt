-- The words for people, line by line; a text is a list of bytes.
use Rattle.std.specs.Prelude.{cond, List, ◌++◌, ℕ, eqb}
use mathlib.Core.List as list
use Prim.Native.Char.{code}
use Prim.Native.String.{String, [], ◌∷◌}
use Rattle.report.specs.Lines.{digits}

-- the bytes of a text, one for each of its characters
unfoldable pub bytes_of : String → List ℕ
bytes_of [] = list.[]
bytes_of (c ∷ s) = list.◌∷◌ (code c) (bytes_of s)

-- ==== the cells dropped
-- why a cell is dropped
unfoldable pub reason : ℕ → List ℕ
reason n =
    cond (eqb n 6) (bytes_of "not whole in the file")
    (cond (eqb n 7) (bytes_of "a vertex out of range") (cond (eqb n 8) (bytes_of "a vertex twice") (bytes_of "equal to an earlier cell")))

-- one cell, or the cells from the first to the last
unfoldable pub cells_named : ℕ → ℕ → List ℕ
cells_named first last =
    cond (eqb first last) (bytes_of "cell " ++ digits first) (bytes_of "cells " ++ (digits first ++ (bytes_of " to " ++ digits last)))

-- the line of a run: cells dropped one after another for the same reason
unfoldable pub run_line : ℕ → ℕ → ℕ → List ℕ
run_line first last why = cells_named first last ++ (bytes_of ": dropped, " ++ (reason why ++ (bytes_of " (" ++ (digits why ++ bytes_of ")\n"))))

-- ==== what was wrong besides, a line for each
-- spare bits
unfoldable pub spare_line : List ℕ
spare_line = bytes_of "spare bits were set\n"

-- pad bits
unfoldable pub pad_line : List ℕ
pad_line = bytes_of "pad bits were set\n"

-- the length
unfoldable pub length_line : List ℕ
length_line = bytes_of "the length was not the one that the header asks\n"

-- ==== how it went
-- the cells kept, the cells by the header, and the bytes written
unfoldable pub kept_line : ℕ → ℕ → ℕ → List ℕ
kept_line k n l = bytes_of "kept " ++ (digits k ++ (bytes_of " of " ++ (digits n ++ (bytes_of " cells, " ++ (digits l ++ bytes_of " bytes written\n")))))

-- what a refusal means
unfoldable pub meaning : ℕ → List ℕ
meaning n =
    cond (eqb n 1) (bytes_of "fewer than 4 bytes")
    (cond (eqb n 2) (bytes_of "D is 0")
    (cond (eqb n 3) (bytes_of "more than 8192 vertices") (cond (eqb n 4) (bytes_of "more than 4096 cells") (bytes_of "too little room"))))

-- the line of a refusal
unfoldable pub refusal_line : ℕ → List ℕ
refusal_line n = bytes_of "refused: " ++ (meaning n ++ bytes_of "\n")
