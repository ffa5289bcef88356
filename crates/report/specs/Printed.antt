-- What a function promises that prints a text into lent bytes.
use Rattle.std.specs.Prelude.{◌≡◌, List, ◌++◌, ℕ, ◌+◌, ◌≤◌, length, take, drop}
use Rattle.std.proofs.lemmas.List.Edits.{sets}
use Rattle.report.specs.declared.printer.Printer.{Printer}

-- a text of at most `most` bytes is stored from `at` on: r is the place after it, a store past the end does nothing, every other byte stays
pub record Put (most : ℕ) (bs : List ℕ) (at : ℕ) (text : List ℕ) (r : ℕ) (cs : List ℕ) : Type 0 where
  pub place : r ≡ at + length text
  pub short : length text ≤ most
  pub bytes : cs ≡ sets bs at text

-- the same of a printer: from its place on, into its bytes, which are lent by the same reference
pub record Puts (most : ℕ) (p : Printer) (text : List ℕ) (q : Printer) : Type 0 where
  pub lent : q.out.ghost_name ≡ p.out.ghost_name
  pub put : Put most p.out.now p.at text q.at q.out.now

-- a text of at most `most` bytes stands at the front: r is its length, it is cut where the bytes end, and later bytes are as they were
pub record Printed (most : ℕ) (text bs : List ℕ) (r : ℕ) (cs : List ℕ) : Type 0 where
  pub size : r ≡ length text
  pub short : r ≤ most
  pub bytes : cs ≡ take (length bs) text ++ drop r bs
