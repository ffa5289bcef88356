-- The cells looked at so far: those kept, as rows that a cell is looked for among.
use Rattle.std.specs.Prelude.{◌≡◌, List, [], ◌∷◌, ◌++◌, map, ℕ, ◌-◌, ◌≤◌, length, replicate}
use Rattle.rules.specs.Lists.{sorted}
use Rattle.rules.specs.File.{file_dim, out_of, twice}
use Rattle.rules.specs.Calls.{rule, first_broken}
use Rattle.rules.specs.Salvage.{kept_of}
use Rattle.repeats.specs.Rows.{rows_in, bucket_at}
use Rattle.rules.specs.Chains.{Chains}

-- what is wrong with a cell's vertices by themselves, where there are n vertices: 7 or 8, 0 for nothing
unfoldable pub row_fault : ℕ → List ℕ → ℕ
row_fault n vs = first_broken (rule (out_of n vs) 7 ∷ rule (twice vs) 8 ∷ []) 0

-- the four words of a cell: its vertices ascending, then zeros
unfoldable pub four_of : ℕ → List ℕ → List ℕ
four_of D b = sorted b ++ replicate (3 - D) 0

-- of the first c cells k are kept; the words begin with them, four words to a cell, and all are in the chains
pub record Looked (f rows heads next : List ℕ) (c k : ℕ) : Type 0 where
  pub number : k ≡ length (kept_of f c)
  pub few : k ≤ c
  pub long : length rows ≡ 16384
  pub cells : rows_in 4 rows k ≡ map (four_of (file_dim f)) (kept_of f c)
  pub chains : Chains (bucket_at 4 rows) 8192 4096 heads next k
