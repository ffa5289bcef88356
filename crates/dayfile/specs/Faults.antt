-- The faults of a file, as refusals.
use Rattle.std.specs.Prelude.{cond, List, ℕ, zero, suc, eqb, ltb, Result, Ok, Err}
use Rattle.rules.specs.Calls.{file_number}
use Rattle.kinds.specs.declared.refusals.Refusal.{Refusal}
use Rattle.kinds.specs.declared.refusals.Refusal.TheVariants.{FileTooShort, NoDimension, ManyVertices, ManyCells, SpareBits, FileLength, VertexOut, VertexTwice, CellTwice, BitsAfter}

-- the refusal with that number, up to 9, and for 7 and 8 that cell; for 0 none
unfoldable pub first_faults : ℕ → ℕ → Result (Unit {0}) Refusal
first_faults zero c = Ok (record {})
first_faults (suc zero) c = Err FileTooShort
first_faults (suc (suc zero)) c = Err NoDimension
first_faults (suc (suc (suc zero))) c = Err ManyVertices
first_faults (suc (suc (suc (suc zero)))) c = Err ManyCells
first_faults (suc (suc (suc (suc (suc zero))))) c = Err SpareBits
first_faults (suc (suc (suc (suc (suc (suc zero)))))) c = Err FileLength
first_faults (suc (suc (suc (suc (suc (suc (suc zero))))))) c = Err (VertexOut (record { 0 = c }))
first_faults (suc (suc (suc (suc (suc (suc (suc (suc zero)))))))) c = Err (VertexTwice (record { 0 = c }))
first_faults (suc (suc (suc (suc (suc (suc (suc (suc (suc n))))))))) c = Err BitsAfter

-- the refusal with that number and, for 7, 8 and 23, that cell; for 0 none
unfoldable pub fault_of : ℕ → ℕ → Result (Unit {0}) Refusal
fault_of n c = cond (eqb n 23) (Err (CellTwice (record { 0 = c }))) (first_faults n c)

-- the number of the file's first fault where it lies in the head or the length, 1 to 6, else 0
unfoldable pub head_number : List ℕ → ℕ
head_number f = cond (ltb (file_number f) 7) (file_number f) 0
