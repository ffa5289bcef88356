-- Phase closures by hand, on T: its edges are 0 1, 0 3, 1 3, 1 2 and 2 3, its faces 0 1 3 and 1 2 3. Floats are given by their bits.
use mathlib.Core.Path.{◌≡◌, refl}
use mathlib.Core.Bool.{true}
use mathlib.Core.List.{List, [], ◌∷◌}
use Prim.Native.Nat.{ℕ}
use lib.ListN.{length, replicate}
use lib.IntN.{ℤ, pos, negsuc}
use lib.Ieee.{Float, binary64, round, of_bits}
use Rattle.rules.specs.Lists.{all_of}
use Rattle.rules.specs.Calls.{load_words, ask_words}
use Rattle.rules.specs.Closures.{close_number, closures_after, steps_after, bytes_after}
use Rattle.rules.proofs.Opened.{opened}
use Rattle.rules.proofs.Examples.{Example, example, holds, sheet, empty}

-- T, with 1→0 made
unfoldable pub edged : List ℕ
edged = ask_words (load_words sheet (replicate 40 7)) 1 0

-- what the call gives for these counts on T, and what its lists hold after it; they were all 9, and steps all 1.0
unfoldable pub closed : List ℤ → (n : ℕ) × (cs : List ℤ) × (ss : List Float) × List ℕ
closed counts =
    let closures : List ℤ = replicate 2 (pos 9) in
    let steps : List Float = replicate 5 (of_bits binary64 0x3ff0_0000_0000_0000) in
    let bytes : List ℕ = replicate 5 9 in (
      close_number edged counts (length closures) (length steps) (length bytes),
      closures_after edged counts closures steps bytes,
      steps_after edged counts closures steps bytes,
      bytes_after edged counts closures steps bytes,
    )

-- floats by their bits
unfoldable pub floats : List ℕ → List Float
floats [] = []
floats (b ∷ bs) = of_bits binary64 b ∷ floats bs

-- 20,000, 10,000, −10,000, 25,536 (−40,000 and a turn) and 30,000 65,536ths: the second face is slipped
pub slipped : closed (pos 0 ∷ pos 20000 ∷ negsuc 19999 ∷ pos 10000 ∷ [])
    ≡ (0, pos 0 ∷ pos 1 ∷ [], floats (0x3fd3_8800_0000_0000 ∷ 0x3fc3_8800_0000_0000 ∷ 0xbfc3_8800_0000_0000 ∷ 0x3fd8_f000_0000_0000 ∷ 0x3fdd_4c00_0000_0000 ∷ []), 0 ∷ 0 ∷ 0 ∷ 0 ∷ 0 ∷ [])
unfolding opened sheet edged closed floats round of_bits
slipped = refl

-- the same with vertex 2 masked: both of its edges are, and the second face
pub one-masked : closed (pos 0 ∷ pos 20000 ∷ pos 65536 ∷ pos 10000 ∷ [])
    ≡ (0, pos 0 ∷ pos 2 ∷ [], floats (0x3fd3_8800_0000_0000 ∷ 0x3fc3_8800_0000_0000 ∷ 0xbfc3_8800_0000_0000 ∷ 0 ∷ 0 ∷ []), 0 ∷ 0 ∷ 0 ∷ 1 ∷ 1 ∷ [])
unfolding opened sheet edged closed floats round of_bits
one-masked = refl

-- 21,846, −21,846, 21,844, −21,846 and −21,846: one face closes to 1, the other to −1
pub both-slipped : closed (pos 0 ∷ pos 21846 ∷ pos 0 ∷ negsuc 21845 ∷ [])
    ≡ (0, pos 1 ∷ negsuc 0 ∷ [], floats (0x3fd5_5580_0000_0000 ∷ 0xbfd5_5580_0000_0000 ∷ 0x3fd5_5500_0000_0000 ∷ 0xbfd5_5580_0000_0000 ∷ 0xbfd5_5580_0000_0000 ∷ []), 0 ∷ 0 ∷ 0 ∷ 0 ∷ 0 ∷ [])
unfolding opened sheet edged closed floats round of_bits
both-slipped = refl

-- half a turn up from vertex 0 to 1, and half a turn down from 1 to 2: both are −1/2; the step of 0 is +0.0
pub half-a-turn : closed (negsuc 32767 ∷ pos 0 ∷ negsuc 32767 ∷ negsuc 32767 ∷ [])
    ≡ (0, negsuc 0 ∷ pos 0 ∷ [], floats (0xbfe0_0000_0000_0000 ∷ 0 ∷ 0xbfe0_0000_0000_0000 ∷ 0xbfe0_0000_0000_0000 ∷ 0 ∷ []), 0 ∷ 0 ∷ 0 ∷ 0 ∷ 0 ∷ [])
unfolding opened sheet edged closed floats round of_bits
half-a-turn = refl

-- 65,535 is no count: 22, and the lists are as they were
pub no-count : closed (pos 0 ∷ pos 65535 ∷ pos 0 ∷ pos 0 ∷ []) ≡ (22, replicate 2 (pos 9), replicate 5 (of_bits binary64 0x3ff0_0000_0000_0000), replicate 5 9)
unfolding opened sheet edged closed floats
no-count = refl

-- 21 before 22 where a count is no count and one is missing; 15 before 1→0 is made; 12 for D = 1; 10 where there is no book
pub refusals : List Example
refusals =
    example (close_number edged (replicate 3 (pos 65535)) 2 5 5 ∷ []) (21 ∷ [])
    ∷ example (close_number (load_words sheet (replicate 40 7)) (replicate 3 (pos 65535)) 2 5 5 ∷ []) (15 ∷ [])
    ∷ example (close_number (load_words empty (replicate 6 7)) (replicate 3 (pos 65535)) 2 5 5 ∷ []) (12 ∷ [])
    ∷ example (close_number [] (replicate 3 (pos 65535)) 2 5 5 ∷ []) (10 ∷ [])
    ∷ []

pub refusals-hold : all_of holds refusals ≡ true
unfolding opened holds refusals sheet empty edged
refusals-hold = refl
