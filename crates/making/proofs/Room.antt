-- Whether words fit a book: the answer by the test, and the test by the answer.
use mathlib.Core.Path.{◌≡◌, refl}
use mathlib.Core.Bool.{Bool, true, false, cond, not}
use mathlib.Core.List.{List}
use mathlib.Core.Option.{none}
use Prim.Native.Nat.{ℕ}
use lib.ListN.{length}
use lib.Dec.{leb}
use Rattle.std.specs.Prelude.{Result, Ok, Err, is_err}
use Rattle.kinds.specs.declared.refusals.Refusal.{Refusal}
use Rattle.kinds.specs.declared.refusals.Refusal.TheVariants.{NoRoom}
use Rattle.kinds.specs.Refusals.{answer_number, answer_place}
use Rattle.making.specs.Growth.{room_answer}

module _ (vs ws : List ℕ) where
  pub room-fits : leb (length vs) (length ws) ≡ true → Ok (record {}) ≡ room_answer vs ws
  unfolding room_answer
  room-fits q = rw q

  pub room-none : leb (length vs) (length ws) ≡ false → Err NoRoom ≡ room_answer vs ws
  unfolding room_answer
  room-none q = rw q

  pub room-test : (r : Result (Unit {0}) Refusal) → r ≡ room_answer vs ws → leb (length vs) (length ws) ≡ not (is_err r)
  unfolding room_answer
  room-test r e = rw e (go (leb (length vs) (length ws)))
    where
      go : (b : Bool) → let a : Result (Unit {0}) Refusal = cond b (Ok (record {})) (Err NoRoom) in b ≡ not (is_err a)
      go true = refl
      go false = refl

  -- the answer's number, and that it tells no place
  pub room-number : answer_number (room_answer vs ws) ≡ cond (leb (length vs) (length ws)) 0 13
  unfolding room_answer
  room-number = go (leb (length vs) (length ws))
    where
      go : (b : Bool) → let a : Result (Unit {0}) Refusal = cond b (Ok (record {})) (Err NoRoom) in answer_number a ≡ cond b 0 13
      go true = refl
      go false = refl

  pub room-place : answer_place (room_answer vs ws) ≡ none
  unfolding room_answer
  room-place = go (leb (length vs) (length ws))
    where
      go : (b : Bool) → let a : Result (Unit {0}) Refusal = cond b (Ok (record {})) (Err NoRoom) in answer_place a ≡ none
      go true = refl
      go false = refl
