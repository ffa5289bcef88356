-- Two answers that a contract allows are equal.
use mathlib.Core.Path.{◌≡◌, refl, sym, ap, ap₂, ◌∙◌}
use mathlib.Core.Bool.{false}
use mathlib.Core.List.{List}
use Prim.Native.Nat.{ℕ}
use lib.IntN.{ℤ}
use Rattle.std.specs.Prelude.{Result, IfOk}
use Rattle.rules.specs.Lists.{all_of}
use Rattle.rules.specs.Broken.{broken_at, row_broken_at, told}
use Rattle.rules.specs.Calls.{row_rules, find_rules, write_rules, euler_rules, held_rules, row_number, find_number, find_found, find_read, write_number, write_length, euler_number, euler_of, held_number, held_count}
use Rattle.kinds.specs.declared.refusals.Refusal.{Refusal}
use Rattle.kinds.specs.Refusals.{answer_number, answer_place, given}
use Rattle.kinds.proofs.Determined.{bare, bare-alike, silent, silent-alike, number-has}
use Rattle.reading.specs.declared.finds.Found.{Found}

-- ==== Row
pub row-determined : (ws : List ℕ) (d e i : ℕ) (a b : Result (Unit {0}) Refusal)
    → answer_number a ≡ row_number ws d e i → answer_place a ≡ told (row_number ws d e i) (row_broken_at ws d e i)
    → answer_number b ≡ row_number ws d e i → answer_place b ≡ told (row_number ws d e i) (row_broken_at ws d e i) → a ≡ b
unfolding row_number row_rules bare all_of
row-determined ws d e i a b n p m q = bare-alike a b _ _ (number-has bare (row_rules ws d e i) 0 refl refl) n p m q (λ x y u v. refl)

-- ==== Find
pub find-determined : (ws : List ℕ) (d e i j : ℕ) (a b : Result Found Refusal)
    → answer_number a ≡ find_number ws d e i j → given false (λ f. f.yes) a ≡ find_found ws d e i j → given 0 (λ f. f.read) a ≡ find_read ws d e i j → answer_place a ≡ told (find_number ws d e i j) (row_broken_at ws d e i)
    → answer_number b ≡ find_number ws d e i j → given false (λ f. f.yes) b ≡ find_found ws d e i j → given 0 (λ f. f.read) b ≡ find_read ws d e i j → answer_place b ≡ told (find_number ws d e i j) (row_broken_at ws d e i) → a ≡ b
unfolding find_number find_rules row_rules bare all_of
find-determined ws d e i j a b n y v p m x w q =
    bare-alike a b _ _ (number-has bare (find_rules ws d e i j) 0 refl refl) n p m q
    (λ f g s t. ap₂ (λ k r. record { yes = k; read = r })
    (sym (ap (given false (λ f. f.yes)) s) ∙ y ∙ sym x ∙ ap (given false (λ f. f.yes)) t)
    (sym (ap (given 0 (λ f. f.read)) s) ∙ v ∙ sym w ∙ ap (given 0 (λ f. f.read)) t))

-- ==== Write
pub write-determined : (ws bs : List ℕ) (a b : Result ℕ Refusal)
    → answer_number a ≡ write_number ws bs → answer_place a ≡ told (write_number ws bs) (broken_at ws) → IfOk a (λ n. n ≡ write_length ws)
    → answer_number b ≡ write_number ws bs → answer_place b ≡ told (write_number ws bs) (broken_at ws) → IfOk b (λ n. n ≡ write_length ws) → a ≡ b
unfolding write_number write_rules bare all_of
write-determined ws bs a b n p v m q w = bare-alike a b _ _ (number-has bare (write_rules ws bs) 0 refl refl) n p m q (λ x y s t. (rw s at v) ∙ sym (rw t at w))

-- ==== Euler number
pub euler-determined : (ws : List ℕ) (a b : Result ℤ Refusal)
    → answer_number a ≡ euler_number ws → answer_place a ≡ told (euler_number ws) (broken_at ws) → IfOk a (λ n. n ≡ euler_of ws)
    → answer_number b ≡ euler_number ws → answer_place b ≡ told (euler_number ws) (broken_at ws) → IfOk b (λ n. n ≡ euler_of ws) → a ≡ b
unfolding euler_number euler_rules bare all_of
euler-determined ws a b n p v m q w = bare-alike a b _ _ (number-has bare (euler_rules ws) 0 refl refl) n p m q (λ x y s t. (rw s at v) ∙ sym (rw t at w))

-- ==== Held count
pub held-determined : (ws : List ℕ) (a b : Result ℕ Refusal)
    → answer_number a ≡ held_number ws → IfOk a (λ n. n ≡ held_count ws) → answer_number b ≡ held_number ws → IfOk b (λ n. n ≡ held_count ws) → a ≡ b
unfolding held_number held_rules silent bare all_of
held-determined ws a b n v m w = silent-alike a b _ (number-has silent (held_rules ws) 0 refl refl) n m (λ x y s t. (rw s at v) ∙ sym (rw t at w))
