-- A text that is put byte by byte: nothing, one text behind another, and a larger bound; at the front, it is printed. And the same of a printer.
use mathlib.Core.Path.{◌≡◌, refl, sym, ap, ◌∙◌}
use mathlib.Core.List.{List, [], ◌∷◌, ◌++◌}
use Prim.Native.Nat.{ℕ, suc, ◌+◌, ◌≤◌}
use native.Mathlib.Omega.{arith}
use lib.ListN.{length, take, drop, set, length-append}
use lib.Seq.{sets, length-sets, drop-nil}
use Rattle.report.specs.declared.printer.Printer.{Printer}
use Rattle.report.specs.Printed.{Put, Puts, Printed}

-- stores of two texts, one behind the other
sets-append : (bs : List ℕ) (at : ℕ) (xs ys : List ℕ) → sets bs at (xs ++ ys) ≡ sets (sets bs at xs) (at + length xs) ys
sets-append bs at [] ys = let e : at + 0 ≡ at = omega arith in rw e
sets-append bs at (x ∷ xs) ys =
    let e : at + suc (length xs) ≡ suc at + length xs = omega arith in
    sets-append (set bs at x) (suc at) xs ys ∙ rw e

-- stores behind the first byte leave it
sets_behind : (b : ℕ) (bs : List ℕ) (at : ℕ) (xs : List ℕ) → sets (b ∷ bs) (suc at) xs ≡ b ∷ sets bs at xs
sets_behind b bs at [] = refl
sets_behind b bs at (x ∷ xs) = sets_behind b (set bs at x) (suc at) xs

sets-none : (at : ℕ) (xs : List ℕ) → ◌≡◌ {A = List ℕ} (sets [] at xs) []
sets-none at [] = refl
sets-none at (x ∷ xs) = sets-none (suc at) xs

-- stores from the front on: the text as far as there is room, and later bytes as they were
sets-front : (bs text : List ℕ) → sets bs 0 text ≡ take (length bs) text ++ drop (length text) bs
sets-front [] text = sets-none 0 text ∙ sym (drop-nil (length text))
sets-front (b ∷ bs) [] = refl
sets-front (b ∷ bs) (x ∷ xs) = sets_behind x bs 0 xs ∙ ap (λ (l : List ℕ). x ∷ l) (sets-front bs xs)

pub put-none : (bs : List ℕ) (at : ℕ) → Put 0 bs at [] at bs
put-none bs at = record { place = omega arith; short = omega arith; bytes = refl }

-- a larger bound on the text
pub put-wide : {m : ℕ} {bs : List ℕ} {at : ℕ} {text : List ℕ} {r : ℕ} {cs : List ℕ} (n : ℕ) → length text ≤ n → Put m bs at text r cs → Put n bs at text r cs
put-wide n l p = record { place = p.place; short = l; bytes = p.bytes }

pub put-within : {m : ℕ} (n : ℕ) {bs : List ℕ} {at : ℕ} {text : List ℕ} {r : ℕ} {cs : List ℕ} → m ≤ n → Put m bs at text r cs → Put n bs at text r cs
put-within n h p = put-wide n (omega (arith, p.short)) p

module _ {m : ℕ} {bs : List ℕ} {at : ℕ} {text : List ℕ} {r : ℕ} {cs : List ℕ} (p : Put m bs at text r cs) where
  -- the bytes stay as many as they were
  pub put-long : length cs ≡ length bs
  put-long = ap length p.bytes ∙ length-sets bs at text

  -- one text behind another
  pub put_then : {n : ℕ} {more : List ℕ} {q : ℕ} {ds : List ℕ} → Put n cs r more q ds → Put (m + n) bs at (text ++ more) q ds
  put_then {n} {more} {q} {ds} s = record {
    place = simp length-append (omega (arith, p.place, s.place));
    short = simp length-append (omega (arith, p.short, s.short));
    bytes = s.bytes ∙ rw (p.bytes, p.place) (sym (sets-append bs at text more));
  }

-- a text that is put at the front is printed
pub printed : {m : ℕ} {bs text : List ℕ} {r : ℕ} {cs : List ℕ} → Put m bs 0 text r cs → Printed m text bs r cs
printed {m} {bs} {text} {r} {cs} p =
    let e : r ≡ length text = omega (arith, p.place) in
    record { size = e; short = omega (arith, p.short); bytes = rw e (p.bytes ∙ sets-front bs text) }

-- ---- a printer
pub puts-none : (p : Printer) → Puts 0 p [] p
puts-none p = record { lent = refl; put = put-none _ _ }

-- a larger bound on the text
pub puts-wide : {m : ℕ} {p q : Printer} {text : List ℕ} (n : ℕ) → length text ≤ n → Puts m p text q → Puts n p text q
puts-wide n l a = record { lent = a.lent; put = put-wide n l a.put }

pub puts-within : {m : ℕ} (n : ℕ) {p q : Printer} {text : List ℕ} → m ≤ n → Puts m p text q → Puts n p text q
puts-within n h a = record { lent = a.lent; put = put-within n h a.put }

-- one text behind another
pub puts_then : {m n : ℕ} {p q r : Printer} {text more : List ℕ} → Puts m p text q → Puts n q more r → Puts (m + n) p (text ++ more) r
puts_then a b = record { lent = b.lent ∙ a.lent; put = put_then a.put b.put }

-- what a printer that began at the front has put is printed
pub puts_printed : {m g : ℕ} {bs cs text : List ℕ} {p q : Printer} → Puts m p text q → p.out.ghost_name ≡ g → p.out.now ≡ bs → p.at ≡ 0
    → (g ≡ q.out.ghost_name → cs ≡ q.out.now) → Printed m text bs q.at cs
puts_printed {bs = bs} {cs = cs} {text = text} {q = q} a name old front new = printed (record {
  place = a.put.place ∙ rw front refl;
  short = a.put.short;
  bytes = new (sym name ∙ sym a.lent) ∙ a.put.bytes ∙ rw (old, front) refl;
})

-- a text of at most m bytes is one of at most n
pub printed-wide : {m : ℕ} (n : ℕ) {text bs : List ℕ} {r : ℕ} {cs : List ℕ} → m ≤ n → Printed m text bs r cs → Printed n text bs r cs
printed-wide n h p = record { size = p.size; short = omega (arith, p.short); bytes = p.bytes }
