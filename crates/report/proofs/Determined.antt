-- What is printed is determined: two outcomes are equal; and where the text fits, it stands whole at the front, with later bytes as they were.
use mathlib.Core.Path.{◌≡◌, sym, ◌∙◌}
use mathlib.Core.List.{List, ◌++◌}
use Prim.Native.Nat.{ℕ, ◌≤◌}
use native.Mathlib.Omega.{arith}
use lib.ListN.{length, take, drop}
use lib.Seq.{take_all, take_at}
use Rattle.report.specs.Printed.{Printed}

-- two outcomes are equal
pub printed-same : {m : ℕ} {text bs : List ℕ} {r : ℕ} {cs : List ℕ} {q : ℕ} {ds : List ℕ} → Printed m text bs r cs → Printed m text bs q ds → (r ≡ q) × (cs ≡ ds)
printed-same {m} {text} {bs} a b =
    let e = a.size ∙ sym b.size in
    (e, a.bytes ∙ rw e (sym b.bytes))

module _ {m : ℕ} {text bs : List ℕ} {r : ℕ} {cs : List ℕ} (p : Printed m text bs r cs) (fits : r ≤ length bs) where
  -- the text, then later bytes as they were
  pub printed-whole : cs ≡ text ++ drop r bs
  printed-whole = p.bytes ∙ rw (take_all (length bs) text (omega (arith, p.size)))

  -- the text is the first r bytes
  pub printed-text : take r cs ≡ text
  printed-text = rw printed-whole (take_at text (drop r bs) r (sym p.size))
