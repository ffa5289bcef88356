-- Two outcomes that the contract of `build` allows are equal: the place after the relation and N_d always, and every word where the relation fits.
use mathlib.Core.Path.{◌≡◌, sym, ◌∙◌}
use mathlib.Core.List.{List}
use Prim.Native.Nat.{ℕ, ◌≤◌}
use native.Mathlib.Omega.{arith}
use lib.ListN.{length, take}
use Rattle.rules.specs.Book.{relation}
use Rattle.rules.specs.Made.{made}
use Rattle.relations.specs.Words.{Written}
use Rattle.building.specs.declared.Built.{Built}

-- what `build` ensures of its result and of the words after it
abbrev pub Ensures : List ℕ → ℕ → ℕ → Built → List ℕ → Type 0
Ensures ws d dst r vs = Written ws dst (relation (made ws d 0)) r.end.0 vs × (r.count ≡ length (made ws d 0))

module _ (ws : List ℕ) (d dst : ℕ) (r q : Built) (vs us : List ℕ) (a : Ensures ws d dst r vs) (b : Ensures ws d dst q us) where
  places-equal : r.end.0 ≡ q.end.0
  places-equal = a.0.place ∙ sym b.0.place

  pub builts-equal : r ≡ q
  builts-equal = λ i. record { end = record { 0 = places-equal i }; count = (a.1 ∙ sym b.1) i }

  pub words-equal : r.end.0 ≤ length ws → vs ≡ us
  words-equal l = a.0.words l ∙ rw places-equal (sym (b.0.words (omega (arith, places-equal))))

  -- the words before dst, where it does not fit too
  pub front-equal : take dst vs ≡ take dst us
  front-equal = a.0.front ∙ sym b.0.front
