-- Each key below 16 that is held is right.
use mathlib.Core.Path.{◌≡◌, refl, sym, subst}
use mathlib.Core.Bool.{Bool, true, false}
use mathlib.Core.List.{List}
use Prim.Native.Nat.{ℕ, ◌<◌}
use native.Mathlib.Omega.{arith}
use borrow.Author.Tests.{tests}
use borrow.Author.Rules.{rules}
use lib.ListN.{get_or}
use Rattle.std.specs.Bool.{MatchBool}
use Rattle.std.specs.List.{range_with_len, AllWithin, HoldsAt}
use Rattle.std.proofs.lemmas.Iterator.{cases_from_all, YieldsList-from_range}
use Rattle.std.proofs.lemmas.List.FromFn.{get_or-range_with_len}
use Rattle.rules.specs.Lists.{up_to, all_of, keep}
use Rattle.rules.specs.Book.{held, keys_held, key_right}
use Rattle.rules.proofs.Steps.{all-kept-are, all-kept-not}
use Rattle.frame.proofs.keys_right.Goals as goal

at : (n k : ℕ) → k < n → get_or (range_with_len 0 n) k 0 ≡ k
at n k l = omega (arith, get_or-range_with_len 0 n k 0 l)

module _ (ws : List ℕ) where
  abbrev Passes : ℕ → Type 0
  Passes k = held ws k ≡ true → key_right ws k ≡ true

  abbrev Fails : ℕ → Type 0
  Fails k = (held ws k ≡ true) × (key_right ws k ≡ false)

  judged : (n : ℕ) (r : Bool) → MatchBool r (AllWithin Passes (range_with_len 0 n) 0 n) ((k : ℕ) × (k < n) × HoldsAt Fails (range_with_len 0 n) k) → r ≡ all_of (key_right ws) (keep (held ws) (up_to n))
  judged n true h = sym (all-kept-are (key_right ws) (held ws) n (λ k l. subst Passes (at n k l) (h k 0 (omega arith) l)))
  judged n false (k, l, h) = let g = subst Fails (at n k l) (h 0) in sym (all-kept-not (key_right ws) (held ws) n k l g.0 g.1)

pub returns : goal.returns
unfolding keys_held
returns c =
    let b = c.args.book.now in
    judged b 16 c.all.result (cases_from_all _ _ _ (Passes b) (Fails b) c.all.ensures.ran (YieldsList-from_range 0 16 16 refl refl) (λ x q k. search (rules, tests)) (λ x q k. search (rules, tests)))
