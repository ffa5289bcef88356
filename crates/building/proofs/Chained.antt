-- One entity more at the head of its chain.
use mathlib.Core.Path.{◌≡◌, ap, ◌∙◌}
use mathlib.Core.List.{List, [], ◌∷◌, ◌++◌}
use Prim.Native.Nat.{ℕ, ◌+◌, ◌*◌, ◌<◌}
use native.Mathlib.Omega.{arith}
use lib.ListN.{length, get_or, set, replicate, length-set, length-replicate}
use lib.Seq.{get_or-set_same, get_or-set_other}
use Rattle.rules.specs.Lists.{any_of, same}
use Rattle.rules.proofs.Chained.{chains-none, chains-alike, chains-more}
use Rattle.repeats.proofs.Walked.{among-newest}
use Rattle.building.specs.Sets.{entity, entities, Chained}
use Rattle.building.proofs.Entities.{entities-front, entities-more, entity-only}

-- no entity yet
pub chained-none : Chained (replicate 73728 0) (replicate 8192 0) (replicate 24576 0) 0
chained-none = record { long = length-replicate {A = ℕ} 73728 0; chains = chains-none _ 8192 24576 }

module _ {sets head next : List ℕ} {n : ℕ} (k : Chained sets head next n) (s : List ℕ) (l : get_or s 0 0 < 8192) where
  -- one more than the newest entity with the candidate's lowest vertex, or 0
  abbrev pub first : ℕ
  first = get_or head (get_or s 0 0) 0

  -- the candidate is looked for in the chain of its lowest vertex, and so among all
  pub chain-any : any_of (same s) (entities sets n) ≡ any_of (same s) (entities sets first)
  unfolding entities
  chain-any = among-newest (entity sets) s (entity-only sets s) (k.chains.newest (get_or s 0 0) l)

  module _ (h : n < 24576) (xs : List ℕ) (long : length xs ≡ 73728) (front : (j : ℕ) → j < 3 * n → get_or xs j 0 ≡ get_or sets j 0) (new : entity xs n ≡ s) where
    -- the entities with the new one
    pub entities-new : entities xs (n + 1) ≡ entities sets n ++ (s ∷ [])
    entities-new = rw (entities-more xs n, new, entities-front sets xs n front)

    -- the chains with the new entity
    pub chained_more : Chained xs (set head (get_or s 0 0) (n + 1)) (set next n first) (n + 1)
    unfolding entity
    chained_more = record {
      long = long;
      chains = chains-more (chains-alike (λ i m. front (3 * i) (omega arith)) k.chains) (get_or s 0 0) l h (ap (λ (t : List ℕ). get_or t 0 0) new);
    }

-- three words put down
module _ (xs : List ℕ) (i a b c : ℕ) where
  abbrev pub stored : List ℕ
  stored = set (set (set xs (3 * i) a) (3 * i + 1) b) (3 * i + 2) c

  pub stored-long : length stored ≡ length xs
  stored-long = simp length-set

  abbrev one : List ℕ
  one = set xs (3 * i) a

  abbrev two : List ℕ
  two = set one (3 * i + 1) b

  pub stored-front : (j : ℕ) → j < 3 * i → get_or stored j 0 ≡ get_or xs j 0
  stored-front j l =
      get_or-set_other two (3 * i + 2) j c 0 (λ e. omega arith) ∙ get_or-set_other one (3 * i + 1) j b 0 (λ e. omega arith)
      ∙ get_or-set_other xs (3 * i) j a 0 (λ e. omega arith)

  pub stored-entity : i < 24576 → length xs ≡ 73728 → entity stored i ≡ a ∷ b ∷ c ∷ []
  unfolding entity
  stored-entity l h =
      let x : get_or stored (3 * i) 0 ≡ a
      = get_or-set_other two (3 * i + 2) (3 * i) c 0 (λ e. omega arith) ∙ get_or-set_other one (3 * i + 1) (3 * i) b 0 (λ e. omega arith)
      ∙ get_or-set_same xs (3 * i) a 0 (omega arith) in
      let y : get_or stored (3 * i + 1) 0 ≡ b
      = get_or-set_other two (3 * i + 2) (3 * i + 1) c 0 (λ e. omega arith)
      ∙ get_or-set_same one (3 * i + 1) b 0 (simp length-set (omega arith)) in
      let z : get_or stored (3 * i + 2) 0 ≡ c = get_or-set_same two (3 * i + 2) c 0 (simp length-set (omega arith)) in
      cc
