-- The row is looked for in the chain of its bucket; a new one goes to the chain's head.
use mathlib.Core.Path.{◌≡◌, sym, subst, ◌∙◌}
use mathlib.Core.List.{List}
use Prim.Native.Nat.{ℕ, ◌<◌}
use lib.ListN.{get_or}
use Rattle.rules.specs.Lists.{any_of, same}
use Rattle.rules.specs.Chains.{Newest, Chains}
use Rattle.rules.proofs.Chained.{chains-more}
use Rattle.repeats.specs.Rows.{row_at, rows_in, bucket_of, bucket_at}
use Rattle.repeats.proofs.Walked.{among-newest}
use Rattle.repeats.proofs.Among.{bucket-only}
use Rattle.repeats.proofs.meet.Goals.{After-in_chain}
use Rattle.repeats.proofs.meet.Goals as goal

bucket-is : (size : ℕ) (ws : List ℕ) (i : ℕ) {v : ℕ} {row : List ℕ} → v ≡ bucket_of row → row ≡ row_at size ws i → v ≡ bucket_at size ws i
unfolding bucket_at
bucket-is size ws i e r = e ∙ rw r

-- the chain of the row's bucket begins with its newest entry
newest-is : (size : ℕ) (ws : List ℕ) {i v : ℕ} {row head next : List ℕ} → v ≡ bucket_of row → row ≡ row_at size ws i → v < 8192 → Chains (bucket_at size ws) 8192 4096 head next i → Newest (bucket_at size ws) (bucket_of (row_at size ws i)) i (get_or head v 0)
newest-is size ws {i} {v} {head = head} e r l k = subst (λ b. Newest (bucket_at size ws) b i (get_or head v 0)) (e ∙ rw r) (k.newest v l)

-- the walk along the chain finds the row exactly where it is among all those before it
found : (c : After-in_chain) → any_of (same (row_at c.args.size c.args.words.now c.args.i)) (rows_in c.args.size c.args.words.now c.args.i) ≡ c.in_chain.result
unfolding rows_in
found c =
    let a = c.args in
    among-newest (row_at a.size a.words.now) _ (bucket-only a.size a.words.now _) (newest-is c.args.size c.args.words.now c.bucket-v.ensures.value c.row_at-row.ensures c.bucket-v.ensures.below c.requires.chains) ∙ sym (c.in_chain.ensures ∙ rw c.row_at-row.ensures)

pub returns-then-in_chain-clause-value : goal.returns-then-in_chain-clause-value
returns-then-in_chain-clause-value c = sym (found (goal.at.returns-then-in_chain-clause-value c).After-in_chain ∙ c.if-in_chain.true)

pub returns-clause-value : goal.returns-clause-value
returns-clause-value c = sym (found (goal.at.returns-clause-value c).After-in_chain ∙ c.if-in_chain.false)

pub returns-clause-added : goal.returns-clause-added
returns-clause-added c e =
    let b = bucket-is c.args.size c.args.words.now c.args.i c.bucket-v.ensures.value c.row_at-row.ensures in
    chains-more c.requires.chains _ c.bucket-v.ensures.below c.requires.room (sym b)
