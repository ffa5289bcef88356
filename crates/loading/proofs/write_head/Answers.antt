-- Five words, one behind the other.
use mathlib.Core.Path.{refl, ap, ◌∙◌}
use Prim.Native.Nat.{ℕ, ◌*◌, ◌%◌, ◌^◌}
use Rattle.rules.specs.File.{head_dim}
use Rattle.rules.specs.Book.{key}
use Rattle.relations.proofs.Appended.{written_none, written-more}
use Rattle.loading.proofs.Whole.{power}
use Rattle.loading.proofs.write_head.Goals as goal

pub returns : goal.returns
returns c =
    let s = c in
    let p = ap (λ (d : ℕ). (1 * 2 ^ (4 * d)) % 4294967296) c.dimension.ensures ∙ power (head_dim s.args.head.0) s.requires.dim in
    rw p (written-more (written-more (written-more (written-more (written-more (written_none s.args.book.now 0 0 refl) s.args.head.0) (2 ^ key (head_dim s.args.head.0) 0)) 0) 0) s.args.used.0)
