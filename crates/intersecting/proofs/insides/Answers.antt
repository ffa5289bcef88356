-- A book that is ready for d→d' has sources that can be merged, and the rows merged are the rows that the rules make.
use Rattle.relations.proofs.Right.{used-fits}
use Rattle.intersecting.proofs.Made.{ready-inner, ready-sub, inner-few, inner_made}
use Rattle.intersecting.proofs.insides.Goals as goal

pub inner-requires : goal.inner-requires
inner-requires c =
    let a = c.requires.ready in let s = c.requires.own_stands in let t = c.requires.back_stands in let u = c.requires.sub_stands in let (p, l) = c.requires.from_nonzero in record { incidence = ready-inner a s t u p l; rows = ready-sub a s t u p l; few = inner-few a s t u p l; fits = used-fits a }

pub returns : goal.returns
returns c =
    let a = c.requires.ready in let s = c.requires.own_stands in let t = c.requires.back_stands in let u = c.requires.sub_stands in let (p, l) = c.requires.from_nonzero in
    rw (inner_made a s t u p l) at c.inner.ensures
