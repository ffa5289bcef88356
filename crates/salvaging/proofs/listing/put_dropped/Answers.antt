-- Nothing is put for a cell that is kept; else two stores, one after the other.
use mathlib.Core.Path.{refl}
use native.Mathlib.Numerals.{add-one}
use native.Mathlib.Omega.{arith}
use borrow.Author.Tests.{ne_eqb}
use Rattle.salvaging.specs.Listed.{pair_of}
use Rattle.salvaging.specs.Reasons.{reason_number}
use Rattle.salvaging.proofs.Whys.{reason-some}
use Rattle.salvaging.proofs.listing.put_dropped.Goals as goal

pub returns-in_default : goal.returns-in_default
unfolding pair_of
returns-in_default c = record { place = rw c.in_default.is (omega arith); list = rw c.in_default.is refl }

pub returns : goal.returns
unfolding pair_of
returns c =
    let r = c.in-Some.reason in record {
      place = rw (c.in-Some.is, ne_eqb (reason_number r) 0 (reason-some r));
      list = rw (c.in-Some.is, ne_eqb (reason_number r) 0 (reason-some r), c.number.ensures, add-one c.args.at) (refl);
    }
