-- The entry of the table that meets the mask says that some key of the mask names d.
use Rattle.frame.proofs.Naming.{naming}
use Rattle.frame.proofs.mentions.Goals as goal

pub returns : goal.returns
returns c = naming c.args.mask c.args.d c.requires
