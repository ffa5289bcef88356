-- Where accepted, what was saved is given number by number.
use Rattle.daybook_c.proofs.Saving.{length-given, count-given, spare-given, pad-given, wrong-given}
use Rattle.daybook_c.proofs.salvaged.daybook_salvage.Goals as goal

pub returns-in-Ok : goal.returns-in-Ok
returns-in-Ok c =
    let w = c.in-Ok.ensures in
    let s = c.in-Ok.saved in
    record {
      number = w.number;
      bytes = w.bytes;
      list = w.list;
      length = length-given _ _ _ s w.number w.given;
      count = count-given _ _ _ s w.number w.given;
      spare = spare-given _ _ _ s w.number w.given;
      pad = pad-given _ _ _ s w.number w.given;
      wrong = wrong-given _ _ _ s w.number w.given;
    }
