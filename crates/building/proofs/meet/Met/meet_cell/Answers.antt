-- The entities are those met by the candidates so far.
use Rattle.std.proofs.Common.{refl, ap, ◌∙◌, arith, length, take}
use lib.Seq.{length-take-le}
use Rattle.rules.specs.Made.{met_all}
use Rattle.building.proofs.Meeting.{met_all-few, meeting-more}
use Rattle.building.proofs.meet.Met.meet_cell.Goals as goal

pub loop-candidate-init : goal.loop-candidate-init
unfolding met_all
loop-candidate-init c = refl

pub meet-requires-clause-room : goal.meet-requires-clause-room
meet-requires-clause-room c =
    let j = c.loop-candidate.candidate-index in
    omega (arith, ap length c.loop-candidate.invariant, met_all-few c.args.self.now (take j c.args.candidates.now), length-take-le j c.args.candidates.now (omega (arith, c.requires.good.few)), c.requires.room, c.requires.few)

pub loop-candidate-preserved : goal.loop-candidate-preserved
loop-candidate-preserved c =
    c.meet.ensures ∙ meeting-more c.args.self.now c.args.candidates.now c.loop-candidate.self c.loop-candidate.candidate-index c.loop-candidate.invariant (omega (arith, c.requires.good.few))
