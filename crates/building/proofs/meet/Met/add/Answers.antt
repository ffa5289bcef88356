-- The new entity stands at the head of its chain.
use Rattle.std.proofs.Common.{◌<◌, get_or, ap, ℕ, List, [], ◌∷◌, ◌++◌, sym, ◌∙◌, arith, rules}
use Rattle.rules.proofs.Numbered.{three-members}
use Rattle.building.proofs.Chained.{chained_more, entities-new, stored-long, stored-front, stored-entity}
use Rattle.building.proofs.Entities.{held-length}
use Rattle.building.proofs.meet.Met.add.Goals as goal

pub bounds-self-inside-i : goal.bounds-self-inside-i
bounds-self-inside-i c = omega (arith, held-length _ _ _ c.self.view_is)

pub bounds-self-inside-i-2 : goal.bounds-self-inside-i-2
bounds-self-inside-i-2 c = omega (arith, held-length _ _ _ c.self.view_is)

pub bounds-self-inside-i-3 : goal.bounds-self-inside-i-3
bounds-self-inside-i-3 c = omega (arith, held-length _ _ _ c.self.view_is)

pub bounds-self-inside-i-4 : goal.bounds-self-inside-i-4
bounds-self-inside-i-4 c = omega (arith, held-length _ _ _ c.self.view_is)

pub invariant_of-self : goal.invariant_of-self
invariant_of-self c =
    let s = c.args.candidate in
    let m = c.self.inside in
    let room : m.count < 24576 = omega (arith, held-length _ _ _ c.self.view_is) in
    chained_more c.self.invariant s c.requires.lowest room _
    (stored-long m.sets m.count (get_or s 0 0) (get_or s 1 0) (get_or s 2 0) ∙ c.self.invariant.long)
    (stored-front m.sets m.count (get_or s 0 0) (get_or s 1 0) (get_or s 2 0))
    (stored-entity m.sets m.count (get_or s 0 0) (get_or s 1 0) (get_or s 2 0) room c.self.invariant.long ∙ sym (three-members s (search rules)))

pub returns : goal.returns
returns c =
    let s = c.args.candidate in
    let m = c.self.inside in
    let room : m.count < 24576 = omega (arith, held-length _ _ _ c.self.view_is) in
    entities-new c.self.invariant s c.requires.lowest room _
    (stored-long m.sets m.count (get_or s 0 0) (get_or s 1 0) (get_or s 2 0) ∙ c.self.invariant.long)
    (stored-front m.sets m.count (get_or s 0 0) (get_or s 1 0) (get_or s 2 0))
    (stored-entity m.sets m.count (get_or s 0 0) (get_or s 1 0) (get_or s 2 0) room c.self.invariant.long ∙ sym (three-members s (search rules)))
    ∙ ap (λ (es : List (List ℕ)). es ++ (s ∷ [])) c.self.view_is
