-- A flag that a call gave, after a test of it.
use mathlib.Core.Path.{◌≡◌, sym, ◌∙◌}
use mathlib.Core.Bool.{Bool, true, false}

pub off : {b h : Bool} → b ≡ h → b ≡ false → h ≡ false
off e t = sym e ∙ t

pub on : {b h : Bool} → b ≡ h → b ≡ true → h ≡ true
on e t = sym e ∙ t
