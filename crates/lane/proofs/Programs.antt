-- What the theorem asks of a typed program: that there is no `scalar` in it, and that lane i is one of each variable's, and so of each
-- expression's.
use mathlib.Core.Bool.{Bool, true, false, ◌&&◌}
use Prim.Native.Nat.{ℕ, ◌<◌}
use lib.ListN.{length}
use Rattle.meaning.specs.Program.{Code, Program, nothing, step, put, both, choice, cycle, alone}
use Rattle.meaning.specs.Memory.{Declarations, declared}
use Rattle.meaning.specs.Typing.{width}
use Rattle.laws.specs.Lengths.{Matched, matched_constant, matched_variable, matched_mask, matched_one, matched_two}
use Rattle.lane.proofs.Lanes.{Reaches, reaches_one, reaches-joined}

-- The lanes of the variable x.
abbrev pub lanes_of : Declarations → ℕ → ℕ
lanes_of Γ x = (declared Γ x).lanes

-- Is there no `scalar` in a program?
unfoldable pub no_alone : Program → Bool
no_alone nothing = true
no_alone (step p) = true
no_alone (put p x e) = true
no_alone (both s t) = no_alone s && no_alone t
no_alone (choice p e s t) = no_alone s && no_alone t
no_alone (cycle p e s) = no_alone s
no_alone (alone s) = false

-- Where lane i is one of each variable's, it is one of each expression's.
pub reaches-width : {Γ : Declarations} {C : ℕ} {e : Code} (i : ℕ) → ((x : ℕ) → x < length Γ → Reaches i (lanes_of Γ x)) → Reaches i C → Matched Γ C e → Reaches i (width Γ C e)
unfolding width
reaches-width i all c matched_constant = reaches_one i
reaches-width i all c (matched_variable {x = x} h s) = all x h
reaches-width i all c matched_mask = c
reaches-width i all c (matched_one h) = reaches-width i all c h
reaches-width {Γ} {C} i all c (matched_two {a = a} {b = b} h k m) = reaches-joined (width Γ C a) (width Γ C b) i (reaches-width i all c h) (reaches-width i all c k)
