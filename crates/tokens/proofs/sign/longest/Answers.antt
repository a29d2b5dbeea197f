-- `tokens::sign::longest` meets its contract: a sign of two bytes, or else of one.
use mathlib.Core.Path.{◌≡◌, refl, ◌∙◌}
use Prim.Native.Nat.{ℕ}
use Rattle.std.specs.declared.option.Option.{Option}
use Rattle.std.specs.declared.option.Option.TheVariants.{Some, None}
use Rattle.meaning.specs.Tokens.{signs, bytes}
use Rattle.tokens.proofs.Signs.{long_sign, short_sign, no_sign}
use Rattle.tokens.proofs.sign.longest.Goals as goal
use Rattle.tokens.proofs.sign.longest.Goals.{then-c-eq61+in_default, else-c-eq61}

-- What is nothing else is none.
none_left : (o : Option ℕ) → ((k : ℕ) → o ≡ Some k → ⊥) → None ≡ o
none_left None other = refl
none_left (Some k) other = absurd (other k refl)

pub kind-requires : goal.kind-requires
unfolding signs bytes
kind-requires c = refl

pub returns-in-Some : goal.returns-in-Some
returns-in-Some c at = long_sign _ _ at c.if-c-eq61.true c.in-Some.ensures

pub kind-requires-2 : goal.kind-requires-2
unfolding signs bytes
kind-requires-2 c = refl

-- After the first test there is no sign of two bytes.
pub returns-in_err-short : goal.returns-in_err-short
returns-in_err-short c at =
    c.from_residual.ensures
    ∙ no_sign _ _ at (λ is. elim c.if-c-eq61.branch [ then-c-eq61+in_default w ↦ none_left _ w.in_default.not-Some ∙ w.kind.ensures | else-c-eq61 w ↦ absurd (w.if-c-eq61.false is) ]) c.in_err-short.ensures

pub returns : goal.returns
returns c at = short_sign _ _ at (λ is. elim c.if-c-eq61.branch [ then-c-eq61+in_default w ↦ none_left _ w.in_default.not-Some ∙ w.kind.ensures | else-c-eq61 w ↦ absurd (w.if-c-eq61.false is) ]) c.in_ok-short.ensures
