-- `operators::order` meets its contract. Assumes nothing.
use Rattle.std.proofs.Common.{◌≡◌, ◌≢◌, refl}
use Rattle.meaning.specs.declared.Binary.{Binary}
use Rattle.meaning.specs.declared.Binary.TheVariants.{Lt as lt, Gt as gt, Le as le, Ge as ge}
use Rattle.meaning.specs.Running.{word_binary}
use Rattle.operators.specs.Operators.{Order, below, above, at_most, at_least}
use Rattle.operators.proofs.order.Goals as goal

-- The last arm is for `>=`.
rest : {o : Binary} → Order o → (o ≢ lt) → (o ≢ gt) → (o ≢ le) → o ≡ ge
rest below h _ _ = absurd (h refl)
rest above _ h _ = absurd (h refl)
rest at_most _ _ h = absurd (h refl)
rest at_least _ _ _ = refl

pub returns-in_default : goal.returns-in_default
unfolding word_binary
returns-in_default c = rw (rest c.requires c.in_default.not-Lt c.in_default.not-Gt c.in_default.not-Le, c.bit-in_default.ensures, c.below-in_default.ensures)
