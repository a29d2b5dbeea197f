-- `floats::order` meets its contract. Assumes nothing.
use Rattle.std.proofs.Common.{◌≡◌, ◌≢◌, refl}
use Rattle.meaning.specs.declared.Binary.{Binary}
use Rattle.meaning.specs.declared.Binary.TheVariants.{Eq as eq, Ne as ne, Lt as lt, Gt as gt, Le as le, Ge as ge}
use Rattle.meaning.specs.Running.{float_binary}
use Rattle.floats.specs.Comparisons.{Compares, equal, unequal, below, above, at_most, at_least}
use Rattle.floats.proofs.Comparisons.{level_agrees, unequal_agrees, below_agrees, at_most_agrees, at_least_agrees}
use Rattle.floats.proofs.order.Goals as goal

-- The last arm is for `>=`.
rest : {o : Binary} → Compares o → (o ≢ eq) → (o ≢ ne) → (o ≢ lt) → (o ≢ gt) → (o ≢ le) → o ≡ ge
rest equal h _ _ _ _ = absurd (h refl)
rest unequal _ h _ _ _ = absurd (h refl)
rest below _ _ h _ _ = absurd (h refl)
rest above _ _ _ h _ = absurd (h refl)
rest at_most _ _ _ _ h = absurd (h refl)
rest at_least _ _ _ _ _ = refl

pub returns-in-Eq : goal.returns-in-Eq
unfolding float_binary
returns-in-Eq c = rw c.in-Eq.is (cc (level_agrees c.args.x c.args.y))

pub returns-in-Ne : goal.returns-in-Ne
unfolding float_binary
returns-in-Ne c = rw c.in-Ne.is (cc (unequal_agrees c.args.x c.args.y))

pub returns-in-Lt : goal.returns-in-Lt
unfolding float_binary
returns-in-Lt c = rw c.in-Lt.is (cc (below_agrees c.args.x c.args.y))

pub returns-in-Gt : goal.returns-in-Gt
unfolding float_binary
returns-in-Gt c = rw c.in-Gt.is (cc (below_agrees c.args.y c.args.x))

pub returns-in-Le : goal.returns-in-Le
unfolding float_binary
returns-in-Le c = rw c.in-Le.is (cc (at_most_agrees c.args.x c.args.y))

pub returns-in_default : goal.returns-in_default
unfolding float_binary
returns-in_default c = rw (rest c.requires c.in_default.not-Eq c.in_default.not-Ne c.in_default.not-Lt c.in_default.not-Gt c.in_default.not-Le) (cc (at_least_agrees c.args.x c.args.y))
