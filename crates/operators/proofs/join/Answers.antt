-- `operators::join` meets its contract. Assumes nothing.
use Rattle.std.proofs.Common.{◌≡◌, ◌≢◌, refl}
use Rattle.meaning.specs.declared.Binary.{Binary}
use Rattle.meaning.specs.declared.Binary.TheVariants.{Or as or, Xor as xor, And as and, Eq as eq, Ne as ne}
use Rattle.meaning.specs.Running.{word_binary}
use Rattle.operators.specs.Operators.{Join, with_or, with_xor, with_and, equal, unequal}
use Rattle.operators.proofs.join.Goals as goal

-- The last arm is for `!=`.
rest : {o : Binary} → Join o → (o ≢ or) → (o ≢ xor) → (o ≢ and) → (o ≢ eq) → o ≡ ne
rest with_or h _ _ _ = absurd (h refl)
rest with_xor _ h _ _ = absurd (h refl)
rest with_and _ _ h _ = absurd (h refl)
rest equal _ _ _ h = absurd (h refl)
rest unequal _ _ _ _ = refl

pub returns-in_default : goal.returns-in_default
unfolding word_binary
returns-in_default c = rw (rest c.requires c.in_default.not-Or c.in_default.not-Xor c.in_default.not-And c.in_default.not-Eq) c.bit-in_default.ensures
