-- What is no sum, and no difference, is a product.
use Rattle.std.proofs.Common.{◌≡◌, ◌≢◌, refl}
use Rattle.meaning.specs.declared.Binary.{Binary}
use Rattle.meaning.specs.declared.Binary.TheVariants.{Add as add, Sub as sub, Mul as mul}
use Rattle.operators.specs.Operators.{Sum, adds, subtracts, multiplies}

pub last_sum : {o : Binary} → Sum o → o ≢ add → o ≢ sub → o ≡ mul
last_sum adds h _ = absurd (h refl)
last_sum subtracts _ h = absurd (h refl)
last_sum multiplies _ _ = refl
