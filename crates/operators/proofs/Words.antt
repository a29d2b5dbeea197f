-- Words of 32 bits: what the operators on them need of numbers.
use Rattle.std.proofs.Common.{◌≡◌, ℕ, zero, suc, ◌-◌, eqb, refl, arith}
use lib.Dec.{eqb-suc-zero}
use Rattle.meaning.specs.Memory.{bit}

-- `!` is the test for 0.
pub is_zero : (a : ℕ) → bit (eqb a 0) ≡ 1 - a
unfolding bit
is_zero zero = refl
is_zero (suc a) = rw (eqb-suc-zero a) (omega arith)
