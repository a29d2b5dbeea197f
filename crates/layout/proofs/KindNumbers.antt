-- The number of a kind, back and forth.
use Prim.Native.Nat.{ℕ, zero, suc}
use mathlib.Core.Path.{◌≡◌, refl}
use Rattle.meaning.specs.declared.Kind.{Kind}
use Rattle.meaning.specs.declared.Kind.TheVariants.{Int as int, Bool as bool, Float as float}
use Rattle.meaning.specs.Tree.{kind_number}
use Rattle.layout.specs.Table.{kind_of}

pub kind_back : (k : Kind) → kind_of (kind_number k) ≡ k
unfolding kind_number kind_of
kind_back int = refl
kind_back bool = refl
kind_back float = refl

pub kind_int : (n : ℕ) → n ≡ 0 → int ≡ kind_of n
unfolding kind_of
kind_int n h = rw h

pub kind_bool : (n : ℕ) → n ≡ 1 → bool ≡ kind_of n
unfolding kind_of
kind_bool n h = rw h

pub kind_float : (n : ℕ) → (n ≡ 0 → ⊥) → (n ≡ 1 → ⊥) → float ≡ kind_of n
unfolding kind_of
kind_float zero h g = absurd (h refl)
kind_float (suc zero) h g = absurd (g refl)
kind_float (suc (suc n)) h g = refl
