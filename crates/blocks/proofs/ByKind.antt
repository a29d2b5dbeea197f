-- The arms by kind: the words of ints and bools, the patterns of floats, and the bytes of each.
use Prim.Native.Nat.{ℕ, zero, suc}
use mathlib.Core.Path.{◌≡◌, refl}
use mathlib.Core.Bool.{true, false}
use mathlib.Core.List.{List, [], ◌∷◌, map, zip_with}
use denote.Enum.Declared.{tag_of}
use types.Run.{OneOf, miss}
use native.Mathlib.Omega.{arith}
use lib.ListN.{length, drop, replicate}
use Rattle.meaning.specs.contracts.Kind as its_kinds
use Rattle.meaning.specs.contracts.Binary as its_operators
use Rattle.meaning.specs.contracts.Unary as its_signs
use Rattle.meaning.specs.declared.Kind.{Kind}
use Rattle.meaning.specs.declared.Kind.TheVariants.{Int as int, Bool as bool, Float as float}
use Rattle.meaning.specs.declared.Unary.{Unary}
use Rattle.meaning.specs.declared.Unary.TheVariants.{Neg as neg, Inv as inv, Not as unary_not}
use Rattle.meaning.specs.declared.Binary.{Binary}
use Rattle.meaning.specs.declared.Binary.TheVariants.{Or as or, Xor as xor, And as and, Eq as eq, Ne as ne, Lt as lt, Gt as gt, Le as le, Ge as ge, Add as add, Sub as sub, Mul as mul}
use Rattle.meaning.specs.Floats.{one_nan}
use Rattle.meaning.specs.Memory.{Mask, Value, size, whole, lane_of, bytes_of, load, store}
use Rattle.meaning.specs.Running.{word_unary, word_binary, float_unary, float_binary, unary_of, binary_of}
use Rattle.laws.proofs.Arms.{int_or_float, int_or_bool}
use Rattle.blocks.specs.Chunks.{held_as, lane_stored}

-- ---- ints and bools
module _ (k : Kind) (arm : OneOf (0 ∷ 1 ∷ []) (tag_of its_kinds.the_type k)) where
  pub binary_words : (o : Binary) (u v : List ℕ) → zip_with (word_binary o) u v ≡ zip_with (binary_of k o) u v
  unfolding binary_of
  binary_words o u v = int_or_bool (λ k. zip_with (word_binary o) u v ≡ zip_with (binary_of k o) u v) refl refl k arm

  pub unary_words : (o : Unary) (l : List ℕ) → map (word_unary o) l ≡ map (unary_of k o) l
  unfolding unary_of
  unary_words o l = int_or_bool (λ k. map (word_unary o) l ≡ map (unary_of k o) l) refl refl k arm

map_same : (l : List ℕ) → l ≡ map (λ x. x) l
map_same [] = refl
map_same (x ∷ l) = rw (← map_same l)

pub stored_same : (k : Kind) → OneOf (0 ∷ 1 ∷ []) (tag_of its_kinds.the_type k) → (l : List ℕ) → l ≡ map (lane_stored k) l
unfolding lane_stored
stored_same k arm l = int_or_bool (λ k. l ≡ map (lane_stored k) l) (map_same l) (map_same l) k arm

-- ---- ints and floats
-- n floats are loaded as n ints are.
pub load_float : (n : ℕ) (l : List ℕ) → load float n l ≡ load int n l
unfolding load lane_of size
load_float zero l = refl
load_float (suc n) l = rw (load_float n (drop 4 l))

module _ (k : Kind) (arm : OneOf (0 ∷ 2 ∷ []) (tag_of its_kinds.the_type k)) where
  pub load_word : (n : ℕ) (l : List ℕ) → load int n l ≡ load k n l
  load_word n l = int_or_float (λ k. load int n l ≡ load k n l) refl (rw (load_float n l)) k arm

  pub whole_word : (n : ℕ) → whole k n ≡ whole int n
  unfolding whole size
  whole_word n = int_or_float (λ k. whole k n ≡ whole int n) refl refl k arm

  pub held_word : held_as k ≡ int
  unfolding held_as
  held_word = int_or_float (λ k. held_as k ≡ int) refl refl k arm

-- ---- floats
-- The operators that take none give 0 in every lane.
pub no_binary : (o : Binary) → OneOf (0 ∷ 1 ∷ 2 ∷ []) (tag_of its_operators.the_type o) → (a b : ℕ) → float_binary o a b ≡ 0
unfolding float_binary
no_binary or h a b = refl
no_binary xor h a b = refl
no_binary and h a b = refl
no_binary eq h a b = absurd (miss (0 ∷ 1 ∷ 2 ∷ []) 3 tt h)
no_binary ne h a b = absurd (miss (0 ∷ 1 ∷ 2 ∷ []) 4 tt h)
no_binary lt h a b = absurd (miss (0 ∷ 1 ∷ 2 ∷ []) 5 tt h)
no_binary gt h a b = absurd (miss (0 ∷ 1 ∷ 2 ∷ []) 6 tt h)
no_binary le h a b = absurd (miss (0 ∷ 1 ∷ 2 ∷ []) 7 tt h)
no_binary ge h a b = absurd (miss (0 ∷ 1 ∷ 2 ∷ []) 8 tt h)
no_binary add h a b = absurd (miss (0 ∷ 1 ∷ 2 ∷ []) 9 tt h)
no_binary sub h a b = absurd (miss (0 ∷ 1 ∷ 2 ∷ []) 10 tt h)
no_binary mul h a b = absurd (miss (0 ∷ 1 ∷ 2 ∷ []) 11 tt h)

pub no_unary : (o : Unary) → OneOf (1 ∷ 2 ∷ []) (tag_of its_signs.the_type o) → (a : ℕ) → float_unary o a ≡ 0
unfolding float_unary
no_unary neg h a = absurd (miss (1 ∷ 2 ∷ []) 0 tt h)
no_unary inv h a = refl
no_unary unary_not h a = refl

pub zip_zeros : (f : ℕ → ℕ → ℕ) → ((a b : ℕ) → f a b ≡ 0) → (n : ℕ) (u v : List ℕ) → length u ≡ n → length v ≡ n → replicate n 0 ≡ zip_with f u v
unfolding zip_with
zip_zeros f z zero u v e g = go u v e g
  where
    go : (u v : List ℕ) → length u ≡ 0 → length v ≡ 0 → [] ≡ zip_with f u v
    go [] v e g = refl
    go (x ∷ u) v e g = absurd (omega arith)
zip_zeros f z (suc n) [] v e g = absurd (omega arith)
zip_zeros f z (suc n) (x ∷ u) [] e g = absurd (omega arith)
zip_zeros f z (suc n) (x ∷ u) (y ∷ v) e g = rw (z x y, zip_zeros f z n u v (omega arith) (omega arith))

pub map_zeros : (f : ℕ → ℕ) → ((a : ℕ) → f a ≡ 0) → (l : List ℕ) → replicate (length l) 0 ≡ map f l
map_zeros f z [] = refl
map_zeros f z (x ∷ l) = rw (z x, map_zeros f z l)

-- Floats are stored as the ints of their patterns are, where those of not-a-numbers are one.
store_float : (m : Mask) (v : Value) (l : List ℕ) → store int m (map one_nan v) l ≡ store float m v l
unfolding store bytes_of size
store_float [] v l = refl
store_float (c ∷ m) [] l = refl
store_float (true ∷ m) (x ∷ v) l = rw (store_float m v (drop 4 l))
store_float (false ∷ m) (x ∷ v) l = rw (store_float m v (drop 4 l))

-- ---- every kind
pub store-held : (k : Kind) (m : Mask) (v : Value) (l : List ℕ) → store (held_as k) m (map (lane_stored k) v) l ≡ store k m v l
unfolding held_as lane_stored
store-held int m v l = rw (← map_same v)
store-held bool m v l = rw (← map_same v)
store-held float m v l = store_float m v l
