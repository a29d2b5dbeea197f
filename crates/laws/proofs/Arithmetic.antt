-- What each operator gives, of one lane and of values of any length: as whole numbers with a sign, as truths and as bits; and so in every text
-- that is accepted.
use Prim.Native.Nat.{ℕ, zero, suc, ◌+◌, ◌*◌, ◌-◌, ◌^◌, ◌≤◌, ◌<◌}
use mathlib.Core.Path.{◌≡◌, refl, sym, ap, ◌∙◌}
use mathlib.Core.Bool.{Bool, true, false, ◌&&◌, ◌||◌, false≢true}
use mathlib.Core.Bool as B
use mathlib.Core.List.{List, [], ◌∷◌, map, zip_with}
use native.Mathlib.Omega.{arith}
use lib.Bits.{bit_and, bit_or, bit_xor}
use lib.Dec.{eqb}
use lib.ListN.{length, get_or, length-map, length-replicate, get_or-replicate}
use borrow.Author.Tests.{eqb-true, eqb-false}
use Rattle.meaning.specs.declared.Kind.{Kind}
use Rattle.meaning.specs.declared.Kind.TheVariants.{Int as int, Bool as bool, Float as float}
use Rattle.meaning.specs.declared.Unary.{Unary}
use Rattle.meaning.specs.declared.Unary.TheVariants.{Neg as neg, Inv as inv, Not as unary_not}
use Rattle.meaning.specs.declared.Binary.{Binary}
use Rattle.meaning.specs.declared.Binary.TheVariants.{Or as or, Xor as xor, And as and, Eq as eq, Ne as ne, Lt as lt, Gt as gt, Le as le, Ge as ge, Add as add, Sub as sub, Mul as mul}
use Rattle.meaning.specs.Codes.{ok}
use Rattle.meaning.specs.Tree.{kind_number, same_kind, ◌one_of◌, table, unary_table}
use Rattle.meaning.specs.Program.{Code, Program}
use Rattle.meaning.specs.Memory.{Memory, Value, Mask, Declarations, size, bit, truth, number_of, lane_of, load, spread}
use Rattle.meaning.specs.Running.{word_unary, word_binary, float_unary, float_binary, unary_of, binary_of, lanewise, value}
use Rattle.meaning.specs.Services.{judged, evaluate}
use Rattle.laws.specs.Lengths.{Kinded, kinded_number, kinded_float, kinded_truth, kinded_variable, kinded_mask, kinded_one, kinded_two}
use Rattle.laws.specs.Values.{All, lane_bits, Lanes, Bytes, Every}
use Rattle.laws.specs.Arithmetic.{Says, GivesOne, negative, complement, opposite, GivesTwo, sum, difference, product, below, above, at_most, at_least, equal, unequal, bits_or, bits_xor, bits_and, truths_or, truths_xor, truths_and, truths_equal, truths_unequal, negated_single, single_sum, single_difference, single_product, single_below, single_above, single_at_most, single_at_least, single_equal, single_unequal, ReadByTruth, lane, LaneByLane, LanesByLane, Reckoned, reckoned_constant, reckoned_variable, reckoned_mask, reckoned_one, reckoned_two, Reckons}
use Rattle.laws.proofs.Lists.{all_at, map_at}
use Rattle.laws.proofs.Values.{length-lanewise, all_spread, evaluate_lanes, fits_every}
use Rattle.laws.proofs.Accepted.{accepted_ready}
use Rattle.laws.proofs.Signed.{negative_kept, sum_kept, difference_kept, product_kept, says, says_not, less_says, not_less_says, equal_says, unequal_says}
use Rattle.laws.proofs.Bits.{and_bit, or_bit, xor_bit, complement_bits}

-- "bools are compared and joined by truth": their lanes are 0 or 1.
by_bit : (P : ℕ → Type 0) → P 0 → P 1 → (a : ℕ) → a < 2 ^ 1 → P a
by_bit P p q zero h = p
by_bit P p q (suc zero) h = q
by_bit P p q (suc (suc a)) h = absurd (omega arith)

by_bits : (P : ℕ → ℕ → Type 0) → P 0 0 → P 0 1 → P 1 0 → P 1 1 → (a b : ℕ) → a < 2 ^ 1 → b < 2 ^ 1 → P a b
by_bits P p q r s a b h g = by_bit (λ a. P a b) (by_bit (P 0) p q b g) (by_bit (P 1) r s b g) a h

truth_of : (a : ℕ) → a < 2 ^ 1 → bit (truth a) ≡ a
unfolding bit truth
truth_of = by_bit (λ a. bit (truth a) ≡ a) refl refl

module _ (a b : ℕ) (bit_a : a < 2 ^ 1) (bit_b : b < 2 ^ 1) where
  same_truth : truth a ≡ truth b → a ≡ b
  same_truth e = sym (truth_of a bit_a) ∙ ap bit e ∙ truth_of b bit_b

  truths_equal_says : Says (truth a ≡ truth b) (bit (eqb a b))
  truths_equal_says = says (eqb a b) (λ e. ap truth (eqb-true a b e)) (λ e s. eqb-false a b e (same_truth s))

  truths_unequal_says : Says (truth a ≡ truth b → ⊥) (bit (B.not (eqb a b)))
  truths_unequal_says = says_not (eqb a b) (λ e. ap truth (eqb-true a b e)) (λ e s. eqb-false a b e (same_truth s))

-- What each operator gives, of lanes of a kind that it takes.
pub one_lane : (k : Kind) (o : Unary) (a : ℕ) → k one_of (unary_table o).1 ≡ true → a < 2 ^ lane_bits k → GivesOne k o a (unary_of k o a)
unfolding unary_table ◌one_of◌ same_kind kind_number unary_of word_unary float_unary lane_bits bit truth
one_lane int neg a t h = negative (negative_kept a h)
one_lane int inv a t h = complement (complement_bits a h)
one_lane int unary_not a t h = absurd (false≢true t)
one_lane bool neg a t h = absurd (false≢true t)
one_lane bool inv a t h = absurd (false≢true t)
one_lane bool unary_not a t h = opposite (by_bit (λ a. 1 - a ≡ bit (B.not (truth a))) refl refl a h)
one_lane float neg a t h = negated_single refl
one_lane float inv a t h = absurd (false≢true t)
one_lane float unary_not a t h = absurd (false≢true t)

-- A truth as a lane says that it is one.
plain_says : (b : Bool) → Says (b ≡ true) (bit b)
plain_says b = says b (λ e. e) (λ e t. false≢true (sym e ∙ t))

plain_says_not : (b : Bool) → Says (b ≡ true → ⊥) (bit (B.not b))
plain_says_not b = says_not b (λ e. e) (λ e t. false≢true (sym e ∙ t))

pub two_lanes : (k : Kind) (o : Binary) (a b : ℕ) → k one_of (table o).1 ≡ true → a < 2 ^ lane_bits k → b < 2 ^ lane_bits k → GivesTwo k o a b (binary_of k o a b)
unfolding table ◌one_of◌ same_kind kind_number binary_of word_binary float_binary lane_bits bit truth B.xor
two_lanes int or a b t h g = bits_or (λ i _. or_bit a b i)
two_lanes int xor a b t h g = bits_xor (λ i _. xor_bit a b i)
two_lanes int and a b t h g = bits_and (λ i _. and_bit a b i)
two_lanes int eq a b t h g = equal (equal_says a b h g)
two_lanes int ne a b t h g = unequal (unequal_says a b h g)
two_lanes int lt a b t h g = below (less_says a b h g)
two_lanes int gt a b t h g = above (less_says b a g h)
two_lanes int le a b t h g = at_most (not_less_says b a g h)
two_lanes int ge a b t h g = at_least (not_less_says a b h g)
two_lanes int add a b t h g = sum (sum_kept a h b g)
two_lanes int sub a b t h g = difference (difference_kept a h b g)
two_lanes int mul a b t h g = product (product_kept a h b g)
two_lanes bool or a b t h g = truths_or (by_bits (λ a b. bit_or a b ≡ bit (truth a || truth b)) refl refl refl refl a b h g)
two_lanes bool xor a b t h g = truths_xor (by_bits (λ a b. bit_xor a b ≡ bit (B.xor (truth a) (truth b))) refl refl refl refl a b h g)
two_lanes bool and a b t h g = truths_and (by_bits (λ a b. bit_and a b ≡ bit (truth a && truth b)) refl refl refl refl a b h g)
two_lanes bool eq a b t h g = truths_equal (truths_equal_says a b h g)
two_lanes bool ne a b t h g = truths_unequal (truths_unequal_says a b h g)
two_lanes bool lt a b t h g = absurd (false≢true t)
two_lanes bool gt a b t h g = absurd (false≢true t)
two_lanes bool le a b t h g = absurd (false≢true t)
two_lanes bool ge a b t h g = absurd (false≢true t)
two_lanes bool add a b t h g = absurd (false≢true t)
two_lanes bool sub a b t h g = absurd (false≢true t)
two_lanes bool mul a b t h g = absurd (false≢true t)
two_lanes float or a b t h g = absurd (false≢true t)
two_lanes float xor a b t h g = absurd (false≢true t)
two_lanes float and a b t h g = absurd (false≢true t)
two_lanes float eq a b t h g = single_equal (plain_says _)
two_lanes float ne a b t h g = single_unequal (plain_says_not _)
two_lanes float lt a b t h g = single_below (plain_says _)
two_lanes float gt a b t h g = single_above (plain_says _)
two_lanes float le a b t h g = single_at_most (plain_says _)
two_lanes float ge a b t h g = single_at_least (plain_says _)
two_lanes float add a b t h g = single_sum refl
two_lanes float sub a b t h g = single_difference refl
two_lanes float mul a b t h g = single_product refl

-- Lane i of a value, and of one that is spread.
lane_at : (v : Value) (i : ℕ) → i < length v → lane v i ≡ get_or v i 0
unfolding lane
lane_at [] i h = refl
lane_at (x ∷ []) zero h = refl
lane_at (x ∷ []) (suc i) h = absurd (omega arith)
lane_at (x ∷ y ∷ v) i h = refl

lane-spread : (n : ℕ) (v : Value) (i : ℕ) → i < length (spread n v) → get_or (spread n v) i 0 ≡ lane v i
unfolding lane spread
lane-spread n [] i h = refl
lane-spread n (x ∷ []) i h = get_or-replicate n i x 0 (omega (arith, length-replicate n x))
lane-spread n (x ∷ y ∷ v) i h = refl

-- Lane i of what is made of two values.
record Zipped (f : ℕ → ℕ → ℕ) (u v : Value) (i : ℕ) : Type 0 where
  left : i < length u
  right : i < length v
  is : get_or (zip_with f u v) i 0 ≡ f (get_or u i 0) (get_or v i 0)

zip_at : (f : ℕ → ℕ → ℕ) (u v : Value) (i : ℕ) → i < length (zip_with f u v) → Zipped f u v i
unfolding zip_with
zip_at f [] v i h = absurd (omega arith)
zip_at f (x ∷ u) [] i h = absurd (omega arith)
zip_at f (x ∷ u) (y ∷ v) zero h = record { left = omega arith; right = omega arith; is = refl }
zip_at f (x ∷ u) (y ∷ v) (suc i) h = let z = zip_at f u v i (omega arith) in record { left = omega (arith, z.left); right = omega (arith, z.right); is = z.is }

-- "For any length, once": what f gives of two lanes, it gives of each two lanes of two values, one of them perhaps replicated.
pub each_lane : {P : ℕ → Type 0} {R : ℕ → ℕ → Type 0} (f : ℕ → ℕ) → ((a : ℕ) → P a → R a (f a)) → {v : Value} → All P v → LaneByLane R v (map f v)
each_lane {P} {R} f gives {v} all = record { as_long = length-map v f; each = go }
  where
    go : (i : ℕ) → i < length (map f v) → R (lane v i) (lane (map f v) i)
    go i h =
        let inside : i < length v = omega (arith, length-map v f) in
        rw (lane_at (map f v) i h, map_at f v i 0 inside, lane_at v i inside) (gives (get_or v i 0) (all_at all i 0 inside))

pub each_lanes : {P : ℕ → Type 0} {R : ℕ → ℕ → ℕ → Type 0} (f : ℕ → ℕ → ℕ) → ((a b : ℕ) → P a → P b → R a b (f a b)) → {u v : Value} → All P u → All P v
    → LanesByLane R u v (lanewise f u v)
unfolding lanewise
each_lanes {P} {R} f gives {u} {v} all all' = record { as_long = length-lanewise f u v; each = go }
  where
    go : (i : ℕ) → i < length (lanewise f u v) → R (lane u i) (lane v i) (lane (lanewise f u v) i)
    go i h =
        let z = zip_at f (spread (length v) u) (spread (length u) v) i h in
        rw (lane_at (lanewise f u v) i h, z.is, ← lane-spread (length v) u i z.left, ← lane-spread (length u) v i z.right)
        (gives _ _ (all_at (all_spread (length v) all) i 0 z.left) (all_at (all_spread (length u) all') i 0 z.right))

-- The operators, on values of any length.
pub one_by_lane : {k : Kind} {o : Unary} {v : Value} → k one_of (unary_table o).1 ≡ true → Lanes k v → LaneByLane (GivesOne k o) v (map (unary_of k o) v)
one_by_lane {k} {o} t all = each_lane (unary_of k o) (λ a h. one_lane k o a t h) all

pub two_by_lane : {k : Kind} {o : Binary} {u v : Value} → k one_of (table o).1 ≡ true → Lanes k u → Lanes k v
    → LanesByLane (GivesTwo k o) u v (lanewise (binary_of k o) u v)
two_by_lane {k} {o} t all all' = each_lanes (binary_of k o) (λ a b h g. two_lanes k o a b t h g) all all'

-- Every operator of an expression that is typed.
module _ {Γ : Declarations} (M : Memory) (m : Mask) (bytes : Bytes M) where
  reckoned : {k : Kind} {e : Code} → Kinded Γ k e → Reckoned (λ e. evaluate Γ M e m) e
  unfolding evaluate value
  reckoned (kinded_number l) = reckoned_constant
  reckoned (kinded_float l) = reckoned_constant
  reckoned (kinded_truth b) = reckoned_constant
  reckoned (kinded_variable l) = reckoned_variable
  reckoned kinded_mask = reckoned_mask
  reckoned (kinded_one {k = k} {o = o} t a) = reckoned_one (reckoned a) (one_by_lane {k = k} {o = o} t (evaluate_lanes m a bytes))
  reckoned (kinded_two {k = k} {o = o} t a b) =
      reckoned_two (reckoned a) (reckoned b) (two_by_lane {k = k} {o = o} t (evaluate_lanes m a bytes) (evaluate_lanes m b bytes))

-- And every operator of a text that is accepted.
pub accepted_reckons : (text : List ℕ) {P : Program} {Γ : Declarations} → judged text ≡ ok P Γ → Every (λ k e. Reckons Γ e) Γ P
accepted_reckons text e = fits_every _ (λ C k e t. record { each = λ M m bytes. reckoned M m bytes t.kinded }) (accepted_ready text e).fits

-- A truth is that of its lane, and bools are read by the truth of their bytes.
pub truth-bit : (t : Bool) → truth (bit t) ≡ t
unfolding truth bit
truth-bit true = refl
truth-bit false = refl

pub load_truths : (n : ℕ) (l : List ℕ) → n ≤ length l → ReadByTruth n l
unfolding load lane_of size number_of
load_truths zero l h = refl
load_truths (suc n) [] h = absurd (omega arith)
load_truths (suc n) (b ∷ l) h =
    let byte : b + 256 * 0 ≡ b = omega arith in
    rw (byte, load_truths n l (omega arith))
