-- Masks as numbers, for any number of lanes: and, complement, shift, and the number of a mask.
use Prim.Native.Nat.{ℕ, zero, suc, ◌+◌, ◌*◌, ◌/◌, ◌%◌, ◌-◌, ◌^◌, ◌<◌, ◌≤◌, min}
use mathlib.Core.Path.{◌≡◌, refl, ap, ◌∙◌}
use mathlib.Core.Bool.{Bool, true, false, not, ◌&&◌, ◌||◌}
use mathlib.Core.List.{List, [], ◌∷◌, ◌++◌, map, zip_with, map-append}
use native.Mathlib.Omega.{arith}
use native.Mathlib.Nat.{pow-suc}
use native.Mathlib.Numerals.{add-one}
use lib.Dec.{eqb}
use lib.Pow.{pow_pos, pow_mono, shr-shr, ones_split, ones_lt, high}
use lib.Bits.{bit_and, and_step, and_mask}
use lib.ListN.{length, get_or, take, replicate, length-map}
use lib.Seq.{take-suc, take_all, length-take-le}
use borrow.Author.Tests.{eq-eqb, ne_eqb}
use Rattle.meaning.specs.Memory.{Mask, bit, truth}
use Rattle.meaning.specs.Running.{some_lane}
use Rattle.operators.proofs.Bytes.{truth_is}
use Rattle.blocks.specs.Masks.{ZeroOrOne, bits, number}
use Rattle.laws.proofs.Lists.{map_at}

pub length-bits : (n m : ℕ) → length (bits n m) ≡ n
unfolding bits
length-bits zero m = refl
length-bits (suc n) m = ap suc (length-bits n (m / 2))

-- Lane i is found by a shift.
pub bits_at : (n m i : ℕ) → i < n → get_or (bits n m) i false ≡ eqb (m / 2 ^ i % 2) 1
unfolding bits
bits_at zero m i h = absurd (omega arith)
bits_at (suc n) m zero h = let e : m / 2 ^ 0 ≡ m = omega arith in rw e
bits_at (suc n) m (suc i) h =
    let e : m / 2 / 2 ^ i ≡ m / 2 ^ suc i = shr-shr m 1 i ∙ ap (λ j. m / 2 ^ j) (omega arith) in
    bits_at n (m / 2) i (omega arith) ∙ rw e

-- The first lanes.
pub take-bits : (w n m : ℕ) → w ≤ n → take w (bits n m) ≡ bits w m
unfolding bits
take-bits zero n m h = refl
take-bits (suc w) zero m h = absurd (omega arith)
take-bits (suc w) (suc n) m h = ap (λ l. eqb (m % 2) 1 ∷ l) (take-bits w n (m / 2) (omega arith))

and_digit : (x y : ℕ) → x < 2 → y < 2 → eqb (min x y) 1 ≡ (eqb x 1 && eqb y 1)
and_digit zero zero p q = refl
and_digit zero (suc zero) p q = refl
and_digit zero (suc (suc y)) p q = absurd (omega arith)
and_digit (suc zero) zero p q = refl
and_digit (suc zero) (suc zero) p q = refl
and_digit (suc zero) (suc (suc y)) p q = absurd (omega arith)
and_digit (suc (suc x)) y p q = absurd (omega arith)

min_lt : (x y : ℕ) → x < 2 → min x y < 2
min_lt x y p = omega arith

-- "mask-and-m", lane by lane
pub and_bits : (n a b : ℕ) → bits n (bit_and a b) ≡ zip_with ◌&&◌ (bits n a) (bits n b)
unfolding bits zip_with
and_bits zero a b = refl
and_bits (suc n) a b =
    let s = and_step a b in
    let d : min (a % 2) (b % 2) < 2 = min_lt (a % 2) (b % 2) (omega arith) in
    let low : bit_and a b % 2 ≡ min (a % 2) (b % 2) = omega arith in
    let high : bit_and a b / 2 ≡ bit_and (a / 2) (b / 2) = omega arith in
    rw (low, high, and_digit (a % 2) (b % 2) (omega arith) (omega arith), and_bits n (a / 2) (b / 2))

not_digit : (x : ℕ) → x < 2 → eqb (1 - x) 1 ≡ not (eqb x 1)
not_digit zero p = refl
not_digit (suc zero) p = refl
not_digit (suc (suc x)) p = absurd (omega arith)

-- The complement among k bits, lane by lane.
pub not_bits : (k n c : ℕ) → n ≤ k → c < 2 ^ k → bits n (2 ^ k - 1 - c) ≡ map not (bits n c)
unfolding bits
not_bits k zero c h l = refl
not_bits zero (suc n) c h l = absurd (omega arith)
not_bits (suc k) (suc n) c h l =
    let e = pow-suc 2 k in
    let low : (2 ^ suc k - 1 - c) % 2 ≡ 1 - c % 2 = omega arith in
    let high : (2 ^ suc k - 1 - c) / 2 ≡ 2 ^ k - 1 - c / 2 = omega arith in
    rw (low, high, not_digit (c % 2) (omega arith), not_bits k n (c / 2) (omega arith) (omega arith))

bit_lt : (c : Bool) → bit c < 2
unfolding bit
bit_lt true = omega arith
bit_lt false = omega arith

-- A mask's number has the mask's lanes and no more.
pub number_lt : (m : Mask) → number m < 2 ^ length m
unfolding number
number_lt [] = omega arith
number_lt (c ∷ m) = omega (arith, number_lt m, bit_lt c, pow-suc 2 (length m))

first_bit : (c : Bool) (n : ℕ) → eqb ((n * 2 + bit c) % 2) 1 ≡ c
unfolding bit
first_bit true n = eq-eqb ((n * 2 + 1) % 2) 1 (omega arith)
first_bit false n = ne_eqb ((n * 2 + 0) % 2) 1 (λ (e : (n * 2 + 0) % 2 ≡ 1). omega arith)

pub bits-number : (m : Mask) → bits (length m) (number m) ≡ m
unfolding number bits
bits-number [] = refl
bits-number (c ∷ m) =
    let e : (number m * 2 + bit c) / 2 ≡ number m = omega (arith, bit_lt c) in
    rw (first_bit c (number m), e, bits-number m)

-- No lane, all lanes.
pub bits_none : (n : ℕ) → bits n 0 ≡ replicate n false
unfolding bits
bits_none zero = refl
bits_none (suc n) = ap (λ l. false ∷ l) (bits_none n)

pub bits_all : (n : ℕ) → bits n (2 ^ n - 1) ≡ replicate n true
unfolding bits
bits_all zero = refl
bits_all (suc n) =
    let e = pow-suc 2 n in
    let p = pow_pos n in
    let low : (2 ^ suc n - 1) % 2 ≡ 1 = omega arith in
    let high : (2 ^ suc n - 1) / 2 ≡ 2 ^ n - 1 = omega arith in
    rw (low, high, bits_all n)

pub some_lane_none : (n : ℕ) → some_lane (replicate n false) ≡ false
unfolding some_lane
some_lane_none zero = refl
some_lane_none (suc n) = some_lane_none n

-- A mask that is not 0 has an active lane.
pub some_lane_some : (n m : ℕ) → m < 2 ^ n → (m ≡ 0 → ⊥) → some_lane (bits n m) ≡ true
unfolding bits some_lane
some_lane_some zero m l h = absurd (h (omega arith))
some_lane_some (suc n) m l h = go (m % 2) refl (some_lane_some n (m / 2) (omega (arith, pow-suc 2 n)))
  where
    go : (x : ℕ) → m % 2 ≡ x → ((m / 2 ≡ 0 → ⊥) → some_lane (bits n (m / 2)) ≡ true) → (eqb (m % 2) 1 || some_lane (bits n (m / 2))) ≡ true
    go zero e r = rw (e, r (λ (z : m / 2 ≡ 0). h (omega arith)))
    go (suc zero) e r = rw e
    go (suc (suc x)) e r = absurd (omega arith)

-- ---- all lanes of a width
pub ones : (w : ℕ) → w ≤ 64 → (2 ^ 64 - 1) / 2 ^ (64 - w) ≡ 2 ^ w - 1
ones w h =
    let e : w + (64 - w) ≡ 64 = omega arith in
    let s : 2 ^ 64 - 1 ≡ (2 ^ w - 1) * 2 ^ (64 - w) + (2 ^ (64 - w) - 1) = rw e at (ones_split w (64 - w)) in
    rw s (high (2 ^ w - 1) (64 - w) (ones_lt (64 - w)))

-- ---- a lane tested by a shift
pub low_bit : (n : ℕ) → bit_and n 1 ≡ n % 2
low_bit n = and_mask n 1

pub length_mask : (n m : ℕ) → length (map bit (bits n m)) ≡ n
length_mask n m = length-map (bits n m) bit ∙ length-bits n m

pub mask_at : (n m i : ℕ) → i < n → bit (eqb (bit_and (m / 2 ^ i) 1) 1) ≡ get_or (map bit (bits n m)) i 0
mask_at n m i h = rw (low_bit (m / 2 ^ i), map_at bit (bits n m) i false (rw (length-bits n m) h), bits_at n m i h)

-- Lanes and then lanes.
pub bits-append : (n k m : ℕ) → bits (n + k) m ≡ bits n m ++ bits k (m / 2 ^ n)
unfolding bits
bits-append zero k m =
    let z : 0 + k ≡ k = omega arith in
    let e : m / 2 ^ 0 ≡ m = omega arith in
    rw (z, e)
bits-append (suc n) k m =
    let e : m / 2 / 2 ^ n ≡ m / 2 ^ suc n = shr-shr m 1 n ∙ ap (λ j. m / 2 ^ j) (omega arith) in
    let t : suc n + k ≡ suc (n + k) = omega arith in
    rw (t, bits-append n k (m / 2), e)

-- One lane more.
pub bits_next : (i m : ℕ) → bits (i + 1) m ≡ bits i m ++ (eqb (bit_and (m / 2 ^ i) 1) 1 ∷ [])
unfolding bits
bits_next i m = bits-append i 1 m ∙ rw (low_bit (m / 2 ^ i))

-- ---- the mask of the lanes that are true, from the first lane on
number_next : (m : Mask) (c : Bool) → number (m ++ (c ∷ [])) ≡ number m + bit c * 2 ^ length m
unfolding number bit
number_next [] true = omega arith
number_next [] false = omega arith
number_next (d ∷ m) true = omega (arith, number_next m true, pow-suc 2 (length m))
number_next (d ∷ m) false = omega (arith, number_next m false, pow-suc 2 (length m))

-- A lane's bit in its place.
at_most : (b : Bool) (i : ℕ) → bit b * 2 ^ i ≤ 2 ^ i
unfolding bit
at_most true i = omega arith
at_most false i = omega arith

shifted : (b : Bool) (i : ℕ) → i < 16 → bit b * 2 ^ i % 2 ^ 32 ≡ bit b * 2 ^ i
shifted b i h = mod_small (bit b * 2 ^ i) (omega (arith, at_most b i, pow_mono {i = i} {j = 16} (omega arith)))
  where
    mod_small : (n : ℕ) → n < 2 ^ 32 → n % 2 ^ 32 ≡ n
    mod_small n l = omega arith

-- A lane that is 0 or 1 is its truth.
lane_bit : (a : ℕ) → a < 2 → a ≡ bit (not (eqb a 0))
unfolding bit
lane_bit zero h = refl
lane_bit (suc zero) h = refl
lane_bit (suc (suc a)) h = absurd (omega arith)

-- After i lanes.
pub record Counting (x : List ℕ) (r i : ℕ) : Type 0 where
  pub lanes : length x ≡ 16
  pub bools : ZeroOrOne x
  pub few : i ≤ 16
  pub is : r ≡ number (map truth (take i x))

pub count_begun : (x : List ℕ) → length x ≡ 16 → ZeroOrOne x → Counting x 0 0
unfolding number
count_begun x h b = record { lanes = h; bools = b; few = omega arith; is = refl }

module _ {x : List ℕ} {r i : ℕ} (c : Counting x r i) where
  length_truths : length (map truth (take i x)) ≡ i
  length_truths = length-map (take i x) truth ∙ length-take-le i x (omega (arith, c.lanes, c.few))

  small : r < 2 ^ i
  small = rw c.is (rw length_truths at (number_lt (map truth (take i x))))

  pub count_small : r < 2 ^ 32
  count_small = omega (arith, small, pow_mono {i = i} {j = 16} c.few)

  -- Lane i in its place.
  placed-bit : i < 16 → get_or x i 0 * 2 ^ i % 2 ^ 32 ≡ bit (not (eqb (get_or x i 0) 0)) * 2 ^ i
  placed-bit h =
      ap (λ b. b * 2 ^ i % 2 ^ 32) (lane_bit (get_or x i 0) (c.bools.low i (omega (arith, c.lanes)))) ∙ shifted (not (eqb (get_or x i 0) 0)) i h

  pub count_fits : i < 16 → r + get_or x i 0 * 2 ^ i % 2 ^ 32 < 2 ^ 32
  count_fits h = omega (arith, placed-bit h, small, pow_mono {i = i} {j = 16} c.few, at_most (not (eqb (get_or x i 0) 0)) i)

  pub count_more : i < 16 → Counting x (r + get_or x i 0 * 2 ^ i % 2 ^ 32) (i + 1)
  count_more h = record {
    lanes = c.lanes;
    bools = c.bools;
    few = omega arith;
    is = ap (λ b. r + b) (placed-bit h) ∙ rw (add-one i, take-suc x i 0 (omega (arith, c.lanes)), map-append truth (take i x) (get_or x i 0 ∷ []), number_next (map truth (take i x)) (truth (get_or x i 0)), length_truths, truth_is, ← c.is);
  }

  pub counted : 16 ≤ i → r ≡ number (map truth x)
  counted h = c.is ∙ rw (take_all i x (omega (arith, c.lanes)))
