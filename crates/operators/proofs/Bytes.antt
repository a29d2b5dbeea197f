-- A lane's own bytes: the number that they hold, the bytes of a number, and truths.
use Rattle.std.proofs.Common.{◌≡◌, ℕ, zero, suc, ◌+◌, ◌*◌, ◌/◌, ◌%◌, ◌<◌, not, eqb, List, [], ◌∷◌, length, get_or, take, drop, refl, arith, drop-cons}
use lib.Dec.{eqb-suc-zero}
use Rattle.std.specs.Int.{w32, from_bool, from_le_bytes, to_le_bytes}
use Rattle.meaning.specs.declared.Kind.{Kind}
use Rattle.meaning.specs.declared.Kind.TheVariants.{Int as int, Bool as bool, Float as float}
use Rattle.meaning.specs.Memory.{size, truth, bit, bool_byte, true_byte, lane_of, bytes_of, number_of, little_endian}

pub length-bytes : (k : Kind) (x : ℕ) → length (bytes_of k x) ≡ size k
unfolding bytes_of size little_endian
length-bytes int x = refl
length-bytes bool x = refl
length-bytes float x = refl

-- "false exactly at 0"
pub truth_is : (n : ℕ) → truth n ≡ not (eqb n 0)
unfolding truth
truth_is zero = refl
truth_is (suc n) = rw (eqb-suc-zero n)

pub byte_of_truth : (n : ℕ) → from_bool (not (eqb n 0)) ≡ bool_byte (truth n)
unfolding truth bool_byte true_byte
byte_of_truth zero = refl
byte_of_truth (suc n) = rw (eqb-suc-zero n)

pub bool_lane : (l : List ℕ) (i : ℕ) → i < length l → bit (not (eqb (get_or l i 0) 0)) ≡ lane_of bool (take (size bool) (drop (i * size bool) l))
unfolding lane_of size number_of
bool_lane l i h =
    let e : i * 1 ≡ i = omega arith in
    let z : get_or l i 0 + 256 * 0 ≡ get_or l i 0 = omega arith in
    rw (e, drop-cons l i 0 h, z, truth_is)

-- The library's words for a number's bytes are those of document 01.
pub int_lane : (l : List ℕ) → length l ≡ 4 → from_le_bytes w32 (get_or l 0 0 ∷ get_or l 1 0 ∷ get_or l 2 0 ∷ get_or l 3 0 ∷ []) ≡ lane_of int l
unfolding lane_of number_of
int_lane [] h = absurd (omega arith)
int_lane (a ∷ []) h = absurd (omega arith)
int_lane (a ∷ b ∷ []) h = absurd (omega arith)
int_lane (a ∷ b ∷ c ∷ []) h = absurd (omega arith)
int_lane (a ∷ b ∷ c ∷ d ∷ []) h = omega arith
int_lane (a ∷ b ∷ c ∷ d ∷ e ∷ l) h = absurd (omega arith)

pub int_bytes : (x : ℕ) → to_le_bytes w32 x ≡ bytes_of int x
unfolding bytes_of little_endian
int_bytes x =
    let third : x / 65536 % 256 ≡ x / 256 / 256 % 256 = omega arith in
    let fourth : x / 16777216 % 256 ≡ x / 256 / 256 / 256 % 256 = omega arith in
    rw (third, fourth)
