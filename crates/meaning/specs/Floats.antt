-- Document 02, R-2: "its meaning is defined on the 32-bit patterns in whole numbers". A pattern is the sign's bit, 8 bits of exponent and 23
-- of fraction. Sizes are counted in units of 2 ^ -149, the smallest that is not zero: every finite single is a whole number of units.
use Rattle.std.specs.Prelude.{ℕ, zero, suc, ◌+◌, ◌-◌, ◌*◌, ◌/◌, ◌%◌, ◌^◌, min, Bool, not, ◌&&◌, ◌||◌, cond, leb, ltb, eqb}
use Rattle.std.specs.Bool.{beq}
use Rattle.std.specs.Float.Ieee.{size as binary_digits}

-- The fields of a pattern.
abbrev pub negative : ℕ → Bool
negative a = leb (2 ^ 31) a

abbrev pub exponent : ℕ → ℕ
exponent a = a % 2 ^ 31 / 2 ^ 23

abbrev pub fraction : ℕ → ℕ
fraction a = a % 2 ^ 23

-- A not-a-number, and an infinity.
abbrev pub is_nan : ℕ → Bool
is_nan a = eqb (exponent a) 255 && not (eqb (fraction a) 0)

abbrev pub is_infinite : ℕ → Bool
is_infinite a = eqb (exponent a) 255 && eqb (fraction a) 0

-- The units that an exponent x and a fraction t stand for: 1.t * 2 ^ (x - 127), and 0.t * 2 ^ -126 where x is 0. An infinity's are 2 ^ 277,
-- one step past the largest finite size's.
unfoldable pub units_of : ℕ → ℕ → ℕ
units_of zero t = t
units_of (suc x) t = (2 ^ 23 + t) * 2 ^ x

unfoldable pub units : ℕ → ℕ
unfolding units_of
units a = units_of (exponent a) (fraction a)

-- n / d "to nearest, ties to even": d is above 0.
unfoldable pub nearest : ℕ → ℕ → ℕ
nearest n d =
    let q = n / d in
    let r = n % d in
    cond (ltb (r * 2) d) q (cond (ltb d (r * 2)) (q + 1) (q + q % 2))

-- The pattern of an infinity, without a sign.
abbrev pub infinity : ℕ
infinity = 0x7F800000

-- The pattern, without a sign, of n / d units "rounded once". Of the binary digits of the whole part the leading 24 stay, and k go:
-- q * 2 ^ k units have the pattern k * 2 ^ 23 + q, whether or not q has a 24th digit. Past the largest finite size it is an infinity's.
unfoldable pub rounded : ℕ → ℕ → ℕ
unfolding nearest binary_digits
rounded n d =
    let k = binary_digits (n / d) - 24 in
    min (k * 2 ^ 23 + nearest n (d * 2 ^ k)) infinity

-- A pattern with a sign.
abbrev pub signed : Bool → ℕ → ℕ
signed s p = cond s (2 ^ 31) 0 + p

-- "Every stored not-a-number is the pattern 7FC00000"
abbrev pub the_nan : ℕ
the_nan = 0x7FC00000

unfoldable pub one_nan : ℕ → ℕ
one_nan a = cond (is_nan a) the_nan a

-- Are two signs unlike?
abbrev pub unlike : Bool → Bool → Bool
unlike s t = not (beq s t)

-- A sum. Infinities of unlike signs have none; one that is exactly zero is -0 where both are negative, and 0 otherwise.
unfoldable pub plus : ℕ → ℕ → ℕ
unfolding units rounded
plus a b =
    let s = negative a in
    let t = negative b in
    let v = units a in
    let w = units b in
    cond (is_nan a || is_nan b) the_nan
    (cond (is_infinite a && is_infinite b) (cond (unlike s t) the_nan (signed s infinity))
    (cond (is_infinite a) (signed s infinity)
    (cond (is_infinite b) (signed t infinity)
    (cond (unlike s t) (cond (ltb v w) (signed t (rounded (w - v) 1)) (signed (s && ltb w v) (rounded (v - w) 1)))
    (signed s (rounded (v + w) 1))))))

-- Unary minus turns the sign round.
unfoldable pub negated : ℕ → ℕ
negated a = cond (is_nan a) the_nan (signed (not (negative a)) (a % 2 ^ 31))

-- A difference.
unfoldable pub minus : ℕ → ℕ → ℕ
unfolding plus negated
minus a b = plus a (negated b)

-- A product: v units times w units are v * w / 2 ^ 149 units. Zero and an infinity have none.
unfoldable pub times : ℕ → ℕ → ℕ
unfolding units rounded
times a b =
    let s = unlike (negative a) (negative b) in
    let v = units a in
    let w = units b in
    cond (is_nan a || is_nan b) the_nan
    (cond (is_infinite a || is_infinite b) (cond (eqb v 0 || eqb w 0) the_nan (signed s infinity))
    (signed s (rounded (v * w) (2 ^ 149))))

-- "comparisons with one are false, except `!=`. Zero equals minus zero."
unfoldable pub below : ℕ → ℕ → Bool
unfolding units
below a b =
    let v = units a in
    let w = units b in
    not (is_nan a || is_nan b) && cond (negative a) (cond (negative b) (ltb w v) (ltb 0 (v + w))) (not (negative b) && ltb v w)

unfoldable pub level : ℕ → ℕ → Bool
unfolding units
level a b =
    let v = units a in
    let w = units b in
    not (is_nan a || is_nan b) && (eqb v w && (eqb v 0 || not (unlike (negative a) (negative b))))

-- The constant n.0: n is 2 ^ 149 * n units.
unfoldable pub whole_float : ℕ → ℕ
unfolding rounded
whole_float n = rounded (n * 2 ^ 149) 1
