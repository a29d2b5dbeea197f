-- What lib.Ieee rounds to, as a pattern, is `rounded`. Sizes are in units of 2 ^ -149.
use mathlib.Core.Path.{◌≡◌, refl, sym, ap, ◌∙◌, subst}
use mathlib.Core.Logic.{◌⊎◌, inl, inr}
use mathlib.Core.Bool.{Bool, true, false, not, cond}
use Prim.Native.Nat.{ℕ, suc, ◌+◌, ◌-◌, ◌*◌, ◌/◌, ◌%◌, ◌^◌, ◌≤◌, ◌<◌, min, compare, Ordering}
use native.Mathlib.Nat.{le_trans, le_of_eq, le_of_lt, le_antisymm, lt_of_lt_of_le, lt_of_le_of_lt, lt_of_not-le, not-le_of_lt}
use native.Mathlib.Nat.{mul_assoc, mul-one, mul-pos, mul-le-mul_right, mul-le-mul_left, lt_of_mul-lt-mul_right, le_of_mul-le-mul_right}
use native.Mathlib.Nat.{eq-or-lt_of_le, mul-div_cancel, div-one, le-div_iff_mul-le, div-div-eq-div-mul, add_assoc, zero-add}
use native.Mathlib.Omega.{arith}
use lib.Dec.{T, is_le, compare_is_eq, ltb, eqb, leb→le, nleb→lt, lt→ltb, ltb→lt, nltb→le, eqb→eq, eqb_refl, lit<}
use lib.Arith.{lt_of_le-ne, le→nltb}
use lib.Pow.{pow-add, pow_pos, pow_mono, pow-lt, shl_lt}
use lib.IntN.{pos}
use lib.Ieee as I
use lib.Ieee.{Float, nan, inf, fin, binary32, down, size, to_bits, round}
use lib.Ieee.Digits.{size-lt, size-le, size_reaches}
use lib.Ieee.Fits.{kept-lt, nearest-le, round_is, down_pos}
use lib.Ieee.Exact.{HasValue, units_val}
use lib.Ieee.Nearest.{closest, closest_same, div_same, nearest-ge}
use lib.Ieee.Bits.{cond_no}
use Rattle.meaning.specs.Floats.{nearest, rounded, signed, infinity, the_nan, whole_float}

pub cond_yes : {X : Type 0} (b : Bool) (x y : X) → T b → cond b x y ≡ x
cond_yes true x y t = refl
cond_yes false x y t = absurd t

abbrev pub Decided : Bool → Type 0
Decided b = T b ⊎ T (not b)

pub yes_or_no : (b : Bool) → Decided b
yes_or_no true = inl tt
yes_or_no false = inr tt

-- The nearest whole number, at a tie the even one.
module _ (q x d : ℕ) where
  abbrev near : ℕ
  near = cond (ltb x d) q (cond (ltb d x) (q + 1) (q + q % 2))

  near_by : (o : Ordering) → (T (is_le o) → x ≤ d) → (T (not (is_le o)) → d < x) → (T (compare_is_eq o) → x ≡ d) → (x ≡ d → T (compare_is_eq o))
      → near ≡ I.nearest q o
  near_by Ordering.lt h k e n = cond_yes (ltb x d) q (cond (ltb d x) (q + 1) (q + q % 2)) (lt→ltb x d (lt_of_le-ne (h tt) n))
  near_by Ordering.eq h k e n =
      cond_no (ltb x d) q (cond (ltb d x) (q + 1) (q + q % 2)) (le→nltb x d (le_of_eq (sym (e tt))))
      ∙ cond_no (ltb d x) (q + 1) (q + q % 2) (le→nltb d x (le_of_eq (e tt)))
  near_by Ordering.gt h k e n =
      let next : q + 1 ≡ suc q = omega arith in
      cond_no (ltb x d) q (cond (ltb d x) (q + 1) (q + q % 2)) (le→nltb x d (le_of_lt (k tt)))
      ∙ cond_yes (ltb d x) (q + 1) (q + q % 2) (lt→ltb d x (k tt))
      ∙ next

  near_is : near ≡ I.nearest q (compare x d)
  near_is = near_by (compare x d) (leb→le x d) (nleb→lt x d) (eqb→eq x d) (λ (e : x ≡ d). subst (λ (y : ℕ). T (eqb x y)) e (eqb_refl x))

nearest_is : (n d : ℕ) → nearest n d ≡ closest n d
unfolding nearest
nearest_is n d = near_is (n / d) (n % d * 2) d

-- The pattern, without a sign, of a finite size of a units: of its digits 24 stay.
abbrev code : ℕ → ℕ
code a = (size a - 24) * 2 ^ 23 + a / 2 ^ (size a - 24)

has_bits : (x : Float) (s : Bool) (a : ℕ) → HasValue x s a (2 ^ 149) → to_bits binary32 x ≡ signed s (code a)
unfolding to_bits
has_bits nan s a v = absurd v
has_bits (inf t) s a v = absurd v
has_bits (fin t m e) s a v =
    let whole : m * I.up e * 2 ^ 149 / down e ≡ a = ap (λ (z : ℕ). z / down e) v.1 ∙ mul-div_cancel a (down_pos e) in
    ap (λ (n : ℕ). cond t (2 ^ 31) 0 + (size n - 24) * 2 ^ 23 + n / 2 ^ (size n - 24)) whole
    ∙ ap (λ (b : Bool). cond b (2 ^ 31) 0 + (size a - 24) * 2 ^ 23 + a / 2 ^ (size a - 24)) v.0
    ∙ add_assoc (cond s (2 ^ 31) 0) ((size a - 24) * 2 ^ 23) (a / 2 ^ (size a - 24))

size_exact : (a n : ℕ) → 2 ^ a ≤ n → n < 2 ^ suc a → size n ≡ suc a
size_exact a n lo hi =
    le_antisymm (size-le n (suc a) hi) (lt_of_not-le (λ (g : size n ≤ a). not-le_of_lt (lt_of_lt_of_le (size-lt n) (pow_mono g)) lo))

-- q * 2 ^ k units have the pattern k * 2 ^ 23 + q: where no digit goes, where q has 24 digits, and where q is one more than those reach.
code_at : (a k q : ℕ) → size a - 24 ≡ k → a / 2 ^ k ≡ q → code a ≡ k * 2 ^ 23 + q
code_at a k q e f = ap (λ (z : ℕ). z * 2 ^ 23 + a / 2 ^ z) e ∙ ap (λ (z : ℕ). k * 2 ^ 23 + z) f

code_low : (q : ℕ) → q < 2 ^ 24 → code (q * 2 ^ 0) ≡ 0 * 2 ^ 23 + q
code_low q h =
    let none : size (q * 1) - 24 ≡ 0 = omega (arith, size-le (q * 1) 24 (subst (λ (z : ℕ). z < 2 ^ 24) (sym (mul-one q)) h)) in
    code_at (q * 1) 0 q none (div-one (q * 1) ∙ mul-one q)

code_mid : (q k : ℕ) → 2 ^ 23 ≤ q → q < 2 ^ 24 → code (q * 2 ^ k) ≡ k * 2 ^ 23 + q
code_mid q k lo hi =
    let least : 2 ^ (23 + k) ≤ q * 2 ^ k = subst (λ (z : ℕ). z ≤ q * 2 ^ k) (sym (pow-add 2 23 k)) (mul-le-mul_right (2 ^ k) lo) in
    let past : q * 2 ^ k < 2 ^ suc (23 + k) = subst (λ (z : ℕ). q * 2 ^ k < 2 ^ z) (omega arith) (shl_lt 24 k hi) in
    let digits : size (q * 2 ^ k) ≡ suc (23 + k) = size_exact (23 + k) (q * 2 ^ k) least past in
    code_at (q * 2 ^ k) k q (omega (arith, digits)) (mul-div_cancel q (pow_pos k))

code_top : (k : ℕ) → code (2 ^ 24 * 2 ^ k) ≡ k * 2 ^ 23 + 2 ^ 24
code_top k =
    let self : 24 + k < suc (24 + k) = omega arith in
    let past : 2 ^ 24 * 2 ^ k < 2 ^ suc (24 + k) = subst (λ (z : ℕ). z < 2 ^ suc (24 + k)) (pow-add 2 24 k) (pow-lt self) in
    let digits : size (2 ^ 24 * 2 ^ k) ≡ suc (24 + k) = size_exact (24 + k) (2 ^ 24 * 2 ^ k) (le_of_eq (pow-add 2 24 k)) past in
    let half : 24 + k ≡ 23 + suc k = omega arith in
    let total : suc k * 2 ^ 23 + 2 ^ 23 ≡ k * 2 ^ 23 + 2 ^ 24 = omega arith in
    let twice : 2 ^ 24 * 2 ^ k ≡ 2 ^ 23 * 2 ^ suc k = sym (pow-add 2 24 k) ∙ ap (λ (z : ℕ). 2 ^ z) half ∙ pow-add 2 23 (suc k) in
    let kept : 2 ^ 24 * 2 ^ k / 2 ^ suc k ≡ 2 ^ 23 = ap (λ (z : ℕ). z / 2 ^ suc k) twice ∙ mul-div_cancel (2 ^ 23) (pow_pos (suc k)) in
    code_at (2 ^ 24 * 2 ^ k) (suc k) (2 ^ 23) (omega (arith, digits)) kept ∙ total

-- What is kept of a size: at most 2 ^ 24, and where digits go at least 2 ^ 23.
abbrev Kept : ℕ → ℕ → Type 0
Kept q k = (q ≤ 2 ^ 24) × ((k ≡ 0) ⊎ (2 ^ 23 ≤ q))

code_is : (q k : ℕ) → Kept q k → code (q * 2 ^ k) ≡ k * 2 ^ 23 + q
code_is q k h = go (eq-or-lt_of_le h.0) h.1
  where
    go : (q ≡ 2 ^ 24) ⊎ (q < 2 ^ 24) → (k ≡ 0) ⊎ (2 ^ 23 ≤ q) → code (q * 2 ^ k) ≡ k * 2 ^ 23 + q
    go (inl e) z = subst (λ (y : ℕ). code (y * 2 ^ k) ≡ k * 2 ^ 23 + y) (sym e) (code_top k)
    go (inr l) (inl e) = subst (λ (y : ℕ). code (q * 2 ^ y) ≡ y * 2 ^ 23 + q) (sym e) (code_low q l)
    go (inr l) (inr g) = code_mid q k g l

-- The pattern reaches the infinity's where the size reaches 2 ^ 277.
three : (k : ℕ) → (k < 253) ⊎ ((k ≡ 253) ⊎ (254 ≤ k))
three k = go (yes_or_no (ltb k 253)) (yes_or_no (ltb k 254))
  where
    go : Decided (ltb k 253) → Decided (ltb k 254) → (k < 253) ⊎ ((k ≡ 253) ⊎ (254 ≤ k))
    go (inl t) e = inl (ltb→lt k 253 t)
    go (inr t) (inl e) = inr (inl (omega (arith, nltb→le k 253 t, ltb→lt k 254 e)))
    go (inr t) (inr e) = inr (inr (nltb→le k 254 e))

under : (q k : ℕ) → Kept q k → q * 2 ^ k < 2 ^ 277 → k * 2 ^ 23 + q ≤ infinity
under q k h l = go (three k) h.0 h.1
  where
    go : (k < 253) ⊎ ((k ≡ 253) ⊎ (254 ≤ k)) → q ≤ 2 ^ 24 → (k ≡ 0) ⊎ (2 ^ 23 ≤ q) → k * 2 ^ 23 + q ≤ infinity
    go (inl a) b z = omega arith
    go (inr (inl e)) b z =
        let few : q < 2 ^ 24 = lt_of_mul-lt-mul_right (2 ^ 253) (subst (λ (y : ℕ). q * 2 ^ y < 2 ^ 277) e l) in
        omega (arith, e, few)
    go (inr (inr g)) b (inl e) = absurd (omega (arith, e, g))
    go (inr (inr g)) b (inr f) = absurd (not-le_of_lt l (le_trans (mul-le-mul_left (2 ^ 23) (pow_mono g)) (mul-le-mul_right (2 ^ k) f)))

over : (q k : ℕ) → Kept q k → 2 ^ 277 ≤ q * 2 ^ k → infinity ≤ k * 2 ^ 23 + q
over q k h l = go (three k) h.0 h.1
  where
    go : (k < 253) ⊎ ((k ≡ 253) ⊎ (254 ≤ k)) → q ≤ 2 ^ 24 → (k ≡ 0) ⊎ (2 ^ 23 ≤ q) → infinity ≤ k * 2 ^ 23 + q
    go (inl a) b z =
        let few : k ≤ 252 = omega arith in
        absurd (not-le_of_lt (lt_of_le_of_lt (le_trans (mul-le-mul_right (2 ^ k) b) (mul-le-mul_left (2 ^ 24) (pow_mono few))) (lit< tt)) l)
    go (inr (inl e)) b z =
        let many : 2 ^ 24 ≤ q = le_of_mul-le-mul_right (subst (λ (y : ℕ). 2 ^ 277 ≤ q * 2 ^ y) e l) (pow_pos 253) in
        omega (arith, e, many)
    go (inr (inr g)) b (inl e) = absurd (omega (arith, e, g))
    go (inr (inr g)) b (inr f) = omega arith

pub infinity-bits : (s : Bool) → to_bits binary32 (inf s) ≡ signed s infinity
unfolding to_bits
infinity-bits s = refl

pub nan_pattern_bits : to_bits binary32 nan ≡ the_nan
unfolding to_bits
nan_pattern_bits = refl

units_infinite : (s : Bool) (q k : ℕ) → T (not (ltb (q * 2 ^ k) (2 ^ 277))) → I.units binary32 s q k ≡ inf s
unfolding I.units
units_infinite s q k t = cond_no (ltb (q * 2 ^ k) (2 ^ 277)) (I.odd 25 s q k 149) (inf s) t

least_left : (a b : ℕ) → a ≤ b → a ≡ min a b
least_left a b h = omega arith

least_right : (a b : ℕ) → b ≤ a → b ≡ min a b
least_right a b h = omega arith

encode : (s : Bool) (q k : ℕ) → Kept q k → to_bits binary32 (I.units binary32 s q k) ≡ signed s (min (k * 2 ^ 23 + q) infinity)
encode s q k h = go (yes_or_no (ltb (q * 2 ^ k) (2 ^ 277)))
  where
    go : Decided (ltb (q * 2 ^ k) (2 ^ 277)) → to_bits binary32 (I.units binary32 s q k) ≡ signed s (min (k * 2 ^ 23 + q) infinity)
    go (inl t) =
        let l : q * 2 ^ k < 2 ^ 277 = ltb→lt (q * 2 ^ k) (2 ^ 277) t in
        has_bits (I.units binary32 s q k) s (q * 2 ^ k) (units_val binary32 s q k l)
        ∙ ap (λ (z : ℕ). signed s z) (code_is q k h ∙ least_left (k * 2 ^ 23 + q) infinity (under q k h l))
    go (inr t) =
        ap (to_bits binary32) (units_infinite s q k t)
        ∙ infinity-bits s
        ∙ ap (λ (z : ℕ). signed s z) (least_right (k * 2 ^ 23 + q) infinity (over q k h (nltb→le (q * 2 ^ k) (2 ^ 277) t)))

-- Of n / d units: w whole ones, of which k digits go.
module _ (n d : ℕ) where
  abbrev w : ℕ
  w = n / d

  abbrev k : ℕ
  k = size w - 24

  abbrev u : ℕ
  u = d * 2 ^ k

  whole : w / 2 ^ k ≡ n / u
  whole = div-div-eq-div-mul n d (2 ^ k)

  low : Decided (ltb 24 (size w)) → (k ≡ 0) ⊎ (2 ^ 23 ≤ closest n u)
  low (inl t) =
      let leads : 23 + k < size w = omega (arith, ltb→lt 24 (size w) t) in
      let least : 2 ^ 23 * 2 ^ k ≤ w = subst (λ (x : ℕ). x ≤ w) (pow-add 2 23 k) (size_reaches w (23 + k) leads) in
      let kept : 2 ^ 23 ≤ n / u = subst (λ (x : ℕ). 2 ^ 23 ≤ x) whole ((le-div_iff_mul-le (pow_pos k)).1 least) in
      inr (le_trans kept (nearest-ge (n / u) (compare (n % u * 2) u)))
  low (inr t) = inl (omega (arith, nltb→le 24 (size w) t))

  kept_is : Kept (closest n u) k
  kept_is = (
    le_trans (nearest-le (n / u) (compare (n % u * 2) u)) (subst (λ (x : ℕ). x < 2 ^ 24) whole (kept-lt 24 w)),
    low (yes_or_no (ltb 24 (size w))),
  )

-- A fraction num / den is n / d units.
pub round_bits : (s : Bool) (num den n d : ℕ) → 0 < den → 0 < d → num * 2 ^ 149 * d ≡ n * den
    → to_bits binary32 (round binary32 s num den) ≡ signed s (rounded n d)
unfolding rounded
round_bits s num den n d P D e =
    let a = num * 2 ^ 149 in
    let k = size (n / d) - 24 in
    let same : a * (d * 2 ^ k) ≡ n * (den * 2 ^ k) = sym (mul_assoc a d (2 ^ k)) ∙ ap (λ (z : ℕ). z * 2 ^ k) e ∙ mul_assoc n den (2 ^ k) in
    let left = mul-pos P (pow_pos k) in
    let right = mul-pos D (pow_pos k) in
    let kept : closest a (den * 2 ^ k) ≡ closest n (d * 2 ^ k) = closest_same a (den * 2 ^ k) n (d * 2 ^ k) left right same in
    ap (to_bits binary32)
    (round_is binary32 s num den
    ∙ ap (λ (z : ℕ). I.units binary32 s (closest a (den * 2 ^ (size z - 24))) (size z - 24)) (div_same a den n d P D e)
    ∙ ap (λ (z : ℕ). I.units binary32 s z k) kept)
    ∙ encode s (closest n (d * 2 ^ k)) k (kept_is n d)
    ∙ ap (λ (z : ℕ). signed s (min (k * 2 ^ 23 + z) infinity)) (sym (nearest_is n (d * 2 ^ k)))

-- A whole number as a single.
pub whole_agrees : (n : ℕ) → to_bits binary32 (I.of_int binary32 (pos n)) ≡ whole_float n
unfolding whole_float I.of_int
whole_agrees n = round_bits false n 1 (n * 2 ^ 149) 1 (lit< tt) (lit< tt) refl ∙ zero-add (rounded (n * 2 ^ 149) 1)
