-- `rounded` gives the nearest single, at a tie the even one; and there is only one such.
use Prim.Native.Nat.{ℕ, suc, ◌+◌, ◌-◌, ◌*◌, ◌/◌, ◌%◌, ◌^◌, ◌≤◌, ◌<◌, min}
use mathlib.Core.Path.{◌≡◌, refl, sym, ap, subst, ◌∙◌}
use mathlib.Core.Logic.{◌≢◌, ◌⊎◌, inl, inr}
use native.Mathlib.Nat.{div-add-mod', mod-lt, mul-pos, mul_comm, mul_assoc, suc-mul, mul-lt-mul_of_pos_right, mul-le-mul_right, mul-le-mul_left, le_trans, le_of_eq, le-div_iff_mul-le, div-div-eq-div-mul, mul-div_cancel}
use native.Mathlib.Omega.{arith}
use lib.Dec.{ltb, eqb}
use lib.Pow.{pow-add, pow_pos, pow_mono}
use lib.Ieee.{size}
use lib.Ieee.Digits.{size_reaches}
use lib.Ieee.Fits.{kept-lt}
use borrow.Author.Tests.{ltb-true, ltb-false, eqb-true, eqb-false}
use Rattle.meaning.specs.Floats.{units_of, units, nearest, infinity, rounded}
use Rattle.laws.proofs.Tests.{by_test, by_cond}
use Rattle.singles.specs.Rounding.{off, Nearest, RoundsToNearest, OnlyOneNearest, KeepsSingles}
use Rattle.singles.proofs.Units.{units_at, increasing}

-- Where a number stands to P and to the next.
data Stands (P : ℕ) : ℕ → Type 0 where
  below : {q : ℕ} → q < P → Stands P q
  here : Stands P P
  next : Stands P (suc P)
  beyond : {q : ℕ} → suc P < q → Stands P q

stands : (P q : ℕ) → Stands P q
stands P q =
    by_test (ltb q P) (λ e. below (ltb-true q P e)) λ e.
    by_test (eqb q P) (λ f. subst (Stands P) (sym (eqb-true q P f)) here) λ f.
    by_test (eqb q (suc P)) (λ g. subst (Stands P) (sym (eqb-true q (suc P) g)) next) λ g.
    beyond (omega (arith, ltb-false q P e, eqb-false q P f, eqb-false q (suc P) g))

infinity-units : units infinity ≡ 2 ^ 23 * 2 ^ 254
unfolding units units_of
infinity-units = refl

module _ (n d : ℕ) (some : 0 < d) where
  apart : (p q : ℕ) → p < q → q ≤ infinity → units p * d < units q * d
  apart p q h l = mul-lt-mul_of_pos_right (increasing p q h l) some

  -- A single further down or up is further off.
  down : (p q : ℕ) → q < p → p ≤ infinity → units p * d ≤ n → off n d p < off n d q
  down p q h l m = omega (arith, apart q p h l)

  up : (p q : ℕ) → p < q → q ≤ infinity → n ≤ units p * d → off n d p < off n d q
  up p q h l m = omega (arith, apart p q h l)

  -- What lies at or past the infinity's number goes there.
  overflows : units infinity * d ≤ n → Nearest n d infinity
  overflows m = record { single = omega arith; nearest = near; even = alone }
    where
      near : (q : ℕ) → q ≤ infinity → off n d infinity ≤ off n d q
      near q l =
          by_test (eqb q infinity)
          (λ e. rw (eqb-true q infinity e) (omega arith))
          (λ e. omega (arith, down infinity q (omega (arith, eqb-false q infinity e)) (omega arith) m))

      alone : (q : ℕ) → q ≤ infinity → q ≢ infinity → off n d q ≡ off n d infinity → infinity % 2 ≡ 0
      alone q l f e = refl

  -- A number from P up to the next single: P or the next is the nearest.
  module _ (P : ℕ) (low : P < infinity) (from : units P * d ≤ n) (to : n ≤ units (suc P) * d) where
    one_of_two : (p : ℕ) → (p ≡ P) ⊎ (p ≡ suc P) → off n d p ≤ off n d P → off n d p ≤ off n d (suc P)
        → (off n d P ≡ off n d (suc P) → p % 2 ≡ 0) → Nearest n d p
    one_of_two p is h h' tie = record { single = single is; nearest = λ q l. near q l (stands P q); even = λ q l f e. evens q l f e (stands P q) is }
      where
        single : (p ≡ P) ⊎ (p ≡ suc P) → p ≤ infinity
        single (inl e) = omega arith
        single (inr e) = omega arith

        near : (q : ℕ) → q ≤ infinity → Stands P q → off n d p ≤ off n d q
        near q l (below m) = omega (arith, down P q m (omega arith) from)
        near q l here = h
        near q l next = h'
        near q l (beyond m) = omega (arith, up (suc P) q m l to)

        evens : (q : ℕ) → q ≤ infinity → q ≢ p → off n d q ≡ off n d p → Stands P q → (p ≡ P) ⊎ (p ≡ suc P) → p % 2 ≡ 0
        evens q l f e (below m) i = absurd (omega (arith, down P q m (omega arith) from))
        evens q l f e here (inl i) = absurd (f (sym i))
        evens q l f e here (inr i) = tie (e ∙ ap (off n d) i)
        evens q l f e next (inl i) = tie (sym (e ∙ ap (off n d) i))
        evens q l f e next (inr i) = absurd (f (sym i))
        evens q l f e (beyond m) i = absurd (omega (arith, up (suc P) q m l to))

  -- k digits go: u is 2 ^ k units, and n is w of them and r more.
  module _ (k : ℕ) where
    u : ℕ
    u = d * 2 ^ k

    w : ℕ
    w = n / u

    r : ℕ
    r = n % u

    module _ (short : w < 2 ^ 24) (long : (k ≡ 0) ⊎ (2 ^ 23 ≤ w)) where
      whole : w * u + r ≡ n
      unfolding w r
      whole = div-add-mod' n u

      rest : r < u
      unfolding r u
      rest = mod-lt n (mul-pos some (pow_pos k))

      -- The pattern of w * 2 ^ k units and the next, in d-th parts of a unit.
      scaled : (q : ℕ) → q ≤ 2 ^ 24 → (k ≡ 0) ⊎ (2 ^ 23 ≤ q) → k * 2 ^ 23 + q ≤ infinity → units (k * 2 ^ 23 + q) * d ≡ q * u
      unfolding u
      scaled q h l fits =
          ap (λ (x : ℕ). x * d) (units_at k q (record { high = h; low = l }) fits)
          ∙ mul_assoc q (2 ^ k) d ∙ ap (λ (x : ℕ). q * x) (mul_comm (2 ^ k) d)

      longer : (k ≡ 0) ⊎ (2 ^ 23 ≤ w) → (k ≡ 0) ⊎ (2 ^ 23 ≤ suc w)
      longer (inl e) = inl e
      longer (inr h) = inr (omega arith)

      P : ℕ
      P = k * 2 ^ 23 + w

      at : P ≤ infinity → units P * d ≡ w * u
      unfolding P
      at l = scaled w (omega arith) long l

      at_next : P < infinity → units (suc P) * d ≡ w * u + u
      unfolding P
      at_next l =
          let same : suc (k * 2 ^ 23 + w) ≡ k * 2 ^ 23 + suc w = omega arith in
          ap (λ (x : ℕ). units x * d) same ∙ scaled (suc w) (omega arith) (longer long) (omega arith) ∙ suc-mul w u

      -- Below half of u, above it, and at the half.
      near_single : P < infinity → Nearest n d (k * 2 ^ 23 + nearest n u)
      unfolding nearest P w r u
      near_single l =
          let e = at (omega arith) in
          let f = at_next l in
          let g = whole in
          let h = rest in
          let pick = one_of_two P l (omega arith) (omega arith) in
          let up_one : suc P ≡ k * 2 ^ 23 + (w + 1) = omega arith in
          by_cond (λ (x : ℕ). Nearest n d (k * 2 ^ 23 + x)) (ltb (r * 2) u)
          (λ t. let less = ltb-true (r * 2) u t in pick P (inl refl) (omega arith) (omega arith) (λ z. absurd (omega arith)))
          λ t.
          by_cond (λ (x : ℕ). Nearest n d (k * 2 ^ 23 + x)) (ltb u (r * 2))
          (λ m. let more = ltb-true u (r * 2) m in
          subst (Nearest n d) up_one (pick (suc P) (inr refl) (omega arith) (omega arith) (λ z. absurd (omega arith))))
          λ m.
          let half : r * 2 ≡ u = omega (arith, ltb-false (r * 2) u t, ltb-false u (r * 2) m) in
          by_test (eqb (w % 2) 0)
          (λ b. let even = eqb-true (w % 2) 0 b in
          let same : P ≡ k * 2 ^ 23 + (w + w % 2) = omega arith in
          subst (Nearest n d) same (pick P (inl refl) (omega arith) (omega arith) (λ z. omega arith)))
          (λ b. let odd = eqb-false (w % 2) 0 b in
          let same : suc P ≡ k * 2 ^ 23 + (w + w % 2) = omega arith in
          subst (Nearest n d) same (pick (suc P) (inr refl) (omega arith) (omega arith) (λ z. omega arith)))

      -- From the infinity's pattern on, n is at or past its number.
      part : w * u ≤ n
      part = omega (arith, whole)

      past : infinity ≤ P → units infinity * d ≤ n
      unfolding P u
      past l = go long
        where
          go : (k ≡ 0) ⊎ (2 ^ 23 ≤ w) → units infinity * d ≤ n
          go (inl e) = absurd (omega arith)
          go (inr h) =
              let scale : 2 ^ 254 ≤ 2 ^ k = pow_mono {i = 254} {j = k} (omega arith) in
              let all : 2 ^ 23 * 2 ^ 254 ≤ w * 2 ^ k = le_trans (mul-le-mul_left (2 ^ 23) scale) (mul-le-mul_right (2 ^ k) h) in
              let whole_part : w * 2 ^ k * d ≡ w * u = mul_assoc w (2 ^ k) d ∙ ap (λ (x : ℕ). w * x) (mul_comm (2 ^ k) d) in
              rw infinity-units (le_trans (mul-le-mul_right d all) (le_trans (le_of_eq whole_part) part))

      no_less : P ≤ k * 2 ^ 23 + nearest n u
      unfolding P w nearest
      no_less =
          by_cond (λ (x : ℕ). k * 2 ^ 23 + w ≤ k * 2 ^ 23 + x) (ltb (n % u * 2) u) (λ _. omega arith) λ _.
          by_cond (λ (x : ℕ). k * 2 ^ 23 + w ≤ k * 2 ^ 23 + x) (ltb u (n % u * 2)) (λ _. omega arith) (λ _. omega arith)

      near : Nearest n d (min (k * 2 ^ 23 + nearest n u) infinity)
      near =
          by_test (ltb P infinity)
          (λ e.
          let a = near_single (ltb-true P infinity e) in
          let fits = a.single in
          let same : k * 2 ^ 23 + nearest n u ≡ min (k * 2 ^ 23 + nearest n u) infinity = omega arith in
          subst (Nearest n d) same a)
          (λ e.
          let l = ltb-false P infinity e in
          let same : infinity ≡ min (k * 2 ^ 23 + nearest n u) infinity = omega (arith, no_less) in
          subst (Nearest n d) same (overflows (past l)))

  -- Of the whole part's digits the leading 24 stay.
  dropped : ℕ
  dropped = size (n / d) - 24

  at_most_24 : n / (d * 2 ^ dropped) < 2 ^ 24
  unfolding dropped
  at_most_24 = subst (λ (x : ℕ). x < 2 ^ 24) (div-div-eq-div-mul n d (2 ^ dropped)) (kept-lt 24 (n / d))

  full : (dropped ≡ 0) ⊎ (2 ^ 23 ≤ n / (d * 2 ^ dropped))
  unfolding dropped
  full =
      by_test (ltb 24 (size (n / d)))
      (λ e.
      let z = ltb-true 24 (size (n / d)) e in
      let reach : 2 ^ 23 * 2 ^ dropped ≤ n / d =
      subst (λ (x : ℕ). x ≤ n / d) (pow-add 2 23 dropped) (size_reaches (n / d) (23 + dropped) (omega arith)) in
      inr (subst (λ (x : ℕ). 2 ^ 23 ≤ x) (div-div-eq-div-mul n d (2 ^ dropped)) ((le-div_iff_mul-le (pow_pos dropped)).1 reach)))
      (λ e. let z = ltb-false 24 (size (n / d)) e in inl (omega arith))

pub rounds_to_nearest : RoundsToNearest
unfolding rounded dropped w u
rounds_to_nearest n d some = near n d some (dropped n d some) (at_most_24 n d some) (full n d some)

-- Two that are as near are neighbours, and of two neighbours one is odd.
module _ (n d : ℕ) (some : 0 < d) where
  no_two : (p q : ℕ) → p < q → Nearest n d p → Nearest n d q → ⊥
  no_two p q l a b =
      let same : off n d p ≡ off n d q = omega (arith, a.nearest q b.single, b.nearest p a.single) in
      let even = a.even q b.single (λ e. omega arith) (sym same) in
      let even' = b.even p a.single (λ e. omega arith) same in
      let top = b.single in
      let first = apart n d some p (suc p) (omega arith) (omega arith) in
      omega (arith, a.nearest (suc p) (omega arith), apart n d some (suc p) q (omega arith) (omega arith))

pub only_one_nearest : OnlyOneNearest
only_one_nearest n d p q some a b =
    by_test (ltb p q) (λ e. absurd (no_two n d some p q (ltb-true p q e) a b)) λ e.
    by_test (ltb q p) (λ f. absurd (no_two n d some q p (ltb-true q p f) b a)) λ f.
    omega (arith, ltb-false p q e, ltb-false q p f)

-- Two singles with the same units are one.
pub same_units : (p q : ℕ) → p ≤ infinity → q ≤ infinity → units p ≡ units q → p ≡ q
same_units p q l m e =
    by_test (ltb p q) (λ t. absurd (omega (arith, increasing p q (ltb-true p q t) m))) λ t.
    by_test (ltb q p) (λ h. absurd (omega (arith, increasing q p (ltb-true q p h) l))) λ h.
    omega (arith, ltb-false p q t, ltb-false q p h)

pub keeps_singles : KeepsSingles
keeps_singles p d some l =
    let q = rounded (units p * d) d in
    let a = rounds_to_nearest (units p * d) d some in
    let none : units q * d ≡ units p * d = omega (arith, a.nearest p l) in
    same_units q p a.single l (sym (mul-div_cancel (units q) some) ∙ ap (λ (x : ℕ). x / d) none ∙ mul-div_cancel (units p) some)
