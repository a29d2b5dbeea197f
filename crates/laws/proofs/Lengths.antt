-- Lengths that match: what the tests of typing say, the length of two operands together, and that all stays as declarations are added.
use Prim.Native.Nat.{ℕ, ◌<◌}
use mathlib.Core.Path.{◌≡◌, refl, sym, ◌∙◌, ap₂}
use mathlib.Core.Bool.{true, ◌||◌, not, false≢true}
use native.Mathlib.Omega.{arith}
use lib.Dec.{eqb}
use lib.ListN.{length}
use borrow.Author.Tests.{eqb-true, eqb-false, eq-eqb}
use Rattle.meaning.specs.declared.Kind.{Kind}
use Rattle.meaning.specs.Program.{Code, Program}
use Rattle.meaning.specs.Memory.{Declarations}
use Rattle.meaning.specs.Typing.{match, joined, fits, width}
use Rattle.laws.specs.Sound.{Numbers, of_constant, of_variable, of_the_mask, of_one, of_two}
use Rattle.laws.specs.Declarations.{Grows}
use Rattle.laws.specs.Lengths.{Spreadable, single, full, Match, equal, left, right, Suits, one_lane, same, anywhere, Matched, matched_constant, matched_variable, matched_mask, matched_one, matched_two, Kinded, kinded_number, kinded_float, kinded_truth, kinded_variable, kinded_mask, kinded_one, kinded_two, TypedAs, Fits, fits_nothing, fits_step, fits_put, fits_both, fits_choice, fits_cycle, fits_alone}
use Rattle.laws.proofs.Tests.{or_cases, by_if}

-- The tests of typing as facts.
pub suits_of : (C n : ℕ) → fits C n ≡ true → Suits C n
unfolding fits
suits_of C n h =
    or_cases (eqb n 1 || eqb n C) (eqb C 1) h
    (λ g. or_cases (eqb n 1) (eqb n C) g (λ e. one_lane (eqb-true n 1 e)) (λ e. same (eqb-true n C e)))
    (λ e. anywhere (eqb-true C 1 e))

pub match_of : (n m : ℕ) → match n m ≡ true → Match n m
unfolding match
match_of n m h =
    or_cases (eqb n m || eqb n 1) (eqb m 1) h
    (λ g. or_cases (eqb n m) (eqb n 1) g (λ e. equal (eqb-true n m e)) (λ e. left (eqb-true n 1 e)))
    (λ e. right (eqb-true m 1 e))

pub spreadable_of : (w n : ℕ) → (eqb n 1 || eqb n w) ≡ true → Spreadable w n
spreadable_of w n h = or_cases (eqb n 1) (eqb n w) h (λ e. single (eqb-true n 1 e)) (λ e. full (eqb-true n w e))

-- "Where C is above 1, a target of length 1 is refused": so the mask of a context spreads over a target that suits it.
pub mask_for : (C n : ℕ) → (eqb C 1 || not (eqb n 1)) ≡ true → Suits C n → Spreadable n C
mask_for C n h (one_lane e) = or_cases (eqb C 1) (not (eqb n 1)) h (λ z. single (eqb-true C 1 z)) (λ z. absurd (false≢true (rw (eq-eqb n 1 e) at z)))
mask_for C n h (same e) = full (sym e)
mask_for C n h (anywhere e) = single e

-- The length of two operands: the second's where the first has one lane, and otherwise the first's.
module _ (n m : ℕ) where
  pub joined_cases : (P : ℕ → Type 0) → (n ≡ 1 → P m) → ((n ≡ 1 → ⊥) → P n) → P (joined n m)
  unfolding joined
  joined_cases P f g = by_if P (eqb n 1) (λ _. m) (λ _. n) (λ e. f (eqb-true n 1 e)) (λ e. g (eqb-false n 1 e))

  pub joined_one : n ≡ 1 → joined n m ≡ m
  joined_one e = joined_cases (λ k. k ≡ m) (λ h. refl) (λ h. absurd (h e))

  pub joined_many : 1 < n → joined n m ≡ n
  joined_many b = joined_cases (λ k. k ≡ n) (λ h. absurd (omega arith)) (λ h. refl)

  pub joined_right : m ≡ 1 → joined n m ≡ n
  joined_right e = joined_cases (λ k. k ≡ n) (λ h. e ∙ sym h) (λ h. refl)

pub joined_same : (n : ℕ) → joined n n ≡ n
joined_same n = joined_cases n n (λ k. k ≡ n) (λ h. refl) (λ h. refl)

-- Every expression suits its context, as a name does.
pub matched_suits : {Γ : Declarations} {C : ℕ} {e : Code} → Matched Γ C e → Suits C (width Γ C e)
unfolding width
matched_suits matched_constant = one_lane refl
matched_suits (matched_variable h s) = s
matched_suits matched_mask = same refl
matched_suits (matched_one h) = matched_suits h
matched_suits {Γ} {C} (matched_two {a = a} {b = b} h k m) = joined_cases (width Γ C a) (width Γ C b) (Suits C) (λ z. matched_suits k) (λ z. matched_suits h)

-- So the mask of a context spreads over a condition of more lanes than one.
pub mask_spreads : (C n : ℕ) → Suits C n → 1 < n → Spreadable n C
mask_spreads C n (one_lane e) b = absurd (omega arith)
mask_spreads C n (same e) b = full (sym e)
mask_spreads C n (anywhere e) b = single e

-- A condition of n lanes suits its body's context B too, and does not change it again.
module _ (C n B : ℕ) (is : joined n C ≡ B) where
  pub suits_body : Suits B n
  suits_body = rw (← is) (joined_cases n C (λ l. Suits l n) (λ z. one_lane z) (λ z. same refl))

  pub joined_body : joined n B ≡ B
  joined_body = joined_cases n B (λ l. l ≡ B) (λ z. refl) (λ z. sym (joined_cases n C (λ l. l ≡ n) (λ w. absurd (z w)) (λ w. refl)) ∙ is)

-- Each variable of an expression is one of the declarations.
pub matched_numbers : {Γ : Declarations} {C : ℕ} {e : Code} → Matched Γ C e → Numbers (length Γ) e
matched_numbers matched_constant = of_constant
matched_numbers (matched_variable h s) = of_variable h
matched_numbers matched_mask = of_the_mask
matched_numbers (matched_one h) = of_one (matched_numbers h)
matched_numbers (matched_two h k m) = of_two (matched_numbers h) (matched_numbers k)

-- What stays as declarations are added.
pub grows_same : (Γ : Declarations) → Grows Γ Γ
grows_same Γ = record { longer = omega arith; kinds = λ x h. refl; lanes = λ x h. refl }

pub grows_on : {Γ Δ Θ : Declarations} → Grows Γ Δ → Grows Δ Θ → Grows Γ Θ
grows_on g h = record { longer = omega arith; kinds = λ x l. h.kinds x (omega arith) ∙ g.kinds x l; lanes = λ x l. h.lanes x (omega arith) ∙ g.lanes x l }

module _ {Γ Δ : Declarations} (g : Grows Γ Δ) where
  pub width_grows : {C : ℕ} {e : Code} → Matched Γ C e → width Δ C e ≡ width Γ C e
  unfolding width
  width_grows matched_constant = refl
  width_grows (matched_variable {x = x} h s) = g.lanes x h
  width_grows matched_mask = refl
  width_grows (matched_one h) = width_grows h
  width_grows (matched_two h k m) = ap₂ joined (width_grows h) (width_grows k)

  pub matched_grows : {C : ℕ} {e : Code} → Matched Γ C e → Matched Δ C e
  matched_grows matched_constant = matched_constant
  matched_grows (matched_variable {x = x} h s) = matched_variable {x = x} (omega (arith, g.longer)) (rw (g.lanes x h) s)
  matched_grows matched_mask = matched_mask
  matched_grows (matched_one h) = matched_one (matched_grows h)
  matched_grows (matched_two h k m) = matched_two (matched_grows h) (matched_grows k) (rw (width_grows h, width_grows k) m)

  pub kinded_grows : {k : Kind} {e : Code} → Kinded Γ k e → Kinded Δ k e
  kinded_grows (kinded_number l) = kinded_number l
  kinded_grows (kinded_float l) = kinded_float l
  kinded_grows (kinded_truth b) = kinded_truth b
  kinded_grows (kinded_variable {x = x} h) = rw (← g.kinds x h) (kinded_variable {x = x} (omega (arith, g.longer)))
  kinded_grows kinded_mask = kinded_mask
  kinded_grows (kinded_one t h) = kinded_one t (kinded_grows h)
  kinded_grows (kinded_two t h k) = kinded_two t (kinded_grows h) (kinded_grows k)

  pub typed_grows : {C : ℕ} {k : Kind} {e : Code} → TypedAs Γ C k e → TypedAs Δ C k e
  typed_grows t = record { kinded = kinded_grows t.kinded; matched = matched_grows t.matched }

  pub fits_grows : {C : ℕ} {P : Program} → Fits Γ C P → Fits Δ C P
  fits_grows fits_nothing = fits_nothing
  fits_grows fits_step = fits_step
  fits_grows {C} (fits_put {x = x} {e = e} l t m v) =
      fits_put {C = C} {x = x} {e = e} (omega (arith, g.longer)) (rw (g.kinds x l) (typed_grows t)) (rw (g.lanes x l) m) (rw (g.lanes x l, width_grows t.matched) v)
  fits_grows (fits_both s t) = fits_both (fits_grows s) (fits_grows t)
  fits_grows (fits_choice t r q) =
      let same = width_grows t.matched in
      fits_choice (typed_grows t) (rw (← same) at (fits_grows r)) (rw (← same) at (fits_grows q))
  fits_grows (fits_cycle t r) = fits_cycle (typed_grows t) (rw (← width_grows t.matched) at (fits_grows r))
  fits_grows (fits_alone r) = fits_alone (fits_grows r)
