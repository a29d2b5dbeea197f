-- What begins with digits, by what stands behind them: a number, or a float's constant where a point follows directly.
use mathlib.Core.Path.{◌≡◌, refl, sym, ◌∙◌}
use mathlib.Core.Bool.{Bool, true, false, not, ◌&&◌, ◌||◌, and-true, false≢true}
use mathlib.Core.List.{List, [], ◌∷◌}
use Prim.Native.Nat.{ℕ, zero, suc, ◌+◌, ◌≤◌, ◌<◌}
use native.Mathlib.Omega.{arith}
use borrow.Author.Rules.{part_to_end}
use borrow.Author.Tests.{eq-eqb, ne_eqb, leb-true, le-leb, lt-leb}
use lib.Dec.{eqb, leb}
use lib.ListN.{length, get_or, take, drop}
use lib.Seq.{drop-nil, drop-drop}
use Rattle.meaning.specs.Codes.{number_limit, float_limit}
use Rattle.meaning.specs.Floats.{whole_float}
use Rattle.meaning.specs.Tokens.{bytes, digit, run_of, starts, equal, decimal, good_number, digits, constant, numeral, the, numbered, words, marks, reserved, signs}
use Rattle.std.specs.declared.option.Option.TheVariants.{Some, None}
use Rattle.tokens.specs.declared.Lexeme.TheVariants.{Token}
use Rattle.tokens.specs.Lexing.{number_in, numeral_of, constant_of, lexeme}
use Rattle.laws.proofs.Tests.{and_l, and_r, and-false}
use Rattle.laws.proofs.Bytes.{run_length, run_take}
use Rattle.tokens.proofs.Numbers.{number-told, no_number}
use Rattle.tokens.proofs.Signs.{eqb_swap}
use Rattle.tokens.proofs.SoFar.{rest}

-- `.`, and `0`.
abbrev point : ℕ
point = 46

abbrev nought : ℕ
nought = 48

-- The byte behind the digits decides.
starts_point : (s : List ℕ) (n : ℕ) → starts (bytes ".") (drop n s) ≡ eqb (get_or s n 0) point
unfolding bytes starts
starts_point [] n = rw (drop-nil n)
starts_point (c ∷ s) zero = rw (eqb_swap c point, and-true (eqb point c))
starts_point (c ∷ s) (suc n) = starts_point s n

pub point_within : (s : List ℕ) (n : ℕ) → get_or s n 0 ≡ point → n + 1 ≤ length s
point_within [] n h = absurd (omega arith)
point_within (c ∷ s) zero h = omega arith
point_within (c ∷ s) (suc n) h = let i = point_within s n h in omega arith

-- All the n digits of s, and there are some.
pub all_digits : (s : List ℕ) {n : ℕ} → n ≡ run_of digit s → 0 < run_of digit s → (0 < length (take n s)) × (run_of digit (take n s) ≡ length (take n s))
all_digits s run lt = rw run (rw (run_length digit s) lt, run_take digit s)

-- What begins with n digits, by the byte b behind them.
module _ (s : List ℕ) {n b : ℕ} (run : n ≡ run_of digit s) (behind : b ≡ get_or s n 0) where
  pub at_point : b ≡ point → constant_of (take n s) (rest s (n + 1)) ≡ numeral_of s
  unfolding numeral
  at_point h = rw (← run, starts_point s n, eq-eqb (get_or s n 0) point (sym behind ∙ h), drop-drop 1 n s, part_to_end s (n + 1))

  pub no_point : (b ≡ point → ⊥) → digits (take n s) ≡ numeral_of s
  unfolding numeral
  no_point h = rw (← run, starts_point s n, ne_eqb (get_or s n 0) point (λ e. h (behind ∙ e)))

-- Behind the point stands `0`, and no other digit.
pub one_nought : (t : List ℕ) {m b : ℕ} → m ≡ run_of digit t → b ≡ get_or t 0 0 → (eqb m 1 && eqb b nought) ≡ equal (bytes "0") (take (run_of digit t) t)
unfolding bytes equal starts run_of
one_nought [] e f = rw e
one_nought (c ∷ t) e f = rw (e, f) (go (run_of digit (c ∷ t)) (run_length digit (c ∷ t)))
  where
    go : (n : ℕ) → length (take n (c ∷ t)) ≡ n → (eqb n 1 && eqb c nought) ≡ (eqb 1 (length (take n (c ∷ t))) && starts (nought ∷ []) (take n (c ∷ t)))
    go zero is = refl
    go (suc n) is = rw (is, eqb_swap (suc n) 1, eqb_swap c nought, and-true (eqb nought c))

-- A constant with the digits s before its point and t behind it: its whole number is a number, with the same rule of the leading zero and a
-- lower limit.
module _ (s t : List ℕ) (at : ℕ) where
  -- No leading zero, unless it is `0`.
  abbrev plain : Bool
  plain = eqb (length s) 1 || not (eqb (get_or s 0 0) nought)

  lower_limit : good_number number_limit s ≡ false → good_number float_limit s ≡ false
  unfolding good_number
  lower_limit h = go (good_number float_limit s) refl
    where
      go : (g : Bool) → good_number float_limit s ≡ g → g ≡ false
      go true e =
          let low = leb-true (decimal 0 s) float_limit (and_l (leb (decimal 0 s) float_limit) plain e) in
          let good : good_number number_limit s ≡ true = rw (le-leb (decimal 0 s) number_limit (omega arith)) (and_r (leb (decimal 0 s) float_limit) plain e) in
          absurd (false≢true (sym h ∙ good))
      go false e = refl

  pub constant_more : equal (bytes "0") t ≡ false → None ≡ lexeme at (constant s t)
  unfolding constant lexeme
  constant_more h = rw (h, and-false (good_number float_limit s))

  wrong : good_number float_limit s ≡ false → None ≡ lexeme at (constant s t)
  unfolding constant lexeme
  wrong h = rw h

  pub constant_wrong : None ≡ number_in s → None ≡ lexeme at (constant s t)
  constant_wrong e = wrong (lower_limit (no_number s e))

  pub constant_large : {v : ℕ} → Some v ≡ number_in s → float_limit < v → None ≡ lexeme at (constant s t)
  unfolding good_number
  constant_large e lt = wrong (rw (lt-leb (decimal 0 s) float_limit (omega (arith, (number-told s e).1))))

  pub constant_good : {v p m : ℕ} → Some v ≡ number_in s → v ≤ float_limit → equal (bytes "0") t ≡ true → p ≡ whole_float v → m ≡ length s + 2
      → Some (Token 3 p m) ≡ lexeme at (constant s t)
  unfolding constant good_number lexeme the numbered words marks reserved signs
  constant_good {v} {p} {m} e le z is long =
      let told = number-told s e in
      let good = and_r (leb (decimal 0 s) number_limit) plain told.0 in
      rw (← told.1, le-leb v float_limit le, good, z, is, long)
