-- What digits are, by their value and by a leading zero.
use mathlib.Core.Path.{◌≡◌, refl}
use mathlib.Core.Bool.{true, false, not, ◌||◌}
use mathlib.Core.List.{List, [], ◌∷◌}
use Prim.Native.Nat.{ℕ, ◌+◌, ◌*◌, ◌-◌, ◌≤◌, ◌<◌}
use native.Mathlib.Omega.{arith}
use borrow.Author.Tests.{le-leb, lt-leb}
use lib.Dec.{eqb, leb}
use lib.ListN.{length, get_or}
use Rattle.meaning.specs.Codes.{number_limit}
use Rattle.meaning.specs.Tokens.{decimal, good_number, digits, the, numbered, words, marks, reserved, signs}
use Rattle.std.specs.declared.option.Option.{Option}
use Rattle.std.specs.declared.option.Option.TheVariants.{Some, None}
use Rattle.tokens.specs.declared.Lexeme.TheVariants.{Token}
use Rattle.tokens.specs.Lexing.{number_in, lexeme}
use Rattle.laws.proofs.Tests.{and-false, by_if}

-- One more digit.
pub one_digit : (n c : ℕ) → decimal n (c ∷ []) ≡ 10 * n + (c - 48)
unfolding decimal
one_digit n c = refl

module _ (s : List ℕ) where
  -- A leading zero.
  pub number-zero : (eqb (length s) 1 || not (eqb (get_or s 0 0) 48)) ≡ false → None ≡ number_in s
  unfolding good_number number_in
  number-zero h = rw (h, and-false (leb (decimal 0 s) number_limit))

  -- Above the limit.
  pub number_large : {n : ℕ} → n ≤ decimal 0 s → number_limit < n → None ≡ number_in s
  unfolding good_number number_in
  number_large le lt = rw (lt-leb (decimal 0 s) number_limit (omega arith))

  -- A good number.
  pub number_good : {v : ℕ} → (eqb (length s) 1 || not (eqb (get_or s 0 0) 48)) ≡ true → decimal 0 s ≡ v → v ≤ number_limit → Some v ≡ number_in s
  unfolding good_number number_in
  number_good {v} h e le = rw (h, e, le-leb v number_limit le)

  -- What digits are that are a number, and what they are that are none.
  pub number-told : {v : ℕ} → Some v ≡ number_in s → (good_number number_limit s ≡ true) × (v ≡ decimal 0 s)
  unfolding number_in
  number-told {v} e =
      by_if (λ (o : Option ℕ). Some v ≡ o → (good_number number_limit s ≡ true) × (v ≡ decimal 0 s)) (good_number number_limit s) _ _
      (λ good is. (good, cc)) (λ _ is. absurd (cc)) e

  pub no_number : None ≡ number_in s → good_number number_limit s ≡ false
  unfolding number_in
  no_number e =
      by_if (λ (o : Option ℕ). None ≡ o → good_number number_limit s ≡ false) (good_number number_limit s) _ _ (λ _ is. cc) (λ wrong _. wrong) e

-- As a piece.
module _ (s : List ℕ) (at : ℕ) where
  pub number-token : {v n : ℕ} → Some v ≡ number_in s → n ≡ length s → Some (Token 1 v n) ≡ lexeme at (digits s)
  unfolding digits lexeme the numbered words marks reserved signs
  number-token e q = let told = number-told s e in rw (told.0, told.1, q)

  pub no-token : None ≡ number_in s → None ≡ lexeme at (digits s)
  unfolding digits lexeme
  no-token e = rw (no_number s e)
