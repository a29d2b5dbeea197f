-- How the loops over bytes follow the definitions: a run of a class, the value of digits; and when two lists are the same.
use mathlib.Core.Path.{◌≡◌, refl, ap, ◌∙◌}
use mathlib.Core.Bool.{Bool, true, false, false≢true}
use mathlib.Core.List.{List, [], ◌∷◌}
use Prim.Native.Nat.{ℕ, zero, suc, ◌+◌, ◌*◌, ◌-◌, ◌≤◌, ◌<◌}
use native.Mathlib.Numerals.{add-one}
use native.Mathlib.Omega.{arith}
use lib.Dec.{eqb, leb}
use lib.ListN.{length, get_or, take, drop, drop_of_length-le}
use lib.Seq.{drop-cons, length-take-le}
use borrow.Author.Tests.{eq-eqb, ne_eqb, eqb-true, leb-true}
use Rattle.meaning.specs.Tokens.{run_of, starts, equal, decimal, digit}
use Rattle.laws.proofs.Tests.{and_l, and_r, by_if}

-- A run, i bytes on.
module _ (p : ℕ → Bool) (s : List ℕ) (i : ℕ) where
  pub run_on : i < length s → p (get_or s i 0) ≡ true → run_of p s ≡ i + run_of p (drop i s) → run_of p s ≡ i + 1 + run_of p (drop (i + 1) s)
  unfolding run_of
  run_on lt hit e =
      let h : run_of p (drop i s) ≡ suc (run_of p (drop (i + 1) s)) = rw (add-one i, drop-cons s i 0 lt, hit) in
      omega (arith, e, h)

  pub run-off : i < length s → p (get_or s i 0) ≡ false → run_of p s ≡ i + run_of p (drop i s) → i ≡ run_of p s
  unfolding run_of
  run-off lt miss e =
      let h : run_of p (drop i s) ≡ 0 = rw (drop-cons s i 0 lt, miss) in
      omega (arith, e, h)

  pub run_end : length s ≤ i → run_of p s ≡ i + run_of p (drop i s) → i ≡ run_of p s
  unfolding run_of
  run_end le e = omega (arith, e, ap (run_of p) (drop_of_length-le s le))

-- A run is within the list, all its bytes pass, and it is not empty where the first byte passes.
module _ (p : ℕ → Bool) where
  pub run_within : (s : List ℕ) → run_of p s ≤ length s
  unfolding run_of
  run_within [] = omega arith
  run_within (c ∷ s) =
      let rest = run_within s in
      by_if (λ (n : ℕ). n ≤ suc (length s)) (p c) (λ _. suc (run_of p s)) (λ _. 0) (λ _. omega arith) (λ _. omega arith)

  pub run_length : (s : List ℕ) → length (take (run_of p s) s) ≡ run_of p s
  run_length s = length-take-le (run_of p s) s (run_within s)

  pub run_passes : (s : List ℕ) (i : ℕ) → i < run_of p s → p (get_or s i 0) ≡ true
  unfolding run_of
  run_passes [] i lt = absurd (omega arith)
  run_passes (c ∷ s) zero lt =
      by_if (λ (n : ℕ). 0 < n → p c ≡ true) (p c) (λ _. suc (run_of p s)) (λ _. 0) (λ hit _. hit) (λ _ none. absurd (omega arith)) lt
  run_passes (c ∷ s) (suc i) lt =
      by_if (λ (n : ℕ). suc i < n → p (get_or s i 0) ≡ true) (p c) (λ _. suc (run_of p s)) (λ _. 0)
      (λ _ more. run_passes s i (omega arith)) (λ _ none. absurd (omega arith)) lt

  pub run_take : (s : List ℕ) → run_of p (take (run_of p s) s) ≡ length (take (run_of p s) s)
  unfolding run_of
  run_take [] = refl
  run_take (c ∷ s) =
      by_if (λ (n : ℕ). run_of p (take n (c ∷ s)) ≡ length (take n (c ∷ s))) (p c) (λ _. suc (run_of p s)) (λ _. 0)
      (λ hit. rw hit (ap suc (run_take s))) (λ _. refl)

  pub run_some : (c : ℕ) (s : List ℕ) → p c ≡ true → 0 < run_of p (c ∷ s)
  unfolding run_of
  run_some c s hit = rw hit (omega arith)

-- Two lists are the same where the definition finds them equal.
starts_same : (a b : List ℕ) → length a ≡ length b → starts a b ≡ true → a ≡ b
unfolding starts
starts_same [] [] e h = refl
starts_same [] (d ∷ s) e h = absurd (omega arith)
starts_same (c ∷ l) [] e h = absurd (false≢true h)
starts_same (c ∷ l) (d ∷ s) e h = rw (eqb-true c d (and_l (eqb c d) (starts l s) h), starts_same l s (omega arith) (and_r (eqb c d) (starts l s) h))

starts_itself : (a : List ℕ) → starts a a ≡ true
unfolding starts
starts_itself [] = refl
starts_itself (c ∷ l) = rw (eq-eqb c c refl) (starts_itself l)

pub equal_same : (a b : List ℕ) → equal a b ≡ true → a ≡ b
unfolding equal
equal_same a b h =
    let t = eqb (length a) (length b) in
    starts_same a b (eqb-true (length a) (length b) (and_l t (starts a b) h)) (and_r t (starts a b) h)

pub same_equal : (a b : List ℕ) → a ≡ b → equal a b ≡ true
unfolding equal
same_equal a b e = rw (e, eq-eqb (length b) (length b) refl) (starts_itself b)

pub lengths_differ : (a b : List ℕ) → (length a ≡ length b → ⊥) → equal a b ≡ false
unfolding equal
lengths_differ a b ne = rw (ne_eqb (length a) (length b) ne)

-- Digits that are worth n, i bytes on.
module _ (s : List ℕ) (n i : ℕ) (so_far : decimal 0 s ≡ decimal n (drop i s)) where
  pub decimal_on : i < length s → decimal 0 s ≡ decimal (10 * n + (get_or s i 0 - 48)) (drop (i + 1) s)
  unfolding decimal
  decimal_on lt = so_far ∙ rw (add-one i, drop-cons s i 0 lt) refl

  pub decimal-end : length s ≤ i → decimal 0 s ≡ n
  unfolding decimal
  decimal-end le = so_far ∙ rw (drop_of_length-le s le) refl

pub decimal_grows : (s : List ℕ) (n : ℕ) → n ≤ decimal n s
unfolding decimal
decimal_grows [] n = omega arith
decimal_grows (c ∷ s) n = let h = decimal_grows s (10 * n + (c - 48)) in omega arith

pub digit_low : (c : ℕ) → digit c ≡ true → 48 ≤ c
unfolding digit
digit_low c hit = leb-true 48 c (and_l (leb 48 c) (leb c 57) hit)
