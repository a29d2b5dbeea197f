-- The tests of lengths in `meaning` are 001's premises; how long the lanes of an operator are.
use Prim.Native.Nat.{ℕ}
use mathlib.Core.Path.{◌≡◌, refl, sym, ◌∙◌}
use mathlib.Core.Bool.{Bool, true, false, ◌||◌, not, false≢true}
use mathlib.Core.List.{List}
use lib.Dec.{eqb}
use lib.ListN.{length}
use borrow.Author.Tests.{eqb-true, eq-eqb}
use Rattle.meaning.specs.Memory.{Value, Mask}
use Rattle.meaning.specs.Running.{lanewise}
use Rattle.meaning.specs.Typing.{match, fits, joined}
use Rattle.laws.specs.Lengths.{Match as Matching, equal, left as left_one, right as right_one}
use Rattle.laws.proofs.Lengths.{joined_cases, joined_one, joined_right, joined_same}
use Rattle.laws.proofs.Values.{length-lanewise as lanewise-length}
use Rattle.rules.specs.Evaluation.{◌∩◌, ◌∖◌}
use Rattle.rules.specs.Lengths.{Match, scalar_context, scalar_type, same_length, Target, any_length, context_length, Fills, whole, broadcast}

-- One of two or three tests holds.
either : {P : Type 0} (a b : Bool) → (a ≡ true → P) → (b ≡ true → P) → a || b ≡ true → P
either true b f g e = f refl
either false b f g e = g e

either₃ : {P : Type 0} (a b c : Bool) → (a ≡ true → P) → (b ≡ true → P) → (c ≡ true → P) → a || b || c ≡ true → P
either₃ a b c f g h e = either (a || b) c (either a b f g) h e

left : (a b : Bool) → a ≡ true → a || b ≡ true
left a b e = rw e

right : (a b : Bool) → b ≡ true → a || b ≡ true
right true b e = refl
right false b e = e

module _ (C n : ℕ) where
  -- "must have length 1 or C, unless C is 1"
  pub fits-match : fits C n ≡ true → Match C n
  unfolding fits
  fits-match e =
      either₃ (eqb n 1) (eqb n C) (eqb C 1)
      (λ t. scalar_type (eqb-true n 1 t))
      (λ t. same_length (sym (eqb-true n C t)))
      (λ t. scalar_context (eqb-true C 1 t)) e

  pub match-fits : Match C n → fits C n ≡ true
  unfolding fits
  match-fits (scalar_context e) = right (eqb n 1 || eqb n C) (eqb C 1) (eq-eqb C 1 e)
  match-fits (scalar_type e) = left (eqb n 1 || eqb n C) (eqb C 1) (left (eqb n 1) (eqb n C) (eq-eqb n 1 e))
  match-fits (same_length e) = left (eqb n 1 || eqb n C) (eqb C 1) (right (eqb n 1) (eqb n C) (eq-eqb n C (sym e)))

  -- "equal lengths or one of length 1"
  pub matches : match C n ≡ true → Match C n
  unfolding match
  matches e =
      either₃ (eqb C n) (eqb C 1) (eqb n 1)
      (λ t. same_length (eqb-true C n t))
      (λ t. scalar_context (eqb-true C 1 t))
      (λ t. scalar_type (eqb-true n 1 t)) e

  pub does_match : Match C n → match C n ≡ true
  unfolding match
  does_match (scalar_context e) = left (eqb C n || eqb C 1) (eqb n 1) (right (eqb C n) (eqb C 1) (eq-eqb C 1 e))
  does_match (scalar_type e) = right (eqb C n || eqb C 1) (eqb n 1) (eq-eqb n 1 e)
  does_match (same_length e) = left (eqb C n || eqb C 1) (eqb n 1) (left (eqb C n) (eqb C 1) (eq-eqb C n e))

  -- "Where C is above 1, a target of length 1 is refused"
  pub not_narrow : Target C n → eqb C 1 || not (eqb n 1) ≡ true
  not_narrow (any_length e) = left (eqb C 1) (not (eqb n 1)) (eq-eqb C 1 e)
  not_narrow (context_length e) = go (eqb n 1) refl
    where
      go : (t : Bool) → eqb n 1 ≡ t → eqb C 1 || not (eqb n 1) ≡ true
      go true h = rw (e, h)
      go false h = right (eqb C 1) (not (eqb n 1)) (rw h)

  pub target : Match C n → eqb C 1 || not (eqb n 1) ≡ true → Target C n
  target (scalar_context e) h = any_length e
  target (scalar_type e) h =
      either (eqb C 1) (not (eqb n 1)) (λ t. any_length (eqb-true C 1 t)) (λ t. absurd (false≢true (rw e at t))) h
  target (same_length e) h = context_length e

  pub target_match : Target C n → Match C n
  target_match (any_length e) = scalar_context e
  target_match (context_length e) = same_length e

  -- "its length or 1"
  pub fills : eqb C 1 || eqb C n ≡ true → Fills C n
  fills e = either (eqb C 1) (eqb C n) (λ t. broadcast (eqb-true C 1 t)) (λ t. whole (eqb-true C n t)) e

  pub does_fill : Fills C n → eqb C 1 || eqb C n ≡ true
  does_fill (whole e) = right (eqb C 1) (eqb C n) (eq-eqb C n e)
  does_fill (broadcast e) = left (eqb C 1) (eqb C n) (eq-eqb C 1 e)

-- What fits a context twice fits it joined.
pub match-joined : (C n n' : ℕ) → Match C n → Match C n' → Match C (joined n n')
match-joined C n n' a b = joined_cases n n' (Match C) (λ h. b) (λ h. a)

-- Which of two lengths that match comes first does not matter; a length joined to one that it joined already adds nothing.
pub joined_swap : (n m : ℕ) → Match n m → joined n m ≡ joined m n
joined_swap n m (scalar_context e) = joined_one n m e ∙ sym (joined_right m n e)
joined_swap n m (scalar_type e) = joined_right n m e ∙ sym (joined_one m n e)
joined_swap n m (same_length e) = rw e

pub joined_again : (n m : ℕ) → joined n (joined n m) ≡ joined n m
joined_again n m = joined_cases n m (λ k. joined n k ≡ k) (λ h. joined_one n m h) (λ h. joined_same n)

pub joined-match : (n m : ℕ) → Match (joined n m) n
joined-match n m = joined_cases n m (λ k. Match k n) (λ h. scalar_type h) (λ h. same_length refl)

-- "equal lengths or one of length 1, which is replicated"
pub length-lanewise : {A B D : Type 0} (f : A → B → D) (u : List A) (v : List B) → Match (length u) (length v) →
    length (lanewise f u v) ≡ joined (length u) (length v)
length-lanewise f u v h = lanewise-length f u v (matching h)
  where
    matching : {n m : ℕ} → Match n m → Matching n m
    matching (scalar_context e) = left_one e
    matching (scalar_type e) = right_one e
    matching (same_length e) = equal e

-- The length of a branch's mask: "C if the condition's length is 1, otherwise the condition's length".
module _ (m : Mask) (c : Value) (h : Match (length m) (length c)) where
  pub length_first : length (m ∩ c) ≡ joined (length c) (length m)
  unfolding ◌∩◌
  length_first = length-lanewise _ m c h ∙ joined_swap (length m) (length c) h

  pub length_second : length (m ∖ c) ≡ joined (length c) (length m)
  unfolding ◌∖◌
  length_second = length-lanewise _ m c h ∙ joined_swap (length m) (length c) h
