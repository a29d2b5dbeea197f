-- Under a mask with an active lane, `if` and `while` go by 001's "P and m" and "P and not m" for scalar conditions too.
use Prim.Native.Nat.{ℕ}
use mathlib.Core.Path.{◌≡◌, refl, sym}
use mathlib.Core.Bool.{Bool, true, false, ◌&&◌}
use mathlib.Core.List.{List, [], ◌∷◌, zip_with}
use lib.ListN.{length, replicate}
use Rattle.meaning.specs.Memory.{Value, Mask, truth, spread}
use Rattle.meaning.specs.Running.{Ran, Run, stopped, done, and_then, lanewise, some_lane, mask_and, mask_and_not, unless_empty, branches, while_left}
use Rattle.laws.proofs.Tests.{and-false}
use Rattle.laws.proofs.Values.{spread_one}
use Rattle.rules.specs.Evaluation.{◌∩◌, ◌∖◌}

zip_empty : {A B D : Type 0} (f : A → B → D) (u : List A) → zip_with f u [] ≡ []
unfolding zip_with
zip_empty f [] = refl
zip_empty f (a ∷ u) = refl

-- A true lane for all keeps a mask, a false one leaves no lane.
zip_keeps : (f : Bool → ℕ → Bool) (x : ℕ) → ((a : Bool) → f a x ≡ a) → (m : Mask) → zip_with f m (replicate (length m) x) ≡ m
unfolding zip_with
zip_keeps f x h [] = refl
zip_keeps f x h (a ∷ m) = rw (h a, zip_keeps f x h m)

zip_clears : (f : Bool → ℕ → Bool) (x : ℕ) → ((a : Bool) → f a x ≡ false) → (m : Mask) →
    some_lane (zip_with f m (replicate (length m) x)) ≡ false
unfolding zip_with some_lane
zip_clears f x h [] = refl
zip_clears f x h (a ∷ m) = rw (h a, zip_clears f x h m)

and-true : (a : Bool) → a && true ≡ a
and-true true = refl
and-true false = refl

module _ {S : Type 0} (r : Run S) (m : Mask) (b : ℕ) (σ : S) where
  -- What is run where some lane is active, and skipped where none is.
  pub runs : some_lane m ≡ true → unless_empty r m b σ ≡ r m b σ
  unfolding unless_empty
  runs e = rw e

  pub skips : some_lane m ≡ false → unless_empty r m b σ ≡ done σ b
  unfolding unless_empty
  skips e = rw e

-- A run that is followed by nothing.
then_nothing : {S : Type 0} (R : Ran S) (k : ℕ → S → Ran S) → ((b : ℕ) (σ : S) → k b σ ≡ done σ b) → and_then R k ≡ R
unfolding and_then
then_nothing (stopped c p σ b) k h = refl
then_nothing (done σ b) k h = h b σ

module _ (m : Mask) where
  none_of_none : some_lane (m ∩ []) ≡ false
  unfolding ◌∩◌ lanewise spread some_lane
  none_of_none = rw zip_empty

  none_of_none_not : some_lane (m ∖ []) ≡ false
  unfolding ◌∖◌ lanewise spread some_lane
  none_of_none_not = rw zip_empty

module _ (m : Mask) (x : ℕ) where
  keeps : truth x ≡ true → m ∩ (x ∷ []) ≡ m
  unfolding ◌∩◌ lanewise spread
  keeps t = rw spread_one (zip_keeps _ x (λ a. rw t (and-true a)) m)

  clears : truth x ≡ false → some_lane (m ∩ (x ∷ [])) ≡ false
  unfolding ◌∩◌ lanewise spread
  clears t = rw spread_one (zip_clears _ x (λ a. rw t (and-false a)) m)

  keeps_not : truth x ≡ false → m ∖ (x ∷ []) ≡ m
  unfolding ◌∖◌ lanewise spread
  keeps_not t = rw spread_one (zip_keeps _ x (λ a. rw t (and-true a)) m)

  clears_not : truth x ≡ true → some_lane (m ∖ (x ∷ [])) ≡ false
  unfolding ◌∖◌ lanewise spread
  clears_not t = rw spread_one (zip_clears _ x (λ a. rw t (and-false a)) m)

-- 001: "an if statement degenerates to standard IMP semantics if an ordinary boolean is used in the header".
module _ {S : Type 0} (m : Mask) (active : some_lane m ≡ true) (r : Run S) where
  pub while_as_rule : (c : Value) (b : ℕ) (σ : S) → while_left c r m b σ ≡ unless_empty r (m ∩ c) b σ
  unfolding while_left ◌∩◌ lanewise spread mask_and
  while_as_rule [] b σ = sym (skips r (m ∩ []) b σ (none_of_none m))
  while_as_rule (x ∷ []) b σ = go (truth x) refl
    where
      go : (t : Bool) → truth x ≡ t → while_left (x ∷ []) r m b σ ≡ unless_empty r (m ∩ (x ∷ [])) b σ
      go true t = rw (t, keeps m x t, runs r m b σ active)
      go false t = rw (t, skips r (m ∩ (x ∷ [])) b σ (clears m x t))
  while_as_rule (x ∷ y ∷ c) b σ = refl

  pub branches_as_rule : (q : Run S) (c : Value) (b : ℕ) (σ : S) →
      branches c r q m b σ ≡ and_then (unless_empty r (m ∩ c) b σ) (λ b' σ'. unless_empty q (m ∖ c) b' σ')
  unfolding branches and_then ◌∩◌ ◌∖◌ lanewise spread mask_and mask_and_not
  branches_as_rule q [] b σ = rw (skips r (m ∩ []) b σ (none_of_none m), skips q (m ∖ []) b σ (none_of_none_not m))
  branches_as_rule q (x ∷ []) b σ = go (truth x) refl
    where
      go : (t : Bool) → truth x ≡ t →
          branches (x ∷ []) r q m b σ ≡ and_then (unless_empty r (m ∩ (x ∷ [])) b σ) (λ b' σ'. unless_empty q (m ∖ (x ∷ [])) b' σ')
      go true t =
          rw (t, keeps m x t, runs r m b σ active)
          (sym (then_nothing (r m b σ) _ (λ b' σ'. skips q (m ∖ (x ∷ [])) b' σ' (clears_not m x t))))
      go false t = rw (t, skips r (m ∩ (x ∷ [])) b σ (clears m x t), keeps_not m x t, runs q m b σ active)
  branches_as_rule q (x ∷ y ∷ c) b σ = refl
