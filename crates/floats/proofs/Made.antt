-- A list that `from_fn` makes is the one that its calls give, place by place.
use Rattle.std.proofs.Common.{◌≡◌, inl, inr, ℕ, zero, suc, ◌+◌, ◌<◌, ◌≤◌, List, length, get_or, sym, ◌∙◌, arith}
use Rattle.std.proofs.lemmas.Grind.{same_number_lists}
use Rattle.std.specs.Array.{IsFromFnResult, IsFromFnResultFrom}
use denote.Param.Members.{Mut, Called}
use native.Mathlib.Nat.{eq-or-lt_of_le}
use mathlib.Core.List.{map, zip_with}
use lib.ListN.{length-map}
use Rattle.laws.proofs.Lists.{length_zip, zip_at, map_at}

module _ {F : Type 0} (g : Mut F (ℕ × Unit {0}) ℕ) (f : F) (h : ℕ → ℕ) (n : ℕ)
    (one : (i v : ℕ) (f' : F) → i < n → Called g f (i, tt) v f' → (v ≡ h i) × (f' ≡ f)) where
  calls : (m i : ℕ) (r : List ℕ) → i + m ≡ n → IsFromFnResultFrom g f r i m → (k : ℕ) → i ≤ k → k < n → get_or r k 0 ≡ h k
  calls zero i r e all k a b = absurd (omega arith)
  calls (suc m) i r e (f', v, at, call, rest) k a b =
      let said = one i v f' (omega arith) call in
      elim (eq-or-lt_of_le a) [
        | inl s ↦ rw (← s) (at.1 0 ∙ said.0)
        | inr s ↦ calls m (i + 1) r (omega arith) (rw said.1 at rest) k (omega arith) b
      ]

  -- The list of n that has what the calls give.
  pub made : {r : List ℕ} → IsFromFnResult g f r n → (l : List ℕ) → length l ≡ n → ((i : ℕ) → i < n → h i ≡ get_or l i 0) → r ≡ l
  made {r} all l e same =
      same_number_lists r l (all.long ∙ sym e)
      (λ k b. let inside : k < n = omega (arith, all.long) in calls n 0 r (omega arith) all.each k (omega arith) inside ∙ same k inside)

module _ {F : Type 0} (g : Mut F (ℕ × Unit {0}) ℕ) (f : F) (n : ℕ) where
  -- Two lists of n, element by element.
  pub made_zip : (h : ℕ → ℕ → ℕ) (x y : List ℕ) → length x ≡ n → length y ≡ n
      → ((i v : ℕ) (f' : F) → i < n → Called g f (i, tt) v f' → (v ≡ h (get_or x i 0) (get_or y i 0)) × (f' ≡ f))
      → {r : List ℕ} → IsFromFnResult g f r n → r ≡ zip_with h x y
  made_zip h x y a b one all =
      made g f (λ i. h (get_or x i 0) (get_or y i 0)) n one all (zip_with h x y) (omega (arith, length_zip h x y))
      (λ i lt. sym (zip_at h x y i (omega arith) (omega arith)))

  -- A list of n, element by element.
  pub made_map : (h : ℕ → ℕ) (x : List ℕ) → length x ≡ n
      → ((i v : ℕ) (f' : F) → i < n → Called g f (i, tt) v f' → (v ≡ h (get_or x i 0)) × (f' ≡ f))
      → {r : List ℕ} → IsFromFnResult g f r n → r ≡ map h x
  made_map h x a one all = made g f (λ i. h (get_or x i 0)) n one all (map h x) (length-map x h ∙ a) (λ i lt. sym (map_at h x i 0 (omega arith)))
