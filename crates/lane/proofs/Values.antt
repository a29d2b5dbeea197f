-- Evaluation is lane-wise: a lane of an expression's value is its value over that lane of the variables and the mask.
use mathlib.Core.Path.{◌≡◌, refl, sym, ap, ap₂, ◌∙◌}
use mathlib.Core.Bool.{false}
use mathlib.Core.List.{[], ◌∷◌, map, zip_with}
use Prim.Native.Nat.{ℕ, ◌<◌}
use lib.ListN.{length}
use Rattle.meaning.specs.Program.{Code}
use Rattle.meaning.specs.Memory.{Value, Mask, bit, spread, Declarations}
use Rattle.meaning.specs.Running.{unary_of, binary_of, lanewise, value}
use Rattle.meaning.specs.Typing.{width}
use Rattle.laws.specs.Lengths.{Matched, matched_constant, matched_variable, matched_mask, matched_one, matched_two}
use Rattle.laws.proofs.Values.{value-length}
use Rattle.lane.specs.Lane.{seat}
use Rattle.lane.specs.Values.{lane}
use Rattle.lane.proofs.Lanes.{Reaches, lane-lanewise, lane-map}
use Rattle.lane.proofs.Programs.{lanes_of, reaches-width}

-- ρ gives the variables' values, of the declared lengths, and m is the mask of a context of length C.
module _ {Γ : Declarations} {C : ℕ} (m : Mask) (size : length m ≡ C) (ρ : ℕ → Value) (sized : (x : ℕ) → x < length Γ → length (ρ x) ≡ lanes_of Γ x) where
  length_is : {e : Code} → Matched Γ C e → length (value e m ρ) ≡ width Γ C e
  length_is h = value-length m size ρ sized h

  -- ρ' gives lane i of each.
  module _ (i : ℕ) (here : Reaches i C) (all : (x : ℕ) → x < length Γ → Reaches i (lanes_of Γ x))
      (ρ' : ℕ → Value) (reads : (x : ℕ) → x < length Γ → ρ' x ≡ lane 0 (ρ x) i ∷ []) where
    reaches-value : {e : Code} → Matched Γ C e → Reaches i (length (value e m ρ))
    reaches-value h = rw (length_is h) (reaches-width i all here h)

    pub value-lane : {e : Code} → Matched Γ C e → value e (lane false m i ∷ []) ρ' ≡ lane 0 (value e m ρ) i ∷ []
    unfolding value lane seat lanewise spread zip_with
    value-lane matched_constant = refl
    value-lane (matched_variable {x = x} h f) = reads x h
    value-lane matched_mask = ap (λ (a : ℕ). a ∷ []) (sym (lane-map bit false 0 i m (rw size here)))
    value-lane (matched_one {k = k} {o = o} {a = e} h) =
        ap (map (unary_of k o)) (value-lane h)
        ∙ ap (λ (a : ℕ). a ∷ []) (sym (lane-map (unary_of k o) 0 0 i (value e m ρ) (reaches-value h)))
    value-lane (matched_two {k = k} {o = o} {a = e} {b = e'} h h' t) =
        ap₂ (lanewise (binary_of k o)) (value-lane h) (value-lane h')
        ∙ ap (λ (a : ℕ). a ∷ []) (sym (lane-lanewise (binary_of k o) (value e m ρ) (value e' m ρ) 0 0 0 i (rw (length_is h, length_is h') t) (reaches-value h) (reaches-value h')))
