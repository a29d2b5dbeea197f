-- Declarations of a program and of the narrowed one: the same, each of one lane.
use mathlib.Core.Path.{◌≡◌, refl, ap}
use mathlib.Core.List.{List, [], ◌∷◌, ◌++◌}
use Prim.Native.Nat.{ℕ, zero, suc}
use lib.ListN.{length}
use Rattle.meaning.specs.declared.Kind.{Kind}
use Rattle.meaning.specs.Tree.{Name}
use Rattle.meaning.specs.Memory.{Declared, Declarations, declared}
use Rattle.meaning.specs.Typing.{find, with_one, shut}
use Rattle.laws.specs.Declarations.{Ordered, closing}
use Rattle.lane.specs.Narrow.{narrow}
use Rattle.lane.specs.NarrowTree.{Each, no_row, row, Thinned}

pub each-length : {R : Declared → Declared → Type 0} {Γ Δ : Declarations} → Each R Γ Δ → length Δ ≡ length Γ
each-length no_row = refl
each-length (row r t) = ap suc (each-length t)

-- A row of a narrowed table; where there is none both have the same.
pub thin_declared : {Γ Δ : Declarations} → Each Thinned Γ Δ → (x : ℕ) → Thinned (declared Γ x) (declared Δ x)
unfolding declared
thin_declared no_row x = record { same_name = refl; same_place = refl; same_kind = refl; one_lane = refl; same_scope = refl }
thin_declared (row r t) zero = r
thin_declared (row r t) (suc x) = thin_declared t x

-- A name is found where it was.
pub thin_find : {Γ Δ : Declarations} (x : Name) (k : ℕ) → Each Thinned Γ Δ → find x k Δ ≡ find x k Γ
unfolding find
thin_find x k no_row = refl
thin_find x k (row r t) = rw (r.same_name, r.same_scope, thin_find x (suc k) t)

-- At the end of a scope.
pub thin_closing : {Γ Δ : Declarations} (n : ℕ) → Each Thinned Γ Δ → Each Thinned (closing n Γ) (closing n Δ)
unfolding shut
thin_closing zero no_row = no_row
thin_closing zero (row r t) = row (record { same_name = r.same_name; same_place = r.same_place; same_kind = r.same_kind; one_lane = r.one_lane; same_scope = refl }) (thin_closing zero t)
thin_closing (suc n) no_row = no_row
thin_closing (suc n) (row r t) = row r (thin_closing n t)

-- A declaration of n lanes, and the same of one.
pub thin_new : {Γ Δ : Declarations} (k : Kind) (n p : ℕ) (x : Name) → Each Thinned Γ Δ → Each Thinned (with_one k n p x Γ) (with_one k 1 p x Δ)
unfolding with_one
thin_new k n p x t = append t (record { same_name = refl; same_place = refl; same_kind = refl; one_lane = refl; same_scope = refl })
  where
    append : {Γ Δ : Declarations} {d e : Declared} → Each Thinned Γ Δ → Thinned d e → Each Thinned (Γ ++ (d ∷ [])) (Δ ++ (e ∷ []))
    append no_row r = row r no_row
    append (row q t) r = row q (append t r)

-- The declarations of an accepted text and of the narrowed one, each with an address of its own.
pub record Paired (text : List ℕ) (Γ Δ : Declarations) : Type 0 where
  pub thin : Each Thinned Γ Δ
  pub laid : Ordered text Γ
  pub laid' : Ordered (narrow text) Δ
