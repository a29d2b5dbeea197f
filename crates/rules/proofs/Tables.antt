-- One table of declarations before another: the variables of the first have in the second the kinds and lengths that they have in
-- the first.
use Prim.Native.Nat.{ℕ, ◌<◌}
use mathlib.Core.Path.{◌≡◌, refl, ap, sym, ◌∙◌}
use mathlib.Core.List.{List, [], ◌∷◌, ◌++◌, map, append_assoc, append-nil, map-append}
use native.Mathlib.Omega.{arith}
use lib.ListN.{length, take, drop, get_or, length-append, length-map, get_or-map, get_or-append}
use lib.Seq.{get_or-append_seam}
use Rattle.meaning.specs.declared.Kind.{Kind}
use Rattle.meaning.specs.declared.Kind.TheVariants.{Int as int}
use Rattle.meaning.specs.Tree.{Name}
use Rattle.meaning.specs.Memory.{Declared, Declarations, declared}
use Rattle.meaning.specs.Typing.{with_one, shut}
use Rattle.rules.proofs.Typed.{Declares, shut_behind}

-- The kind and length of a variable, and of all.
abbrev pub shape : Declared → Kind × ℕ
shape d = (d.kind, d.lanes)

abbrev pub shapes : Declarations → List (Kind × ℕ)
shapes Γ = map shape Γ

infix 30 ◌≼◌
pub record ◌≼◌ (Γ Γ* : Declarations) : Type 0 where
  pub rest : List (Kind × ℕ)
  pub is : shapes Γ* ≡ shapes Γ ++ rest

pub same_shape : {Γ Γ* : Declarations} → Γ ≼ Γ* → (i : ℕ) → i < length Γ → shape (declared Γ* i) ≡ shape (declared Γ i)
unfolding declared
same_shape {Γ} {Γ*} q i h =
    sym (get_or-map shape Γ* i _)
    ∙ (ap (λ l. get_or l i (int, 1)) q.is
    ∙ (get_or-append (shapes Γ) q.rest (int, 1) i (rw (length-map Γ shape) h)
    ∙ get_or-map shape Γ i _))

-- A table itself, one before a third, and what declarations and scopes leave.
pub itself : (Γ : Declarations) → Γ ≼ Γ
itself Γ = record { rest = []; is = sym (append-nil (shapes Γ)) }

pub before : {Γ Γ₁ Γ₂ : Declarations} → Γ ≼ Γ₁ → Γ₁ ≼ Γ₂ → Γ ≼ Γ₂
before {Γ} a b = record { rest = a.rest ++ b.rest; is = b.is ∙ (rw a.is (append_assoc (shapes Γ) a.rest b.rest)) }

pub declared_before : {n : ℕ} {Γ Γ' : Declarations} → Declares n Γ Γ' → Γ ≼ Γ'
declared_before {Γ} d = record { rest = shapes d.new; is = rw d.behind (map-append shape Γ d.new) }

shapes_shut : (Δ : Declarations) → shapes (map shut Δ) ≡ shapes Δ
unfolding shut
shapes_shut [] = refl
shapes_shut (d ∷ Δ) = ap (λ l. shape d ∷ l) (shapes_shut Δ)

shapes_scoped : {n : ℕ} {Γ Γ' : Declarations} → Declares n Γ Γ' →
    shapes (take (length Γ) Γ' ++ map shut (drop (length Γ) Γ')) ≡ shapes Γ'
shapes_scoped {Γ} d =
    rw (d.behind, shut_behind Γ d.new)
    (map-append shape Γ (map shut d.new) ∙ (rw shapes_shut (sym (map-append shape Γ d.new))))

module _ {n : ℕ} {Γ Γ' : Declarations} (d : Declares n Γ Γ') where
  pub before_scope : Γ ≼ take (length Γ) Γ' ++ map shut (drop (length Γ) Γ')
  before_scope = let r = declared_before d in record { rest = r.rest; is = shapes_scoped d ∙ r.is }

  pub inside_scope : (Γ* : Declarations) → take (length Γ) Γ' ++ map shut (drop (length Γ) Γ') ≼ Γ* → Γ' ≼ Γ*
  inside_scope Γ* q = record { rest = q.rest; is = q.is ∙ ap (λ l. l ++ q.rest) (shapes_scoped d) }

-- The new variable of a declaration.
pub new_shape : (k : Kind) (n p : ℕ) (x : Name) (Γ Γ* : Declarations) → with_one k n p x Γ ≼ Γ* →
    shape (declared Γ* (length Γ)) ≡ (k, n)
unfolding with_one declared
new_shape k n p x Γ Γ* q = same_shape q (length Γ) (simp length-append (omega arith)) ∙ ap shape (get_or-append_seam Γ _ [] _)
