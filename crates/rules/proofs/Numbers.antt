-- The scope that a table of declarations makes: its open names with their numbers.
use Prim.Native.Nat.{ℕ, suc, ◌+◌}
use mathlib.Core.Path.{◌≡◌, refl, sym, ◌∙◌}
use mathlib.Core.Bool.{Bool, true, false}
use mathlib.Core.List.{List, [], ◌∷◌, ◌++◌, map, append_assoc, append-nil}
use native.Mathlib.Nat.{add-zero, zero-add}
use native.Mathlib.Omega.{arith}
use lib.ListN.{length, take, drop, length-append, length-map}
use Rattle.meaning.specs.declared.Kind.{Kind}
use Rattle.meaning.specs.Codes.{lookup}
use Rattle.meaning.specs.Tokens.{equal}
use Rattle.meaning.specs.Tree.{Name}
use Rattle.meaning.specs.Memory.{Declarations}
use Rattle.meaning.specs.Typing.{find, shut, with_one}
use Rattle.rules.specs.Scopes.{Scope, ◌means◌, opened, beyond}
use Rattle.rules.proofs.Typed.{Declares, shut_behind}

-- The open names from number k on.
numbered : Bool → Name → ℕ → List (Name × ℕ)
numbered true x k = (x, k) ∷ []
numbered false x k = []

unfoldable pub numbers : ℕ → Declarations → List (Name × ℕ)
unfolding numbered
numbers k [] = []
numbers k (d ∷ Γ) = numbered d.open? d.name k ++ numbers (suc k) Γ

numbers-append : (k : ℕ) (Γ Δ : Declarations) → numbers k (Γ ++ Δ) ≡ numbers k Γ ++ numbers (k + length Γ) Δ
unfolding numbers
numbers-append k [] Δ = rw add-zero
numbers-append k (d ∷ Γ) Δ =
    let next : suc k + length Γ ≡ k + suc (length Γ) = omega arith in
    rw (numbers-append (suc k) Γ Δ, next) (sym (append_assoc (numbered d.open? d.name k) (numbers (suc k) Γ) _))

numbers-shut : (k : ℕ) (Δ : Declarations) → numbers k (map shut Δ) ≡ []
unfolding numbers numbered shut
numbers-shut k [] = refl
numbers-shut k (d ∷ Δ) = numbers-shut (suc k) Δ

-- What a name means is what `find` finds.
found_by_number : (x : Name) (k : ℕ) (Γ : Declarations) → lookup (λ y. equal y x) (numbers k Γ) ≡ find x k Γ
unfolding numbers numbered find
found_by_number x k [] = refl
found_by_number x k (d ∷ Γ) = go d.open? (equal d.name x) refl refl (found_by_number x (suc k) Γ)
  where
    go : (a b : Bool) → d.open? ≡ a → equal d.name x ≡ b → lookup (λ y. equal y x) (numbers (suc k) Γ) ≡ find x (suc k) Γ →
        lookup (λ y. equal y x) (numbers k (d ∷ Γ)) ≡ find x k (d ∷ Γ)
    go true true e h r = rw (e, h)
    go true false e h r = rw (e, h) r
    go false b e h r = rw e r

module _ (Γ* : Declarations) where
  -- The scope behind the declarations Γ, where Γ* are all.
  unfoldable pub scope_of : Declarations → Scope
  scope_of Γ = record { names = numbers 0 Γ; count = length Γ; table = Γ* }

  pub means_found : (x : Name) (Γ : Declarations) → scope_of Γ means x ≡ find x 0 Γ
  unfolding scope_of ◌means◌
  means_found x Γ = found_by_number x 0 Γ

  pub scope-table : (Γ : Declarations) → (scope_of Γ).table ≡ Γ*
  unfolding scope_of
  scope-table Γ = refl

  equal_scopes : {a b : List (Name × ℕ)} {c e : ℕ} → a ≡ b → c ≡ e →
      ◌≡◌ {A = Scope} (record { names = a; count = c; table = Γ* }) (record { names = b; count = e; table = Γ* })
  equal_scopes p q = rw (p, q)

  -- Behind a scope, and behind a declaration.
  pub behind_scope : {n : ℕ} {Γ Γ' : Declarations} → Declares n Γ Γ' →
      scope_of (take (length Γ) Γ' ++ map shut (drop (length Γ) Γ')) ≡ beyond n (scope_of Γ)
  unfolding scope_of beyond
  behind_scope {n} {Γ} d =
      rw (d.behind, shut_behind Γ d.new)
      (equal_scopes
      (numbers-append 0 Γ (map shut d.new) ∙ (rw numbers-shut (append-nil (numbers 0 Γ))))
      (length-append Γ (map shut d.new) ∙ (rw (length-map d.new shut, d.count))))

  pub behind_declaration : (k : Kind) (n p : ℕ) (x : Name) (Γ : Declarations) → scope_of (with_one k n p x Γ) ≡ opened x (scope_of Γ)
  unfolding scope_of opened with_one numbers numbered
  behind_declaration k n p x Γ = equal_scopes (numbers-append 0 Γ _ ∙ (rw zero-add)) (length-append Γ _)
