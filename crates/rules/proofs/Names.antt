-- The names that are open in a table of declarations, and where they are found.
use Prim.Native.Nat.{ℕ, suc, ◌+◌, ◌<◌}
use mathlib.Core.Path.{◌≡◌, refl, sym, ◌∙◌}
use mathlib.Core.Bool.{Bool, true, false}
use mathlib.Core.List.{[], ◌∷◌, ◌++◌, map, append_assoc, append-nil}
use mathlib.Core.Option.{Option, none, some}
use native.Mathlib.Nat.{add-zero}
use native.Mathlib.Omega.{arith}
use lib.ListN.{length}
use Rattle.meaning.specs.declared.Kind.{Kind}
use Rattle.meaning.specs.Tokens.{equal}
use Rattle.meaning.specs.Tree.{Name}
use Rattle.meaning.specs.Memory.{Declared, Declarations, declared}
use Rattle.meaning.specs.Typing.{find, shut, with_one}
use Rattle.rules.specs.Typing.{Names, ◌at◌}

-- The names of the open scopes.
shown : Bool → Declared → Names
shown true d = (d.name, (d.kind, d.lanes)) ∷ []
shown false d = []

unfoldable pub opens : Declarations → Names
unfolding shown
opens [] = []
opens (d ∷ Γ) = shown d.open? d ++ opens Γ

pub opens_append : (Γ Δ : Declarations) → opens (Γ ++ Δ) ≡ opens Γ ++ opens Δ
unfolding opens
opens_append [] Δ = refl
opens_append (d ∷ Γ) Δ = rw (opens_append Γ Δ) (sym (append_assoc (shown d.open? d) (opens Γ) (opens Δ)))

opens_shut : (Δ : Declarations) → opens (map shut Δ) ≡ []
unfolding opens shown shut
opens_shut [] = refl
opens_shut (d ∷ Δ) = opens_shut Δ

-- "what m declares is not open after it"
pub opens_after-scope : (Γ Δ : Declarations) → opens (Γ ++ map shut Δ) ≡ opens Γ
opens_after-scope Γ Δ = rw (opens_append, opens_shut) (append-nil (opens Γ))

pub opens_with_one : (k : Kind) (n p : ℕ) (x : Name) (Γ : Declarations) →
    opens (with_one k n p x Γ) ≡ opens Γ ++ ((x, (k, n)) ∷ [])
unfolding with_one opens shown
opens_with_one k n p x Γ = opens_append Γ _

-- What `find` finds is what the open names say.
pub data Found (x : Name) (k : ℕ) (Γ : Declarations) : Option ℕ → Type 0 where
  missing : opens Γ at x ≡ none → Found x k Γ none
  number : (j : ℕ) {i : ℕ} → i ≡ k + j → j < length Γ → opens Γ at x ≡ some ((declared Γ j).kind, (declared Γ j).lanes) →
      Found x k Γ (some i)

one_further : {x : Name} {k : ℕ} {d : Declared} {Γ : Declarations} {o : Option ℕ} → opens (d ∷ Γ) at x ≡ opens Γ at x →
    Found x (suc k) Γ o → Found x k (d ∷ Γ) o
unfolding declared
one_further {k} same (missing e) = missing (same ∙ e)
one_further {k} same (number j i l e) = number (suc j) (i ∙ omega arith) (omega arith) (same ∙ e)

pub finds : (x : Name) (k : ℕ) (Γ : Declarations) → Found x k Γ (find x k Γ)
unfolding find opens ◌at◌ shown declared
finds x k [] = missing refl
finds x k (d ∷ Γ) = go d.open? (equal d.name x) refl refl (finds x (suc k) Γ)
  where
    go : (a b : Bool) → d.open? ≡ a → equal d.name x ≡ b → Found x (suc k) Γ (find x (suc k) Γ) →
        Found x k (d ∷ Γ) (find x k (d ∷ Γ))
    go true true e h r = rw (e, h) (number 0 (sym (add-zero k)) (omega arith) (rw h))
    go true false e h r = rw (e, h) (one_further (rw h) r)
    go false b e h r = rw e (one_further refl r)
