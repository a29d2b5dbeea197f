-- Every expression that the rules type has some lanes, where every name and the context has.
use Prim.Native.Nat.{ℕ, ◌<◌}
use mathlib.Core.Path.{◌≡◌, refl, ap}
use mathlib.Core.Bool.{Bool, true, false}
use mathlib.Core.List.{[], ◌∷◌, ◌++◌}
use mathlib.Core.Option.{some}
use native.Mathlib.Omega.{arith}
use lib.Dec.{eqb}
use Rattle.meaning.specs.declared.Kind.{Kind}
use Rattle.meaning.specs.Codes.{when◌then◌else◌}
use Rattle.meaning.specs.Tokens.{equal}
use Rattle.meaning.specs.Tree.{Name, Expr, Block}
use Rattle.meaning.specs.Typing.{joined, lanes_or}
use Rattle.laws.proofs.Declarations.{listed_some}
use Rattle.rules.specs.Typing.{Names, ◌at◌, Listed, no_block, block, ◌∣◌⊢◌∶⟨◌∣◌⟩, t_number, t_float, t_boolean, t_var, t_mask, t_unary, t_binary}

-- The length of every name is above 0.
pub data Sized : Names → Type 0 where
  no_name : Sized []
  one_name : {e : Name × (Kind × ℕ)} {N : Names} → 0 < e.1.1 → Sized N → Sized (e ∷ N)

pub sized_more : {N : Names} (x : Name) (k : Kind) (n : ℕ) → Sized N → 0 < n → Sized (N ++ ((x, (k, n)) ∷ []))
sized_more x k n no_name h = one_name h no_name
sized_more x k n (one_name g a) h = one_name g (sized_more x k n a h)

sized_at : {N : Names} {k : Kind} {n : ℕ} (x : Name) → Sized N → N at x ≡ some (k, n) → 0 < n
unfolding ◌at◌
sized_at x no_name e = let never : ◌≡◌ {A = ℕ} 0 1 = cc in absurd (omega arith)
sized_at {k} {n} x (one_name {e = y} {N = N} g a) e = go (equal y.0 x) refl (sized_at x a)
  where
    go : (t : Bool) → equal y.0 x ≡ t → (N at x ≡ some (k, n) → 0 < n) → 0 < n
    go true h later =
        let here = rw h at e in
        let same : y.1 ≡ (k, n) = cc in
        let lanes : y.1.1 ≡ n = ap (λ p. p.1) same in
        omega arith
    go false h later = later (rw h at e)

-- An expression, and a declaration with or without `block`.
pub some_joined : (n m : ℕ) → 0 < n → 0 < m → 0 < joined n m
unfolding joined
some_joined n m h g = go (eqb n 1)
  where
    go : (t : Bool) → 0 < (when t then (λ _. m) else λ _. n)
    go true = g
    go false = h

pub some_length : {N : Names} {C n : ℕ} {e : Expr} {k : Kind} → Sized N → 0 < C → N ∣ C ⊢ e ∶⟨ k ∣ n ⟩ → 0 < n
some_length s c t_number = omega arith
some_length s c t_float = omega arith
some_length s c t_boolean = omega arith
some_length s c (t_var {x = x} e m) = sized_at x s e
some_length s c t_mask = c
some_length s c (t_unary t d) = some_length s c d
some_length s c (t_binary {n = n} {n' = n'} t d d' m) = some_joined n n' (some_length s c d) (some_length s c d')

pub some_block : {b : Block} (l : ℕ) → Listed b → 0 < l → 0 < lanes_or l b
unfolding lanes_or
some_block l no_block h = h
some_block l (block g) h = listed_some _ g
