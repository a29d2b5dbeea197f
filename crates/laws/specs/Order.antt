-- "in text order": where the names of declarations stand, from the tokens over the tree to the declarations.
use Rattle.std.specs.Prelude.{ℕ, ◌≤◌, ◌<◌, ◌≡◌, List, length, get_or}
use Rattle.std.proofs.Math.Option.{Option}
use Rattle.meaning.specs.declared.Kind.{Kind}
use Rattle.meaning.specs.Tokens.{Token, end_at, the}
use Rattle.meaning.specs.Tree.{Name, Expr, Block, Stmt, empty, braces, declare, assign, if_else, while, scalar, Stmts, none_yet, ◌⨾◌}
use Rattle.meaning.specs.Memory.{Declarations, declared}

-- The token at a position.
abbrev pub token_at : List Token → ℕ → Token
token_at ts at = get_or ts at (end_at 0)

-- Tokens at rising places, all below p.
pub record Up (p : ℕ) (ts : List Token) : Type 0 where
  pub below : (i : ℕ) → i < length ts → (token_at ts i).place < p
  pub rising : (i j : ℕ) → i < j → j < length ts → (token_at ts i).place < (token_at ts j).place

-- A name of place q is a token at a position from lo on and before hi.
pub record Stands (ts : List Token) (lo hi q : ℕ) : Type 0 where
  pub at : ℕ
  pub from : lo ≤ at
  pub before : at < hi
  pub named : (token_at ts at).is ≡ the "name"
  pub is : q ≡ (token_at ts at).place

-- Statements whose declarations have their names there, one after another.
mutual
  pub data Rises (ts : List Token) : ℕ → ℕ → Stmt → Type 0 where
    rises_empty : {lo hi p : ℕ} → lo ≤ hi → Rises ts lo hi (empty p)
    rises_braces : {lo hi p : ℕ} {l : Stmts} → AllRise ts lo hi l → Rises ts lo hi (braces p l)
    rises_declare : {lo hi p q : ℕ} {k : Kind} {b : Block} {x : Name} {v : Option (ℕ × Expr)} → Stands ts lo hi q → Rises ts lo hi (declare p k b q x v)
    rises_assign : {lo hi p q : ℕ} {x : Name} {e : Expr} → lo ≤ hi → Rises ts lo hi (assign p x q e)
    rises_if : {lo mid hi p : ℕ} {e : Expr} {s t : Stmt} → Rises ts lo mid s → Rises ts mid hi t → Rises ts lo hi (if_else p e s t)
    rises_while : {lo hi p : ℕ} {e : Expr} {s : Stmt} → Rises ts lo hi s → Rises ts lo hi (while p e s)
    rises_scalar : {lo hi p : ℕ} {s : Stmt} → Rises ts lo hi s → Rises ts lo hi (scalar p s)

  pub data AllRise (ts : List Token) : ℕ → ℕ → Stmts → Type 0 where
    rises_none : {lo hi : ℕ} → lo ≤ hi → AllRise ts lo hi none_yet
    rises_more : {lo mid hi : ℕ} {l : Stmts} {s : Stmt} → AllRise ts lo mid l → Rises ts mid hi s → AllRise ts lo hi (l ⨾ s)

-- "in text order": each declaration's name stands behind those of the declarations before it.
pub record InTextOrder (Γ : Declarations) : Type 0 where
  pub rising : (x y : ℕ) → x < y → y < length Γ → (declared Γ x).place < (declared Γ y).place
