-- What every tree that was read, and every program that was typed, keeps to: names and places that lie in the text, and the room that
-- the stages over them need.
use Rattle.std.specs.Prelude.{ℕ, suc, ◌+◌, ◌*◌, ◌^◌, ◌≤◌, ◌<◌, max, ◌≡◌, Bool, List, length, take, drop}
use Rattle.std.proofs.Math.Option.{Option, none, some}
use Rattle.meaning.specs.declared.Kind.{Kind}
use Rattle.meaning.specs.Codes.{number_limit, nesting_limit}
use Rattle.meaning.specs.declared.Unary.{Unary}
use Rattle.meaning.specs.declared.Binary.{Binary}
use Rattle.meaning.specs.Tree.{Name, Expr, number, float_number, boolean, name, current_mask, unary, binary, Block, Stmt, empty, braces, declare, assign, if_else, while, scalar, Stmts, none_yet, ◌⨾◌}
use Rattle.meaning.specs.Program.{Code, constant, variable, the_mask, one, two, Program, nothing, step, put, both, choice, cycle, alone}

-- A name's bytes stand in the text at its place.
pub record Spelled (text : List ℕ) (p : ℕ) (x : Name) : Type 0 where
  pub some_bytes : 0 < length x
  pub inside : p + length x ≤ length text
  pub is : take (length x) (drop p text) ≡ x

-- How many values stand on the stack at once while an expression is gone through, operands before their operator.
unfoldable pub stack : Expr → ℕ
stack (number n) = 1
stack (float_number n) = 1
stack (boolean b) = 1
stack (name p x) = 1
stack current_mask = 1
stack (unary p o a) = stack a
stack (binary p o a b) = max (stack a) (suc (stack b))

-- Each level of nesting leaves at most one operand waiting at each of the seven levels of operators.
unfoldable pub stack_limit : ℕ
stack_limit = 7 * suc nesting_limit + 1

-- The names of an expression stand in the text, the places of its operators lie in it, its numbers are within their limit, and
-- its floats are words.
pub data InText (text : List ℕ) : Expr → Type 0 where
  of_number : {n : ℕ} → n ≤ number_limit → InText text (number n)
  of_float : {n : ℕ} → n < 2 ^ 32 → InText text (float_number n)
  of_boolean : {b : Bool} → InText text (boolean b)
  of_name : {p : ℕ} {x : Name} → Spelled text p x → InText text (name p x)
  of_mask : InText text current_mask
  of_unary : {p : ℕ} {o : Unary} {a : Expr} → p ≤ length text → InText text a → InText text (unary p o a)
  of_binary : {p : ℕ} {o : Binary} {a b : Expr} → p ≤ length text → InText text a → InText text b → InText text (binary p o a b)

-- An expression that can be gone through.
pub record Sound (text : List ℕ) (e : Expr) : Type 0 where
  pub in_text : InText text e
  pub fits : stack e ≤ stack_limit

-- The place of an N is not 0, and lies in the text.
pub data Placed (text : List ℕ) : Block → Type 0 where
  no_block : Placed text none
  at_place : {n p : ℕ} → 0 < p → p ≤ length text → Placed text (some (n, p))

-- The place of an `=` is not 0 and lies in the text, and the initial value can be gone through.
pub data Valued (text : List ℕ) : Option (ℕ × Expr) → Type 0 where
  no_value : Valued text none
  a_value : {p : ℕ} {e : Expr} → 0 < p → p ≤ length text → Sound text e → Valued text (some (p, e))

-- Statements of at most r levels of braces, branches and bodies, that can be gone through; their places lie in the text.
mutual
  pub data Walkable (text : List ℕ) : ℕ → Stmt → Type 0 where
    of_empty : {r p : ℕ} → p ≤ length text → Walkable text r (empty p)
    of_braces : {r p : ℕ} {l : Stmts} → AllWalkable text r l → Walkable text (suc r) (braces p l)
    of_declare : {r p q : ℕ} {k : Kind} {b : Block} {x : Name} {v : Option (ℕ × Expr)} → p ≤ length text → Placed text b → Spelled text q x → Valued text v → Walkable text r (declare p k b q x v)
    of_assign : {r p q : ℕ} {x : Name} {e : Expr} → Spelled text p x → q ≤ length text → Sound text e → Walkable text r (assign p x q e)
    of_if : {r p : ℕ} {e : Expr} {s t : Stmt} → p ≤ length text → Sound text e → Walkable text r s → Walkable text r t → Walkable text (suc r) (if_else p e s t)
    of_while : {r p : ℕ} {e : Expr} {s : Stmt} → p ≤ length text → Sound text e → Walkable text r s → Walkable text (suc r) (while p e s)
    of_scalar : {r p : ℕ} {s : Stmt} → Walkable text r s → Walkable text (suc r) (scalar p s)

  pub data AllWalkable (text : List ℕ) : ℕ → Stmts → Type 0 where
    of_none : {r : ℕ} → AllWalkable text r none_yet
    of_more : {r : ℕ} {l : Stmts} {s : Stmt} → AllWalkable text r l → Walkable text r s → AllWalkable text r (l ⨾ s)

-- The same of typed expressions: how many values stand on the stack, and that each variable is one of n.
unfoldable pub code_stack : Code → ℕ
code_stack (constant n) = 1
code_stack (variable x) = 1
code_stack the_mask = 1
code_stack (one p k o a) = code_stack a
code_stack (two p k o a b) = max (code_stack a) (suc (code_stack b))

pub data Numbers (n : ℕ) : Code → Type 0 where
  of_constant : {c : ℕ} → Numbers n (constant c)
  of_variable : {x : ℕ} → x < n → Numbers n (variable x)
  of_the_mask : Numbers n the_mask
  of_one : {p : ℕ} {k : Kind} {o : Unary} {a : Code} → Numbers n a → Numbers n (one p k o a)
  of_two : {p : ℕ} {k : Kind} {o : Binary} {a b : Code} → Numbers n a → Numbers n b → Numbers n (two p k o a b)

-- A typed expression that can be gone through.
pub record Able (n : ℕ) (e : Code) : Type 0 where
  pub numbers : Numbers n e
  pub fits : code_stack e ≤ stack_limit

-- A typed program of at most r levels of branches and bodies, over n declarations, that can be gone through.
pub data Runnable (n : ℕ) : ℕ → Program → Type 0 where
  of_nothing : {r : ℕ} → Runnable n r nothing
  of_step : {r p : ℕ} → Runnable n r (step p)
  of_put : {r p x : ℕ} {e : Code} → x < n → Able n e → Runnable n r (put p x e)
  of_both : {r : ℕ} {s t : Program} → Runnable n r s → Runnable n r t → Runnable n r (both s t)
  of_choice : {r p : ℕ} {e : Code} {s t : Program} → Able n e → Runnable n r s → Runnable n r t → Runnable n (suc r) (choice p e s t)
  of_cycle : {r p : ℕ} {e : Code} {s : Program} → Able n e → Runnable n r s → Runnable n (suc r) (cycle p e s)
  of_alone : {r : ℕ} {s : Program} → Runnable n r s → Runnable n (suc r) (alone s)
