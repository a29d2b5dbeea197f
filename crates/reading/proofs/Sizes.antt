-- A flat tree is whole units: three words each, and at least one for an expression and for a statement.
use Prim.Native.Nat.{ℕ, ◌+◌, ◌*◌, ◌≤◌}
use mathlib.Core.Path.{◌≡◌, refl}
use mathlib.Core.List.{List, [], ◌++◌}
use mathlib.Core.Option.{Option, none, some}
use native.Mathlib.Omega.{arith}
use lib.ListN.{length, length-append}
use Rattle.meaning.specs.Tree.{Expr, number, float_number, boolean, name, current_mask, unary, binary, Stmt, empty, braces, declare, assign, if_else, while, scalar, Stmts, none_yet, ◌⨾◌}
use Rattle.layout.specs.Words.{unit, headed, flat, value_words, flat_stmt, flat_stmts}

-- Words that are `least` units or more.
pub record Units (least : ℕ) (w : List ℕ) : Type 0 where
  pub count : ℕ
  pub enough : least ≤ count
  pub are : length w ≡ 3 * count

-- Units after units.
both : {m n : ℕ} {v w : List ℕ} → Units m v → Units n w → Units (m + n) (v ++ w)
both {v = v} {w = w} a b = record { count = a.count + b.count; enough = omega arith; are = omega (arith, length-append v w, a.are, b.are) }

-- One unit.
one : (a b c : ℕ) → Units 1 (unit a b c)
one a b c = record { count = 1; enough = omega arith; are = refl }

-- No more than that are asked for.
fewer : {m n : ℕ} {w : List ℕ} → n ≤ m → Units m w → Units n w
fewer le u = record { count = u.count; enough = omega arith; are = u.are }

pub expression_units : (e : Expr) → Units 1 (flat e)
unfolding flat
expression_units (number n) = one _ n 0
expression_units (float_number n) = one _ n 0
expression_units (boolean b) = one _ 0 0
expression_units (name p x) = one _ p _
expression_units current_mask = one _ 0 0
expression_units (unary p o a) = fewer (omega arith) (both (expression_units a) (one _ p 0))
expression_units (binary p o a b) = fewer (omega arith) (both (expression_units a) (both (expression_units b) (one _ p 0)))

-- A statement is a unit, and then the words of its head and its parts.
head : {m : ℕ} (tag p : ℕ) (h w : List ℕ) → Units m (h ++ w) → Units 1 (headed tag p h w)
unfolding headed
head tag p h w u = fewer (omega arith) (both (one tag p (length h + length w)) u)

-- No words.
nothing : Units 0 []
nothing = record { count = 0; enough = omega arith; are = refl }

value-units : (v : Option (ℕ × Expr)) → Units 0 (value_words v)
unfolding value_words
value-units none = nothing
value-units (some v) = fewer (omega arith) (expression_units v.1)

mutual
  unfolding flat_stmt flat_stmts

  pub statement_units : (s : Stmt) → Units 1 (flat_stmt s)
  statement_units (empty p) = head _ p [] [] nothing
  statement_units (braces p l) = head _ p [] (flat_stmts l) (sequence_units l)
  statement_units (declare p k b q x v) = head _ p (unit _ _ _ ++ unit _ _ _) (value_words v) (both (one _ _ _) (both (one _ _ _) (value-units v)))
  statement_units (assign p x q e) = head _ p (unit _ _ _) (flat e) (both (one _ q 0) (expression_units e))
  statement_units (if_else p e s t) =
      head _ p (unit _ _ _) (flat e ++ (flat_stmt s ++ flat_stmt t)) (both (one _ _ 0) (both (expression_units e) (both (statement_units s) (statement_units t))))
  statement_units (while p e s) = head _ p (unit _ _ _) (flat e ++ flat_stmt s) (both (one _ 0 0) (both (expression_units e) (statement_units s)))
  statement_units (scalar p s) = head _ p [] (flat_stmt s) (statement_units s)

  pub sequence_units : (l : Stmts) → Units 0 (flat_stmts l)
  sequence_units none_yet = nothing
  sequence_units (l ⨾ s) = fewer (omega arith) (both (sequence_units l) (statement_units s))
