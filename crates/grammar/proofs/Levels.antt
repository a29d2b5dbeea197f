-- Tokens of a sort; the levels of binary operators by number, and which operator of a level a token is, if any.
use Prim.Native.Nat.{ℕ, zero, suc}
use Prim.Native.String.{String}
use mathlib.Core.Path.{◌≡◌, refl, sym, ◌∙◌}
use mathlib.Core.Bool.{Bool, true, false}
use mathlib.Core.List.{List, [], ◌∷◌}
use mathlib.Core.Option.{some}
use native.Mathlib.Omega.{arith}
use lib.Dec.{eqb}
use lib.ListN.{get_or}
use borrow.Author.Tests.{eqb-true, eqb-false}
use Rattle.meaning.specs.declared.Binary.{Binary}
use Rattle.meaning.specs.declared.Binary.TheVariants as O
use Rattle.meaning.specs.Codes.{when◌then◌else◌}
use Rattle.meaning.specs.Tokens.{Token, the, words, marks, numbered, reserved, signs}
use Rattle.meaning.specs.Tree.{table, levels}
use Rattle.meaning.specs.Reading.{operator}
use Rattle.grammar.specs.Grammar.{The, every_level, Operator, or, xor, and, eq, ne, lt, gt, le, ge, add, sub, mul, token, operator_token, operator_of}

-- A token as one of the sort that it is.
abbrev pub as_the : (s : String) → Token → The s
as_the s t = record { place = t.place; value = t.value; spelled = t.spelled }

pub as_it_is : (s : String) (t : Token) → t.is ≡ the s → token (as_the s t) ≡ t
unfolding token
as_it_is s t e = λ i. record { is = (sym e) i; place = t.place; value = t.value; spelled = t.spelled }

-- The operators of a level.
unfoldable pub of_level : ℕ → List Binary
of_level n =
    get_or (
    (O.Mul ∷ []) ∷ (O.Add ∷ O.Sub ∷ []) ∷ (O.Lt ∷ O.Gt ∷ O.Le ∷ O.Ge ∷ []) ∷ (O.Eq ∷ O.Ne ∷ []) ∷ (O.And ∷ []) ∷ (O.Xor ∷ []) ∷ (O.Or ∷ []) ∷ [])
    n []

-- Those of the n tightest levels.
unfoldable pub below : ℕ → List (List Binary)
below zero = []
below (suc n) = of_level n ∷ below n

pub every_below : levels ≡ below every_level
unfolding levels below of_level
every_below = refl

-- An operator's token is that operator at its level.
pub finds : {n : ℕ} (x : Operator n) → operator (operator_token x).is (of_level n) ≡ some (operator_of x)
unfolding operator of_level table operator_token operator_of the words marks numbered reserved signs
finds (or t) = refl
finds (xor t) = refl
finds (and t) = refl
finds (eq t) = refl
finds (ne t) = refl
finds (lt t) = refl
finds (gt t) = refl
finds (le t) = refl
finds (ge t) = refl
finds (add t) = refl
finds (sub t) = refl
finds (mul t) = refl

-- A token that is an operator of a level.
pub record Stands (n : ℕ) (t : Token) (o : Binary) : Type 0 where
  pub it : Operator n
  pub written : operator_token it ≡ t
  pub is : operator_of it ≡ o
  pub not_end : t.is ≡ the "end" → ⊥

stands : {n : ℕ} (s : String) (t : Token) (x : Operator n) → operator_token x ≡ token (as_the s t) → eqb (the s) (the "end") ≡ false → t.is ≡ the s →
    Stands n t (operator_of x)
stands s t x w h e = record { it = x; written = w ∙ as_it_is s t e; is = refl; not_end = λ z. eqb-false _ _ h (sym e ∙ z) }

-- Each operator of a list stands where the token is its sign.
data Each (n : ℕ) (t : Token) : List Binary → Type 0 where
  none_left : Each n t []
  each : {o : Binary} {os : List Binary} → (t.is ≡ the (table o).0 → Stands n t o) → Each n t os → Each n t (o ∷ os)

looked : {n : ℕ} {t : Token} {os : List Binary} → Each n t os → (o : Binary) → operator t.is os ≡ some o → Stands n t o
unfolding operator
looked none_left o e = let z : ◌≡◌ {A = ℕ} 0 1 = cc in absurd (omega arith)
looked {n} {t} (each {o = a} {os = os} h c) o e = go (eqb t.is (the (table a).0)) refl e (looked c o)
  where
    go : (b : Bool) → eqb t.is (the (table a).0) ≡ b → (when b then (λ _. some a) else λ _. operator t.is os) ≡ some o →
        (operator t.is os ≡ some o → Stands n t o) → Stands n t o
    go true g q rest = let same : a ≡ o = cc in rw same at (h (eqb-true _ _ g))
    go false g q rest = rest q

each_level : (n : ℕ) (t : Token) → Each n t (of_level n)
unfolding of_level table operator_token operator_of the words marks numbered reserved signs
each_level zero t = each (stands "*" t (mul (as_the "*" t)) refl refl) none_left
each_level (suc zero) t =
    each (stands "+" t (add (as_the "+" t)) refl refl) (each (stands "-" t (sub (as_the "-" t)) refl refl) none_left)
each_level (suc (suc zero)) t =
    each (stands "<" t (lt (as_the "<" t)) refl refl)
    (each (stands ">" t (gt (as_the ">" t)) refl refl)
    (each (stands "<=" t (le (as_the "<=" t)) refl refl)
    (each (stands ">=" t (ge (as_the ">=" t)) refl refl) none_left)))
each_level (suc (suc (suc zero))) t =
    each (stands "==" t (eq (as_the "==" t)) refl refl) (each (stands "!=" t (ne (as_the "!=" t)) refl refl) none_left)
each_level (suc (suc (suc (suc zero)))) t = each (stands "&" t (and (as_the "&" t)) refl refl) none_left
each_level (suc (suc (suc (suc (suc zero))))) t = each (stands "^" t (xor (as_the "^" t)) refl refl) none_left
each_level (suc (suc (suc (suc (suc (suc zero)))))) t = each (stands "|" t (or (as_the "|" t)) refl refl) none_left
each_level (suc (suc (suc (suc (suc (suc (suc n))))))) t = none_left

pub found : (n : ℕ) (t : Token) (o : Binary) → operator t.is (of_level n) ≡ some o → Stands n t o
found n t o e = looked (each_level n t) o e
