-- The tag of an operator, back and forth.
use Prim.Native.Nat.{ℕ}
use mathlib.Core.Path.{◌≡◌, refl}
use borrow.Author.Tests.{ne_eqb}
use Rattle.meaning.specs.declared.Unary.{Unary}
use Rattle.meaning.specs.declared.Unary.TheVariants.{Neg as neg, Inv as inv, Not as unary_not}
use Rattle.meaning.specs.declared.Binary.{Binary}
use Rattle.meaning.specs.declared.Binary.TheVariants.{Or as or, Xor as xor, And as and, Eq as eq, Ne as ne, Lt as lt, Gt as gt, Le as le, Ge as ge, Add as add, Sub as sub, Mul as mul}
use Rattle.meaning.specs.Tokens.{the, words, marks, numbered, reserved, signs}
use Rattle.meaning.specs.Tree.{table, unary_table}
use Rattle.layout.specs.Words.{unary_tag, binary_tag, sign_of, operator_of}

pub operator_back : (o : Binary) → operator_of (binary_tag o) ≡ o
unfolding operator_of binary_tag table the words marks numbered reserved signs
operator_back or = refl
operator_back xor = refl
operator_back and = refl
operator_back eq = refl
operator_back ne = refl
operator_back lt = refl
operator_back gt = refl
operator_back le = refl
operator_back ge = refl
operator_back add = refl
operator_back sub = refl
operator_back mul = refl

pub sign_back : (o : Unary) → sign_of (unary_tag o) ≡ o
unfolding sign_of unary_tag unary_table the words marks numbered reserved signs
sign_back neg = refl
sign_back inv = refl
sign_back unary_not = refl

-- Every other tag stands for the last operator.
pub operator_last : {t : ℕ} → (t ≡ 66 → ⊥) → (t ≡ 67 → ⊥) → (t ≡ 65 → ⊥) → (t ≡ 48 → ⊥) → (t ≡ 49 → ⊥) → (t ≡ 60 → ⊥) → (t ≡ 61 → ⊥) → (t ≡ 50 → ⊥) → (t ≡ 51 → ⊥) → (t ≡ 62 → ⊥) → (t ≡ 63 → ⊥)
    → mul ≡ operator_of t
unfolding operator_of binary_tag table the words marks numbered reserved signs
operator_last {t} a b c d e f g h i j k =
    rw (ne_eqb t 66 a, ne_eqb t 67 b, ne_eqb t 65 c, ne_eqb t 48 d, ne_eqb t 49 e, ne_eqb t 60 f, ne_eqb t 61 g, ne_eqb t 50 h, ne_eqb t 51 i, ne_eqb t 62 j, ne_eqb t 63 k)

pub sign_last : {t : ℕ} → (t ≡ 191 → ⊥) → (t ≡ 196 → ⊥) → unary_not ≡ sign_of t
unfolding sign_of unary_tag unary_table the words marks numbered reserved signs
sign_last {t} a b = rw (ne_eqb t 191 a, ne_eqb t 196 b)
