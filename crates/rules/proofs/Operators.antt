-- What the operators take and give by the rules is what the definition's tables say.
use mathlib.Core.Path.{◌≡◌, refl, sym}
use mathlib.Core.Bool.{true, and-eq-true_iff, false≢true}
use mathlib.Core.List.{[], ◌∷◌}
use Rattle.meaning.specs.declared.Kind.{Kind}
use Rattle.meaning.specs.declared.Kind.TheVariants.{Int as int, Bool as bool, Float as float}
use Rattle.meaning.specs.declared.Unary.{Unary}
use Rattle.meaning.specs.declared.Unary.TheVariants.{Neg as neg, Inv as inv, Not as unary_not}
use Rattle.meaning.specs.declared.Binary.{Binary}
use Rattle.meaning.specs.declared.Binary.TheVariants.{Or as or, Xor as xor, And as and, Eq as eq, Ne as ne, Lt as lt, Gt as gt, Le as le, Ge as ge, Add as add, Sub as sub, Mul as mul}
use Rattle.meaning.specs.Tree.{kind_number, same_kind, ◌one_of◌, table, unary_table}
use Rattle.meaning.specs.Typing.{accepts, gives_kind}
use Rattle.laws.proofs.Typing.{same_kind_is}
use Rattle.rules.specs.Operators.{Number, int_counts, float_counts, Bits, word_has_bits, bit_has_bits, ◌takes◌, takes_neg, takes_inv, takes_not, ◌takes_two◌gives◌, takes_add, takes_sub, takes_mul, takes_lt, takes_gt, takes_le, takes_ge, takes_eq, takes_ne, takes_and, takes_or, takes_xor}

pub same_as_itself : (k : Kind) → same_kind k k ≡ true
unfolding same_kind kind_number
same_as_itself int = refl
same_as_itself bool = refl
same_as_itself float = refl

-- The lists of kinds.
by_numbers : (k : Kind) → k one_of (int ∷ float ∷ []) ≡ true → Number k
unfolding ◌one_of◌ same_kind kind_number
by_numbers int e = int_counts
by_numbers bool e = absurd (false≢true e)
by_numbers float e = float_counts

in_numbers : {k : Kind} → Number k → k one_of (int ∷ float ∷ []) ≡ true
unfolding ◌one_of◌ same_kind kind_number
in_numbers int_counts = refl
in_numbers float_counts = refl

by_bits : (k : Kind) → k one_of (int ∷ bool ∷ []) ≡ true → Bits k
unfolding ◌one_of◌ same_kind kind_number
by_bits int e = word_has_bits
by_bits bool e = bit_has_bits
by_bits float e = absurd (false≢true e)

in_bits : {k : Kind} → Bits k → k one_of (int ∷ bool ∷ []) ≡ true
unfolding ◌one_of◌ same_kind kind_number
in_bits word_has_bits = refl
in_bits bit_has_bits = refl

any_kind : (k : Kind) → k one_of (int ∷ bool ∷ float ∷ []) ≡ true
unfolding ◌one_of◌ same_kind kind_number
any_kind int = refl
any_kind bool = refl
any_kind float = refl

-- Unary operators.
pub by_unary_table : (o : Unary) (k : Kind) → k one_of (unary_table o).1 ≡ true → o takes k
unfolding unary_table ◌one_of◌ same_kind kind_number
by_unary_table neg k e = takes_neg (by_numbers k e)
by_unary_table inv int e = takes_inv
by_unary_table inv bool e = absurd (false≢true e)
by_unary_table inv float e = absurd (false≢true e)
by_unary_table unary_not int e = absurd (false≢true e)
by_unary_table unary_not bool e = takes_not
by_unary_table unary_not float e = absurd (false≢true e)

pub in_unary_table : {o : Unary} {k : Kind} → o takes k → k one_of (unary_table o).1 ≡ true
unfolding unary_table ◌one_of◌ same_kind kind_number
in_unary_table (takes_neg n) = in_numbers n
in_unary_table takes_inv = refl
in_unary_table takes_not = refl

-- Binary operators.
by_table : (o : Binary) (k : Kind) → k one_of (table o).1 ≡ true → o takes_two k gives (gives_kind (table o).2 k)
unfolding table gives_kind
by_table add k e = takes_add (by_numbers k e)
by_table sub k e = takes_sub (by_numbers k e)
by_table mul k e = takes_mul (by_numbers k e)
by_table lt k e = takes_lt (by_numbers k e)
by_table gt k e = takes_gt (by_numbers k e)
by_table le k e = takes_le (by_numbers k e)
by_table ge k e = takes_ge (by_numbers k e)
by_table eq k e = takes_eq
by_table ne k e = takes_ne
by_table and k e = takes_and (by_bits k e)
by_table or k e = takes_or (by_bits k e)
by_table xor k e = takes_xor (by_bits k e)

-- "two of one kind", of those that it takes
pub by_test : (o : Binary) (k l : Kind) → accepts (table o).1 k l ≡ true → (l ≡ k) × (o takes_two k gives (gives_kind (table o).2 k))
unfolding accepts
by_test o k l a =
    let both = (and-eq-true_iff (k one_of (table o).1) (same_kind k l)).0 a in
    (sym (same_kind_is k l both.1), by_table o k both.0)

pub in_table : {o : Binary} {k l : Kind} → o takes_two k gives l → (k one_of (table o).1 ≡ true) × (gives_kind (table o).2 k ≡ l)
unfolding table gives_kind
in_table (takes_add n) = (in_numbers n, refl)
in_table (takes_sub n) = (in_numbers n, refl)
in_table (takes_mul n) = (in_numbers n, refl)
in_table (takes_lt n) = (in_numbers n, refl)
in_table (takes_gt n) = (in_numbers n, refl)
in_table (takes_le n) = (in_numbers n, refl)
in_table (takes_ge n) = (in_numbers n, refl)
in_table (takes_eq {k}) = (any_kind k, refl)
in_table (takes_ne {k}) = (any_kind k, refl)
in_table (takes_and b) = (in_bits b, refl)
in_table (takes_or b) = (in_bits b, refl)
in_table (takes_xor b) = (in_bits b, refl)
