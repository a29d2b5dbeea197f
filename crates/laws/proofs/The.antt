-- The numbers of tokens: what `the` gives for each, as the constants of layout's `token` have them.
use mathlib.Core.Path.{◌≡◌, refl}
use native.Mathlib.Omega.{arith}
use Rattle.meaning.specs.Tokens.{the, words, marks, numbered, reserved, signs}

pub the_end : the "end" ≡ 0
unfolding the words marks numbered reserved signs
the_end = refl

pub the_number : the "number" ≡ 1
unfolding the words marks numbered reserved signs
the_number = refl

pub the_name : the "name" ≡ 2
unfolding the words marks numbered reserved signs
the_name = refl

pub the_float_number : the "float number" ≡ 3
unfolding the words marks numbered reserved signs
the_float_number = refl

pub the_int : the "int" ≡ 16
unfolding the words marks numbered reserved signs
the_int = refl

pub the_bool : the "bool" ≡ 17
unfolding the words marks numbered reserved signs
the_bool = refl

pub the_block : the "block" ≡ 18
unfolding the words marks numbered reserved signs
the_block = refl

pub the_if : the "if" ≡ 19
unfolding the words marks numbered reserved signs
the_if = refl

pub the_else : the "else" ≡ 20
unfolding the words marks numbered reserved signs
the_else = refl

pub the_while : the "while" ≡ 21
unfolding the words marks numbered reserved signs
the_while = refl

pub the_scalar : the "scalar" ≡ 22
unfolding the words marks numbered reserved signs
the_scalar = refl

pub the_current_mask : the "current_mask" ≡ 23
unfolding the words marks numbered reserved signs
the_current_mask = refl

pub the_true : the "true" ≡ 24
unfolding the words marks numbered reserved signs
the_true = refl

pub the_false : the "false" ≡ 25
unfolding the words marks numbered reserved signs
the_false = refl

pub the_float : the "float" ≡ 26
unfolding the words marks numbered reserved signs
the_float = refl

pub the-equal : the "==" ≡ 48
unfolding the words marks numbered reserved signs
the-equal = refl

pub the_unequal : the "!=" ≡ 49
unfolding the words marks numbered reserved signs
the_unequal = refl

pub the_at_most : the "<=" ≡ 50
unfolding the words marks numbered reserved signs
the_at_most = refl

pub the_at_least : the ">=" ≡ 51
unfolding the words marks numbered reserved signs
the_at_least = refl

pub the_semicolon : the ";" ≡ 52
unfolding the words marks numbered reserved signs
the_semicolon = refl

pub the_open_brace : the "{" ≡ 53
unfolding the words marks numbered reserved signs
the_open_brace = refl

pub the_close_brace : the "}" ≡ 54
unfolding the words marks numbered reserved signs
the_close_brace = refl

pub the_open : the "(" ≡ 55
unfolding the words marks numbered reserved signs
the_open = refl

pub the_close : the ")" ≡ 56
unfolding the words marks numbered reserved signs
the_close = refl

pub the_open_bracket : the "[" ≡ 57
unfolding the words marks numbered reserved signs
the_open_bracket = refl

pub the_close_bracket : the "]" ≡ 58
unfolding the words marks numbered reserved signs
the_close_bracket = refl

pub the_becomes : the "=" ≡ 59
unfolding the words marks numbered reserved signs
the_becomes = refl

pub the-below : the "<" ≡ 60
unfolding the words marks numbered reserved signs
the-below = refl

pub the_above : the ">" ≡ 61
unfolding the words marks numbered reserved signs
the_above = refl

pub the-plus : the "+" ≡ 62
unfolding the words marks numbered reserved signs
the-plus = refl

pub the-minus : the "-" ≡ 63
unfolding the words marks numbered reserved signs
the-minus = refl

pub the-times : the "*" ≡ 64
unfolding the words marks numbered reserved signs
the-times = refl

pub the_and : the "&" ≡ 65
unfolding the words marks numbered reserved signs
the_and = refl

pub the_or : the "|" ≡ 66
unfolding the words marks numbered reserved signs
the_or = refl

pub the_xor : the "^" ≡ 67
unfolding the words marks numbered reserved signs
the_xor = refl

pub the_inverse : the "~" ≡ 68
unfolding the words marks numbered reserved signs
the_inverse = refl

pub the_not : the "!" ≡ 69
unfolding the words marks numbered reserved signs
the_not = refl

-- The four that are no word and no sign differ.
pub number_not_end : the "number" ≡ the "end" → ⊥
number_not_end e = omega (arith, the_number, the_end)

pub name_not_end : the "name" ≡ the "end" → ⊥
name_not_end e = omega (arith, the_name, the_end)

pub float_number_not_end : the "float number" ≡ the "end" → ⊥
float_number_not_end e = omega (arith, the_float_number, the_end)

pub float_number_not_number : the "float number" ≡ the "number" → ⊥
float_number_not_number e = omega (arith, the_float_number, the_number)

pub float_number_not_name : the "float number" ≡ the "name" → ⊥
float_number_not_name e = omega (arith, the_float_number, the_name)

pub number_not_name : the "number" ≡ the "name" → ⊥
number_not_name e = omega (arith, the_number, the_name)
