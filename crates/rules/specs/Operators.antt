-- Document 01, "Typing", and document 02, R-2: what the operators take and give, sentence by sentence.
use Rattle.meaning.specs.declared.Kind.{Kind}
use Rattle.meaning.specs.declared.Kind.TheVariants.{Int as int, Bool as bool, Float as float}
use Rattle.meaning.specs.declared.Unary.{Unary}
use Rattle.meaning.specs.declared.Unary.TheVariants.{Neg as neg, Inv as inv, Not as unary_not}
use Rattle.meaning.specs.declared.Binary.{Binary}
use Rattle.meaning.specs.declared.Binary.TheVariants.{Or as or, Xor as xor, And as and, Eq as eq, Ne as ne, Lt as lt, Gt as gt, Le as le, Ge as ge, Add as add, Sub as sub, Mul as mul}

-- The kinds of numbers: "`+ - *` and `< > <= >=` take ints"; document 02, R-2: `float` "with `+ - *`, unary minus and all comparisons".
pub data Number : Kind → Type 0 where
  int_counts : Number int
  float_counts : Number float

-- The kinds of bits: "`& | ^` take two of one kind"; document 02, R-2: refused "for a float under `& | ^ ~`".
pub data Bits : Kind → Type 0 where
  word_has_bits : Bits int
  bit_has_bits : Bits bool

infix 10 ◌takes◌ ◌takes_two◌gives◌
-- o takes k: "`-` `~` take int, `!` bool"; of floats "unary minus". It gives its operand's kind.
pub data ◌takes◌ : Unary → Kind → Type 0 where
  takes_neg : {k : Kind} → Number k → neg takes k
  takes_inv : inv takes int
  takes_not : unary_not takes bool

-- o takes_two k gives l: "Comparisons give bool, the others their operands' kind."
pub data ◌takes_two◌gives◌ : Binary → Kind → Kind → Type 0 where
  -- "`+ - *` .. take ints", and floats
  takes_add : {k : Kind} → Number k → add takes_two k gives k
  takes_sub : {k : Kind} → Number k → sub takes_two k gives k
  takes_mul : {k : Kind} → Number k → mul takes_two k gives k
  -- "`< > <= >=` take ints", and floats
  takes_lt : {k : Kind} → Number k → lt takes_two k gives bool
  takes_gt : {k : Kind} → Number k → gt takes_two k gives bool
  takes_le : {k : Kind} → Number k → le takes_two k gives bool
  takes_ge : {k : Kind} → Number k → ge takes_two k gives bool
  -- "`== !=` .. take two of one kind", floats too
  takes_eq : {k : Kind} → eq takes_two k gives bool
  takes_ne : {k : Kind} → ne takes_two k gives bool
  -- "`& | ^` take two of one kind", not floats
  takes_and : {k : Kind} → Bits k → and takes_two k gives k
  takes_or : {k : Kind} → Bits k → or takes_two k gives k
  takes_xor : {k : Kind} → Bits k → xor takes_two k gives k
