-- Document 01, "Memory", "Typing" and "Execution", of lanes: what they are as whole numbers with a sign, as truths and as bits, and what
-- each operator makes of them.
use Rattle.std.specs.Prelude.{ℕ, ◌/◌, ◌%◌, ◌^◌, ◌<◌, ◌≡◌, Bool, true, ◌&&◌, ◌||◌, List, [], ◌∷◌, map, ltb, ℤ, pos, ◌+ℤ◌, ◌-ℤ◌, ◌*ℤ◌, neg_ℤ, length, get_or, take, ◌≤ℤ◌, ◌<ℤ◌}
use Rattle.std.proofs.Math.Bool as B
use Rattle.meaning.specs.declared.Kind.{Kind}
use Rattle.meaning.specs.declared.Kind.TheVariants.{Int as int, Bool as bool, Float as float}
use Rattle.meaning.specs.declared.Unary.{Unary}
use Rattle.meaning.specs.declared.Unary.TheVariants.{Neg as neg, Inv as inv, Not as unary_not}
use Rattle.meaning.specs.declared.Binary.{Binary}
use Rattle.meaning.specs.declared.Binary.TheVariants.{Or as or, Xor as xor, And as and, Eq as eq, Ne as ne, Lt as lt, Gt as gt, Le as le, Ge as ge, Add as add, Sub as sub, Mul as mul}
use Rattle.meaning.specs.Codes.{when◌then◌else◌}
use Rattle.meaning.specs.Program.{Code, constant, variable, the_mask, one, two}
use Rattle.meaning.specs.Memory.{Memory, Value, Mask, Declarations, bit, truth, load}
use Rattle.meaning.specs.Floats as F
use Rattle.meaning.specs.Floats.{plus, negated, minus, times, level}
use Rattle.meaning.specs.Typing.{joined}
use Rattle.meaning.specs.Services.{evaluate}
use Rattle.laws.specs.Lengths.{Match}
use Rattle.laws.specs.Values.{Bytes}

-- "4 bytes little-endian two's complement": the whole number with a sign that a word stands for.
unfoldable pub signed : ℕ → ℤ
signed w = when ltb w (2 ^ 31) then (λ _. pos w) else λ _. pos w -ℤ pos (2 ^ 32)

-- "keep the low 32 bits, as two's complement": kept is the number from -2^31 to 2^31 - 1 that is `exact` modulo 2^32.
pub record KeepsLow (exact kept : ℤ) : Type 0 where
  pub turns : ℤ
  pub modulo : exact ≡ kept +ℤ turns *ℤ pos (2 ^ 32)
  pub from : neg_ℤ (pos (2 ^ 31)) ≤ℤ kept
  pub to : kept <ℤ pos (2 ^ 31)

-- "Comparisons give bool": a lane that is 1 where P holds, and 0 where it does not.
pub record Says (P : Type 0) (lane : ℕ) : Type 0 where
  pub holds : P → lane ≡ 1
  pub fails : (P → ⊥) → lane ≡ 0

-- Bit i of a word.
unfoldable pub bit_at : ℕ → ℕ → Bool
bit_at i w = truth (w / 2 ^ i % 2)

-- Each of the 32 bits of a word.
abbrev pub EachBit : (ℕ → Bool) → ℕ → Type 0
EachBit f w = (i : ℕ) → i < 32 → bit_at i w ≡ f i

-- A unary operator on a lane a of kind k gives the lane c.
pub data GivesOne : Kind → Unary → ℕ → ℕ → Type 0 where
  -- "unary `-` keep[s] the low 32 bits, as two's complement"
  negative : {a c : ℕ} → KeepsLow (neg_ℤ (signed a)) (signed c) → GivesOne int neg a c
  complement : {a c : ℕ} → EachBit (λ i. B.not (bit_at i a)) c → GivesOne int inv a c
  opposite : {a c : ℕ} → c ≡ bit (B.not (truth a)) → GivesOne bool unary_not a c
  -- of floats "unary minus"
  negated_single : {a c : ℕ} → c ≡ negated a → GivesOne float neg a c

-- A binary operator on lanes a and b of kind k gives the lane c.
pub data GivesTwo : Kind → Binary → ℕ → ℕ → ℕ → Type 0 where
  -- "Integer `+ - *` .. keep the low 32 bits, as two's complement."
  sum : {a b c : ℕ} → KeepsLow (signed a +ℤ signed b) (signed c) → GivesTwo int add a b c
  difference : {a b c : ℕ} → KeepsLow (signed a -ℤ signed b) (signed c) → GivesTwo int sub a b c
  product : {a b c : ℕ} → KeepsLow (signed a *ℤ signed b) (signed c) → GivesTwo int mul a b c
  -- "Ints compare as signed"
  below : {a b c : ℕ} → Says (signed a <ℤ signed b) c → GivesTwo int lt a b c
  above : {a b c : ℕ} → Says (signed b <ℤ signed a) c → GivesTwo int gt a b c
  at_most : {a b c : ℕ} → Says (signed a ≤ℤ signed b) c → GivesTwo int le a b c
  at_least : {a b c : ℕ} → Says (signed b ≤ℤ signed a) c → GivesTwo int ge a b c
  equal : {a b c : ℕ} → Says (signed a ≡ signed b) c → GivesTwo int eq a b c
  unequal : {a b c : ℕ} → Says (signed a ≡ signed b → ⊥) c → GivesTwo int ne a b c
  -- bit by bit
  bits_or : {a b c : ℕ} → EachBit (λ i. bit_at i a || bit_at i b) c → GivesTwo int or a b c
  bits_xor : {a b c : ℕ} → EachBit (λ i. B.xor (bit_at i a) (bit_at i b)) c → GivesTwo int xor a b c
  bits_and : {a b c : ℕ} → EachBit (λ i. bit_at i a && bit_at i b) c → GivesTwo int and a b c
  -- "bools are compared and joined by truth"
  truths_or : {a b c : ℕ} → c ≡ bit (truth a || truth b) → GivesTwo bool or a b c
  truths_xor : {a b c : ℕ} → c ≡ bit (B.xor (truth a) (truth b)) → GivesTwo bool xor a b c
  truths_and : {a b c : ℕ} → c ≡ bit (truth a && truth b) → GivesTwo bool and a b c
  truths_equal : {a b c : ℕ} → Says (truth a ≡ truth b) c → GivesTwo bool eq a b c
  truths_unequal : {a b c : ℕ} → Says (truth a ≡ truth b → ⊥) c → GivesTwo bool ne a b c
  -- of floats "`+ - *` .. and all comparisons": what they are as numbers is the matter of singles
  single_sum : {a b c : ℕ} → c ≡ plus a b → GivesTwo float add a b c
  single_difference : {a b c : ℕ} → c ≡ minus a b → GivesTwo float sub a b c
  single_product : {a b c : ℕ} → c ≡ times a b → GivesTwo float mul a b c
  single_below : {a b c : ℕ} → Says (F.below a b ≡ true) c → GivesTwo float lt a b c
  single_above : {a b c : ℕ} → Says (F.below b a ≡ true) c → GivesTwo float gt a b c
  single_at_most : {a b c : ℕ} → Says (F.below a b || level a b ≡ true) c → GivesTwo float le a b c
  single_at_least : {a b c : ℕ} → Says (F.below b a || level a b ≡ true) c → GivesTwo float ge a b c
  single_equal : {a b c : ℕ} → Says (level a b ≡ true) c → GivesTwo float eq a b c
  single_unequal : {a b c : ℕ} → Says (level a b ≡ true → ⊥) c → GivesTwo float ne a b c

-- "a bool is one byte, false exactly at 0": n lanes are read by the truth of each byte, whatever byte it is.
abbrev pub ReadByTruth : ℕ → List ℕ → Type 0
ReadByTruth n l = load bool n l ≡ map (λ b. bit (truth b)) (take n l)

-- Lane i of a value: "one of length 1 .. is replicated".
unfoldable pub lane : Value → ℕ → ℕ
lane [] i = 0
lane (x ∷ []) i = x
lane (x ∷ y ∷ v) i = get_or (x ∷ y ∷ v) i 0

-- Each lane of w has R with the same lane of v.
pub record LaneByLane (R : ℕ → ℕ → Type 0) (v w : Value) : Type 0 where
  pub as_long : length w ≡ length v
  pub each : (i : ℕ) → i < length w → R (lane v i) (lane w i)

-- Each lane of w has R with the same lanes of u and v; of "equal lengths or one of length 1, which is replicated", none is left out.
pub record LanesByLane (R : ℕ → ℕ → ℕ → Type 0) (u v w : Value) : Type 0 where
  pub as_long : Match (length u) (length v) → length w ≡ joined (length u) (length v)
  pub each : (i : ℕ) → i < length w → R (lane u i) (lane v i) (lane w i)

-- Where an expression is worth what `worth` says, each operator in e gives lane by lane what it gives of its operands.
pub data Reckoned (worth : Code → Value) : Code → Type 0 where
  reckoned_constant : {n : ℕ} → Reckoned worth (constant n)
  reckoned_variable : {x : ℕ} → Reckoned worth (variable x)
  reckoned_mask : Reckoned worth the_mask
  reckoned_one : {p : ℕ} {k : Kind} {o : Unary} {a : Code} → Reckoned worth a → LaneByLane (GivesOne k o) (worth a) (worth (one p k o a)) → Reckoned worth (one p k o a)
  reckoned_two : {p : ℕ} {k : Kind} {o : Binary} {a b : Code} → Reckoned worth a → Reckoned worth b
      → LanesByLane (GivesTwo k o) (worth a) (worth b) (worth (two p k o a b)) → Reckoned worth (two p k o a b)

-- So it is over every memory of bytes, under every mask.
pub record Reckons (Γ : Declarations) (e : Code) : Type 0 where
  pub each : (M : Memory) (m : Mask) → Bytes M → Reckoned (λ e. evaluate Γ M e m) e
