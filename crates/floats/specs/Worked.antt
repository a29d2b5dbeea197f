-- Worked values of singles, as patterns. That every row holds is told in proofs/Worked.antt.
use Rattle.std.specs.Prelude.{ℕ, List, [], ◌∷◌}
use Rattle.meaning.specs.declared.Binary.{Binary}
use Rattle.meaning.specs.declared.Binary.TheVariants.{Eq as eq, Ne as ne, Lt as lt, Gt as gt, Le as le, Ge as ge}

-- Two operands, and their sum.
unfoldable pub sums : List (ℕ × ℕ × ℕ)
sums =
    -- 1.5 + 2.25 is 3.75
    (0x3FC00000, 0x40100000, 0x40700000)
    -- 2 ^ -24 added to 1, to the next single and to the one below 2 are ties, to the even one; a little more goes up; 16777217 is a tie
    ∷ (0x3F800000, 0x33800000, 0x3F800000)
    ∷ (0x3F800001, 0x33800000, 0x3F800002)
    ∷ (0x3FFFFFFF, 0x33800000, 0x40000000)
    ∷ (0x3F800000, 0x33800001, 0x3F800001)
    ∷ (0x4B800000, 0x3F800000, 0x4B800000)
    -- the largest single: twice is an infinity; with half a step more a tie that goes there; with less than half it stays
    ∷ (0x7F7FFFFF, 0x7F7FFFFF, 0x7F800000)
    ∷ (0x7F7FFFFF, 0x73000000, 0x7F800000)
    ∷ (0x7F7FFFFF, 0x72FFFFFF, 0x7F7FFFFF)
    ∷ (0xFF7FFFFF, 0xF3000000, 0xFF800000)
    -- sizes below the normal ones are kept: the smallest twice, the step into the normal ones, and a difference of two of those
    ∷ (0x00000001, 0x00000001, 0x00000002)
    ∷ (0x007FFFFF, 0x00000001, 0x00800000)
    ∷ (0x00800001, 0x80800000, 0x00000001)
    ∷ (0x00400000, 0x80400001, 0x80000001)
    -- infinities: alike they stay, unlike they are no number, and with a number they stay
    ∷ (0x7F800000, 0x7F800000, 0x7F800000)
    ∷ (0xFF800000, 0xFF800000, 0xFF800000)
    ∷ (0x7F800000, 0xFF800000, 0x7FC00000)
    ∷ (0xFF800000, 0x7F800000, 0x7FC00000)
    ∷ (0xFF800000, 0x7F7FFFFF, 0xFF800000)
    ∷ (0x3F800000, 0x7F800000, 0x7F800000)
    -- every not-a-number gives the one, with a sign or without, quiet or not
    ∷ (0xFFC12345, 0x3F800000, 0x7FC00000)
    ∷ (0x7F800001, 0x00000000, 0x7FC00000)
    ∷ (0x3F800000, 0x7FFFFFFF, 0x7FC00000)
    ∷ (0x7FC00000, 0x7F800000, 0x7FC00000)
    -- zeros: -0 of two -0 only; what cancels is 0
    ∷ (0x00000000, 0x00000000, 0x00000000)
    ∷ (0x80000000, 0x00000000, 0x00000000)
    ∷ (0x00000000, 0x80000000, 0x00000000)
    ∷ (0x80000000, 0x80000000, 0x80000000)
    ∷ (0x3F800000, 0xBF800000, 0x00000000)
    ∷ (0xBF800000, 0x3F800000, 0x00000000)
    ∷ (0x80000000, 0x80000001, 0x80000001)
    ∷ []

-- Two operands, and their difference.
unfoldable pub differences : List (ℕ × ℕ × ℕ)
differences =
    -- 3.75 - 2.25, a unit less than the smallest normal size, and 0.3 - 0.1
    (0x40700000, 0x40100000, 0x3FC00000)
    ∷ (0x00800000, 0x00000001, 0x007FFFFF)
    ∷ (0x00000001, 0x00800000, 0x807FFFFF)
    ∷ (0x3E99999A, 0x3DCCCCCD, 0x3E4CCCCE)
    -- zeros: -0 of -0 - 0 only
    ∷ (0x00000000, 0x00000000, 0x00000000)
    ∷ (0x80000000, 0x00000000, 0x80000000)
    ∷ (0x00000000, 0x80000000, 0x00000000)
    ∷ (0x80000000, 0x80000000, 0x00000000)
    ∷ (0xBF800000, 0xBF800000, 0x00000000)
    -- infinities, a difference past the largest, and not-a-numbers
    ∷ (0x7F800000, 0x7F800000, 0x7FC00000)
    ∷ (0x7F800000, 0xFF800000, 0x7F800000)
    ∷ (0x3F800000, 0x7F800000, 0xFF800000)
    ∷ (0xFF7FFFFF, 0x7F7FFFFF, 0xFF800000)
    ∷ (0x3F800000, 0xFFC00001, 0x7FC00000)
    ∷ (0xFFC00001, 0x3F800000, 0x7FC00000)
    ∷ []

-- Two operands, and their product.
unfoldable pub products : List (ℕ × ℕ × ℕ)
products =
    -- 0.1 * 0.1; and a tie, to the even one
    (0x3DCCCCCD, 0x3DCCCCCD, 0x3C23D70B)
    ∷ (0x3F800800, 0x3F800800, 0x3F801000)
    ∷ (0x3F801800, 0x3F800800, 0x3F802002)
    -- halves below the normal sizes: of 1 unit a tie to 0, of 3 a tie to 2, a little more than half of 1; -0; what is exact; far below
    ∷ (0x00000001, 0x3F000000, 0x00000000)
    ∷ (0x00000003, 0x3F000000, 0x00000002)
    ∷ (0x00000001, 0x3F000001, 0x00000001)
    ∷ (0x80000001, 0x3F000000, 0x80000000)
    ∷ (0x00800000, 0x3F000000, 0x00400000)
    ∷ (0x00800001, 0x3F000000, 0x00400000)
    ∷ (0x00800000, 0x80800000, 0x80000000)
    -- the largest single as a product, and past it
    ∷ (0x5F7FFFFF, 0x5F800000, 0x7F7FFFFF)
    ∷ (0x5F7FFFFF, 0x5F800001, 0x7F800000)
    ∷ (0x7F7FFFFF, 0xC0000000, 0xFF800000)
    -- a zero times an infinity is no number; otherwise the signs make the sign; a not-a-number
    ∷ (0x00000000, 0x7F800000, 0x7FC00000)
    ∷ (0xFF800000, 0x80000000, 0x7FC00000)
    ∷ (0x7F800000, 0xBF800000, 0xFF800000)
    ∷ (0xFF800000, 0xFF800000, 0x7F800000)
    ∷ (0x7F800000, 0x00000001, 0x7F800000)
    ∷ (0x00000000, 0xBF800000, 0x80000000)
    ∷ (0x80000000, 0x80000000, 0x00000000)
    ∷ (0x7F800000, 0xFFFFFFFF, 0x7FC00000)
    ∷ []

-- The operators of a row of comparisons, in its order.
unfoldable pub comparing : List Binary
comparing = eq ∷ ne ∷ lt ∷ gt ∷ le ∷ ge ∷ []

-- Two operands, and what each comparison makes of them: zeros, numbers, infinities, and not-a-numbers.
unfoldable pub comparisons : List (ℕ × ℕ × List ℕ)
comparisons =
    (0x00000000, 0x80000000, 1 ∷ 0 ∷ 0 ∷ 0 ∷ 1 ∷ 1 ∷ [])
    ∷ (0x80000000, 0x00000000, 1 ∷ 0 ∷ 0 ∷ 0 ∷ 1 ∷ 1 ∷ [])
    ∷ (0x3F800000, 0x3F800000, 1 ∷ 0 ∷ 0 ∷ 0 ∷ 1 ∷ 1 ∷ [])
    ∷ (0x3F800000, 0x40000000, 0 ∷ 1 ∷ 1 ∷ 0 ∷ 1 ∷ 0 ∷ [])
    ∷ (0x40000000, 0x3F800000, 0 ∷ 1 ∷ 0 ∷ 1 ∷ 0 ∷ 1 ∷ [])
    ∷ (0xBF800000, 0xC0000000, 0 ∷ 1 ∷ 0 ∷ 1 ∷ 0 ∷ 1 ∷ [])
    ∷ (0xC0000000, 0x3F800000, 0 ∷ 1 ∷ 1 ∷ 0 ∷ 1 ∷ 0 ∷ [])
    ∷ (0x00000001, 0x00000000, 0 ∷ 1 ∷ 0 ∷ 1 ∷ 0 ∷ 1 ∷ [])
    ∷ (0x80000001, 0x80000000, 0 ∷ 1 ∷ 1 ∷ 0 ∷ 1 ∷ 0 ∷ [])
    ∷ (0x7F7FFFFF, 0x7F800000, 0 ∷ 1 ∷ 1 ∷ 0 ∷ 1 ∷ 0 ∷ [])
    ∷ (0xFF800000, 0xFF7FFFFF, 0 ∷ 1 ∷ 1 ∷ 0 ∷ 1 ∷ 0 ∷ [])
    ∷ (0x7F800000, 0x7F800000, 1 ∷ 0 ∷ 0 ∷ 0 ∷ 1 ∷ 1 ∷ [])
    ∷ (0xFF800000, 0x7F800000, 0 ∷ 1 ∷ 1 ∷ 0 ∷ 1 ∷ 0 ∷ [])
    ∷ (0x7FC00000, 0x7FC00000, 0 ∷ 1 ∷ 0 ∷ 0 ∷ 0 ∷ 0 ∷ [])
    ∷ (0x7FC00000, 0x3F800000, 0 ∷ 1 ∷ 0 ∷ 0 ∷ 0 ∷ 0 ∷ [])
    ∷ (0x3F800000, 0xFFC00001, 0 ∷ 1 ∷ 0 ∷ 0 ∷ 0 ∷ 0 ∷ [])
    ∷ (0x7F800000, 0x7F800001, 0 ∷ 1 ∷ 0 ∷ 0 ∷ 0 ∷ 0 ∷ [])
    ∷ []

-- An operand, and what unary minus makes of it.
unfoldable pub turned : List (ℕ × ℕ)
turned =
    (0x00000000, 0x80000000)
    ∷ (0x80000000, 0x00000000)
    ∷ (0x3F800000, 0xBF800000)
    ∷ (0x80000001, 0x00000001)
    ∷ (0x7F800000, 0xFF800000)
    ∷ (0xFF800000, 0x7F800000)
    ∷ (0x7FC00000, 0x7FC00000)
    ∷ (0xFFC12345, 0x7FC00000)
    ∷ (0x7F800001, 0x7FC00000)
    ∷ []

-- A lane, and what is stored of it.
unfoldable pub stored : List (ℕ × ℕ)
stored =
    (0x80000000, 0x80000000)
    ∷ (0x007FFFFF, 0x007FFFFF)
    ∷ (0x7F800000, 0x7F800000)
    ∷ (0xFF800000, 0xFF800000)
    ∷ (0x7F800001, 0x7FC00000)
    ∷ (0x7FC00000, 0x7FC00000)
    ∷ (0xFFC00000, 0x7FC00000)
    ∷ (0xFFFFFFFF, 0x7FC00000)
    ∷ []

-- A whole number, and its constant.
unfoldable pub wholes : List (ℕ × ℕ)
wholes =
    (0, 0x00000000)
    ∷ (1, 0x3F800000)
    ∷ (2, 0x40000000)
    ∷ (3, 0x40400000)
    ∷ (10, 0x41200000)
    ∷ (255, 0x437F0000)
    ∷ (16777215, 0x4B7FFFFF)
    ∷ (16777216, 0x4B800000)
    ∷ []
