-- Document 02: cases worked out by hand for the requests that are made. That every row holds is the theorem of proofs/Requests.antt.
use Rattle.std.specs.Prelude.{ℕ, zero, suc, ◌+◌, ◌/◌, ◌%◌, List, [], ◌∷◌, ◌++◌, ltb, replicate}
use Rattle.meaning.specs.Codes.{when◌then◌else◌}
use Rattle.meaning.specs.Tokens.{bytes}
use Rattle.meaning.specs.Table.{Row, ◌over◌for◌gives◌leaves◌, ◌gets◌at◌, ints}

-- R-2, "Single floats": a constant that is no whole number, is too large, or is written in another form; kinds that do not go together; a tie,
-- and a sum that is none and would be one if it were rounded to a digit more first; minus zero; infinity less infinity; a not-a-number that is
-- compared, stored, copied, or left where no lane is active; subnormals, a product that underflows and one of 3/4 of the smallest size, a sum
-- that overflows; `float` is reserved.
unfoldable pub floats : List Row
floats =
    "float x = 1;" gets 8 at 8
    ∷ "float x = 16777217.0;" gets 2 at 10
    ∷ "float x = 99999999999.0;" gets 2 at 10
    ∷ "float x = 1.00;" gets 2 at 10
    ∷ "float x = 1.5;" gets 2 at 10
    ∷ "float x = 1.;" gets 2 at 10
    ∷ "float x = 1.x;" gets 2 at 10
    ∷ "float x = 01.0;" gets 2 at 10
    ∷ "float x = 1 .0;" gets 2 at 12
    ∷ "float x = 1.0x;" gets 3 at 13
    ∷ "float x = 1.0.0;" gets 2 at 13
    ∷ "int block[4.0] v;" gets 3 at 10
    ∷ "int float;" gets 3 at 4
    ∷ "float x; int y = 1; x = x + y;" gets 8 at 26
    ∷ "bool b = 1.0 == true;" gets 8 at 13
    ∷ "float x; x = x & x;" gets 8 at 15
    ∷ "float x; x = ~x;" gets 8 at 13
    ∷ "float x; x = !x;" gets 8 at 13
    ∷ "int x = 1.0;" gets 8 at 6
    ∷ "float x; if (x) ; else ;" gets 8 at 9
    ∷ "float x = 0.0;" over ints (7 ∷ []) for 1 gives (0, 0, 4, 1) leaves ints (0 ∷ [])
    ∷ "float x = 16777216.0 + 1.0;" over ints (0 ∷ []) for 1000 gives (0, 0, 4, 1) leaves ints (0x4B800000 ∷ [])
    ∷ "float x = 16777216.0 + 3.0;" over ints (0 ∷ []) for 1000 gives (0, 0, 4, 1) leaves ints (0x4B800002 ∷ [])
    ∷ "float x; float y; x = x + y;" over ints (0x3F800001 ∷ 0x33400000 ∷ []) for 1000 gives (0, 0, 8, 3) leaves ints (0x3F800001 ∷ 0x33400000 ∷ [])
    ∷ "float x = -0.0; bool b = x == 0.0;" over replicate 5 0 for 1000 gives (0, 0, 5, 2) leaves (ints (0x80000000 ∷ []) ++ (1 ∷ []))
    ∷ "bool b = -0.0 < 0.0; bool c = -0.0 <= 0.0;" over replicate 2 7 for 1000 gives (0, 0, 2, 2) leaves (0 ∷ 1 ∷ [])
    ∷ "float x; float y = x - x;" over ints (0x7F800000 ∷ 0 ∷ []) for 1000 gives (0, 0, 8, 2) leaves ints (0x7F800000 ∷ 0x7FC00000 ∷ [])
    ∷ "float x; bool a = x != x; bool b = x == x; bool c = x <= x;" over ints (0x7FC00000 ∷ []) ++ replicate 3 170 for 1000 gives (0, 0, 7, 4) leaves (ints (0x7FC00000 ∷ []) ++ (1 ∷ 0 ∷ 0 ∷ []))
    ∷ "float block[2] v; if (v < 0.0) v = -v; else ;" over ints (0xBFC00000 ∷ 0x7FC00001 ∷ []) for 1000 gives (0, 0, 8, 4) leaves ints (0x3FC00000 ∷ 0x7FC00001 ∷ [])
    ∷ "float x; float y = x;" over ints (0x7F800001 ∷ 0 ∷ []) for 1000 gives (0, 0, 8, 2) leaves ints (0x7F800001 ∷ 0x7FC00000 ∷ [])
    ∷ "float x; float y = -x;" over ints (0xFFC12345 ∷ 0 ∷ []) for 1000 gives (0, 0, 8, 2) leaves ints (0xFFC12345 ∷ 0x7FC00000 ∷ [])
    ∷ "float block[2] v; v = v * v - 1.0;" over ints (0x40000000 ∷ 0x3DCCCCCD ∷ []) for 1000 gives (0, 0, 8, 2) leaves ints (0x40400000 ∷ 0xBF7D70A4 ∷ [])
    ∷ "float block[4] v; v = v + v;" over ints (1 ∷ 0x80000001 ∷ 0x007FFFFF ∷ 0x7F7FFFFF ∷ []) for 1000 gives (0, 0, 16, 2) leaves ints (2 ∷ 0x80000002 ∷ 0x00FFFFFE ∷ 0x7F800000 ∷ [])
    ∷ "float block[4] v; v = v * v;" over ints (1 ∷ 0x80000001 ∷ 0 ∷ 0xFF800000 ∷ []) for 1000 gives (0, 0, 16, 2) leaves ints (0 ∷ 0 ∷ 0 ∷ 0x7F800000 ∷ [])
    ∷ "float x; float y; x = x * y;" over ints (0x3F400000 ∷ 1 ∷ []) for 1000 gives (0, 0, 8, 3) leaves ints (1 ∷ 1 ∷ [])
    ∷ "float x; float y = 0.0 * x;" over ints (0xFF800000 ∷ 0 ∷ []) for 1000 gives (0, 0, 8, 2) leaves ints (0xFF800000 ∷ 0x7FC00000 ∷ [])
    ∷ []

-- R-4, "Reserved words in view": reserved words are no names; a part of one, one with a letter more, one in another case, and words of other
-- languages are.
unfoldable pub near_words : List Row
near_words =
    "int scalar;" gets 3 at 4
    ∷ "int current_mask;" gets 3 at 4
    ∷ "int blocks; int ints; int current_mas; int current_masks;" over replicate 16 5 for 1000 gives (0, 0, 16, 4) leaves replicate 16 5
    ∷ "int If; int TRUE; int else_; bool _scalar;" over replicate 13 5 for 1000 gives (0, 0, 13, 4) leaves replicate 13 5
    ∷ "int struct; int return;" over replicate 8 5 for 1000 gives (0, 0, 8, 2) leaves replicate 8 5
    ∷ []

-- R-9, "Longer blocks": 32 and 64 lanes and no more, and the two do not match; an address that is a multiple of a block's size; the last
-- of 64 lanes under `if`; a `while` that one lane keeps going; flags and samples of 64 lanes; a vote over 64 lanes; the mask of 64 as a
-- value, under a scalar condition; a memory that is a byte too short, and one that is longer.
unfoldable pub long_blocks : List Row
long_blocks =
    "bool block[32] a; bool block[64] b;" over replicate 128 7 for 1000 gives (0, 0, 128, 2) leaves replicate 128 7
    ∷ "int block[128] a;" gets 7 at 10
    ∷ "int block[48] a;" gets 7 at 10
    ∷ "bool block[32] m; int block[64] v; if (m) v = 1; else ;" gets 9 at 42
    ∷ "bool block[64] a; if (a) ; else a = true;" over replicate 63 1 ++ (0 ∷ []) for 1000 gives (0, 0, 64, 4) leaves replicate 64 1
    ∷ "int block[64] n; while (0 < n) n = n - 1;" over ints (replicate 40 0 ++ (2 ∷ replicate 23 0)) for 1000 gives (0, 0, 256, 6) leaves ints (replicate 64 0)
    ∷ "bool block[64] ok; int block[64] s; if (ok) s = s + s; else ;" over (replicate 63 0 ++ (1 ∷ [])) ++ replicate 192 9 ++ ints (replicate 63 5 ++ (6 ∷ [])) for 1000 gives (0, 0, 512, 5) leaves ((replicate 63 0 ++ (1 ∷ [])) ++ replicate 192 9 ++ ints (replicate 63 5 ++ (12 ∷ [])))
    ∷ "bool block[64] m; int s; if (m) scalar s = 1; else ;" over (replicate 63 0 ++ (5 ∷ [])) ++ ints (7 ∷ []) for 1000 gives (0, 0, 68, 5) leaves ((replicate 63 0 ++ (5 ∷ [])) ++ ints (1 ∷ []))
    ∷ "bool block[64] m; bool block[64] k; int one = 1; if (m) if (one == 1) k = !current_mask; else ; else k = current_mask;" over (replicate 63 0 ++ (1 ∷ [])) ++ replicate 68 2 for 1000 gives (0, 0, 132, 7) leaves ((replicate 63 0 ++ (1 ∷ [])) ++ (replicate 63 1 ++ (0 ∷ [])) ++ ints (1 ∷ []))
    ∷ "int block[32] a = 3;" over replicate 127 0 for 1000 gives (12, 0, 128, 0) leaves replicate 127 0
    ∷ "int block[64] v = 7;" over replicate 257 9 for 1000 gives (0, 0, 256, 1) leaves (ints (replicate 64 7) ++ (9 ∷ []))
    ∷ []

-- The digits of a number below 100.
unfoldable pub digits : ℕ → List ℕ
digits n = when ltb n 10 then (λ _. (48 + n) ∷ []) else λ _. (48 + n / 10) ∷ (48 + n % 10) ∷ []

-- The text of n declarations, `int block[64] v0;`, `int block[64] v1;` and so on, without a space between them.
unfoldable pub declarations : ℕ → List ℕ
declarations zero = []
declarations (suc n) = declarations n ++ bytes "int block[64] v" ++ digits n ++ bytes ";"
