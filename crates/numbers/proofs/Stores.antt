-- The library's bytes of a number are the definition's, and one run of stores after another is one run. Assumes nothing.
use Prim.Native.Nat.{ℕ, suc, ◌+◌, ◌-◌, ◌*◌, ◌/◌, ◌≤◌, ◌<◌}
use mathlib.Core.Path.{◌≡◌, refl, ◌∙◌}
use mathlib.Core.List.{List, [], ◌∷◌, ◌++◌, append_assoc}
use native.Mathlib.Omega.{arith}
use lib.ListN.{length, get_or, take, drop}
use lib.Seq.{sets, sets-eq, drop-cons, drop-drop}
use borrow.Rule.Slice.PartMut.{put_mid}
use Rattle.std.specs.Int.{w32, to_le_bytes, from_le_bytes}
use Rattle.meaning.specs.Memory.{little_endian, number_of}
use Rattle.meaning.specs.Services.{in_a_row}
use Rattle.numbers.specs.Sizes.{number_bytes, four_bytes}

-- The bytes that the library makes of a number, and those that the definition names.
pub same_bytes : (n : ℕ) → to_le_bytes w32 n ≡ little_endian number_bytes n
unfolding little_endian
same_bytes n =
    let third : n / 65536 ≡ n / 256 / 256 = omega arith in
    let fourth : n / 16777216 ≡ n / 256 / 256 / 256 = omega arith in
    rw (third, fourth)

number-length : (n : ℕ) → length (little_endian number_bytes n) ≡ number_bytes
unfolding little_endian
number-length n = refl

-- They stand where they are copied to.
pub copied : (l l' : List ℕ) (at n : ℕ) → at + number_bytes ≤ length l → l' ≡ to_le_bytes w32 n → put_mid at (at + number_bytes - at) l l' ≡ sets l at (little_endian number_bytes n)
copied l l' at n h e =
    let bytes : l' ≡ little_endian number_bytes n = e ∙ same_bytes n in
    let four : at + number_bytes - at ≡ number_bytes = omega arith in
    rw (bytes, four, drop-drop, sets-eq (little_endian number_bytes n) l at (omega (arith, number-length n)), number-length n, append_assoc)

-- The number that the library makes of bytes, and that which the definition names.
pub same_number : (l : List ℕ) (at : ℕ) → at + number_bytes ≤ length l
    → from_le_bytes w32 (get_or l at 0 ∷ get_or l (at + 1) 0 ∷ get_or l (at + 2) 0 ∷ get_or l (at + 3) 0 ∷ []) ≡ number_of (take number_bytes (drop at l))
unfolding number_of
same_number l at h =
    let one : at + 1 ≡ suc at = omega arith in
    let two : at + 2 ≡ suc (suc at) = omega arith in
    let three : at + 3 ≡ suc (suc (suc at)) = omega arith in
    let first : at < length l = omega arith in
    let second : suc at < length l = omega arith in
    let third : suc (suc at) < length l = omega arith in
    let last : suc (suc (suc at)) < length l = omega arith in
    rw (one, two, three, drop-cons l at 0, drop-cons l (suc at) 0, drop-cons l (suc (suc at)) 0, drop-cons l (suc (suc (suc at))) 0) (omega arith)

-- One run of stores after another.
pub sets-append : (u v l : List ℕ) (i n : ℕ) → n ≡ i + length u → sets (sets l i u) n v ≡ sets l i (u ++ v)
sets-append [] v l i n e = let z : n ≡ i = omega arith in rw z
sets-append (a ∷ u) v l i n e = sets-append u v _ (suc i) n (omega arith)

-- A number stored, and others in a row behind it.
pub one_more : (n at next : ℕ) (r l l' : List ℕ) → next ≡ at + number_bytes → l' ≡ sets l at (little_endian number_bytes n) → sets l' next (in_a_row r) ≡ sets l at (in_a_row (n ∷ r))
unfolding in_a_row little_endian
one_more n at next r l l' behind e = rw e (sets-append (little_endian number_bytes n) (in_a_row r) l at next behind)

-- Four numbers stored one after another.
pub four_stores : (l l₁ l₂ l₃ l₄ : List ℕ) (at a b c d : ℕ)
    → l₁ ≡ sets l at (little_endian number_bytes a)
    → l₂ ≡ sets l₁ (at + number_bytes) (little_endian number_bytes b)
    → l₃ ≡ sets l₂ (at + 2 * number_bytes) (little_endian number_bytes c)
    → l₄ ≡ sets l₃ (at + 3 * number_bytes) (little_endian number_bytes d)
    → l₄ ≡ sets l at (in_a_row (a ∷ b ∷ c ∷ d ∷ []))
unfolding in_a_row
four_stores l l₁ l₂ l₃ l₄ at a b c d first second third fourth =
    one_more d (at + 3 * number_bytes) (at + four_bytes) [] l₃ l₄ (omega arith) fourth
    ∙ one_more c (at + 2 * number_bytes) (at + 3 * number_bytes) (d ∷ []) l₂ l₃ (omega arith) third
    ∙ one_more b (at + number_bytes) (at + 2 * number_bytes) (c ∷ d ∷ []) l₁ l₂ (omega arith) second
    ∙ one_more a at (at + number_bytes) (b ∷ c ∷ d ∷ []) l l₁ refl first
