-- Images one after another: how many stand whole, what is still to do after the first, and what becomes of each.
use Prim.Native.Nat.{ℕ, zero, suc, ◌+◌, ◌*◌, ◌/◌, ◌≤◌, ◌<◌, min}
use mathlib.Core.Path.{◌≡◌, refl, sym, ◌∙◌}
use mathlib.Core.List.{List, ◌++◌, append_assoc}
use native.Mathlib.Omega.{arith}
use native.Mathlib.Nat.{zero-mul, suc-mul, mul-le-mul_right, div-mul-le_self, min-le_left, min-le_right}
use lib.Dec.{leb}
use lib.ListN.{length, take, drop, length-append, length-drop, take-append-drop}
use lib.Seq.{length-take-le, take_at, drop_at, drop-drop}
use Rattle.meaning.specs.Memory.{Memory, little_endian}
use Rattle.meaning.specs.Services.{Answer, in_a_row, numbers, answer_bytes, how_many, each}
use Rattle.laws.proofs.Tests.{by_if}

-- As many as there are have room.
module _ (size : ℕ) (images answers : List ℕ) where
  pub whole_images : how_many size images answers * size ≤ length images
  unfolding how_many
  whole_images =
      let n = min (length images / size) (length answers / answer_bytes) in
      by_if (λ n. n * size ≤ length images) (leb 1 size) (λ _. n) (λ _. 0)
      (λ _. omega (arith, mul-le-mul_right {m = n} size (min-le_left (length images / size) (length answers / answer_bytes)), div-mul-le_self (length images) size))
      (λ _. omega (arith, zero-mul size))

  pub whole_answers : how_many size images answers * answer_bytes ≤ length answers
  unfolding how_many
  whole_answers =
      by_if (λ n. n * answer_bytes ≤ length answers) (leb 1 size) (λ _. min (length images / size) (length answers / answer_bytes)) (λ _. 0)
      (λ _. omega (arith, min-le_right (length images / size) (length answers / answer_bytes)))
      (λ _. omega arith)

-- One of n pieces of a size lies within them.
pub piece-fits : {k n : ℕ} (size bytes : ℕ) → k < n → n * size ≤ bytes → k * size + size ≤ bytes
piece-fits {k} {n} size bytes h fits = omega (arith, suc-mul k size, mul-le-mul_right {m = suc k} {n = n} size h)

-- An answer's bytes.
pub length-answer : (a : Answer) → length (in_a_row (numbers a)) ≡ answer_bytes
unfolding in_a_row numbers little_endian
length-answer a = refl

-- Bytes in which piece k was put anew: the pieces up to it, and those behind it.
module _ (l p : List ℕ) (k size : ℕ) (as_long : length p ≡ size) (fits : k * size + size ≤ length l) where
  front : length (take (k * size) l ++ p) ≡ suc k * size
  front = simp length-append (omega (arith, suc-mul k size, length-take-le (k * size) l (omega arith)))

  put_take : take (suc k * size) (take (k * size) l ++ (p ++ drop size (drop (k * size) l))) ≡ take (k * size) l ++ p
  put_take = rw (← append_assoc (take (k * size) l) p (drop size (drop (k * size) l))) (take_at (take (k * size) l ++ p) (drop size (drop (k * size) l)) (suc k * size) front)

  put_drop : drop (suc k * size) (take (k * size) l ++ (p ++ drop size (drop (k * size) l))) ≡ drop size (drop (k * size) l)
  put_drop = rw (← append_assoc (take (k * size) l) p (drop size (drop (k * size) l))) (drop_at (take (k * size) l ++ p) (drop size (drop (k * size) l)) (suc k * size) front)

module _ (by : Memory → Answer × Memory) (size : ℕ) where
  -- What n more images leave where the first k are done.
  unfoldable pub goes_on : ℕ → ℕ → List ℕ → List ℕ → List ℕ × List ℕ
  goes_on n k images answers =
      let rest = each by size n (drop (k * size) images) (drop (k * answer_bytes) answers) in
      (take (k * size) images ++ rest.0, take (k * answer_bytes) answers ++ rest.1)

  pub goes_on_first : (n : ℕ) (images answers : List ℕ) → goes_on n 0 images answers ≡ each by size n images answers
  unfolding goes_on
  goes_on_first n images answers = rw zero-mul

  pub goes_on_last : (k : ℕ) (images answers : List ℕ) → goes_on 0 k images answers ≡ (images, answers)
  unfolding goes_on each
  goes_on_last k images answers = rw (take-append-drop (k * size) images, take-append-drop (k * answer_bytes) answers)

  -- One image more.
  module _ (k : ℕ) (images answers : List ℕ) (M : Memory) (a : Answer) (as_long : length M ≡ size)
      (image_fits : k * size + size ≤ length images) (answer-fits : k * answer_bytes + answer_bytes ≤ length answers) (made : by (take size (drop (k * size) images)) ≡ (a, M)) where
    pub goes_on_more : (n : ℕ) → goes_on (suc n) k images answers ≡ goes_on n (suc k) (take (k * size) images ++ (M ++ drop size (drop (k * size) images)))
        (take (k * answer_bytes) answers ++ (in_a_row (numbers a) ++ drop answer_bytes (drop (k * answer_bytes) answers)))
    unfolding goes_on each
    goes_on_more n =
        let row = in_a_row (numbers a) in
        rw (
          put_take images M k size as_long image_fits,
          put_drop images M k size as_long image_fits,
          put_take answers row k answer_bytes (length-answer a) answer-fits,
          put_drop answers row k answer_bytes (length-answer a) answer-fits,
          made,
          append_assoc (take (k * size) images) M,
          append_assoc (take (k * answer_bytes) answers) row,
        )

-- Behind the first piece, what follows k + 1 pieces is what follows k of the others.
later : (size k : ℕ) (l : List ℕ) → drop (suc k * size) l ≡ drop (k * size) (drop size l)
later size k l = let n : suc k * size ≡ size + k * size = omega (arith, suc-mul k size) in rw n (sym (drop-drop (k * size) size l))

later_of : (size k : ℕ) (p l : List ℕ) → length p ≡ size → drop (suc k * size) (p ++ l) ≡ drop (k * size) l
later_of size k p l e = rw (later size k (p ++ l), drop_at p l size e)

-- So each image and each answer is made of that image alone, if an image keeps its length; and what lies behind them stays.
module _ (by : Memory → Answer × Memory) (keeps : (M : Memory) → length (by M).1 ≡ length M) (size : ℕ) where
  module _ (n : ℕ) (images : List ℕ) (fits : suc n * size ≤ length images) where
    first_long : length (by (take size images)).1 ≡ size
    first_long = keeps (take size images) ∙ length-take-le size images (omega (arith, suc-mul n size))

    rest_fits : n * size ≤ length (drop size images)
    rest_fits = simp length-drop (omega (arith, suc-mul n size))

  pub each_image : (n k : ℕ) (images answers : List ℕ) → n * size ≤ length images → k < n → take size (drop (k * size) (each by size n images answers).0) ≡ (by (take size (drop (k * size) images))).1
  unfolding each
  each_image zero k images answers fits h = absurd (omega arith)
  each_image (suc n) zero images answers fits h = rw zero-mul (take_at (by (take size images)).1 _ size (first_long n images fits))
  each_image (suc n) (suc k) images answers fits h =
      rw (later size k images, later_of size k (by (take size images)).1 _ (first_long n images fits))
      (each_image n k (drop size images) (drop answer_bytes answers) (rest_fits n images fits) (omega arith))

  pub images_behind : (n : ℕ) (images answers : List ℕ) → n * size ≤ length images → drop (n * size) (each by size n images answers).0 ≡ drop (n * size) images
  unfolding each
  images_behind zero images answers fits = refl
  images_behind (suc n) images answers fits =
      rw (later size n images, later_of size n (by (take size images)).1 _ (first_long n images fits))
      (images_behind n (drop size images) (drop answer_bytes answers) (rest_fits n images fits))

  pub images_long : (n : ℕ) (images answers : List ℕ) → n * size ≤ length images → length (each by size n images answers).0 ≡ length images
  unfolding each
  images_long zero images answers fits = refl
  images_long (suc n) images answers fits =
      let h : size ≤ length images = omega (arith, suc-mul n size) in
      simp (length-append, first_long n images fits, images_long n (drop size images) (drop answer_bytes answers) (rest_fits n images fits), length-drop) (omega arith)

module _ (by : Memory → Answer × Memory) (size : ℕ) where
  pub each-answer : (n k : ℕ) (images answers : List ℕ) → k < n → take answer_bytes (drop (k * answer_bytes) (each by size n images answers).1) ≡ in_a_row (numbers (by (take size (drop (k * size) images))).0)
  unfolding each
  each-answer zero k images answers h = absurd (omega arith)
  each-answer (suc n) zero images answers h = let a = (by (take size images)).0 in rw zero-mul (take_at (in_a_row (numbers a)) _ answer_bytes (length-answer a))
  each-answer (suc n) (suc k) images answers h =
      let a = (by (take size images)).0 in
      rw (later size k images, later_of answer_bytes k (in_a_row (numbers a)) _ (length-answer a))
      (each-answer n k (drop size images) (drop answer_bytes answers) (omega arith))

  pub answers_behind : (n : ℕ) (images answers : List ℕ) → drop (n * answer_bytes) (each by size n images answers).1 ≡ drop (n * answer_bytes) answers
  unfolding each
  answers_behind zero images answers = refl
  answers_behind (suc n) images answers =
      let a = (by (take size images)).0 in
      rw (later answer_bytes n answers, later_of answer_bytes n (in_a_row (numbers a)) _ (length-answer a))
      (answers_behind n (drop size images) (drop answer_bytes answers))

  pub answers_long : (n : ℕ) (images answers : List ℕ) → n * answer_bytes ≤ length answers → length (each by size n images answers).1 ≡ length answers
  unfolding each
  answers_long zero images answers fits = refl
  answers_long (suc n) images answers fits =
      let a = (by (take size images)).0 in
      let rest : n * answer_bytes ≤ length (drop answer_bytes answers) = simp length-drop (omega arith) in
      simp (length-append, length-answer a, answers_long n (drop size images) (drop answer_bytes answers) rest, length-drop) (omega arith)
