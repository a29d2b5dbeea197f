-- A word by its letters, four at a time as numbers: words of at most a row that have the same numbers are the same.
use mathlib.Core.Path.{◌≡◌, refl, sym, ◌∙◌}
use mathlib.Core.Bool.{Bool, true, false, ◌&&◌}
use mathlib.Core.List.{List, [], ◌∷◌, ◌++◌}
use Prim.Native.Nat.{ℕ, zero, suc, ◌+◌, ◌≤◌, ◌<◌}
use native.Mathlib.Nat.{suc-add, add_assoc}
use native.Mathlib.Omega.{arith}
use borrow.Author.Tests.{eq-eqb, eqb-true, leb-true}
use lib.Dec.{eqb, leb}
use lib.ListN.{length, get_or, take, drop, length-drop, drop_of_length-le}
use lib.Seq.{drop-nil, drop-drop}
use Rattle.meaning.specs.Memory.{number_of}
use Rattle.meaning.specs.Tokens.{digit, letter, letter_or_digit, equal}
use Rattle.laws.specs.Values.{All, no_more, and_one, Bytes}
use Rattle.laws.proofs.Tests.{and_l, and_r, or_cases}
use Rattle.laws.proofs.Lists.{all_of, all_drop}
use Rattle.laws.proofs.Bytes.{run_passes, equal_same, same_equal}
use Rattle.tokens.specs.Lexing.{Word, row_bytes, blank, filled, letters, spelled}
use Rattle.tokens.proofs.Walking.{length-filled, filled_parts}

-- A letter is a byte, and no space.
abbrev Letter : ℕ → Type 0
Letter c = (blank < c) × (c < 256)

letter_is : (c : ℕ) → letter_or_digit c ≡ true → Letter c
unfolding letter_or_digit letter digit
letter_is c h =
    or_cases _ _ h
    (λ l. or_cases _ _ l
    (λ m. or_cases _ _ m (λ e. between 65 90 e (omega arith) (omega arith)) (λ e. between 97 122 e (omega arith) (omega arith)))
    (λ e. let is = eqb-true c 95 e in (omega arith, omega arith)))
    (λ e. between 48 57 e (omega arith) (omega arith))
  where
    between : (a b : ℕ) → (leb a c && leb c b) ≡ true → blank < a → b < 256 → Letter c
    between a b e low high =
        let above = leb-true a c (and_l (leb a c) (leb c b) e) in
        let below = leb-true c b (and_r (leb a c) (leb c b) e) in
        (omega arith, omega arith)

letters_of : (s : List ℕ) → Word s → All Letter s
letters_of s w = all_of s 0 (λ i lt. letter_is (get_or s i 0) (run_passes letter_or_digit s i (omega arith)))

-- Bytes are known by their number.
number_same : (l l' : List ℕ) → length l ≡ length l' → Bytes l → Bytes l' → number_of l ≡ number_of l' → l ≡ l'
unfolding number_of
number_same [] [] e a b h = refl
number_same [] (y ∷ l') e a b h = absurd (omega arith)
number_same (x ∷ l) [] e a b h = absurd (omega arith)
number_same (x ∷ l) (y ∷ l') e (and_one lt a) (and_one lt' b) h =
    let first : x ≡ y = omega arith in
    let rest : number_of l ≡ number_of l' = omega arith in
    rw (first, number_same l l' (omega arith) a b rest)

filled-bytes : (n : ℕ) {s : List ℕ} → All Letter s → Bytes (filled n s)
filled-bytes zero a = no_more
filled-bytes (suc n) no_more = and_one {x = blank} (omega arith) (filled-bytes n no_more)
filled-bytes (suc n) (and_one l a) = and_one l.1 (filled-bytes n a)

same_letters : {x s : List ℕ} → All Letter x → All Letter s → (i : ℕ) → eqb (number_of (letters x i)) (number_of (letters s i)) ≡ true
    → letters x i ≡ letters s i
same_letters {x} {s} a b i h =
    number_same (letters x i) (letters s i) (length-filled 4 (drop i x) ∙ sym (length-filled 4 (drop i s))) (filled-bytes 4 (all_drop i a)) (filled-bytes 4 (all_drop i b))
    (eqb-true (number_of (letters x i)) (number_of (letters s i)) h)

row_letters : (s : List ℕ) → filled row_bytes s ≡ letters s 0 ++ (letters s 4 ++ letters s 8)
row_letters s = filled_parts 4 8 s ∙ rw (filled_parts 4 4 (drop 4 s), drop-drop 4 4 s)

-- A word is known by its row.
filled_same : (n : ℕ) {x s : List ℕ} → All Letter x → All Letter s → length x ≤ n → length s ≤ n → filled n x ≡ filled n s → x ≡ s
filled_same n no_more no_more le le' e = refl
filled_same zero no_more (and_one l b) le le' e = absurd (omega arith)
filled_same zero (and_one l a) b le le' e = absurd (omega arith)
filled_same (suc n) no_more (and_one {x = c} l b) le le' e = let is : blank ≡ c = cc in let low = l.0 in absurd (omega arith)
filled_same (suc n) (and_one {x = c} l a) no_more le le' e = let is : c ≡ blank = cc in let low = l.0 in absurd (omega arith)
filled_same (suc n) (and_one {x = c} {l = x} l a) (and_one {x = d} {l = s} m b) le le' e =
    let first : c ≡ d = cc in
    let rest : filled n x ≡ filled n s = cc in
    rw (first, filled_same n a b (omega arith) (omega arith) rest)

joined : {a b c a' b' c' : List ℕ} → a ≡ a' → b ≡ b' → c ≡ c' → a ++ (b ++ c) ≡ a' ++ (b' ++ c')
joined e f g = rw (e, f, g)

-- The letters of a word against those of another.
module _ (x s : List ℕ) (word_x : Word x) (word_s : Word s) (le : length x ≤ row_bytes) (le' : length s ≤ row_bytes) where
  pub spelled_same : spelled x (number_of (letters s 0)) (number_of (letters s 4)) (number_of (letters s 8)) ≡ equal x s
  unfolding spelled
  spelled_same = go (equal x s) refl
    where
      test : ℕ → Bool
      test i = eqb (number_of (letters x i)) (number_of (letters s i))

      alike : (test 0 && test 4 && test 8) ≡ true → x ≡ s
      alike h =
          let a = letters_of x word_x in
          let b = letters_of s word_s in
          let two = and_l (test 0 && test 4) (test 8) h in
          let first = same_letters a b 0 (and_l (test 0) (test 4) two) in
          let second = same_letters a b 4 (and_r (test 0) (test 4) two) in
          let third = same_letters a b 8 (and_r (test 0 && test 4) (test 8) h) in
          filled_same row_bytes a b le le' (row_letters x ∙ joined first second third ∙ sym (row_letters s))

      go : (t : Bool) → equal x s ≡ t → (test 0 && test 4 && test 8) ≡ t
      go true h =
          let itself : (i : ℕ) → eqb (number_of (letters s i)) (number_of (letters s i)) ≡ true = λ i. eq-eqb (number_of (letters s i)) _ refl in
          rw (equal_same x s h, itself 0, itself 4, itself 8)
      go false h = other (test 0 && test 4 && test 8) refl
        where
          other : (t : Bool) → (test 0 && test 4 && test 8) ≡ t → t ≡ false
          other true e = sym (same_equal x s (alike e)) ∙ h
          other false e = refl

-- Four letters at once, where the word has them; with spaces; and none past its end.
filled-take : (n : ℕ) (s : List ℕ) → n ≤ length s → take n s ≡ filled n s
filled-take zero s le = refl
filled-take (suc n) [] le = absurd (omega arith)
filled-take (suc n) (b ∷ s) le = rw (filled-take n s (omega arith))

pub four_letters : (s : List ℕ) (i : ℕ) → i + 4 ≤ length s → take 4 (drop i s) ≡ letters s i
four_letters s i le = filled-take 4 (drop i s) (let long = length-drop i s in omega arith)

filled_on : (n : ℕ) (s : List ℕ) (i : ℕ) → filled (suc n) (drop i s) ≡ get_or s i blank ∷ filled n (drop (i + 1) s)
filled_on n [] zero = refl
filled_on n [] (suc i) = rw (suc-add i 1)
filled_on n (b ∷ s) zero = refl
filled_on n (b ∷ s) (suc i) = rw (suc-add i 1) (filled_on n s i)

pub each-letter : (s : List ℕ) (i : ℕ) → get_or s i blank ∷ get_or s (i + 1) blank ∷ get_or s (i + 2) blank ∷ get_or s (i + 3) blank ∷ [] ≡ letters s i
each-letter s i = rw (filled_on 3 s i, filled_on 2 s (i + 1), add_assoc i 1 1, filled_on 1 s (i + 2), add_assoc i 2 1, filled_on 0 s (i + 3))

-- Four spaces, as a number.
abbrev pub spaces : ℕ
spaces = 538976288

pub no_letters : (s : List ℕ) (i : ℕ) → length s ≤ i → number_of (letters s i) ≡ spaces
unfolding number_of
no_letters s i le = rw (drop_of_length-le s le)

-- The letters of a row are its text's.
filled_again : (m n : ℕ) (s : List ℕ) → m ≤ n → filled m (filled n s) ≡ filled m s
filled_again zero n s le = refl
filled_again (suc m) zero s le = absurd (omega arith)
filled_again (suc m) (suc n) [] le = rw (filled_again m n [] (omega arith))
filled_again (suc m) (suc n) (b ∷ s) le = rw (filled_again m n s (omega arith))

row_part : (i n : ℕ) (s : List ℕ) → i + 4 ≤ n → letters (filled n s) i ≡ letters s i
row_part zero n s le = filled_again 4 n s (omega arith)
row_part (suc i) zero s le = absurd (omega arith)
row_part (suc i) (suc n) [] le = row_part i n [] (omega arith) ∙ rw (drop-nil {A = ℕ} i)
row_part (suc i) (suc n) (b ∷ s) le = row_part i n s (omega arith)

pub row_spelled : (s : List ℕ) (a b c : ℕ) → spelled (filled row_bytes s) a b c ≡ spelled s a b c
unfolding spelled
row_spelled s a b c = rw (row_part 0 row_bytes s (omega arith), row_part 4 row_bytes s (omega arith), row_part 8 row_bytes s (omega arith))
