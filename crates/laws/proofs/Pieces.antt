-- What some bytes start with: by the tests of the first byte, and what each piece takes of the bytes.
use mathlib.Core.Path.{◌≡◌, refl, sym}
use mathlib.Core.Bool.{Bool, true, false, ◌&&◌, ◌||◌, not, false≢true}
use mathlib.Core.List.{List, [], ◌∷◌}
use mathlib.Core.Option.{Option, none, some}
use Prim.Native.Nat.{ℕ, suc, ◌+◌, ◌^◌, ◌≤◌, ◌<◌}
use Prim.Native.String.{String}
use native.Mathlib.Omega.{arith}
use lib.Dec.{eqb, leb}
use lib.ListN.{length, get_or, take, drop, length-take, length-drop}
use lib.Seq.{length-take-le}
use borrow.Author.Tests.{leb-true, eqb-true}
use Rattle.meaning.specs.Codes.{when◌then◌else◌, option, lookup, name_limit, number_limit, float_limit}
use Rattle.meaning.specs.Tokens.{Piece, over, bad, gap, token, the, bytes, equal, reserved, signs, numbered, words, marks, space, digit, letter, letter_or_digit, in_line, run_of, starts, decimal, good_number, word, digits, constant, numeral, sign, piece}
use Rattle.laws.proofs.Tests.{and_l, and_r, by_if}
use Rattle.laws.proofs.Bytes.{run_within, run_length, run_some}
use Rattle.laws.proofs.The.{the_end, the_number, the_name, the_float_number, number_not_end, name_not_end, number_not_name, float_number_not_end, float_number_not_number, float_number_not_name}
use Rattle.laws.proofs.Floats.{whole-storable}

-- What is found in a numbered list has a number of the list.
pub lookup_from : (f : String → Bool) (l : List String) (n : ℕ) {k : ℕ} → lookup f (numbered n l) ≡ some k → n ≤ k
unfolding numbered
lookup_from f [] n {k} h = let z : ◌≡◌ {A = ℕ} 0 1 = cc in absurd (omega arith)
lookup_from f (r ∷ l) n {k} h =
    by_if (λ (o : Option ℕ). o ≡ some k → n ≤ k) (f r) (λ _. some n) (λ _. lookup f (numbered (suc n) l))
    (λ _ e. let q : n ≡ k = cc in omega arith) (λ _ e. omega (arith, lookup_from f l (suc n) e)) h

-- The reserved word that s is.
abbrev pub found : List ℕ → List (String × ℕ) → Option ℕ
found s = lookup (λ r. equal (bytes r) s)

pub reserved_from : (s : List ℕ) {k : ℕ} → found s words ≡ some k → 16 ≤ k
unfolding words
reserved_from s h = lookup_from (λ r. equal (bytes r) s) reserved 16 h

-- A piece by the tests of the first byte, in their order.
pub at_space : (s : List ℕ) → 0 < length s → space (get_or s 0 0) ≡ true → piece s ≡ gap (run_of space s)
unfolding piece
at_space [] lt h = absurd (omega arith)
at_space (c ∷ s) lt h = rw h

pub at_comment : (s : List ℕ) → 0 < length s → space (get_or s 0 0) ≡ false → starts (bytes "//") s ≡ true → piece s ≡ gap (run_of in_line s)
unfolding piece
at_comment [] lt h i = absurd (omega arith)
at_comment (c ∷ s) lt h i = rw (h, i)

-- The bytes s start with no gap.
pub record Plain (s : List ℕ) : Type 0 where
  pub some_bytes : 0 < length s
  pub no_space : space (get_or s 0 0) ≡ false
  pub no_comment : starts (bytes "//") s ≡ false

pub at_word : {s : List ℕ} → Plain s → letter (get_or s 0 0) ≡ true → piece s ≡ word (take (run_of letter_or_digit s) s)
unfolding piece
at_word {s = []} p h = absurd (omega (arith, p.some_bytes))
at_word {s = c ∷ s} p h = rw (p.no_space, p.no_comment, h)

pub at_number : {s : List ℕ} → Plain s → letter (get_or s 0 0) ≡ false → digit (get_or s 0 0) ≡ true → piece s ≡ numeral (take (run_of digit s) s) (drop (run_of digit s) s)
unfolding piece
at_number {s = []} p h i = absurd (omega (arith, p.some_bytes))
at_number {s = c ∷ s} p h i = rw (p.no_space, p.no_comment, h, i)

pub at_sign : {s : List ℕ} → Plain s → letter (get_or s 0 0) ≡ false → digit (get_or s 0 0) ≡ false → piece s ≡ sign marks s
unfolding piece
at_sign {s = []} p h i = absurd (omega (arith, p.some_bytes))
at_sign {s = c ∷ s} p h i = rw (p.no_space, p.no_comment, h, i)

pub some_digits : (s : List ℕ) → 0 < length s → digit (get_or s 0 0) ≡ true → 0 < length (take (run_of digit s) s)
some_digits [] lt h = absurd (omega arith)
some_digits (c ∷ s) lt h = rw (run_length digit (c ∷ s)) (run_some digit c s h)

-- What holds of a token that is the first n bytes of s.
pub record Taken (s : List ℕ) (k v : ℕ) (x : List ℕ) (n : ℕ) : Type 0 where
  pub some_bytes : 0 < n
  pub within : n ≤ length s
  pub not_end : k ≡ the "end" → ⊥
  pub number : k ≡ the "number" → v ≤ number_limit
  pub float : k ≡ the "float number" → v < 2 ^ 32
  pub name : k ≡ the "name" → (x ≡ take n s) × (length x ≡ n)

-- What holds of the piece that s starts with.
pub data Fair (s : List ℕ) : Piece → Type 0 where
  nothing : length s ≡ 0 → Fair s over
  wrong : Fair s bad
  between : {n : ℕ} → 0 < n → n ≤ length s → Fair s (gap n)
  taken : {k v n : ℕ} {x : List ℕ} → Taken s k v x n → Fair s (token k v x n)

-- A word or a sign: its number is none of the first four.
fixed : {s : List ℕ} {k n : ℕ} → 16 ≤ k → 0 < n → n ≤ length s → Fair s (token k 0 [] n)
fixed {s} {k} {n} le lt in' =
    taken (record {
      some_bytes = lt;
      within = in';
      not_end = λ (e : k ≡ the "end"). omega (arith, the_end);
      number = λ (e : k ≡ the "number"). absurd (omega (arith, the_number));
      float = λ (e : k ≡ the "float number"). absurd (omega (arith, the_float_number));
      name = λ (e : k ≡ the "name"). absurd (omega (arith, the_name));
    })

module _ (s : List ℕ) (n : ℕ) (lt : 0 < n) (le : n ≤ length s) where
  fair_word : Fair s (word (take n s))
  unfolding word
  fair_word = go (length-take-le n s le) (found (take n s) words) refl
    where
      go : length (take n s) ≡ n → (o : Option ℕ) → found (take n s) words ≡ o
          → Fair s (option (when leb (length (take n s)) name_limit then (λ _. token (the "name") 0 (take n s) (length (take n s))) else λ _. bad) (λ k. token k 0 [] (length (take n s))) o)
      go is none h =
          by_if (Fair s) (leb (length (take n s)) name_limit) _ _
          (λ _. rw is (taken (record {
            some_bytes = lt;
            within = le;
            not_end = name_not_end;
            number = λ e. absurd (number_not_name (sym e));
            float = λ e. absurd (float_number_not_name (sym e));
            name = λ _. (refl, is);
          })))
          (λ _. wrong)
      go is (some k) h = rw is (fixed (reserved_from (take n s) h) lt le)

  fair_digits : Fair s (digits (take n s))
  unfolding digits good_number
  fair_digits =
      let is = length-take-le n s le in
      let x = take n s in
      by_if (Fair s) (leb (decimal 0 x) number_limit && (eqb (length x) 1 || not (eqb (get_or x 0 0) 48))) _ _
      (λ h. rw is (taken (record {
        some_bytes = lt;
        within = le;
        not_end = number_not_end;
        number = λ _. leb-true (decimal 0 x) number_limit (and_l (leb (decimal 0 x) number_limit) _ h);
        float = λ e. absurd (float_number_not_number (sym e));
        name = λ e. absurd (number_not_name e);
      })))
      (λ _. wrong)

  -- Behind the digits of a constant there are a point and a digit.
  two_more : (m : ℕ) → starts (bytes ".") (drop n s) ≡ true → equal (bytes "0") (take m (drop 1 (drop n s))) ≡ true → n + 2 ≤ length s
  unfolding bytes equal
  two_more m h e =
      let one = eqb-true 1 (length (take m (drop 1 (drop n s)))) (and_l (eqb 1 (length (take m (drop 1 (drop n s))))) _ e) in
      omega (arith, length-take m (drop 1 (drop n s)), length-drop 1 (drop n s), length-drop n s)

  fair_constant : (m : ℕ) → starts (bytes ".") (drop n s) ≡ true → Fair s (constant (take n s) (take m (drop 1 (drop n s))))
  unfolding constant
  fair_constant m h =
      let is = length-take-le n s le in
      let x = take n s in
      by_if (Fair s) (good_number float_limit x && equal (bytes "0") (take m (drop 1 (drop n s)))) _ _
      (λ e. rw is (taken {n = n + 2} (record {
        some_bytes = omega arith;
        within = two_more m h (and_r (good_number float_limit x) _ e);
        not_end = float_number_not_end;
        number = λ e. absurd (float_number_not_number e);
        float = λ _. (whole-storable (decimal 0 x)).fits;
        name = λ e. absurd (float_number_not_name e);
      })))
      (λ _. wrong)

  fair_numeral : Fair s (numeral (take n s) (drop n s))
  unfolding numeral
  fair_numeral = by_if (Fair s) (starts (bytes ".") (drop n s)) _ _ (λ h. fair_constant (run_of digit (drop 1 (drop n s))) h) (λ _. fair_digits)

starts_within : (e s : List ℕ) → starts e s ≡ true → length e ≤ length s
unfolding starts
starts_within [] s h = omega arith
starts_within (a ∷ e) [] h = absurd (false≢true h)
starts_within (a ∷ e) (c ∷ s) h = let i = starts_within e s (and_r (eqb a c) (starts e s) h) in omega arith

-- No text of a list is empty.
abbrev filled : List String → Bool
filled [] = true
filled (r ∷ l) = leb 1 (length (bytes r)) && filled l

fair_signs : (s : List ℕ) (l : List String) (k : ℕ) → filled l ≡ true → 16 ≤ k → Fair s (sign (numbered k l) s)
unfolding sign numbered
fair_signs s [] k h le = wrong
fair_signs s (r ∷ l) k h le =
    by_if (Fair s) (starts (bytes r) s) _ _
    (λ e. fixed le (leb-true 1 (length (bytes r)) (and_l (leb 1 (length (bytes r))) (filled l) h)) (starts_within (bytes r) s e))
    (λ _. fair_signs s l (suc k) (and_r (leb 1 (length (bytes r))) (filled l) h) (omega arith))

fair_sign : (s : List ℕ) → Fair s (sign marks s)
unfolding marks signs bytes
fair_sign s = fair_signs s signs 48 refl (omega arith)

comment_some : (s : List ℕ) → starts (bytes "//") s ≡ true → 0 < run_of in_line s
unfolding bytes starts run_of in_line
comment_some [] h = absurd (false≢true h)
comment_some (c ∷ s) h = rw (← eqb-true 47 c (and_l (eqb 47 c) (starts (47 ∷ []) s) h)) (omega arith)

letter_some : (c : ℕ) (s : List ℕ) → letter c ≡ true → 0 < run_of letter_or_digit (c ∷ s)
unfolding letter_or_digit
letter_some c s h = run_some letter_or_digit c s (rw h)

pub fair : (s : List ℕ) → Fair s (piece s)
unfolding piece
fair [] = nothing refl
fair (c ∷ s) =
    let t = c ∷ s in
    by_if (Fair t) (space c) _ _ (λ h. between (run_some space c s h) (run_within space t)) (λ _.
    by_if (Fair t) (starts (bytes "//") t) _ _ (λ h. between (comment_some t h) (run_within in_line t)) (λ _.
    by_if (Fair t) (letter c) _ _ (λ h. fair_word t (run_of letter_or_digit t) (letter_some c s h) (run_within letter_or_digit t)) (λ _.
    by_if (Fair t) (digit c) _ _ (λ h. fair_numeral t (run_of digit t) (run_some digit c s h) (run_within digit t)) (λ _.
    fair_sign t))))
