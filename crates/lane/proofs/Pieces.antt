-- What a text starts with is settled by those bytes and by what sort of byte follows them.
use mathlib.Core.Path.{◌≡◌, refl, sym, ap, ◌∙◌, subst}
use mathlib.Core.Bool.{Bool, true, false, not, ◌&&◌, ◌||◌, false≢true}
use mathlib.Core.List.{List, [], ◌∷◌, ◌++◌, append_assoc}
use mathlib.Core.Option.{Option, none, some}
use Prim.Native.Nat.{ℕ, suc, ◌+◌, ◌≤◌, ◌<◌}
use Prim.Native.String.{String}
use native.Mathlib.Omega.{arith}
use lib.Dec.{T, T_not, eqb, leb, eqb→eq, leb→le}
use lib.ListN.{length, take, drop, length-append, take-append-drop}
use lib.Seq.{length-take-le, take_at, drop_at}
use Rattle.meaning.specs.Codes.{when◌then◌else◌, option, lookup, name_limit, number_limit, float_limit}
use Rattle.meaning.specs.Tokens.{bytes, the, signs, numbered, words, marks, space, digit, letter, letter_or_digit, in_line, run_of, starts, equal, decimal, good_number, Piece, over, bad, gap, token, word, digits, constant, numeral, sign, piece}
use Rattle.meaning.specs.Floats.{whole_float}
use Rattle.laws.proofs.Bytes.{run_within, run_length, equal_same}
use Rattle.laws.proofs.The.{float_number_not_number}
use Rattle.lane.proofs.Tests.{and_l, and_r, or_cases, true_of, false_of}

-- Two rests that begin alike: with the same byte, or each with a digit.
pub data Near : List ℕ → List ℕ → Type 0 where
  no_bytes : Near [] []
  same_byte : {c : ℕ} {r r' : List ℕ} → Near (c ∷ r) (c ∷ r')
  two_digits : {c c' : ℕ} {r r' : List ℕ} → T (digit c) → T (digit c') → Near (c ∷ r) (c' ∷ r')

-- A test fails on the first byte, if there is one.
abbrev pub Stops : (ℕ → Bool) → List ℕ → Type 0
Stops p [] = Unit {0}
Stops p (c ∷ r) = T (not (p c))

module _ (p : ℕ → Bool) where
  pub run_stops : (s : List ℕ) → Stops p (drop (run_of p s) s)
  unfolding run_of
  run_stops [] = tt
  run_stops (c ∷ s) = go (p c) refl (run_stops s)
    where
      go : (b : Bool) → p c ≡ b → Stops p (drop (run_of p s) s) → Stops p (drop (when b then (λ _. suc (run_of p s)) else λ _. 0) (c ∷ s))
      go true e h = h
      go false e h = rw e tt

  pub run_none : (r : List ℕ) → Stops p r → run_of p r ≡ 0
  unfolding run_of
  run_none [] h = refl
  run_none (c ∷ r) h = go (p c) h
    where
      go : (b : Bool) → T (not b) → (when b then (λ _. suc (run_of p r)) else λ _. 0) ≡ 0
      go true h = absurd h
      go false h = refl

  -- The run is the same before any rest at which it stops.
  run_before : (s r : List ℕ) → Stops p r → run_of p (take (run_of p s) s ++ r) ≡ run_of p s
  unfolding run_of
  run_before [] r h = run_none r h
  run_before (c ∷ s) r h = go (p c) refl (run_before s r h)
    where
      go : (b : Bool) → p c ≡ b → run_of p (take (run_of p s) s ++ r) ≡ run_of p s
          → run_of p (take (when b then (λ _. suc (run_of p s)) else λ _. 0) (c ∷ s) ++ r) ≡ (when b then (λ _. suc (run_of p s)) else λ _. 0)
      go true e k = rw (e, k)
      go false e k = run_none r h

  -- A test that no digit changes stops at rests that begin alike.
  pub near_stops : ((c c' : ℕ) → T (digit c) → T (digit c') → p c ≡ p c') → {r r' : List ℕ} → Near r r' → Stops p r → Stops p r'
  near_stops f no_bytes h = tt
  near_stops f same_byte h = h
  near_stops f (two_digits {c = c} {c' = c'} d d') h = rw (← (f c c' d d')) h

-- "Space, tab, LF, CR".
space_cases : (P : ℕ → Type 0) → P 32 → P 9 → P 10 → P 13 → (c : ℕ) → T (space c) → P c
unfolding space bytes
space_cases P s t l r c =
    or_cases (eqb c 32) _ (λ u. rw (eqb→eq c 32 u) s)
    (or_cases (eqb c 9) _ (λ u. rw (eqb→eq c 9 u) t)
    (or_cases (eqb c 10) _ (λ u. rw (eqb→eq c 10 u) l)
    (or_cases (eqb c 13) _ (λ u. rw (eqb→eq c 13 u) r) (λ u. absurd u))))

-- Which sorts exclude one another.
module _ (c : ℕ) where
  letter-space : T (letter c) → space c ≡ false
  unfolding letter
  letter-space t = false_of (space c) (λ u. space_cases (λ c. T (letter c) → ⊥) (λ t. t) (λ t. t) (λ t. t) (λ t. t) c u t)

  letter_slash : T (letter c) → eqb 47 c ≡ false
  unfolding letter
  letter_slash t = false_of (eqb 47 c) (λ u. subst (λ (c : ℕ). T (letter c)) (sym (eqb→eq 47 c u)) t)

  module _ (t : T (digit c)) where
    low : 48 ≤ c
    unfolding digit
    low = leb→le 48 c (and_l (leb 48 c) (leb c 57) t)

    high : c ≤ 57
    unfolding digit
    high = leb→le c 57 (and_r (leb 48 c) (leb c 57) t)

    digit-space : space c ≡ false
    digit-space = false_of (space c) (λ u. space_cases (λ c. 48 ≤ c → ⊥) (λ h. omega arith) (λ h. omega arith) (λ h. omega arith) (λ h. omega arith) c u low)

    -- A byte that is no digit is another.
    digit-other : (d : ℕ) → T (not (digit d)) → eqb d c ≡ false
    digit-other d h = false_of (eqb d c) (λ u. T_not (digit d) h (rw (eqb→eq d c u) t))

    digit_slash : eqb 47 c ≡ false
    unfolding digit
    digit_slash = digit-other 47 tt

    digit-letter : letter c ≡ false
    unfolding letter
    digit-letter = false_of (letter c)
        (or_cases (leb 65 c && leb c 90 || leb 97 c && leb c 122) (eqb c 95)
        (or_cases (leb 65 c && leb c 90) (leb 97 c && leb c 122)
        (λ u. omega (arith, high, leb→le 65 c (and_l (leb 65 c) (leb c 90) u)))
        (λ u. omega (arith, high, leb→le 97 c (and_l (leb 97 c) (leb c 122) u))))
        (λ u. omega (arith, high, eqb→eq c 95 u)))

    digit-in_line : in_line c ≡ true
    unfolding in_line
    digit-in_line = rw (false_of (eqb c 10) (λ u. omega (arith, low, eqb→eq c 10 u)))

    digit_in_word : letter_or_digit c ≡ true
    unfolding letter_or_digit
    digit_in_word = rw digit-letter (true_of (digit c) t)

-- The pieces, by the first bytes.
piece-end : piece [] ≡ over
unfolding piece
piece-end = refl

pub piece-space : (c : ℕ) (s : List ℕ) → T (space c) → piece (c ∷ s) ≡ gap (suc (run_of space s))
unfolding piece run_of
piece-space c s t = rw (true_of (space c) t)

piece_comment : (s : List ℕ) → piece (47 ∷ 47 ∷ s) ≡ gap (suc (suc (run_of in_line s)))
unfolding piece run_of space starts in_line bytes
piece_comment s = refl

piece-word : (c : ℕ) (s : List ℕ) → T (letter c) → piece (c ∷ s) ≡ word (c ∷ take (run_of letter_or_digit s) s)
unfolding piece run_of starts letter_or_digit bytes
piece-word c s t = rw (letter-space c t, letter_slash c t, true_of (letter c) t)

piece-numeral : (c : ℕ) (s : List ℕ) → T (digit c) → piece (c ∷ s) ≡ numeral (c ∷ take (run_of digit s) s) (drop (run_of digit s) s)
unfolding piece run_of starts bytes
piece-numeral c s t = rw (digit-space c t, digit_slash c t, digit-letter c t, true_of (digit c) t)

-- Do the bytes s, behind a digit, have a point where their digits end?
abbrev pub pointed : List ℕ → Bool
pointed s = starts (bytes ".") (drop (run_of digit s) s)

pub piece-number : (c : ℕ) (s : List ℕ) → T (digit c) → pointed s ≡ false → piece (c ∷ s) ≡ digits (c ∷ take (run_of digit s) s)
unfolding numeral
piece-number c s t p = piece-numeral c s t ∙ rw p

-- The digits behind the point of a constant.
abbrev fraction : List ℕ → List ℕ
fraction s = let u = drop 1 (drop (run_of digit s) s) in take (run_of digit u) u

piece-constant : (c : ℕ) (s : List ℕ) → T (digit c) → pointed s ≡ true → piece (c ∷ s) ≡ constant (c ∷ take (run_of digit s) s) (fraction s)
unfolding numeral
piece-constant c s t p = piece-numeral c s t ∙ rw p

piece-other : (c : ℕ) (s : List ℕ) → space c ≡ false → starts (bytes "//") (c ∷ s) ≡ false → letter c ≡ false → digit c ≡ false → piece (c ∷ s) ≡ sign marks (c ∷ s)
unfolding piece
piece-other c s a b d e = rw (a, b, d, e)

data Sort : List ℕ → Type 0 where
  no_more : Sort []
  a_space : {c : ℕ} {s : List ℕ} → T (space c) → Sort (c ∷ s)
  a_comment : {s : List ℕ} → Sort (47 ∷ 47 ∷ s)
  a_word : {c : ℕ} {s : List ℕ} → T (letter c) → Sort (c ∷ s)
  a_number : {c : ℕ} {s : List ℕ} → T (digit c) → pointed s ≡ false → Sort (c ∷ s)
  a_constant : {c : ℕ} {s : List ℕ} → T (digit c) → pointed s ≡ true → Sort (c ∷ s)
  a_sign : {c : ℕ} {s : List ℕ} → space c ≡ false → starts (bytes "//") (c ∷ s) ≡ false → letter c ≡ false → digit c ≡ false → Sort (c ∷ s)

comment_sort : (c : ℕ) (s : List ℕ) → T (starts (bytes "//") (c ∷ s)) → Sort (c ∷ s)
unfolding starts bytes
comment_sort c [] t = absurd (and_r (eqb 47 c) false t)
comment_sort c (d ∷ s) t =
    subst (λ (c : ℕ). Sort (c ∷ d ∷ s)) (eqb→eq 47 c (and_l (eqb 47 c) (eqb 47 d && true) t))
    (subst (λ (d : ℕ). Sort (47 ∷ d ∷ s)) (eqb→eq 47 d (and_l (eqb 47 d) true (and_r (eqb 47 c) (eqb 47 d && true) t))) a_comment)

sort : (s : List ℕ) → Sort s
sort [] = no_more
sort (c ∷ s) = go (space c) refl (starts (bytes "//") (c ∷ s)) refl (letter c) refl (digit c) refl (pointed s) refl
  where
    go : (a : Bool) → space c ≡ a → (b : Bool) → starts (bytes "//") (c ∷ s) ≡ b → (d : Bool) → letter c ≡ d → (e : Bool) → digit c ≡ e → (f : Bool) → pointed s ≡ f → Sort (c ∷ s)
    go true x b y d z e w f v = a_space {c = c} (rw x tt)
    go false x true y d z e w f v = comment_sort c s (rw y tt)
    go false x false y true z e w f v = a_word {c = c} (rw z tt)
    go false x false y false z true w false v = a_number {c = c} (rw w tt) v
    go false x false y false z true w true v = a_constant {c = c} (rw w tt) v
    go false x false y false z false w f v = a_sign x y z w

-- How many bytes a piece takes.
abbrev pub Takes : Piece → ℕ → Type 0
Takes over n = ⊥
Takes bad n = ⊥
Takes (gap m) n = m ≡ n
Takes (token i v x m) n = m ≡ n

-- A word, a number and a sign as pieces.
word_takes : (x : List ℕ) (n : ℕ) → Takes (word x) n → length x ≡ n
unfolding word
word_takes x n h = go (lookup (λ r. equal (bytes r) x) words) (leb (length x) name_limit) h
  where
    go : (o : Option ℕ) (b : Bool) → Takes (option (when b then (λ _. token (the "name") 0 x (length x)) else λ _. bad) (λ k. token k 0 [] (length x)) o) n → length x ≡ n
    go none true h = h
    go none false h = absurd h
    go (some k) b h = h

digits_takes : (x : List ℕ) (n : ℕ) → Takes (digits x) n → length x ≡ n
unfolding digits
digits_takes x n h = go (good_number number_limit x) h
  where
    go : (b : Bool) → Takes (when b then (λ _. token (the "number") (decimal 0 x) [] (length x)) else λ _. bad) n → length x ≡ n
    go true h = h
    go false h = absurd h

-- A constant takes its whole number and two bytes more, and only a 0 stands behind its point.
data Constants (x t : List ℕ) : Piece → Type 0 where
  no_constant : Constants x t bad
  of_float : {v : ℕ} → bytes "0" ≡ t → Constants x t (token (the "float number") v [] (length x + 2))

constants : (x t : List ℕ) → Constants x t (constant x t)
unfolding constant
constants x t = go (good_number float_limit x) (equal (bytes "0") t) refl
  where
    go : (a b : Bool) → equal (bytes "0") t ≡ b
        → Constants x t (when a && b then (λ _. token (the "float number") (whole_float (decimal 0 x)) [] (length x + 2)) else λ _. bad)
    go true true z = of_float (equal_same (bytes "0") t z)
    go true false z = no_constant
    go false b z = no_constant

-- Every sign has one byte or two.
short : List (String × ℕ) → Bool
short [] = true
short ((r, k) ∷ l) = (eqb (length (bytes r)) 1 || eqb (length (bytes r)) 2) && short l

all_short : T (short marks)
unfolding short marks numbered signs bytes
all_short = tt

starts_le : (x s : List ℕ) → T (starts x s) → length x ≤ length s
unfolding starts
starts_le [] s t = omega arith
starts_le (a ∷ x) [] t = absurd t
starts_le (a ∷ x) (c ∷ s) t = omega (arith, starts_le x s (and_r (eqb a c) (starts x s) t))

data OneOrTwo (n : ℕ) : Type 0 where
  just_one : 1 ≡ n → OneOrTwo n
  just_two : 2 ≡ n → OneOrTwo n

record Signed (s : List ℕ) (n : ℕ) : Type 0 where
  size : OneOrTwo n
  within : n ≤ length s

sign_takes : (l : List (String × ℕ)) (s : List ℕ) (n : ℕ) → T (short l) → Takes (sign l s) n → Signed s n
unfolding sign short
sign_takes [] s n t h = absurd h
sign_takes ((r, k) ∷ l) s n t h = go (starts (bytes r) s) refl (sign_takes l s n (and_r (eqb (length (bytes r)) 1 || eqb (length (bytes r)) 2) (short l) t)) h
  where
    go : (b : Bool) → starts (bytes r) s ≡ b → (Takes (sign l s) n → Signed s n) → Takes (when b then (λ _. token k 0 [] (length (bytes r))) else λ _. sign l s) n → Signed s n
    go true e f h = record {
      size = or_cases (eqb (length (bytes r)) 1) (eqb (length (bytes r)) 2) (λ u. just_one (sym (eqb→eq (length (bytes r)) 1 u) ∙ h)) (λ u. just_two (sym (eqb→eq (length (bytes r)) 2 u) ∙ h))
          (and_l (eqb (length (bytes r)) 1 || eqb (length (bytes r)) 2) (short l) t);
      within = omega (arith, starts_le (bytes r) s (rw e tt));
    }
    go false e f h = f h

-- No sign begins with `/`; one of two bytes ends with `=`.
sign_slash : (s : List ℕ) → sign marks (47 ∷ s) ≡ bad
unfolding sign marks numbered signs bytes starts
sign_slash s = refl

sign_first : (c : ℕ) (s r : List ℕ) → starts (bytes "=") s ≡ starts (bytes "=") r → sign marks (c ∷ s) ≡ sign marks (c ∷ r)
unfolding sign marks numbered signs bytes starts
sign_first c s r e = rw e

sign_second : (c d : ℕ) (s r : List ℕ) → sign marks (c ∷ d ∷ s) ≡ sign marks (c ∷ d ∷ r)
unfolding sign marks numbered signs bytes starts
sign_second c d s r = refl

-- Of rests that begin alike both begin with a byte that is no digit, or neither does.
near_starts : (d : ℕ) → T (not (digit d)) → {r r' : List ℕ} → Near r r' → starts (d ∷ []) r ≡ starts (d ∷ []) r'
unfolding starts
near_starts d h no_bytes = refl
near_starts d h same_byte = refl
near_starts d h (two_digits {c = c} {c' = c'} t t') = rw (digit-other c t d h, digit-other c' t' d h)

near_equals : {r r' : List ℕ} → Near r r' → starts (bytes "=") r ≡ starts (bytes "=") r'
unfolding bytes digit
near_equals near = near_starts 61 tt near

pub near_point : {r r' : List ℕ} → Near r r' → starts (bytes ".") r ≡ starts (bytes ".") r'
unfolding bytes digit
near_point near = near_starts 46 tt near

-- A test of digits stops at rests that begin alike.
pub near_digits : {r r' : List ℕ} → Near r r' → Stops digit r → Stops digit r'
near_digits near = near_stops digit (λ d d' u u'. true_of (digit d) u ∙ sym (true_of (digit d') u')) near

-- A piece of n bytes: it is the same before every rest that begins alike.
pub record Whole (s : List ℕ) (n : ℕ) : Type 0 where
  pub positive : 0 < n
  pub within : n ≤ length s
  pub before : (r : List ℕ) → Near (drop n s) r → piece (take n s ++ r) ≡ piece s

whole-space : (c : ℕ) (s : List ℕ) → T (space c) → Whole (c ∷ s) (suc (run_of space s))
whole-space c s t = record {
  positive = omega arith;
  within = omega (arith, run_within space s);
  before = λ r near. rw (
    piece-space c (take (run_of space s) s ++ r) t,
    piece-space c s t,
    run_before space s r (near_stops space (λ d d' u u'. digit-space d u ∙ sym (digit-space d' u')) near (run_stops space s)),
  );
}

whole_comment : (s : List ℕ) → Whole (47 ∷ 47 ∷ s) (suc (suc (run_of in_line s)))
whole_comment s = record {
  positive = omega arith;
  within = omega (arith, run_within in_line s);
  before = λ r near. rw (
    piece_comment (take (run_of in_line s) s ++ r),
    piece_comment s,
    run_before in_line s r (near_stops in_line (λ d d' u u'. digit-in_line d u ∙ sym (digit-in_line d' u')) near (run_stops in_line s)),
  );
}

whole_word : (c : ℕ) (s : List ℕ) → T (letter c) → Whole (c ∷ s) (suc (run_of letter_or_digit s))
whole_word c s t = record {
  positive = omega arith;
  within = omega (arith, run_within letter_or_digit s);
  before = λ r near. let m : ℕ = run_of letter_or_digit s in rw (
    piece-word c (take m s ++ r) t,
    piece-word c s t,
    run_before letter_or_digit s r (near_stops letter_or_digit (λ d d' u u'. digit_in_word d u ∙ sym (digit_in_word d' u')) near (run_stops letter_or_digit s)),
    take_at (take m s) r m (length-take-le m s (run_within letter_or_digit s)),
  );
}

whole-number : (c : ℕ) (s : List ℕ) → T (digit c) → pointed s ≡ false → Whole (c ∷ s) (suc (run_of digit s))
unfolding numeral
whole-number c s t p = record {
  positive = omega arith;
  within = omega (arith, run_within digit s);
  before = λ r near. let m : ℕ = run_of digit s in rw (
    piece-numeral c (take m s ++ r) t,
    piece-number c s t p,
    run_before digit s r (near_digits near (run_stops digit s)),
    take_at (take m s) r m (length-take-le m s (run_within digit s)),
    drop_at (take m s) r m (length-take-le m s (run_within digit s)),
    ← near_point near,
    p,
  );
}

-- The bytes of a constant: its first digit c, the others, a point and the digit 0.
abbrev written : ℕ → List ℕ → List ℕ
written c s = c ∷ take (run_of digit s) s ++ (46 ∷ 48 ∷ [])

piece_written : (c : ℕ) (s r : List ℕ) → T (digit c) → Stops digit r → piece (written c s ++ r) ≡ constant (c ∷ take (run_of digit s) s) (bytes "0")
unfolding numeral starts bytes run_of digit
piece_written c s r t h =
    let m : ℕ = run_of digit s in
    let u : List ℕ = 46 ∷ 48 ∷ r in
    let y : length (take m s) ≡ m = run_length digit s in
    rw (append_assoc (take m s) (46 ∷ 48 ∷ []) r, piece-numeral c (take m s ++ u) t, run_before digit s u tt, take_at (take m s) u m y, drop_at (take m s) u m y, run_none digit r h)

-- Bytes z that are one piece before every rest that begins like r.
whole_before : (z r : List ℕ) → 0 < length z → ((r' : List ℕ) → Near r r' → piece (z ++ r') ≡ piece (z ++ r)) → Whole (z ++ r) (length z)
whole_before z r positive same = record {
  positive = positive;
  within = omega (arith, length-append z r);
  before = λ r' near. rw (take_at z r (length z) refl) (same r' (rw (drop_at z r (length z) refl) at near));
}

point_first : (u : List ℕ) → starts (bytes ".") u ≡ true → u ≡ 46 ∷ drop 1 u
unfolding starts bytes
point_first [] h = absurd (false≢true h)
point_first (c ∷ u) h = ap (λ (c : ℕ). c ∷ u) (sym (eqb→eq 46 c (and_l (eqb 46 c) true (rw h tt))))

module _ (c : ℕ) (s : List ℕ) (t : T (digit c)) (p : pointed s ≡ true) where
  abbrev behind : List ℕ
  behind = drop 1 (drop (run_of digit s) s)

  abbrev rest : List ℕ
  rest = drop (run_of digit behind) behind

  split : bytes "0" ≡ fraction s → written c s ++ rest ≡ c ∷ s
  unfolding bytes
  split e =
      let m : ℕ = run_of digit s in
      let zero_first : 48 ∷ rest ≡ behind = ap (λ (l : List ℕ). l ++ rest) e ∙ take-append-drop (run_of digit behind) behind in
      ap (λ (l : List ℕ). c ∷ l) (append_assoc (take m s) (46 ∷ 48 ∷ []) rest
      ∙ ap (λ (l : List ℕ). take m s ++ (46 ∷ l)) zero_first
      ∙ ap (λ (l : List ℕ). take m s ++ l) (sym (point_first (drop m s) p))
      ∙ take-append-drop m s)

  whole-constant : (n : ℕ) → Takes (piece (c ∷ s)) n → Whole (c ∷ s) n
  whole-constant n h = go (constants (c ∷ take (run_of digit s) s) (fraction s)) (rw (piece-constant c s t p) at h)
    where
      go : {P : Piece} → Constants (c ∷ take (run_of digit s) s) (fraction s) P → Takes P n → Whole (c ∷ s) n
      go no_constant h = absurd h
      go (of_float e) h =
          let stops : Stops digit rest = run_stops digit behind in
          let size : length (written c s) ≡ n = omega (arith, length-append (take (run_of digit s) s) (46 ∷ 48 ∷ [])) in
          subst (λ (n : ℕ). Whole (c ∷ s) n) size (subst (λ (l : List ℕ). Whole l (length (written c s))) (split e)
          (whole_before (written c s) rest (omega arith) (λ r near. piece_written c s r t (near_digits near stops) ∙ sym (piece_written c s rest t stops))))

module _ (c : ℕ) (a : space c ≡ false) (d : letter c ≡ false) (e : digit c ≡ false) where
  whole_first : (s : List ℕ) → starts (bytes "//") (c ∷ s) ≡ false → eqb 47 c ≡ false → Whole (c ∷ s) 1
  unfolding starts bytes
  whole_first s b slash = record {
    positive = omega arith;
    within = omega arith;
    before = λ r near. piece-other c r a (rw slash) d e ∙ sym (sign_first c s r (near_equals near)) ∙ sym (piece-other c s a b d e);
  }

  whole_second : (c' : ℕ) (s : List ℕ) → starts (bytes "//") (c ∷ c' ∷ s) ≡ false → Whole (c ∷ c' ∷ s) 2
  unfolding starts bytes
  whole_second c' s b = record {
    positive = omega arith;
    within = omega arith;
    before = λ r near. piece-other c (c' ∷ r) a b d e ∙ sign_second c c' r s ∙ sym (piece-other c (c' ∷ s) a b d e);
  }

  whole-sign : (s : List ℕ) (n : ℕ) → starts (bytes "//") (c ∷ s) ≡ false → Takes (sign marks (c ∷ s)) n → Whole (c ∷ s) n
  whole-sign s n b h = go s b (slash s h) (sign_takes marks (c ∷ s) n all_short h).size (sign_takes marks (c ∷ s) n all_short h).within
    where
      slash : (s : List ℕ) → Takes (sign marks (c ∷ s)) n → eqb 47 c ≡ false
      slash s h = false_of (eqb 47 c) (λ u. subst (λ (P : Piece). Takes P n) (ap (λ (c : ℕ). sign marks (c ∷ s)) (sym (eqb→eq 47 c u)) ∙ sign_slash s) h)

      go : (s : List ℕ) → starts (bytes "//") (c ∷ s) ≡ false → eqb 47 c ≡ false → OneOrTwo n → n ≤ length (c ∷ s) → Whole (c ∷ s) n
      go s b z (just_one i) l = subst (λ (n : ℕ). Whole (c ∷ s) n) i (whole_first s b z)
      go [] b z (just_two i) l = absurd (omega arith)
      go (c' ∷ s) b z (just_two i) l = subst (λ (n : ℕ). Whole (c ∷ c' ∷ s) n) i (whole_second c' s b)

pub whole-piece : (s : List ℕ) (n : ℕ) → Takes (piece s) n → Whole s n
whole-piece s n h = go (sort s) h
  where
    go : {s : List ℕ} → Sort s → Takes (piece s) n → Whole s n
    go no_more h = absurd (subst (λ (P : Piece). Takes P n) piece-end h)
    go (a_space {c = c} {s = s} t) h = subst (λ (n : ℕ). Whole (c ∷ s) n) (rw (piece-space c s t) at h) (whole-space c s t)
    go (a_comment {s = s}) h = subst (λ (n : ℕ). Whole (47 ∷ 47 ∷ s) n) (rw (piece_comment s) at h) (whole_comment s)
    go (a_word {c = c} {s = s} t) h =
        let e : suc (length (take (run_of letter_or_digit s) s)) ≡ n = word_takes (c ∷ take (run_of letter_or_digit s) s) n (rw (piece-word c s t) at h) in
        subst (λ (n : ℕ). Whole (c ∷ s) n) (ap suc (sym (length-take-le (run_of letter_or_digit s) s (run_within letter_or_digit s))) ∙ e) (whole_word c s t)
    go (a_number {c = c} {s = s} t p) h =
        let e : suc (length (take (run_of digit s) s)) ≡ n = digits_takes (c ∷ take (run_of digit s) s) n (rw (piece-number c s t p) at h) in
        subst (λ (n : ℕ). Whole (c ∷ s) n) (ap suc (sym (length-take-le (run_of digit s) s (run_within digit s))) ∙ e) (whole-number c s t p)
    go (a_constant {c = c} {s = s} t p) h = whole-constant c s t p n h
    go (a_sign {c = c} {s = s} a b d e) h = whole-sign c a d e s n b (rw (piece-other c s a b d e) at h)

-- A number above 1: its digits.
pub record Number (s x : List ℕ) (n : ℕ) : Type 0 where
  pub unspelled : x ≡ []
  pub begins : (r : List ℕ) → Near s (49 ∷ r)
  pub stops : Stops digit (drop n s)
  pub no_point : starts (bytes ".") (drop n s) ≡ false

word_value : (x : List ℕ) (i v : ℕ) (y : List ℕ) (n : ℕ) → word x ≡ token i v y n → v ≡ 0
unfolding word
word_value x i v y n e = go (lookup (λ r. equal (bytes r) x) words) (leb (length x) name_limit) e
  where
    go : (o : Option ℕ) (b : Bool) → option (when b then (λ _. token (the "name") 0 x (length x)) else λ _. bad) (λ k. token k 0 [] (length x)) o ≡ token i v y n → v ≡ 0
    go none true e = cc
    go none false e = cc
    go (some k) b e = cc

sign-value : (l : List (String × ℕ)) (s : List ℕ) (i v : ℕ) (y : List ℕ) (n : ℕ) → sign l s ≡ token i v y n → v ≡ 0
unfolding sign
sign-value [] s i v y n e = cc
sign-value ((r, k) ∷ l) s i v y n e = go (starts (bytes r) s) (sign-value l s i v y n) e
  where
    go : (b : Bool) → (sign l s ≡ token i v y n → v ≡ 0) → (when b then (λ _. token k 0 [] (length (bytes r))) else λ _. sign l s) ≡ token i v y n → v ≡ 0
    go true f e = cc
    go false f e = f e

number_digits : (c : ℕ) (s : List ℕ) → T (digit c) → pointed s ≡ false → (i v : ℕ) (x : List ℕ) (n : ℕ) → digits (c ∷ take (run_of digit s) s) ≡ token i v x n → Number (c ∷ s) x n
unfolding digits digit
number_digits c s t p i v x n e = go (good_number number_limit y) e
  where
    y : List ℕ
    y = c ∷ take (run_of digit s) s

    go : (b : Bool) → (when b then (λ _. token (the "number") (decimal 0 y) [] (length y)) else λ _. bad) ≡ token i v x n → Number (c ∷ s) x n
    go true e =
        let size : suc (run_of digit s) ≡ n = ap suc (sym (length-take-le (run_of digit s) s (run_within digit s))) ∙ cc in
        record { unspelled = cc; begins = λ r. two_digits t tt; stops = subst (λ (n : ℕ). Stops digit (drop n (c ∷ s))) size (run_stops digit s); no_point = rw (← size) p }
    go false e = let z : ◌≡◌ {A = ℕ} 0 1 = cc in absurd (omega arith)

constant-other : {x t : List ℕ} {P : Piece} → Constants x t P → {i v : ℕ} {y : List ℕ} {n : ℕ} → P ≡ token i v y n → i ≡ the "number" → ⊥
constant-other no_constant e k = let z : ◌≡◌ {A = ℕ} 0 1 = cc in omega arith
constant-other (of_float _) e k = float_number_not_number cc

pub number-piece : (s : List ℕ) (i v : ℕ) (x : List ℕ) (n : ℕ) → piece s ≡ token i v x n → i ≡ the "number" → 2 ≤ v → Number s x n
number-piece s i v x n e k l = go (sort s) e
  where
    go : {s : List ℕ} → Sort s → piece s ≡ token i v x n → Number s x n
    go no_more e = let z : ◌≡◌ {A = ℕ} 0 1 = cc piece-end in absurd (omega arith)
    go (a_space {c = c} {s = s} t) e = let z : ◌≡◌ {A = ℕ} 0 1 = cc (piece-space c s t) in absurd (omega arith)
    go (a_comment {s = s}) e = let z : ◌≡◌ {A = ℕ} 0 1 = cc (piece_comment s) in absurd (omega arith)
    go (a_word {c = c} {s = s} t) e = absurd (omega (arith, word_value (c ∷ take (run_of letter_or_digit s) s) i v x n (sym (piece-word c s t) ∙ e)))
    go (a_number {c = c} {s = s} t p) e = number_digits c s t p i v x n (sym (piece-number c s t p) ∙ e)
    go (a_constant {c = c} {s = s} t p) e = absurd (constant-other (constants (c ∷ take (run_of digit s) s) (fraction s)) (sym (piece-constant c s t p) ∙ e) k)
    go (a_sign {c = c} {s = s} a b d f) e = absurd (omega (arith, sign-value marks (c ∷ s) i v x n (sym (piece-other c s a b d f) ∙ e)))
