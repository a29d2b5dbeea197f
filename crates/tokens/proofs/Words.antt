-- What a word is, by its letters, and the piece that it makes.
use mathlib.Core.Path.{◌≡◌, refl, ap, ◌∙◌}
use mathlib.Core.Bool.{Bool, true, false, ◌&&◌, ◌||◌}
use mathlib.Core.List.{List, [], ◌∷◌}
use mathlib.Core.Option.{Option, none, some}
use Prim.Native.Nat.{ℕ, suc, ◌+◌, ◌≤◌, ◌<◌}
use Prim.Native.String.{String}
use native.Mathlib.Omega.{arith}
use borrow.Author.Tests.{ne_eqb, eqb-true, le-leb, lt-leb, leb-true, ltb-true}
use lib.Dec.{eqb, leb, ltb}
use lib.ListN.{length}
use Rattle.meaning.specs.Codes.{when◌then◌else◌, option, lookup, name_limit}
use Rattle.meaning.specs.Memory.{number_of}
use Rattle.meaning.specs.Tokens.{bad, token, bytes, reserved, numbered, words, the, word, digit, letter, letter_or_digit, run_of}
use Rattle.std.specs.declared.option.Option.TheVariants.{Some, None}
use Rattle.tokens.specs.declared.Lexeme.TheVariants.{Token}
use Rattle.tokens.specs.Lexing.{Word, word_kind, row_bytes, letters, row_kind, lexeme}
use Rattle.laws.proofs.The.{the_name}
use Rattle.laws.proofs.Tests.{and_l, and_r, or_cases}
use Rattle.laws.proofs.Bytes.{lengths_differ}
use Rattle.laws.proofs.Pieces.{found, reserved_from}
use Rattle.tokens.proofs.Walking.{every}
use Rattle.tokens.proofs.Spelling.{spelled_same, spaces, no_letters}

-- What is found, by its number, where another number says that nothing is.
told_some : {d k : ℕ} (o : Option ℕ) → k ≡ option d (λ n. n) o → (k ≡ d → ⊥) → o ≡ some k
told_some none e ne = absurd (ne e)
told_some (some n) e ne = rw e

told_none : {d : ℕ} (o : Option ℕ) → d ≡ option d (λ n. n) o → ((n : ℕ) → o ≡ some n → d < n) → o ≡ none
told_none none e above = refl
told_none {d} (some n) e above = let is : d ≡ n = e in absurd (omega (arith, above n refl))

-- A word as a piece, by its kind.
module _ (at : ℕ) (s : List ℕ) where
  pub reserved-word : {k : ℕ} → k ≡ word_kind s → (k ≡ 2 → ⊥) → Some (Token k 0 (length s)) ≡ lexeme at (word s)
  unfolding word_kind word lexeme
  reserved-word {k} is ne = rw (told_some (found s words) (is ∙ rw the_name) ne, the_name, ne_eqb k 2 ne)

  name_word : 2 ≡ word_kind s → word s ≡ (when leb (length s) name_limit then (λ _. token (the "name") 0 s (length s)) else λ _. bad)
  unfolding word_kind word
  name_word is = rw (told_none (found s words) (is ∙ rw the_name) (λ n h. let le = reserved_from s h in omega arith))

  pub long_name : 2 ≡ word_kind s → name_limit < length s → None ≡ lexeme at (word s)
  unfolding lexeme
  long_name is lt = rw (name_word is, lt-leb (length s) name_limit lt)

  pub good_name : 2 ≡ word_kind s → length s ≤ name_limit → Some (Token 2 (at + length s) (length s)) ≡ lexeme at (word s)
  unfolding lexeme
  good_name is le = rw (name_word is, le-leb (length s) name_limit le, the_name)

-- The number of the first reserved word.
abbrev pub first_word : ℕ
first_word = 16

-- What the reserved words have in common: letters alone, two of them at least, and no more than a row has.
abbrev fits : List ℕ → Bool
fits x = eqb (run_of letter_or_digit x) (length x) && leb 2 (length x) && leb (length x) row_bytes

reserved_fit : every fits reserved ≡ true
unfolding reserved bytes run_of letter_or_digit letter digit
reserved_fit = refl

pub record Fitting (x : List ℕ) : Type 0 where
  pub word : Word x
  pub some_letters : 2 ≤ length x
  pub in_row : length x ≤ row_bytes

fitting : (x : List ℕ) → fits x ≡ true → Fitting x
fitting x h =
    let all = eqb (run_of letter_or_digit x) (length x) in
    let some_letters = leb 2 (length x) in
    let two = and_l (all && some_letters) (leb (length x) row_bytes) h in
    record {
      word = eqb-true (run_of letter_or_digit x) (length x) (and_l all some_letters two);
      some_letters = leb-true 2 (length x) (and_r all some_letters two);
      in_row = leb-true (length x) row_bytes (and_r (all && some_letters) (leb (length x) row_bytes) h);
    }

-- Two tests that agree on such texts find the same.
lookup_same : {f g : List ℕ → Bool} → ((x : List ℕ) → Fitting x → f x ≡ g x) → (l : List String) (k : ℕ) → every fits l ≡ true
    → lookup (λ r. f (bytes r)) (numbered k l) ≡ lookup (λ r. g (bytes r)) (numbered k l)
unfolding numbered
lookup_same agree [] k h = refl
lookup_same agree (r ∷ l) k h =
    let fit = fitting (bytes r) (and_l (fits (bytes r)) (every fits l) h) in
    rw (agree (bytes r) fit, lookup_same agree l (suc k) (and_r (fits (bytes r)) (every fits l) h))

lookup_nothing : (l : List String) (k : ℕ) → lookup (λ r. false) (numbered k l) ≡ none
unfolding numbered
lookup_nothing [] k = refl
lookup_nothing (r ∷ l) k = lookup_nothing l (suc k)

-- One of two tests holds, and neither can.
pub neither : (a : Bool) (m n : ℕ) → (a || ltb m n) ≡ true → (a ≡ true → ⊥) → (m < n → ⊥) → ⊥
neither a m n h f g = or_cases a (ltb m n) h f (λ t. g (ltb-true m n t))

module _ (s : List ℕ) where
  -- A word that has the length of no reserved word is a name.
  pub name_by_length : ((x : List ℕ) → Fitting x → length x ≡ length s → ⊥) → 2 ≡ word_kind s
  unfolding word_kind words
  name_by_length ne =
      let none_equal = lookup_same {g = λ x. false} (λ x fit. lengths_differ x s (ne x fit)) reserved first_word reserved_fit in
      rw (none_equal, lookup_nothing reserved first_word, the_name)

  -- A word of at most a row is what its letters say.
  pub row_word : Word s → length s ≤ row_bytes → row_kind (number_of (letters s 0)) (number_of (letters s 4)) (number_of (letters s 8)) ≡ word_kind s
  unfolding row_kind word_kind words
  row_word w le =
      ap (option (the "name") (λ k. k)) (lookup_same (λ x fit. spelled_same x s fit.word w fit.in_row le) reserved first_word reserved_fit)

  -- A short one has spaces after its first four letters.
  pub short_word : Word s → length s ≤ 4 → row_kind (number_of (letters s 0)) spaces spaces ≡ word_kind s
  short_word w le = rw (no_letters s 4 le, no_letters s 8 (omega arith)) at (row_word w (omega arith))
