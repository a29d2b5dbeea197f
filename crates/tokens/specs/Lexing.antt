-- What the lexer promises: its answer and the buffer are exactly the definition's tokens, or its refusal.
use Rattle.std.specs.Prelude.{ℕ, zero, suc, ◌+◌, ◌*◌, ◌≤◌, min, ◌≡◌, Bool, ◌&&◌, List, [], ◌∷◌, eqb, length, get_or, take, drop}
use Prim.Native.String.{String}
use Rattle.meaning.specs.Codes.{Out, ok, refused, when◌then◌else◌, option, lookup, text_limit, number_limit}
use Rattle.meaning.specs.Tokens.{Token, Piece, over, bad, gap, token, the, bytes, equal, words, marks, digit, letter_or_digit, run_of, decimal, good_number, constant, numeral, lexed}
use Rattle.meaning.specs.Memory.{number_of}
use Rattle.layout.specs.Sizes.{token_room}
use Rattle.layout.specs.Tokens.{token_words, Holds}
use Rattle.tokens.specs.declared.Lexeme.{Lexeme}
use Rattle.tokens.specs.declared.Lexeme.TheVariants.{Gap, Token as OneToken}
use Rattle.layout.specs.Stage.{Stage}
use Rattle.std.specs.declared.option.Option.{Option}
use Rattle.std.specs.declared.option.Option.TheVariants.{Some, None}
use Rattle.std.specs.declared.result.Result.TheVariants.{Ok, Err}

-- The buffer has room for a token for each byte of the text, as far as a text may go, and for its end.
abbrev pub TokenRoom : List ℕ → List ℕ → Type 0
TokenRoom text buffer = token_room (min (length text) text_limit) ≤ length buffer

-- What an answer says of a text of n bytes, where the buffer holds ts.
abbrev pub lexed_outcome : ℕ → List Token → Stage → Out ℕ (List Token)
lexed_outcome n ts (Ok reached) = ok ts n
lexed_outcome n ts (Err why) = refused why.refusal why.place

-- How many tokens an answer counts.
abbrev pub lexed_count : Stage → ℕ
lexed_count (Ok reached) = reached.count
lexed_count (Err why) = 0

-- How many words they have.
abbrev pub lexed_size : Stage → ℕ
lexed_size (Ok reached) = reached.size
lexed_size (Err why) = 0

-- The place of a refusal.
abbrev pub refusal_place : Stage → ℕ
refusal_place (Ok reached) = 0
refusal_place (Err why) = why.place

-- The promise: the text's tokens are as answered, and the buffer holds them; after a refusal there are none.
pub record Lexes (text : List ℕ) (r : Stage) (buffer : List ℕ) : Type 0 where
  pub tokens : List Token
  pub is : lexed text ≡ lexed_outcome (length text) tokens r
  pub count : lexed_count r ≡ length tokens
  pub size : lexed_size r ≡ length tokens * token_words
  pub few : lexed_count r ≤ suc (length text)
  pub near : refusal_place r ≤ text_limit
  pub holds : Holds buffer tokens

-- What a call answers of a byte is what the test says.
abbrev pub Tells : (ℕ → Bool → Type 0) → (ℕ → Bool) → Type 0
Tells answers test = (b : ℕ) (r : Bool) → answers b r → r ≡ test b

-- The number that the digits s are, if they are those of one.
unfoldable pub number_in : List ℕ → Option ℕ
number_in s = when good_number number_limit s then (λ _. Some (decimal 0 s)) else λ _. None

-- What begins with the digits of s.
abbrev pub numeral_of : List ℕ → Piece
numeral_of s = numeral (take (run_of digit s) s) (drop (run_of digit s) s)

-- A float's constant: the digits s, a point, and the digits that t begins with.
abbrev pub constant_of : List ℕ → List ℕ → Piece
constant_of s t = constant s (take (run_of digit t) t)

-- "letters, digits, `_`", and nothing else.
abbrev pub Word : List ℕ → Type 0
Word s = run_of letter_or_digit s ≡ length s

-- What a word is: a reserved word, or a name.
unfoldable pub word_kind : List ℕ → ℕ
word_kind s = option (the "name") (λ k. k) (lookup (λ r. equal (bytes r) s) words)

-- The bytes that a reserved word has in the list of them, and those that a sign has in its list.
abbrev pub row_bytes : ℕ
row_bytes = 12

abbrev pub pair_bytes : ℕ
pair_bytes = 2

-- What rows are filled up with: a space.
abbrev pub blank : ℕ
blank = 32

-- A text in a row of n bytes.
abbrev pub filled : ℕ → List ℕ → List ℕ
filled zero s = []
filled (suc n) [] = blank ∷ filled n []
filled (suc n) (b ∷ s) = b ∷ filled n s

-- A row of n bytes for each text.
abbrev pub rows : ℕ → List String → List (List ℕ)
rows n [] = []
rows n (r ∷ l) = filled n (bytes r) ∷ rows n l

-- Four letters of a word, from the i-th on, with spaces after its end.
abbrev pub letters : List ℕ → ℕ → List ℕ
letters s i = filled 4 (drop i s)

-- Are these, as numbers, the letters of a word, or of a row?
unfoldable pub spelled : List ℕ → ℕ → ℕ → ℕ → Bool
spelled s a b c = eqb (number_of (letters s 0)) a && eqb (number_of (letters s 4)) b && eqb (number_of (letters s 8)) c

-- What the reserved word is that has these letters, and a name where none has them.
unfoldable pub row_kind : ℕ → ℕ → ℕ → ℕ
row_kind a b c = option (the "name") (λ k. k) (lookup (λ r. spelled (bytes r) a b c) words)

-- Are these the two bytes of a sign, the second of which may be a space?
unfoldable pub paired : List ℕ → ℕ → ℕ → Bool
paired s b c = eqb (get_or s 0 blank) b && eqb (get_or s 1 blank) c

-- What the sign is that has these two bytes.
unfoldable pub sign_kind : ℕ → ℕ → Option ℕ
sign_kind b c = option None Some (lookup (λ r. paired (bytes r) b c) marks)

-- A piece at place p as the code has it, where a rule allows it: beside a name stands its end.
unfoldable pub lexeme : ℕ → Piece → Option Lexeme
lexeme p over = None
lexeme p bad = None
lexeme p (gap n) = Some (Gap n)
lexeme p (token k v x n) = Some (OneToken k (when eqb k (the "name") then (λ _. p + n) else λ _. v) n)
