-- How a lent buffer of words holds tokens: for each what it is, its place, and its value.
use Rattle.std.specs.Prelude.{ℕ, ◌+◌, ◌*◌, ◌≤◌, ◌<◌, ◌≡◌, List, length, get_or}
use Rattle.meaning.specs.Tokens.{Token, end_at, the}

-- The words of a token.
abbrev pub token_words : ℕ
token_words = 3

-- What token i is, its place, and its value.
abbrev pub kind_at : List ℕ → ℕ → ℕ
kind_at tokens i = get_or tokens (i * token_words) 0

abbrev pub place_at : List ℕ → ℕ → ℕ
place_at tokens i = get_or tokens (i * token_words + 1) 0

abbrev pub value_at : List ℕ → ℕ → ℕ
value_at tokens i = get_or tokens (i * token_words + 2) 0

-- One token: its value is what a number is worth, the pattern of a float's constant, and the end of a name; of any other token nothing is
-- said of it.
pub record TokenRow (kind place value : ℕ) (t : Token) : Type 0 where
  pub is : kind ≡ t.is
  pub at : place ≡ t.place
  pub worth : t.is ≡ the "number" → value ≡ t.value
  pub pattern : t.is ≡ the "float number" → value ≡ t.value
  pub end : t.is ≡ the "name" → value ≡ t.place + length t.spelled

-- The buffer begins with the tokens ts.
pub record Holds (tokens : List ℕ) (ts : List Token) : Type 0 where
  pub room : length ts * token_words ≤ length tokens
  pub row : (i : ℕ) → i < length ts → TokenRow (kind_at tokens i) (place_at tokens i) (value_at tokens i) (get_or ts i (end_at 0))
