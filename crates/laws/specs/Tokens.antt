-- What every token of a text keeps to.
use Rattle.std.specs.Prelude.{ℕ, suc, ◌^◌, ◌≤◌, ◌<◌, ◌≡◌, List, [], ◌∷◌, length}
use Rattle.meaning.specs.Codes.{number_limit}
use Rattle.meaning.specs.Tokens.{Token, end_at, the}
use Rattle.laws.specs.Sound.{Spelled}

-- A token of the text that is not its end.
pub record TokenIn (text : List ℕ) (t : Token) : Type 0 where
  pub inside : t.place < length text
  pub not_end : t.is ≡ the "end" → ⊥
  pub number : t.is ≡ the "number" → t.value ≤ number_limit
  pub float : t.is ≡ the "float number" → t.value < 2 ^ 32
  pub name : t.is ≡ the "name" → Spelled text t.place t.spelled

-- Tokens of the text from number k on, each at place k or later, and then its end.
pub data AllIn (text : List ℕ) : ℕ → List Token → Type 0 where
  the_last : {k : ℕ} → AllIn text k (end_at (length text) ∷ [])
  one_more : {k : ℕ} {t : Token} {ts : List Token} → k ≤ t.place → TokenIn text t → AllIn text (suc k) ts → AllIn text k (t ∷ ts)

-- The tokens ts of a text that is accepted so far, read up to p: no more tokens than bytes and the end.
pub record Accepted (text : List ℕ) (ts : List Token) (p : ℕ) : Type 0 where
  pub spelled : AllIn text 0 ts
  pub few : length ts ≤ suc (length text)
  pub to_end : p ≡ length text
