-- How a lent buffer of words holds declarations: six words for each, the place and the end of its name, its kind, its length, its
-- address, and 1 while it is open.
use Rattle.std.specs.Prelude.{ℕ, zero, suc, ◌+◌, ◌*◌, ◌-◌, ◌≤◌, ◌<◌, ◌≡◌, List, [], ◌∷◌, ◌++◌, eqb, length, get_or, take, drop}
use Rattle.std.proofs.lemmas.List.Edits.{sets}
use Rattle.meaning.specs.declared.Kind.{Kind}
use Rattle.meaning.specs.declared.Kind.TheVariants.{Int as int, Bool as bool, Float as float}
use Rattle.meaning.specs.Memory.{Declared, Declarations, declared}
use Rattle.layout.specs.Words.{unit}

-- The words of a row, and its columns.
abbrev pub row_words : ℕ
row_words = 6

abbrev pub place_column : ℕ
place_column = 0

abbrev pub end_column : ℕ
end_column = 1

abbrev pub kind_column : ℕ
kind_column = 2

abbrev pub lanes_column : ℕ
lanes_column = 3

abbrev pub address_column : ℕ
address_column = 4

abbrev pub open_column : ℕ
open_column = 5

-- Word k of declaration i.
abbrev pub word_of : List ℕ → ℕ → ℕ → ℕ
word_of table i k = get_or table (i * row_words + k) 0

-- The kind of a number (`kind_number`): 0 int, 1 bool, 2 float.
unfoldable pub kind_of : ℕ → Kind
kind_of zero = int
kind_of (suc zero) = bool
kind_of (suc (suc n)) = float

-- Declaration i of a table, in a text.
unfoldable pub entry : List ℕ → List ℕ → ℕ → Declared
entry text table i = record {
  name = take (word_of table i end_column - word_of table i place_column) (drop (word_of table i place_column) text);
  place = word_of table i place_column;
  kind = kind_of (word_of table i kind_column);
  lanes = word_of table i lanes_column;
  address = word_of table i address_column;
  open? = eqb (word_of table i open_column) 1;
}

-- A table with a row, which is open, for declaration i.
abbrev pub with_row : List ℕ → ℕ → ℕ → ℕ → ℕ → ℕ → ℕ → List ℕ
with_row table i place end kind lanes address = sets (sets table (i * row_words) (unit place end kind)) (i * row_words + lanes_column) (unit lanes address 1)

-- The first n declarations.
unfoldable pub entries : List ℕ → List ℕ → ℕ → Declarations
entries text table zero = []
entries text table (suc n) = entries text table n ++ (entry text table n ∷ [])

-- What a plan is made from, of a table: the kind, the length and the address of each of the declarations Γ.
pub record Lies (table : List ℕ) (Γ : Declarations) : Type 0 where
  pub room : length Γ * row_words ≤ length table
  pub kind : (i : ℕ) → i < length Γ → kind_of (word_of table i kind_column) ≡ (declared Γ i).kind
  pub lanes : (i : ℕ) → i < length Γ → word_of table i lanes_column ≡ (declared Γ i).lanes
  pub address : (i : ℕ) → i < length Γ → word_of table i address_column ≡ (declared Γ i).address
