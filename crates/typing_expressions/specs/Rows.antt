-- What the table of declarations keeps to while a text is typed, and what the search for a name answers.
use Rattle.std.specs.Prelude.{ℕ, zero, suc, ◌+◌, ◌-◌, ◌*◌, ◌≤◌, ◌<◌, ◌≡◌, Bool, true, ◌&&◌, List, ◌++◌, map, length, take, drop}
use Rattle.std.proofs.Math.Option.{Option, none, some}
use Rattle.meaning.specs.Codes.{◌among◌, lengths, text_limit, declaration_limit}
use Rattle.meaning.specs.Tokens.{equal}
use Rattle.meaning.specs.Tree.{Name}
use Rattle.meaning.specs.Memory.{Declarations, whole}
use Rattle.meaning.specs.Typing.{find, shut}
use Rattle.layout.specs.Sizes.{table_room}
use Rattle.layout.specs.Table.{word_of, kind_of, entry, entries, place_column, end_column, kind_column, lanes_column, address_column}
use Rattle.laws.specs.Declarations.{whole_limit}
use Rattle.std.specs.declared.option.Option.{Option as Found}
use Rattle.std.specs.declared.option.Option.TheVariants.{Some, None}

-- The bytes of a text from a place to an end.
abbrev pub spelled : List ℕ → ℕ → ℕ → Name
spelled text place end = take (end - place) (drop place text)

-- The text has bytes from a place to an end.
pub record Spans (text : List ℕ) (place end : ℕ) : Type 0 where
  pub order : place ≤ end
  pub inside : end ≤ length text

-- N is of the list; so is every length.
pub record ListedLength (n : ℕ) : Type 0 where
  pub is : n among lengths ≡ true

-- The end of the last of some declarations.
unfoldable pub end_of : List ℕ → ℕ → ℕ
end_of table zero = 0
end_of table (suc n) = word_of table n address_column + whole (kind_of (word_of table n kind_column)) (word_of table n lanes_column)

-- A table of declarations, with room for as many as a text may have, of a text within its limit: their names stand in the text,
-- their lengths are of the list, and they end before the last one's end, which is at most the largest variable for each.
pub record Rows (text table : List ℕ) (count : ℕ) : Type 0 where
  pub short : length text ≤ text_limit
  pub few : count ≤ declaration_limit
  pub room : table_room ≤ length table
  pub names : (i : ℕ) → i < count → Spans text (word_of table i place_column) (word_of table i end_column)
  pub listed : (i : ℕ) → i < count → ListedLength (word_of table i lanes_column)
  pub ends : (i : ℕ) → i < count → end_of table (suc i) ≤ end_of table count
  pub small : end_of table count ≤ whole_limit * count

-- Is declaration i open, and has it this name?
unfoldable pub is_named : List ℕ → List ℕ → ℕ → Name → Bool
is_named text table i x = (entry text table i).open? && equal (entry text table i).name x

-- The number that was found.
unfoldable pub number_of : Found ℕ → Option ℕ
number_of (Some i) = some i
number_of None = none

-- The search has found what the definition finds: the open declaration of the name from a place to an end.
pub record Finds (text table : List ℕ) (count place end : ℕ) (r : Found ℕ) : Type 0 where
  pub is : number_of r ≡ find (spelled text place end) 0 (entries text table count)

-- Declarations of which those from a number on are no longer open.
unfoldable pub closed : ℕ → Declarations → Declarations
closed from Γ = take from Γ ++ map shut (drop from Γ)

-- What closing a scope does to a table: the names declared from a number on are no longer open, and it is as good as before.
pub record Closes (from count : ℕ) (before after : List ℕ) : Type 0 where
  pub shuts : (text : List ℕ) → entries text after count ≡ closed from (entries text before count)
  pub keeps : (text : List ℕ) → Rows text before count → Rows text after count
