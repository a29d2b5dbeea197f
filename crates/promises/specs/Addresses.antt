-- Document 01, "Memory", of addresses: what it says of the declarations of a text, of the records that a caller reads in its table, and
-- of every place in an answer.
use Rattle.std.specs.Prelude.{ℕ, zero, suc, ◌+◌, ◌*◌, ◌/◌, ◌^◌, ◌≤◌, ◌<◌, min, ◌≡◌, List, length, drop}
use Rattle.std.specs.Int.{◌∣◌}
use Rattle.meaning.specs.Codes.{text_limit}
use Rattle.meaning.specs.declared.Kind.TheVariants.{Int as int, Bool as bool, Float as float}
use Rattle.meaning.specs.Tree.{kind_number}
use Rattle.meaning.specs.Memory.{Memory, Declared, declared, size, whole}
use Rattle.meaning.specs.Services.{Answer, judge_call, run_call, variables_call, Kept}
use Rattle.laws.specs.Sound.{Spelled}
use Rattle.laws.specs.Words.{need_limit}
use Rattle.lane.specs.Lane.{variables}
use Rattle.promises.specs.Promise.{number_at, numbers_in}

-- Where the bytes of a variable lie: its address, and "its whole size".
pub record Span : Type 0 where
  pub address : ℕ
  pub bytes : ℕ

-- Their end.
abbrev pub end : Span → ℕ
end s = s.address + s.bytes

-- The byte b is one of them.
pub record Covers (s : Span) (b : ℕ) : Type 0 where
  pub from : s.address ≤ b
  pub to : b < end s

-- The end of the one before number x, "in text order"; before the first it is 0.
unfoldable pub previous_end : (ℕ → Span) → ℕ → ℕ
previous_end span zero = 0
previous_end span (suc x) = end (span x)

-- n variables, number x at `span x`.
pub record Addresses (n : ℕ) (span : ℕ → Span) : Type 0 where
  -- "its whole size": a byte at least,
  pub some_bytes : (x : ℕ) → x < n → 0 < (span x).bytes
  -- "multiple of its whole size"
  pub multiple : (x : ℕ) → x < n → (span x).bytes ∣ (span x).address
  -- "in text order": at or behind the end of the one before,
  pub behind : (x : ℕ) → x < n → previous_end span x ≤ (span x).address
  -- "the next": no such multiple at or behind that end is less.
  pub least : (x a : ℕ) → x < n → (span x).bytes ∣ a → previous_end span x ≤ a → (span x).address ≤ a
  -- "an address of its own .. never shared with another": no byte is of two.
  pub own : (x y b : ℕ) → x < n → y < n → Covers (span x) b → Covers (span y) b → x ≡ y

-- "Need is the end of the last one"; document 02, R-9: "need can reach 16,384".
pub record Needs (n : ℕ) (span : ℕ → Span) (need : ℕ) : Type 0 where
  pub last : need ≡ previous_end span n
  pub limit : need ≤ need_limit

-- Where the bytes of a declaration lie.
unfoldable pub span_of : Declared → Span
span_of d = record { address = d.address; bytes = whole d.kind d.lanes }

-- The bytes of a record in the table that the listing is lent.
abbrev pub record_bytes : ℕ
record_bytes = 16

-- The four numbers of a record: the place of a name, and the kind, length and address of its variable.
pub record Entry : Type 0 where
  pub place : ℕ
  pub kind : ℕ
  pub lanes : ℕ
  pub address : ℕ

-- What the record of a declaration says.
unfoldable pub entry_of : Declared → Entry
entry_of d = record { place = d.place; kind = kind_number d.kind; lanes = d.lanes; address = d.address }

-- What a caller reads in record x of its table.
unfoldable pub entry_in : List ℕ → ℕ → Entry
entry_in table x =
    let l = drop (record_bytes * x) table in
    record { place = number_at 0 l; kind = number_at 1 l; lanes = number_at 2 l; address = number_at 3 l }

-- "An int is 4 bytes .. a bool is one byte"; document 02, R-2: "`float`, 4 bytes". By the number of the kind: 0 for an int, 1 for a
-- bool, 2 for a float.
unfoldable pub size_told : ℕ → ℕ
size_told zero = size int
size_told (suc zero) = size bool
size_told (suc (suc n)) = size float

-- Where the bytes of variable x lie, by its record in a table.
unfoldable pub span_in : List ℕ → ℕ → Span
span_in table x = let e = entry_in table x in record { address = e.address; bytes = e.lanes * size_told e.kind }

-- How many records there are: one for a declaration, "as many as fit whole".
abbrev pub shown : ℕ → List ℕ → ℕ
shown count table = min count (length table / record_bytes)

-- What a caller reads who lent a table and is left table', with the answer a, whose fourth number counts the declarations.
pub record ListsAddresses (text table : List ℕ) (a : Answer) (table' : List ℕ) : Type 0 where
  -- It is told of every declaration of the text,
  pub count : a.steps ≡ length (variables text)
  -- its records are those of the declarations, and every other byte of the table stays;
  pub entries : (x : ℕ) → x < shown a.steps table → entry_in table' x ≡ entry_of (declared (variables text) x)
  pub rest : drop (record_bytes * shown a.steps table) table' ≡ drop (record_bytes * shown a.steps table) table
  -- at each place the name stands in the text,
  pub places : (x : ℕ) → x < shown a.steps table → (entry_in table' x).place < length text
  pub names : (x : ℕ) → x < shown a.steps table → Spelled text (entry_in table' x).place (declared (variables text) x).name
  -- "in text order",
  pub in_order : (x y : ℕ) → x < y → y < shown a.steps table → (entry_in table' x).place < (entry_in table' y).place
  -- the addresses are as document 01 says,
  pub addresses : Addresses (shown a.steps table) (span_in table')
  -- need is enough for each, and within its limit; it is the end of the last, where every record is there.
  pub enough : (x : ℕ) → x < shown a.steps table → end (span_in table' x) ≤ a.need
  pub limit : a.need ≤ need_limit
  pub needs : record_bytes * a.steps ≤ length table → Needs a.steps (span_in table') a.need

-- "place (a byte offset in the text)", or the text's length where it "ends too soon"; of a text above 4,096 bytes too.
pub record Placed (text : List ℕ) (a : Answer) : Type 0 where
  pub inside : a.place ≤ length text
  pub low : a.place ≤ text_limit

-- So is the place in every answer that a caller is given who is returned 1.
pub record EveryPlace (text slice slice' : List ℕ) : Type 0 where
  pub judges : Kept (judge_call text slice) 1 slice' tt → Placed text (numbers_in slice')
  pub runs : (M : Memory) (budget : ℕ) {M' : Memory} → budget < 2 ^ 32 → Kept (run_call text M budget slice) 1 slice' M' → Placed text (numbers_in slice')
  pub lists : (table : List ℕ) {table' : List ℕ} → Kept (variables_call text table slice) 1 slice' table' → Placed text (numbers_in slice')
