-- Document 01, "Memory": where variables lie, and how their lanes are read and written.
use Rattle.std.specs.Prelude.{ℕ, zero, suc, ◌+◌, ◌*◌, ◌-◌, ◌/◌, ◌%◌, Bool, true, false, List, [], ◌∷◌, ◌++◌, take, drop, replicate, get_or}
use Rattle.meaning.specs.declared.Kind.{Kind}
use Rattle.meaning.specs.declared.Kind.TheVariants.{Int as int, Bool as bool, Float as float}
use Rattle.meaning.specs.Floats.{one_nan}
use Rattle.meaning.specs.Tree.{Name}

-- Bytes.
abbrev pub Memory : Type 0
Memory = List ℕ

-- The lanes of a value: each is a word below 2^32, 0 or 1 for a bool, the pattern of a float.
abbrev pub Value : Type 0
Value = List ℕ

-- Which lanes are active.
abbrev pub Mask : Type 0
Mask = List Bool

-- "An int is 4 bytes .. a bool is one byte" (000: sizes of data types); document 02, R-2: "`float`, 4 bytes"
unfoldable pub size : Kind → ℕ
size int = 4
size bool = 1
size float = 4

-- "false exactly at 0"
unfoldable pub truth : ℕ → Bool
truth zero = false
truth (suc n) = true

-- A truth as a lane.
unfoldable pub bit : Bool → ℕ
bit true = 1
bit false = 0

-- "a true is written as 1"
unfoldable pub true_byte : ℕ
true_byte = 1

-- The byte of a truth.
unfoldable pub bool_byte : Bool → ℕ
bool_byte true = true_byte
bool_byte false = 0

-- What a declaration leaves: its name and the name's place, "a kind and a length", "an address of its own", and whether its
-- scope is open.
pub record Declared : Type 0 where
  pub name : Name
  pub place : ℕ
  pub kind : Kind
  pub lanes : ℕ
  pub address : ℕ
  pub open? : Bool

-- "Every declaration in the text", "in text order".
abbrev pub Declarations : Type 0
Declarations = List Declared

-- The declaration of number x.
unfoldable pub declared : Declarations → ℕ → Declared
declared Γ x = get_or Γ x (record { name = []; place = 0; kind = int; lanes = 1; address = 0; open? = false })

-- "its whole size"
unfoldable pub whole : Kind → ℕ → ℕ
whole k n = n * size k

-- "the next multiple" of n, which is above 0, from an end on
unfoldable pub next_multiple : ℕ → ℕ → ℕ
next_multiple end n = (end + (n - 1)) / n * n

-- "Need is the end of the last one"
unfoldable pub need : Declarations → ℕ
need [] = 0
need (d ∷ []) = d.address + whole d.kind d.lanes
need (d ∷ e ∷ Γ) = need (e ∷ Γ)

-- The w bytes of a number, "little-endian".
unfoldable pub little_endian : ℕ → ℕ → List ℕ
little_endian zero n = []
little_endian (suc w) n = n % 256 ∷ little_endian w (n / 256)

-- The number of some bytes.
unfoldable pub number_of : List ℕ → ℕ
number_of [] = 0
number_of (b ∷ l) = b + 256 * number_of l

-- The lane that some bytes hold.
unfoldable pub lane_of : Kind → List ℕ → ℕ
lane_of int l = number_of l
lane_of bool l = bit (truth (number_of l))
lane_of float l = number_of l

-- The bytes that hold a lane. Document 02, R-2: "Every stored not-a-number is the pattern 7FC00000".
unfoldable pub bytes_of : Kind → ℕ → List ℕ
bytes_of int n = little_endian 4 n
bytes_of bool n = bool_byte (truth n) ∷ []
bytes_of float n = little_endian 4 (one_nan n)

-- "A block's elements lie side by side": n lanes from the bytes of one variable (000: packed layout).
unfoldable pub load : Kind → ℕ → List ℕ → Value
load k zero l = []
load k (suc n) l = lane_of k (take (size k) l) ∷ load k n (drop (size k) l)

-- "writes exactly the active lanes of its target", into the bytes of one variable
unfoldable pub store : Kind → Mask → Value → List ℕ → List ℕ
store k [] v l = l
store k (c ∷ m) [] l = l
store k (true ∷ m) (x ∷ v) l = bytes_of k x ++ store k m v (drop (size k) l)
store k (false ∷ m) (x ∷ v) l = take (size k) l ++ store k m v (drop (size k) l)

-- "one of length 1, which is replicated"; also the mask: "in a context of length 1, all lanes".
unfoldable pub spread : {A : Type 0} → ℕ → List A → List A
spread n [] = []
spread n (x ∷ []) = replicate n x
spread n (x ∷ y ∷ r) = x ∷ y ∷ r

-- The value of the variable x.
unfoldable pub fetch : Declarations → Memory → ℕ → Value
unfolding declared load lane_of size number_of bit truth
fetch Γ M x = let d = declared Γ x in load d.kind d.lanes (drop d.address M)

-- The memory after a store to x: "A store is handed the bytes of one variable and no others."
unfoldable pub update : Declarations → Memory → ℕ → Mask → Value → Memory
unfolding declared whole size spread store bytes_of little_endian bool_byte true_byte truth one_nan
update Γ M x m v =
    let d = declared Γ x in
    let n = whole d.kind d.lanes in
    let l = drop d.address M in
    take d.address M ++ (store d.kind (spread d.lanes m) (spread d.lanes v) (take n l) ++ drop n l)
