-- How declarations lie, and how they grow while a text is typed.
use Rattle.std.specs.Prelude.{ℕ, zero, suc, ◌+◌, ◌*◌, ◌≤◌, ◌<◌, ◌≡◌, true, List, [], ◌∷◌, ◌++◌, map, length, take, drop}
use Rattle.meaning.specs.Codes.{◌among◌, lengths, declaration_limit}
use Rattle.meaning.specs.Memory.{Declared, Declarations, declared, whole, next_multiple, need}
use Rattle.meaning.specs.Typing.{shut}
use Rattle.laws.specs.Sound.{Spelled}

-- The end of a declaration's bytes.
abbrev pub end_of : Declared → ℕ
end_of d = d.address + whole d.kind d.lanes

-- The end of the declaration before number x; before the first it is 0.
unfoldable pub end_before : Declarations → ℕ → ℕ
end_before Γ zero = 0
end_before Γ (suc x) = end_of (declared Γ x)

-- A length of the list: of a name, of a context, of an expression.
abbrev pub Listed : ℕ → Type 0
Listed n = n among lengths ≡ true

-- The greatest length of the list, and the bytes of the largest variable: an int of that length.
abbrev pub lane_limit : ℕ
lane_limit = 64

abbrev pub whole_limit : ℕ
whole_limit = lane_limit * 4

-- At most 64 declarations, each of a listed length and with bytes of its own, in text order, before need, which is at most the largest
-- variable for each.
pub record Laid (Γ : Declarations) : Type 0 where
  pub few : length Γ ≤ declaration_limit
  pub listed : (x : ℕ) → x < length Γ → Listed (declared Γ x).lanes
  pub ends : (x : ℕ) → x < length Γ → end_of (declared Γ x) ≤ need Γ
  pub apart : (x y : ℕ) → x < y → y < length Γ → end_of (declared Γ x) ≤ (declared Γ y).address
  pub small : need Γ ≤ whole_limit * length Γ

-- What the declarations of a text keep to: each has its name in the text, and "an address of its own, in text order, never shared with
-- another: the next multiple of its whole size".
pub record Ordered (text : List ℕ) (Γ : Declarations) : Type 0 where
  pub laid : Laid Γ
  pub named : (x : ℕ) → x < length Γ → Spelled text (declared Γ x).place (declared Γ x).name
  pub next : (x : ℕ) → x < length Γ → (declared Γ x).address ≡ next_multiple (end_before Γ x) (whole (declared Γ x).kind (declared Γ x).lanes)

-- The declarations at the end of a scope that began after n of them.
abbrev pub closing : ℕ → Declarations → Declarations
closing n Γ = take n Γ ++ map shut (drop n Γ)

-- The same declarations, their scopes perhaps closed.
pub data Alike : Declarations → Declarations → Type 0 where
  none_yet : Alike [] []
  both_more : {d e : Declared} {Γ Δ : Declarations} → shut e ≡ shut d → Alike Γ Δ → Alike (d ∷ Γ) (e ∷ Δ)

-- More declarations: those that were there have their kinds and lengths.
pub record Grows (Γ Δ : Declarations) : Type 0 where
  pub longer : length Γ ≤ length Δ
  pub kinds : (x : ℕ) → x < length Γ → (declared Δ x).kind ≡ (declared Γ x).kind
  pub lanes : (x : ℕ) → x < length Γ → (declared Δ x).lanes ≡ (declared Γ x).lanes
