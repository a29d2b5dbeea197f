-- Where the variables of a typed text lie (document 01, "Memory").
use Rattle.std.specs.Prelude.{ℕ, ◌+◌, ◌*◌, ◌≤◌, ◌≡◌, Bool, List, [], ◌∷◌, ◌++◌}
use Rattle.meaning.specs.declared.Kind.{Kind}
use Rattle.meaning.specs.Tree.{Name, Stmts}
use Rattle.meaning.specs.Memory.{Declared, Declarations, whole}
use Rattle.meaning.specs.Typing.{lanes_or}
use Rattle.rules.specs.Typing.{Names, t_skip, t_scope, t_decl, t_init, t_assign, t_broadcast, t_if, t_while, t_scalar, ◌∣◌⊢*◌⊣◌, t_none, t_sequence}

-- What typing says of a variable: its name and the name's place, its kind and its length.
pub record Variable : Type 0 where
  pub name : Name
  pub place : ℕ
  pub kind : Kind
  pub lanes : ℕ

-- The variables of typed statements: "Every declaration in the text .. in text order", whether it is open or not. "`t x;` without
-- `block` has length 1; `t x = e;` without `block` takes the length of e."
unfoldable pub variables_of : {Γ Γ' : Names} {C : ℕ} {l : Stmts} → Γ ∣ C ⊢* l ⊣ Γ' → List Variable
variables_of d = elim d as (λ Γ C s Γ' d. List Variable) (λ Γ C l Γ' d. List Variable) [
  | t_skip ↦ []
  | t_scope (l → v) ↦ v
  | t_decl {q = q} {k = k} {b = b} {x = x} g m e ↦ record { name = x; place = q; kind = k; lanes = lanes_or 1 b } ∷ []
  | t_init {q = q} {l = l} {k = k} {b = b} {x = x} g d f t e ↦ record { name = x; place = q; kind = k; lanes = lanes_or l b } ∷ []
  | t_assign h d t ↦ []
  | t_broadcast h d t ↦ []
  | t_if d m (s → v) (t → w) ↦ v ++ w
  | t_while d m (s → v) ↦ v
  | t_scalar (s → v) ↦ v
  | t_none ↦ []
  | t_sequence (l → v) (s → w) ↦ v ++ w
]

-- "the next multiple of its whole size": a is a multiple of the size, at the end so far or behind it, and no other one there is below a.
pub record Next (end size a : ℕ) : Type 0 where
  pub times : ℕ
  pub multiple : a ≡ times * size
  pub behind : end ≤ a
  pub least : (i : ℕ) → end ≤ i * size → a ≤ i * size

-- The declaration of a variable, at an address. Whether its scope is open no rule asks.
abbrev pub lying : Variable → ℕ → Bool → Declared
lying v a o = record { name = v.name; place = v.place; kind = v.kind; lanes = v.lanes; address = a; open? = o }

-- The bytes that a variable takes: "its whole size".
abbrev pub bytes : Variable → ℕ
bytes v = whole v.kind v.lanes

-- Lays end l Γ N: behind the end so far, the variables l have the table Γ and end at N. "Every declaration in the text has an address
-- of its own, in text order, never shared with another: the next multiple of its whole size. Need is the end of the last one".
pub data Lays : ℕ → List Variable → Declarations → ℕ → Type 0 where
  lay_none : {end : ℕ} → Lays end [] [] end
  lay_next : {end a N : ℕ} {v : Variable} {o : Bool} {l : List Variable} {Γ : Declarations} →
      Next end (bytes v) a →
      Lays (a + bytes v) l Γ N →
      -------------------------------------
      Lays end (v ∷ l) (lying v a o ∷ Γ) N
