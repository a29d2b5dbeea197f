-- What the lanes of a value keep to, by its kind.
use Rattle.std.specs.Prelude.{ℕ, ◌^◌, ◌<◌, List, [], ◌∷◌}
use Rattle.meaning.specs.declared.Kind.{Kind}
use Rattle.meaning.specs.declared.Kind.TheVariants.{Int as int, Bool as bool, Float as float}
use Rattle.meaning.specs.Program.{Code, Program, nothing, step, put, both, choice, cycle, alone}
use Rattle.meaning.specs.Memory.{Value, Memory, Declarations, declared}

-- P of each element of a list.
pub data All {A : Type 0} (P : A → Type 0) : List A → Type 0 where
  no_more : All P []
  and_one : {x : A} {l : List A} → P x → All P l → All P (x ∷ l)

-- How many bits a lane of a kind has.
unfoldable pub lane_bits : Kind → ℕ
lane_bits int = 32
lane_bits bool = 1
lane_bits float = 32

-- The lanes of a value of kind k: "each is a word below 2^32, 0 or 1 for a bool, the pattern of a float".
abbrev pub Lanes : Kind → Value → Type 0
Lanes k v = All (λ x. x < 2 ^ lane_bits k) v

-- A memory of bytes.
abbrev pub Bytes : Memory → Type 0
Bytes M = All (λ b. b < 256) M

-- Q of every expression of a program, with the kind that typing gives it: its target's, or bool for a condition.
pub data Every (Q : Kind → Code → Type 0) (Γ : Declarations) : Program → Type 0 where
  every_nothing : Every Q Γ nothing
  every_step : {p : ℕ} → Every Q Γ (step p)
  every_put : {p x : ℕ} {e : Code} → Q (declared Γ x).kind e → Every Q Γ (put p x e)
  every_both : {s t : Program} → Every Q Γ s → Every Q Γ t → Every Q Γ (both s t)
  every_choice : {p : ℕ} {e : Code} {s t : Program} → Q bool e → Every Q Γ s → Every Q Γ t → Every Q Γ (choice p e s t)
  every_cycle : {p : ℕ} {e : Code} {s : Program} → Q bool e → Every Q Γ s → Every Q Γ (cycle p e s)
  every_alone : {s : Program} → Every Q Γ s → Every Q Γ (alone s)
