-- What typing makes sure of in a program: lengths match, and every operator and every target has the kinds that it takes.
use Rattle.std.specs.Prelude.{ℕ, ◌^◌, ◌≤◌, ◌<◌, ◌≡◌, Bool, true, length}
use Rattle.meaning.specs.declared.Kind.{Kind}
use Rattle.meaning.specs.declared.Kind.TheVariants.{Int as int, Bool as bool, Float as float}
use Rattle.meaning.specs.declared.Unary.{Unary}
use Rattle.meaning.specs.declared.Binary.{Binary}
use Rattle.meaning.specs.Codes.{number_limit}
use Rattle.meaning.specs.Tree.{◌one_of◌, table, unary_table}
use Rattle.meaning.specs.Program.{Code, constant, variable, the_mask, one, two, Program, nothing, step, put, both, choice, cycle, alone}
use Rattle.meaning.specs.Memory.{Declarations, declared, bit}
use Rattle.meaning.specs.Typing.{gives_kind, joined, width}

-- "its length or 1 (001, broadcast)": n lanes can be spread over w.
pub data Spreadable (w n : ℕ) : Type 0 where
  single : n ≡ 1 → Spreadable w n
  full : n ≡ w → Spreadable w n

-- "equal lengths or one of length 1" (001: the type match)
pub data Match (n m : ℕ) : Type 0 where
  equal : n ≡ m → Match n m
  left : n ≡ 1 → Match n m
  right : m ≡ 1 → Match n m

-- "must have length 1 or C, unless C is 1"
pub data Suits (C n : ℕ) : Type 0 where
  one_lane : n ≡ 1 → Suits C n
  same : n ≡ C → Suits C n
  anywhere : C ≡ 1 → Suits C n

-- In a context of C lanes, the lengths of an expression match.
pub data Matched (Γ : Declarations) (C : ℕ) : Code → Type 0 where
  matched_constant : {n : ℕ} → Matched Γ C (constant n)
  matched_variable : {x : ℕ} → x < length Γ → Suits C (declared Γ x).lanes → Matched Γ C (variable x)
  matched_mask : Matched Γ C the_mask
  matched_one : {p : ℕ} {k : Kind} {o : Unary} {a : Code} → Matched Γ C a → Matched Γ C (one p k o a)
  matched_two : {p : ℕ} {k : Kind} {o : Binary} {a b : Code} → Matched Γ C a → Matched Γ C b → Match (width Γ C a) (width Γ C b) → Matched Γ C (two p k o a b)

-- An expression of kind k: each operator takes the kind of its operands, which stands beside it.
pub data Kinded (Γ : Declarations) : Kind → Code → Type 0 where
  kinded_number : {n : ℕ} → n ≤ number_limit → Kinded Γ int (constant n)
  kinded_float : {n : ℕ} → n < 2 ^ 32 → Kinded Γ float (constant n)
  kinded_truth : (b : Bool) → Kinded Γ bool (constant (bit b))
  kinded_variable : {x : ℕ} → x < length Γ → Kinded Γ (declared Γ x).kind (variable x)
  kinded_mask : Kinded Γ bool the_mask
  kinded_one : {p : ℕ} {k : Kind} {o : Unary} {a : Code} → k one_of (unary_table o).1 ≡ true → Kinded Γ k a → Kinded Γ k (one p k o a)
  kinded_two : {p : ℕ} {k : Kind} {o : Binary} {a b : Code} → k one_of (table o).1 ≡ true → Kinded Γ k a → Kinded Γ k b → Kinded Γ (gives_kind (table o).2 k) (two p k o a b)

-- An expression of kind k in a context of C lanes.
pub record TypedAs (Γ : Declarations) (C : ℕ) (k : Kind) (e : Code) : Type 0 where
  pub kinded : Kinded Γ k e
  pub matched : Matched Γ C e

-- A program that runs in a context of C lanes: a value has its target's kind, value and mask spread over the target's lanes, and a
-- condition is a bool. "Its branches or body have context length C if the condition's length is 1, otherwise the condition's length."
pub data Fits (Γ : Declarations) : ℕ → Program → Type 0 where
  fits_nothing : {C : ℕ} → Fits Γ C nothing
  fits_step : {C p : ℕ} → Fits Γ C (step p)
  fits_put : {C p x : ℕ} {e : Code} → x < length Γ → TypedAs Γ C (declared Γ x).kind e
      → Spreadable (declared Γ x).lanes C → Spreadable (declared Γ x).lanes (width Γ C e) → Fits Γ C (put p x e)
  fits_both : {C : ℕ} {s t : Program} → Fits Γ C s → Fits Γ C t → Fits Γ C (both s t)
  fits_choice : {C p : ℕ} {e : Code} {s t : Program} → TypedAs Γ C bool e → Fits Γ (joined (width Γ C e) C) s → Fits Γ (joined (width Γ C e) C) t → Fits Γ C (choice p e s t)
  fits_cycle : {C p : ℕ} {e : Code} {s : Program} → TypedAs Γ C bool e → Fits Γ (joined (width Γ C e) C) s → Fits Γ C (cycle p e s)
  fits_alone : {C : ℕ} {s : Program} → Fits Γ 1 s → Fits Γ C (alone s)
