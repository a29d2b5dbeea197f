-- Document 01, "Codes": the refusals with their numbers, the limits, and how "the first refusal met ends the reading".
use Rattle.std.specs.Prelude.{ℕ, zero, suc, Bool, true, false, not, ◌||◌, List, [], ◌∷◌, eqb}
use Rattle.std.proofs.Math.Option.{Option, none, some}
use Rattle.meaning.specs.declared.Refusal.{Refusal}
use Rattle.meaning.specs.declared.Refusal.TheVariants.{TextTooLong, BadBytes, NotAllowed, TooDeep, UnknownName, AlreadyOpen, LengthNotListed, WrongKind, WrongLength, LengthOneTarget, TooManyDeclarations, MemoryTooShort, BudgetSpent}

-- The column "code" of the table, for each row of "given when".
abbrev pub code : Refusal → ℕ
code TextTooLong = 1
code BadBytes = 2
code NotAllowed = 3
code TooDeep = 4
code UnknownName = 5
code AlreadyOpen = 6
code LengthNotListed = 7
code WrongKind = 8
code WrongLength = 9
code LengthOneTarget = 10
code TooManyDeclarations = 11
code MemoryTooShort = 12
code BudgetSpent = 13

-- The text: "At most 4,096 bytes."
abbrev pub text_limit : ℕ
text_limit = 4096

-- A name: "at most 31 bytes".
abbrev pub name_limit : ℕ
name_limit = 31

-- A number: "0 to 2147483647".
abbrev pub number_limit : ℕ
number_limit = 2147483647

-- A float constant's whole number: "up to 16777216".
abbrev pub float_limit : ℕ
float_limit = 16777216

-- Nesting: "The limit is 32."
abbrev pub nesting_limit : ℕ
nesting_limit = 32

-- The "65th declaration" is refused.
abbrev pub declaration_limit : ℕ
declaration_limit = 64

-- "N is 1, 2, 4, 8 or 16", and document 02, R-9: "Allow N of 32 and 64."
unfoldable pub lengths : List ℕ
lengths = 1 ∷ 2 ∷ 4 ∷ 8 ∷ 16 ∷ 32 ∷ 64 ∷ []

-- The refusals of a run that are not the judge's: "Judge gives 0 to 11".
unfoldable pub only_a_run_gives : List ℕ
only_a_run_gives = code MemoryTooShort ∷ code BudgetSpent ∷ []

-- What one act of reading or typing ends in: a value and the state after it, or a refusal and its place.
pub data Out (S A : Type 0) : Type 0 where
  ok : A → S → Out S A
  refused : Refusal → ℕ → Out S A

-- An act, from the state before it.
abbrev pub Doing : Type 0 → Type 0 → Type 0
Doing S A = S → Out S A

-- The next act, or "the first refusal met".
abbrev pub after : {S A B : Type 0} → Out S A → (A → Doing S B) → Out S B
after (ok a s) f = f a s
after (refused c p) f = refused c p

infixl 20 ◌>>=◌ ◌>>◌
-- One act after another: the lines of a block that begins with `do`.
abbrev pub ◌>>=◌ : {S A B : Type 0} → Doing S A → (A → Doing S B) → Doing S B
◌>>=◌ m f s = after (m s) f

-- The same, where the first act's value is not used.
abbrev pub ◌>>◌ : {S A B : Type 0} → Doing S A → Doing S B → Doing S B
◌>>◌ m k = m >>= λ _. k

-- To end with a value.
abbrev pub give : {S A : Type 0} → A → Doing S A
give a s = ok a s

-- To end with a refusal at a place.
abbrev pub refuse : {S A : Type 0} → Refusal → ℕ → Doing S A
refuse c p s = refused c p

-- To go on where a test holds, and refuse otherwise.
abbrev pub check : {S : Type 0} → Bool → Refusal → ℕ → Doing S (Unit {0})
check true c p = give tt
check false c p = refuse c p

infix 5 when◌then◌else◌
-- A choice; what is not chosen is not computed.
abbrev pub when◌then◌else◌ : {A : Type 0} → Bool → (Unit {0} → A) → (Unit {0} → A) → A
when true then a else b = a tt
when false then a else b = b tt

-- b where there is nothing, and otherwise what f makes of it.
abbrev pub option : {A B : Type 0} → B → (A → B) → Option A → B
option b f none = b
option b f (some a) = f a

-- What stands beside the first key that passes a test.
abbrev pub lookup : {K A : Type 0} → (K → Bool) → List (K × A) → Option A
lookup p [] = none
lookup p (e ∷ l) = when p e.0 then (λ _. some e.1) else λ _. lookup p l

infix 40 ◌among◌
-- Is n in the list?
abbrev pub ◌among◌ : ℕ → List ℕ → Bool
◌among◌ n [] = false
◌among◌ n (m ∷ l) = eqb n m || n among l

-- Turn after turn from a, as long as a turn makes something of it; at most k turns.
abbrev pub repeat : {S A : Type 0} → ℕ → (A → Doing S (Option A)) → A → Doing S A
repeat zero turn a = give a
repeat (suc k) turn a = turn a >>= option (give a) (λ a'. repeat k turn a')

-- Is a code one that the judge gives?
unfoldable pub the_judge_gives : ℕ → Bool
the_judge_gives c = not (c among only_a_run_gives)
