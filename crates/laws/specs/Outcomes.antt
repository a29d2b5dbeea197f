-- What is said of the outcome of an act: one thing of its value, another of its refusal.
use Rattle.std.specs.Prelude.{ℕ, ◌≤◌, ◌≡◌, true, List, length}
use Rattle.meaning.specs.declared.Refusal.{Refusal}
use Rattle.meaning.specs.Codes.{code, Out, ok, refused, the_judge_gives}

-- P of the value and the state after it, or R of the refusal and its place.
pub data Ends {S A : Type 0} (P : A → S → Type 0) (R : Refusal → ℕ → Type 0) : Out S A → Type 0 where
  well : {a : A} {s : S} → P a s → Ends P R (ok a s)
  refusal : {c : Refusal} {p : ℕ} → R c p → Ends P R (refused c p)

-- If it is not refused, it ends in what P says.
abbrev pub Yields : {S A : Type 0} → (A → S → Type 0) → Out S A → Type 0
Yields P o = Ends P (λ c p. Unit {0}) o

-- It is not refused, and ends in what P says.
abbrev pub Succeeds : {S A : Type 0} → (A → S → Type 0) → Out S A → Type 0
Succeeds P o = Ends P (λ c p. ⊥) o

-- It keeps the state s, and its value has P.
abbrev pub Still : {S A : Type 0} → S → (A → Type 0) → A → S → Type 0
Still s P a s' = (s' ≡ s) × P a

-- "Judge gives 0 to 11", and "place (a byte offset in the text)": a refusal of the text, at a place in it or at its end.
pub record RefusedIn (text : List ℕ) (c : Refusal) (p : ℕ) : Type 0 where
  pub judges : the_judge_gives (code c) ≡ true
  pub near : p ≤ length text

-- Two acts side by side: what the second ends in, where the first ended in a and s and Q relates them.
pub record Gave {S A S' A' : Type 0} (Q : A → S → A' → S' → Type 0) (o : Out S' A') (a : A) (s : S) : Type 0 where
  pub value : A'
  pub state : S'
  pub is : o ≡ ok value state
  pub so : Q a s value state

-- Where the first ends with a value, so does the second, and Q relates them.
abbrev pub Beside : {S A S' A' : Type 0} → (A → S → A' → S' → Type 0) → Out S A → Out S' A' → Type 0
Beside Q o o' = Yields (Gave Q o') o
