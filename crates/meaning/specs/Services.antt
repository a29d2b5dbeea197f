-- Document 01, "What is built": judge and run, from bytes to numbers and bytes. Beside them the listing of variables and run_each, which is
-- quoted from its request (docs/DECISIONS.md, points 8 and 14).
use Rattle.std.specs.Prelude.{ℕ, zero, suc, ◌*◌, ◌-◌, ◌/◌, min, ◌≡◌, true, List, [], ◌∷◌, ◌++◌, leb, length, take, drop}
use Rattle.meaning.specs.declared.Refusal.TheVariants.{MemoryTooShort}
use Rattle.meaning.specs.Codes.{code, Out, ok, refused, when◌then◌else◌}
use Rattle.meaning.specs.Tokens.{lexed}
use Rattle.meaning.specs.Tree.{kind_number}
use Rattle.meaning.specs.Reading.{read}
use Rattle.meaning.specs.Program.{Code, Program}
use Rattle.meaning.specs.Typing.{typed_program}
use Rattle.meaning.specs.Memory.{Memory, Value, Mask, Declarations, little_endian, need, fetch, update}
use Rattle.meaning.specs.Running as R
use Rattle.meaning.specs.Running.{Ran, stopped, done, Run, Event, passes, stores, value}

-- "Each answers four numbers: code, place (a byte offset in the text), need (bytes of memory), steps."
pub record Answer : Type 0 where
  pub code : ℕ
  pub place : ℕ
  pub need : ℕ
  pub steps : ℕ

-- The four numbers in a row.
unfoldable pub answer : ℕ → ℕ → ℕ → ℕ → Answer
answer c p n s = record { code = c; place = p; need = n; steps = s }

-- One pass after another, or the first refusal.
unfoldable pub pass : {S T A B : Type 0} → Out S A → (A → Out T B) → Out T B
pass (ok a s) k = k a
pass (refused c p) k = refused c p

-- "Order: 1; then 2 over the whole text; then 3 and 4; then 5 to 11 in text order"
unfoldable pub judged : List ℕ → Out Declarations Program
unfolding pass lexed read typed_program
judged text = pass (lexed text) (λ ts. pass (read ts) typed_program)

-- "Code 0: need given"; "Codes 1 to 11: need and steps 0." The fourth number of an accepted text is what s makes of its
-- declarations.
unfoldable pub verdict : (Declarations → ℕ) → Out Declarations Program → Answer
verdict s (ok P Γ) = answer 0 0 (need Γ) (s Γ)
verdict s (refused c p) = answer (code c) p 0 0

-- "Judge takes a program text and gives a verdict." "Judge gives 0 to 11, always with steps 0."
unfoldable pub judge : List ℕ → Answer
unfolding judged verdict answer need
judge text = verdict (λ Γ. 0) (judged text)

-- An expression's value, over bytes.
unfoldable pub evaluate : Declarations → Memory → Code → Mask → Value
evaluate Γ M e m = value e m (fetch Γ M)

-- The memory after a step.
unfoldable pub effect : Declarations → Memory → Event → Memory
effect Γ M (passes p) = M
effect Γ M (stores p x m v) = update Γ M x m v

-- "Code 13: need given, steps equal to the budget, memory as after exactly those steps. Code 0: need given, steps as taken."
unfoldable pub ended : ℕ → ℕ → Ran Memory → Answer × Memory
ended n budget (stopped c p M left) = (answer (code c) p n (budget - left), M)
ended n budget (done M left) = (answer 0 0 n (budget - left), M)

-- The run of a typed program over bytes.
abbrev pub program_run : Declarations → Program → Run Memory
program_run Γ P = R.run (evaluate Γ) (effect Γ) P

-- "Code 12: need given, steps 0. In all of these the memory keeps every byte." "The mask starts as one true lane." `by` runs an
-- accepted program.
unfoldable pub executed : (Declarations → Program → Run Memory) → Memory → ℕ → Out Declarations Program → Answer × Memory
executed by M budget (refused c p) = (answer (code c) p 0 0, M)
executed by M budget (ok P Γ) =
    when leb (need Γ) (length M)
    then (λ _. ended (need Γ) budget (by Γ P (true ∷ []) budget M))
    else λ _. (answer (code MemoryTooShort) 0 (need Γ) 0, M)

-- "Run takes a text, a lent byte memory and a budget .., judges the text itself, then executes over that memory."
unfoldable pub run : List ℕ → Memory → ℕ → Answer × Memory
unfolding judged executed ended answer need evaluate effect value fetch update R.run
run text M budget = executed program_run M budget (judged text)

-- Numbers in a row, each as a "32-bit little-endian" number.
unfoldable pub in_a_row : List ℕ → List ℕ
in_a_row [] = []
in_a_row (n ∷ l) = little_endian 4 n ++ in_a_row l

-- Where the variables lie, for the collector: a table with a record of 16 bytes for a declaration, the place of its name, its kind,
-- length and address; as many as fit whole. Its other bytes stay.
unfoldable pub listed : Declarations → List ℕ → List ℕ
listed [] l = l
listed (d ∷ Γ) l =
    when leb 16 (length l)
    then (λ _. in_a_row (d.place ∷ kind_number d.kind ∷ d.lanes ∷ d.address ∷ []) ++ listed Γ (drop 16 l))
    else λ _. l

-- The table after the listing of a text: of a refused text it stays.
unfoldable pub table_of : Out Declarations Program → List ℕ → List ℕ
table_of (ok P Γ) l = listed Γ l
table_of (refused c p) l = l

-- The listing: code, place and need as the judge's, the number of declarations, and the table.
unfoldable pub variables : List ℕ → List ℕ → Answer × List ℕ
variables text table = (verdict length (judged text), table_of (judged text) table)

-- What a call leaves: what it returns, the answer slice, and what it was lent besides.
pub record Called (A : Type 0) : Type 0 where
  pub returns : ℕ
  pub slice : List ℕ
  pub lent : A

-- The numbers of an answer, in the order in which they are written.
unfoldable pub numbers : Answer → List ℕ
numbers a = a.code ∷ a.place ∷ a.need ∷ a.steps ∷ []

-- A slice with numbers written into its first bytes: "bytes after the 16th stay".
unfoldable pub with_numbers : List ℕ → List ℕ → List ℕ
with_numbers l slice = in_a_row l ++ drop (4 * length l) slice

-- "code, place, need, steps are written as four 32-bit little-endian numbers .. The call then returns 1. A shorter answer slice
-- returns 0 and nothing else happens."
unfoldable pub called : {A : Type 0} → List ℕ → A → List ℕ × A → Called A
called slice lent (l, after) =
    when leb (4 * length l) (length slice)
    then (λ _. record { returns = 1; slice = with_numbers l slice; lent = after })
    else λ _. record { returns = 0; slice = slice; lent = lent }

-- The three services of one text and one memory as they are called.
unfoldable pub judge_call : List ℕ → List ℕ → Called (Unit {0})
judge_call text slice = called slice tt (numbers (judge text), tt)

unfoldable pub run_call : List ℕ → Memory → ℕ → List ℕ → Called Memory
run_call text M budget slice = let o = run text M budget in called slice M (numbers o.0, o.1)

unfoldable pub variables_call : List ℕ → List ℕ → List ℕ → Called (List ℕ)
variables_call text table slice = let o = variables text table in called slice table (numbers o.0, o.1)

-- "It lends a slice for the answer: at least 16 bytes".
abbrev pub answer_bytes : ℕ
answer_bytes = 16

-- "as many images as stand whole in `images` and in `answers` (none where size is 0)"
unfoldable pub how_many : ℕ → List ℕ → List ℕ → ℕ
how_many size images answers = when leb 1 size then (λ _. min (length images / size) (length answers / answer_bytes)) else λ _. 0

-- "Image k is the bytes from k·size to (k+1)·size, its answer the 16 bytes at 16·k": the first n images and answers as `by` leaves
-- them; "every other byte stays".
unfoldable pub each : (Memory → Answer × Memory) → ℕ → ℕ → List ℕ → List ℕ → List ℕ × List ℕ
each by size zero images answers = (images, answers)
each by size (suc n) images answers =
    let o = by (take size images) in
    let rest = each by size n (drop size images) (drop answer_bytes answers) in
    (o.1 ++ rest.0, in_a_row (numbers o.0) ++ rest.1)

-- "Judged once, run on many": it "answers how many, and leaves image k and answer k exactly as `run` would".
unfoldable pub run_each_call : List ℕ → List ℕ → ℕ → ℕ → List ℕ → Called (List ℕ)
run_each_call text images size budget answers =
    let n = how_many size images answers in
    let o = each (λ M. run text M budget) size n images answers in
    record { returns = n; slice = o.1; lent = o.0 }

-- A call kept its promise: what it returned, the answer slice and what was lent are the definition's.
pub record Kept {A : Type 0} (by : Called A) (returned : ℕ) (slice : List ℕ) (lent : A) : Type 0 where
  pub returns : returned ≡ by.returns
  pub slice_is : slice ≡ by.slice
  pub lent_is : lent ≡ by.lent
