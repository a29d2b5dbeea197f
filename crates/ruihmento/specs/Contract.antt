-- What the services work in, and what they leave.
use Rattle.std.specs.Prelude.{ℕ, ◌+◌, ◌*◌, ◌≤◌, min, ◌≡◌, List, [], ◌∷◌, length}
use Rattle.meaning.specs.Codes.{code, ok, text_limit, nesting_limit}
use Rattle.meaning.specs.Program.{Program}
use Rattle.meaning.specs.Memory.{Memory, Declarations, need}
use Rattle.meaning.specs.Services.{Answer, answer, numbers, with_numbers, program_run, executed, run, answer_bytes, each}
use Rattle.layout.specs.declared.Refused.{Refused}
use Rattle.layout.specs.Tokens.{token_words}
use Rattle.layout.specs.Stage.{Stage}
use Rattle.layout.specs.Sizes.{token_room, tree_room, tree_limit}
use Rattle.layout.specs.Instructions.{chunk_lanes}
use Rattle.laws.specs.Near.{NearProgram}
use Rattle.numbers.specs.Sizes.{four_bytes}
use Rattle.judge.specs.Contract.{JudgesText}
use Rattle.instructions.specs.Plan.{Runs}
use Rattle.ruihmento.specs.declared.Batch.{Batch}
use Rattle.ruihmento.specs.Waiting.{waiting}

-- Buffers of so many words have room for the tree of a text, as far as a text may go, and for its tokens, which become its program.
pub record TextRoom (text : List ℕ) (tree code : ℕ) : Type 0 where
  pub tokens_fit : token_room (min (length text) text_limit) ≤ code
  pub tree_fits : tree_room (min (length text) text_limit) ≤ tree
  pub few : tree ≤ tree_limit
  pub code_room : tree ≤ code

-- A text that is to be run has room for its tokens and its program, and for its plan, of at most two words for each of its program; its
-- tree, which has no word for the text's end, stands where the plan will.
pub record RunningRoom (text : List ℕ) (code planned : ℕ) : Type 0 where
  pub tokens_fit : token_room (min (length text) text_limit) ≤ code
  pub tree_fits : tree_room (min (length text) text_limit) + token_words ≤ code
  pub few : code ≤ tree_limit + token_words
  pub plan_room : 2 * code ≤ planned

-- A text was judged as the definition says; of an accepted one, the table is as a run wants it, and so were the words of its program.
abbrev pub JudgesTable : List ℕ → List ℕ → Stage → Type 0
JudgesTable text table r = (code : List ℕ) × JudgesText text table code r

-- An answer slice with the numbers of a refusal: "Codes 1 to 11: need and steps 0."
unfoldable pub with_refusal : Refused → List ℕ → List ℕ
with_refusal why slice = with_numbers (code why.refusal ∷ why.place ∷ 0 ∷ 0 ∷ []) slice

-- They can be told: the slice has room, and the place is a number of 32 bits.
pub record Tellable (why : Refused) (slice : List ℕ) : Type 0 where
  pub room : four_bytes ≤ length slice
  pub low : why.place ≤ text_limit

-- The answer stands in the answer slice, and what was lent is as the definition leaves it.
pub record Leaves {A : Type 0} (o : Answer × A) (slice written : List ℕ) (after : A) : Type 0 where
  pub written_is : written ≡ with_numbers (numbers o.0) slice
  pub after_is : after ≡ o.1

-- ---- one program
-- The code is the plan of the accepted program P over the declarations Γ, which need m bytes: with as many, and with so many words of
-- registers, it can run. Its places are those of a text.
pub record Prepared (code : List ℕ) (registers m : ℕ) (Γ : Declarations) (P : Program) : Type 0 where
  pub needs : m ≡ need Γ
  pub runs : (bytes : ℕ) → need Γ ≤ bytes → Runs code bytes registers nesting_limit 1 Γ P
  pub places : NearProgram text_limit P

-- It is that of some program.
abbrev pub SomePrepared : List ℕ → ℕ → ℕ → Type 0
SomePrepared code registers m = (Γ : Declarations) × (P : Program) × Prepared code registers m Γ P

-- Whichever it is, it was executed over the memory as the definition says, and its answer told.
abbrev pub Performs : List ℕ → ℕ → ℕ → ℕ → Memory × List ℕ → Memory × List ℕ → Type 0
Performs code registers m budget lent left =
    (Γ : Declarations) (P : Program) → Prepared code registers m Γ P → Leaves (executed program_run lent.0 budget (ok P Γ)) lent.1 left.1 left.0

-- The code is the plan of a program of so many words: with registers for the values that may wait in them, it can run.
pub record Planned (words : ℕ) (code : List ℕ) (m : ℕ) (Γ : Declarations) (P : Program) : Type 0 where
  pub prepared : (registers : ℕ) → waiting words * chunk_lanes ≤ registers → Prepared code registers m Γ P

abbrev pub SomePlanned : ℕ → List ℕ → ℕ → Type 0
SomePlanned words code m = (Γ : Declarations) × (P : Program) × Planned words code m Γ P

-- ---- images
-- So many images of a size, and their answers, stand whole in what is lent.
pub record ImagesRoom (size count : ℕ) (images answers : List ℕ) : Type 0 where
  pub images_fit : count * size ≤ length images
  pub answers_fit : count * answer_bytes ≤ length answers

-- They are as `by` leaves them, and every other byte is as it was.
pub record LeavesEach (by : Memory → Answer × Memory) (size count : ℕ) (images answers images' answers' : List ℕ) : Type 0 where
  pub images_are : images' ≡ (each by size count images answers).0
  pub answers_are : answers' ≡ (each by size count images answers).1

-- The same of a batch: `by` has the whole budget for each image. What is lent and what is left are images and answers.
abbrev pub LeavesBatch : (Memory → ℕ → Answer × Memory) → Batch → List ℕ × List ℕ → List ℕ × List ℕ → Type 0
LeavesBatch by batch lent left = LeavesEach (λ M. by M batch.budget) batch.size batch.count lent.0 lent.1 left.0 left.1

-- A text was run over each image.
abbrev pub RunsEach : List ℕ → Batch → List ℕ × List ℕ → List ℕ × List ℕ → Type 0
RunsEach text batch lent left = LeavesBatch (λ M budget. run text M budget) batch lent left

-- A program was executed over each image, and each answer told.
abbrev pub PerformsEach : List ℕ → ℕ → ℕ → Batch → List ℕ × List ℕ → List ℕ × List ℕ → Type 0
PerformsEach code registers m batch lent left =
    (Γ : Declarations) (P : Program) → Prepared code registers m Γ P → LeavesBatch (λ M budget. executed program_run M budget (ok P Γ)) batch lent left

abbrev pub PerformsPlanned : ℕ → List ℕ → ℕ → Batch → List ℕ × List ℕ → List ℕ × List ℕ → Type 0
PerformsPlanned words code m batch lent left =
    (Γ : Declarations) (P : Program) → Planned words code m Γ P → LeavesBatch (λ M budget. executed program_run M budget (ok P Γ)) batch lent left

-- A refusal can be told of so many images.
pub record Refusable (why : Refused) (count : ℕ) (answers : List ℕ) : Type 0 where
  pub room : count * answer_bytes ≤ length answers
  pub low : why.place ≤ text_limit

-- One refusal was told of all images, whatever they are and whatever their size: each keeps its bytes.
abbrev pub RefusesEach : Refused → ℕ → List ℕ → List ℕ → Type 0
RefusesEach why count answers answers' =
    (size : ℕ) (images : List ℕ) → ImagesRoom size count images answers
    → LeavesEach (λ M. (answer (code why.refusal) why.place 0 0, M)) size count images answers images answers'
