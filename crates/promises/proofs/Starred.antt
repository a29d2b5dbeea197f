-- Document 01's starred cases, the errors that come easily and document 02's cases, as theorems about the services themselves.
use Prim.Native.Nat.{ℕ}
use mathlib.Core.Path.{◌≡◌, ap}
use mathlib.Core.List.{List, [], ◌∷◌, map}
use Rattle.meaning.specs.Tokens.{bytes}
use Rattle.meaning.specs.Services.{answer, judge, run, judge_call, Kept}
use Rattle.meaning.specs.Table.{Row, judged_as, found, expected, starred}
use Rattle.meaning.specs.Errors.{errors}
use Rattle.meaning.specs.Requests.{floats, near_words, long_blocks, declarations}
use Rattle.meaning.proofs.Table.{checked_by_hand}
use Rattle.meaning.proofs.Errors.{none_is_made}
use Rattle.meaning.proofs.Requests.{floats_hold, near_words_hold, long_blocks_hold, largest_need}
use Rattle.laws.specs.Values.{All, no_more, and_one}
use Rattle.promises.specs.Promise.{Delivers}
use Rattle.promises.specs.Starred.{Serves}
use Rattle.promises.proofs.Demands.{judge_delivers, run_delivers}

-- A row that run and judge answer as expected, the services answer so; and so do they every row of a table.
serves : (r : Row) → found r ≡ expected r → Serves r
unfolding found expected
serves r e =
    let ran : run (bytes r.text) r.memory r.budget ≡ (r.gives, r.leaves) = ap (λ t. t.0) e in
    let told : judge (bytes r.text) ≡ judged_as r.gives = ap (λ t. t.1) e in
    record {
      runs = λ slice {returned} {slice'} {M'} kept. rw ran at (run_delivers (bytes r.text) r.memory r.budget slice kept);
      judges = λ slice {returned} {slice'} kept. rw told at (judge_delivers (bytes r.text) slice kept);
    }

all_serve : (l : List Row) → map found l ≡ map expected l → All Serves l
all_serve [] e = no_more
all_serve (r ∷ l) e = and_one (serves r (cc)) (all_serve l (cc))

-- "The starred cases form one table under a single theorem": every result that keeps the services' promises has the table's
-- numbers and bytes. Rows that are accepted, rows with different codes, rows that leave another memory and rows of several
-- statements rule out the services that demand 2 names.
pub starred_served : All Serves starred
starred_served = all_serve starred checked_by_hand

-- And every one of them keeps clear of the errors that come easily.
pub errors_served : All Serves errors
errors_served = all_serve errors none_is_made

-- So do they with document 02's cases: of R-2, "Single floats", of R-4, "Reserved words in view", and of R-9, "Longer blocks".
pub floats_served : All Serves floats
floats_served = all_serve floats floats_hold

pub near_words_served : All Serves near_words
near_words_served = all_serve near_words near_words_hold

pub long_blocks_served : All Serves long_blocks
long_blocks_served = all_serve long_blocks long_blocks_hold

-- And the largest need is told: the text of 64 declarations of 64 ints.
pub largest_served : (slice : List ℕ) {returned : ℕ} {slice' : List ℕ} → Kept (judge_call (declarations 64) slice) returned slice' tt
    → Delivers {A = Unit {0}} slice tt (answer 0 0 16384 0) tt returned slice' tt
largest_served slice kept = rw largest_need at (judge_delivers (declarations 64) slice kept)
