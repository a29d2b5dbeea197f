-- What is shown of a call of `ruihmento_run` is what is shown of the run, and a page has room for it. Assumes nothing.
use Prim.Native.Nat.{ℕ, ◌/◌, ◌≤◌}
use mathlib.Core.Path.{◌≡◌, refl, ap, ◌∙◌}
use mathlib.Core.List.{List}
use native.Mathlib.Omega.{arith}
use lib.ListN.{length, length-take}
use Rattle.meaning.specs.Memory.{Memory}
use Rattle.meaning.specs.Services.{Answer, answer, answer_bytes, run, run_call, Kept}
use Rattle.laws.specs.Words.{need_limit, Words}
use Rattle.laws.proofs.Services.{run-words}
use Rattle.promises.specs.Promise.{number_at, numbers_in}
use Rattle.promises.proofs.Demands.{run_delivers, run_reads}
use Rattle.print.specs.Printed.{Printed}
use Rattle.print.specs.Shown.{row_size, held, shown}
use Rattle.print.proofs.Printing.{printed_length}
use Rattle.print.proofs.Page.{shown-fits, page_start}
use Rattle.show.specs.Page.{budget, memory_limit, page_limit, Shows}

-- What is printed of an answer slice is what its caller reads in it.
held_is : (s : List ℕ) → held s ≡ numbers_in s
unfolding held numbers_in number_at
held_is s = refl

page_room : (a : Answer) (M : Memory) → Words a → length M ≤ memory_limit → length (shown (a, M)) ≤ page_limit
unfolding answer need_limit
page_room a M w short = shown-fits a.code a.place a.need a.steps M (memory_limit / row_size) w.code w.place w.need w.steps (omega arith)

-- The slice s and the memory l after the run of a text over the memory M.
pub record Ran (text M s l : List ℕ) : Type 0 where
  pub holds : (held s, l) ≡ run text M budget
  pub fits : length (shown (held s, l)) ≤ page_limit

pub ran : (text M slice s l : List ℕ) (r : ℕ) → answer_bytes ≤ length slice → length l ≤ memory_limit → Kept (run_call text M budget slice) r s l → Ran text M s l
ran text M slice s l r room short k =
    let d = (run_delivers text M budget slice k).with_room room in
    let read : held s ≡ (run text M budget).0 = held_is s ∙ run_reads text M budget slice k (omega arith) d.0 in
    record { holds = rw (read, d.2); fits = page_room (held s) l (rw read (run-words text M budget (omega arith))) short }

-- What is printed after it is at the page's start.
pub shows : (text M s l : List ℕ) {page page' : List ℕ} {r : ℕ} → Ran text M s l → Printed page 0 (shown (held s, l)) page' r → page_limit ≤ length page → Shows text M r page'
shows text M s l {page} {page'} {r} k p room =
    let fits : length (shown (held s, l)) ≤ length page = omega (arith, k.fits) in
    let inside : r ≤ length page' = omega (arith, p.next_is, printed_length p) in
    record { within = (inside, simp length-take (omega arith)); is = page_start p fits ∙ ap shown k.holds }
