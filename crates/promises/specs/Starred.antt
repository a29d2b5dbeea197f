-- What a row of document 01's cases says of the services themselves.
use Rattle.std.specs.Prelude.{ℕ, List}
use Rattle.meaning.specs.Tokens.{bytes}
use Rattle.meaning.specs.Memory.{Memory}
use Rattle.meaning.specs.Services.{judge_call, run_call, Kept}
use Rattle.meaning.specs.Table.{Row, judged_as}
use Rattle.promises.specs.Promise.{Delivers}

-- Every result that keeps run's promise for the row's text, memory and budget delivers the row's numbers and its memory; every
-- result that keeps judge's promise for the text delivers what judge answers there.
pub record Serves (r : Row) : Type 0 where
  pub runs : (slice : List ℕ) {returned : ℕ} {slice' : List ℕ} {M' : Memory} → Kept (run_call (bytes r.text) r.memory r.budget slice) returned slice' M'
      → Delivers slice r.memory r.gives r.leaves returned slice' M'
  pub judges : (slice : List ℕ) {returned : ℕ} {slice' : List ℕ} → Kept (judge_call (bytes r.text) slice) returned slice' tt
      → Delivers {A = Unit {0}} slice tt (judged_as r.gives) tt returned slice' tt
