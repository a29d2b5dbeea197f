-- A text that is accepted is ready: its words and its table are what a plan is made from, and with its plan it can run.
use Prim.Native.Nat.{ℕ, ◌*◌, ◌≤◌, ◌<◌}
use mathlib.Core.Path.{◌≡◌, sym, ap}
use mathlib.Core.List.{List}
use native.Mathlib.Omega.{arith}
use lib.ListN.{length, take}
use lib.Seq.{length-take-le}
use Rattle.std.specs.declared.result.Result.TheVariants.{Ok}
use Rattle.meaning.specs.Codes.{nesting_limit}
use Rattle.meaning.specs.Program.{Program}
use Rattle.meaning.specs.Memory.{declared, need}
use Rattle.layout.specs.declared.Reached.{Reached}
use Rattle.layout.specs.Table.{entry, entries, Lies}
use Rattle.layout.specs.Code.{program_words}
use Rattle.laws.specs.Sound.{stack_limit}
use Rattle.laws.specs.Accepted.{Ready}
use Rattle.laws.specs.Near.{NearProgram, near_nothing, near_step, near_put, near_both, near_choice, near_cycle, near_alone}
use Rattle.laws.proofs.Accepted.{accepted_ready, accepted_short}
use Rattle.typing_expressions.specs.Rows.{Rows}
use Rattle.typing_expressions.proofs.Names.{length-entries, entries_at}
use Rattle.judge.specs.Contract.{JudgesText}
use Rattle.plan.specs.Planning.{Plannable, SomePlannable, PlannedAs, Plans}
use Rattle.ruihmento.specs.Contract.{Planned, SomePlanned}
use Rattle.ruihmento.proofs.Judging.{is_accepted}
use Rattle.ruihmento.proofs.Waiting.{all_served}

-- The table has the kind, the length and the address of each declaration.
lies : (text table : List ℕ) (n : ℕ) → Rows text table n → Lies table (entries text table n)
unfolding declared entry
lies text table n r = record {
  room = omega (arith, length-entries text table n, r.few, r.room);
  kind = λ i h. rw (entries_at text table n i _ (low i h));
  lanes = λ i h. rw (entries_at text table n i _ (low i h));
  address = λ i h. rw (entries_at text table n i _ (low i h));
}
  where
    low : (i : ℕ) → i < length (entries text table n) → i < n
    low i h = omega (arith, length-entries text table n)

-- The places of a text are those of a longer one.
nearer : {N L : ℕ} {P : Program} → N ≤ L → NearProgram N P → NearProgram L P
nearer h near_nothing = near_nothing
nearer h (near_step {p = p} l) = near_step {p = p} (omega arith)
nearer h (near_put {p = p} l) = near_put {p = p} (omega arith)
nearer h (near_both f g) = near_both (nearer h f) (nearer h g)
nearer h (near_choice {p = p} l f g) = near_choice {p = p} (omega arith) (nearer h f) (nearer h g)
nearer h (near_cycle {p = p} l f) = near_cycle {p = p} (omega arith) (nearer h f)
nearer h (near_alone f) = near_alone (nearer h f)

module _ {text table words : List ℕ} {reached : Reached} (g : JudgesText text table words (Ok reached)) where
  pub words_fit : reached.size ≤ length words
  words_fit = g.accepted.fits

  pub words_counted : reached.size ≡ length (take reached.size words)
  words_counted = sym (length-take-le reached.size words words_fit)

  ready : Ready text g.program (entries text table reached.count)
  ready = accepted_ready text (is_accepted g)

  -- Two words for each of its own are room for its plan, and a stack of the greatest size for its operands.
  module _ {room stack : ℕ} (wide : 2 * length words ≤ room) (deep : stack ≡ 696) where
    plannable : Plannable (take reached.size words) table nesting_limit room stack (entries text table reached.count) g.program
    unfolding stack_limit
    plannable = record {
      words = g.accepted.words;
      runnable = ready.runs;
      lies = lies text table reached.count g.accepted.rows;
      short = omega (arith, words_counted, g.accepted.short);
      out_room = omega (arith, words_fit, words_counted);
      stack_room = omega arith;
    }

    pub a_plannable : SomePlannable (take reached.size words) table room stack
    a_plannable = (entries text table reached.count, g.program, plannable)

  module _ {after : List ℕ} {stack r : ℕ} (plans : Plans (take reached.size words) table after stack r) (wide : 2 * length words ≤ length after) (deep : stack ≡ 696) where
    as_planned : PlannedAs (take reached.size words) after r (entries text table reached.count) g.program
    as_planned = plans (entries text table reached.count) g.program (plannable wide deep)

    pub plan_fits : r ≤ length after
    plan_fits = omega (arith, words_fit, words_counted, as_planned.few)

    typed-words : length (program_words g.program) ≤ reached.size
    typed-words = omega (arith, words_counted, ap length g.accepted.words)

    pub planned : {m : ℕ} → ((text : List ℕ) → m ≡ need (entries text table reached.count)) → Planned reached.size (take r after) m (entries text table reached.count) g.program
    planned m = record {
      prepared = λ registers room. record {
        needs = m text;
        runs = λ bytes h. record {
          planned = as_planned.words;
          runnable = ready.runs;
          fits = ready.fits;
          laid = ready.laid;
          enough = h;
          stacks = all_served room ready.runs typed-words;
        };
        places = nearer (accepted_short text (is_accepted g)) ready.near;
      };
    }

    pub a_plan : {m : ℕ} → ((text : List ℕ) → m ≡ need (entries text table reached.count)) → SomePlanned reached.size (take r after) m
    a_plan m = (entries text table reached.count, g.program, planned m)
