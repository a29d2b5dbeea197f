-- How `binary` reads a level: all its operands in one loop, in which one level after another is at work.
use Prim.Native.Nat.{ℕ, ◌+◌, ◌-◌, ◌≤◌, ◌<◌}
use mathlib.Core.Path.{◌≡◌, refl, ◌∙◌}
use mathlib.Core.Bool.{true}
use mathlib.Core.List.{List}
use mathlib.Core.Logic.{◌⊎◌, ⊎_elim}
use native.Mathlib.Omega.{arith}
use lib.ListN.{length}
use Rattle.std.specs.declared.result.Result.TheVariants.{Ok, Err}
use Rattle.std.specs.Result.{IsErrAnd}
use Rattle.meaning.specs.Tokens.{Token}
use Rattle.layout.specs.Tokens.{kind_at, place_at}
use Rattle.layout.specs.Words.{unit, flat}
use Rattle.layout.specs.Stage.{Stage}
use Rattle.layout.specs.declared.Reached.{Reached}
use Rattle.layout.specs.declared.Refused.{Refused}
use Rattle.reading_expressions.specs.Contract.{HoldsOnly, ReadyToRead, Appends, Moved, ReadsLevel, ReadsOperand, token_count, from_level, joins_at, Level}
use Rattle.reading_expressions.proofs.Answers.{SoFar, held_count, ready_at, ready_on, ready_next, read_here, read_from, hands_up, shows_done}
use Rattle.reading_expressions.proofs.Laws as law
use Rattle.reading_expressions.proofs.Laws.{joined}

-- Level m is at work, one from l to the operands' own, 7: what is read so far, from `at` to p, is a part of what it reads there.
pub record Climb (l m r : ℕ) (T : List ℕ) (at : ℕ) (old : List ℕ) (n : ℕ) (new : List ℕ) (p q : ℕ) : Type 0 where
  pub low : l ≤ m
  pub high : m ≤ 7
  pub kept : length new ≡ length old
  pub ready : ReadyToRead T p new q
  pub moved : Moved 1 (token_count T) at n p q
  pub so_far : (ts : List Token) → HoldsOnly T ts → SoFar (from_level ts m r at) (joined m r ts) flat (length ts) old n new p q

-- Where the first operand is refused, the level is.
pub first_refused : (l r : ℕ) {T : List ℕ} {at : ℕ} {old : List ℕ} {n : ℕ} {new : List ℕ} {res : Stage} {why : Refused} → ReadsOperand r T at old n new (Err why)
    → IsErrAnd res (λ x. x ≡ why) → l ≤ 7 → ReadsLevel l r T at old n new res
first_refused l r {at = at} operand up le =
    hands_up operand up (λ ts h said. law.looser_refused r ts at (7 - l) l 7 (omega arith) (omega arith) (law.level_last ts 7 r at refl ∙ said))

-- Otherwise it turns the tree `first` into `old`.
module _ (l r : ℕ) {T : List ℕ} {at : ℕ} {first : List ℕ} {n : ℕ} {old : List ℕ} {reached : Reached}
    (operand : ReadsOperand r T at first n old (Ok reached)) (le : l ≤ 7) (ready : ReadyToRead T at first n) (kept : length old ≡ length first) where
  -- A climb begins at the operands' own level.
  pub begins : Climb l 7 r T at old n old reached.count reached.size
  begins = let m = operand.moved in record {
    low = le;
    high = omega arith;
    kept = refl;
    ready = ready_on ready m kept;
    moved = m;
    so_far = λ ts h. law.operands_begin r ts at (law.seen h m.within) (read_here (omega arith) (omega arith) (operand.done ts h));
  }

  -- It ends at a token whose level is none of those from l to m: what is read is what l reads.
  pub ends : {m next k : ℕ} {new : List ℕ} {p q : ℕ} → Climb l m r T at old n new p q → k ≡ kind_at T p → Level k next → (next < l) ⊎ (m < next)
      → ReadsLevel l r T at first n new (Ok (record { count = p; size = q }))
  ends {m} {next} climb is own none =
      let begun = operand.moved in
      let apart : (j : ℕ) → l ≤ j → j ≤ m → j ≡ next → ⊥ = λ j a b same. ⊎_elim (λ x. omega arith) (λ x. omega arith) none in
      shows_done refl climb.moved
      (λ ts h. read_from (omega arith) (omega arith) (operand.done ts h)
      (law.looser_ends r ts at (law.seen h climb.ready.within) (omega (arith, held_count h)) climb.high (rw is at own) (climb.so_far ts h) l climb.low apart))

-- A turn: the next token is an operator of a level from l to m.
module _ {l m next k r : ℕ} {T : List ℕ} {at : ℕ} {old : List ℕ} {n : ℕ} {new : List ℕ} {p q : ℕ}
    (climb : Climb l m r T at old n new p q) (is : k ≡ kind_at T p) (own : Level k next) (low : l ≤ next) (high : next ≤ m) where
  -- It is not the operands' own level.
  pub turn_level : next < 7
  turn_level = law.below_seven own (omega (arith, climb.high))

  turn_joins : joins_at next (kind_at T p) ≡ true
  turn_joins = rw is at (law.joins_here own (omega (arith, turn_level)))

  -- Its right operand can be read.
  pub turn_ready : ReadyToRead T (p + 1) new q
  turn_ready = ready_next climb.ready refl (law.joins_above next (kind_at T p) turn_joins)

  -- The operator's own level is at work.
  turn-begins : (ts : List Token) → HoldsOnly T ts → SoFar (from_level ts next r at) (joined next r ts) flat (length ts) old n new p q
  turn-begins ts h =
      law.looser_goes_on r ts at (law.seen h climb.ready.within) (omega (arith, held_count h)) climb.high (rw is at own) (climb.so_far ts h) (m - next) (omega arith)

  -- Where the right operand is refused, level l is.
  pub turn_refused : {mid first out : List ℕ} {res : Stage} {why : Refused} → ReadsLevel (next + 1) r T (p + 1) new q mid (Err why) → IsErrAnd res (λ x. x ≡ why)
      → ReadsLevel l r T at first n out res
  turn_refused right up =
      hands_up right up
      (λ ts h said. law.looser_refused r ts at (next - l) l next (omega arith) (omega (arith, turn_level))
      (law.level_fails next r ts (law.seen h climb.ready.within) (omega (arith, held_count h)) (turn-begins ts h) turn_joins said))

  module _ {mid : List ℕ} {reached : Reached} (right : ReadsLevel (next + 1) r T (p + 1) new q mid (Ok reached)) where
    -- Otherwise the climb goes on, with the operator's level at work.
    pub turn_read : {out : List ℕ} {x : ℕ} → length mid ≡ length new → length out ≡ length mid → (x ≡ reached.size + 3) × Appends mid reached.size out x (unit k (place_at T p) 0)
        → Climb l next r T at old n out reached.count x
    turn_read kept kept' put =
        let m = right.moved in
        record {
          low = low;
          high = omega (arith, turn_level);
          kept = kept' ∙ kept ∙ climb.kept;
          ready = ready_at climb.ready m.within (omega arith) (kept' ∙ kept);
          moved = omega (arith, climb.moved);
          so_far = λ ts h. law.level_goes_on next r ts (law.seen h climb.ready.within) (omega (arith, held_count h)) (turn-begins ts h) turn_joins (omega arith)
              (right.done ts h) (rw is at put.1);
        }
