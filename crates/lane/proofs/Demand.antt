-- Demand 3, in the customer's words: from `one_lane` and `no_leak`, which speak of blocks of several lengths.
use mathlib.Core.Path.{◌≡◌, refl, sym, ap}
use mathlib.Core.List.{List}
use Prim.Native.Nat.{ℕ, ◌<◌}
use native.Mathlib.Omega.{arith}
use lib.Dec.{T, eqb, ltb, lt→ltb}
use lib.ListN.{length}
use Rattle.meaning.specs.Codes.{Out, ok, refused}
use Rattle.meaning.specs.Program.{Program}
use Rattle.meaning.specs.Memory.{Memory, Declarations, declared, need}
use Rattle.meaning.specs.Services.{Answer, answer, judged, verdict, judge}
use Rattle.laws.proofs.Codes.{some_code}
use Rattle.laws.proofs.Declarations.{listed_some}
use Rattle.lane.specs.Narrow.{narrow}
use Rattle.lane.specs.Lane.{scalar_free, variables, reaches, HasLane}
use Rattle.lane.specs.Demand.{OneLength, RunEnds, LaneByItself, LanesByThemselves, DemandThree}
use Rattle.lane.proofs.Tests.{or_r, Order, below, same, above, order}
use Rattle.lane.proofs.Fill.{narrow_start}
use Rattle.lane.proofs.Service.{ran_well_as, Narrowed, judged-narrow}
use Rattle.lane.proofs.Theorem.{variables_are, all_reach, one_lane, no_leak}

-- What an accepted text is judged to be.
record Passed (o : Out Declarations Program) : Type 0 where
  what : Program
  over : Declarations
  is : o ≡ ok what over

passed : (o : Out Declarations Program) → (verdict (λ Γ. 0) o).code ≡ 0 → Passed o
unfolding verdict answer
passed (ok P Γ) e = record { what = P; over = Γ; is = refl }
passed (refused c p) e = absurd (omega (arith, some_code c))

judge_passed : (text : List ℕ) → (judge text).code ≡ 0 → Passed (judged text)
unfolding judge
judge_passed text e = passed (judged text) e

-- And what is answered of it.
judge_is : (text : List ℕ) (P : Program) (Γ : Declarations) → judged text ≡ ok P Γ → judge text ≡ answer 0 0 (need Γ) 0
unfolding judge verdict
judge_is text P Γ e = ap (verdict (λ Γ. 0)) e

module _ (n : ℕ) (text : List ℕ) (one : OneLength n text) (P : Program) (Γ : Declarations) (e : judged text ≡ ok P Γ) where
  narrowed : Narrowed text P Γ
  narrowed = judged-narrow text P Γ e

  -- A variable has some lane: one, or n. So it has each lane below n.
  some_lane : (x : ℕ) → x < length (variables text) → 0 < (declared (variables text) x).lanes
  some_lane x l = rw (variables_are text P Γ e) (listed_some (declared Γ x).lanes (narrowed.paired.laid.laid.listed x (rw (variables_are text P Γ e) at l)))

  has_each : (i : ℕ) → i < n → HasLane i text
  has_each i h = record { each = λ x l. go x l (order (declared (variables text) x).lanes 1) }
    where
      go : (x : ℕ) → x < length (variables text) → Order (declared (variables text) x).lanes 1 → T (reaches i (declared (variables text) x))
      go x l (below k) = absurd (omega (arith, some_lane x l))
      go x l (same k) = rw k tt
      go x l (above k) =
          let d = declared (variables text) x in
          or_r (eqb d.lanes 1) (ltb i d.lanes) (lt→ltb i d.lanes (omega (arith, one.each x l (omega arith))))

  -- A run that ends had room, so there is a memory of the narrowed text that holds lane i.
  lane_by_itself : T (scalar_free text) → (budget : ℕ) (M : Memory) → RunEnds text budget M → (i : ℕ) → HasLane i text → LaneByItself i text budget M
  unfolding answer
  lane_by_itself free budget M ends i has =
      let room = (ran_well_as text M budget P Γ e ends.code).room in
      let s = narrow_start text i Γ narrowed.table narrowed.paired (all_reach text P Γ e i has) M room in
      let thin = variables_are (narrow text) P narrowed.table narrowed.accepted in
      record {
        there_is = record {
          start = s.memory;
          as_long = rw (judge_is (narrow text) P narrowed.table narrowed.accepted) (omega (arith, s.as_long));
          all_bytes = s.all_bytes;
          holds = record { each = λ x l. rw (thin, variables_are text P Γ e) (sym (s.agree.full.each x (rw (variables_are text P Γ e) at l))) };
        };
        for_every = λ N holds. one_lane text i budget M N free has ends.code holds;
      }

  lanes_by_themselves : T (scalar_free text) → LanesByThemselves n text
  unfolding answer
  lanes_by_themselves free = record {
    accepted = ap (λ (a : Answer). a.code) (judge_is (narrow text) P narrowed.table narrowed.accepted);
    one_lane = λ budget M ends i h. lane_by_itself free budget M ends i (has_each i (omega arith));
    no_other_lane = λ budget budget' M M' ends ends' i h alike. no_leak text i budget budget' M M' free (has_each i (omega arith)) ends.code ends'.code alike;
  }

pub demand_three : DemandThree
demand_three n text of = let p = judge_passed text of.accepted in lanes_by_themselves n text of.one_length p.what p.over p.is of.no_scalar
