-- One lane of a run is the run of that lane, for the service's `run`; and no lane leaks into another.
use mathlib.Core.Path.{◌≡◌, refl, sym, ap, ◌∙◌, subst}
use mathlib.Core.Bool.{true, false, ◌||◌}
use mathlib.Core.List.{List}
use Prim.Native.Nat.{ℕ, ◌+◌, ◌-◌, ◌≤◌, ◌<◌}
use native.Mathlib.Omega.{arith}
use lib.Dec.{T, eqb, ltb, eqb→eq, ltb→lt}
use lib.ListN.{length}
use Rattle.meaning.specs.Codes.{ok}
use Rattle.meaning.specs.Program.{Program}
use Rattle.meaning.specs.Memory.{Memory, Declarations, declared, need, fetch}
use Rattle.meaning.specs.Running.{Ran, stopped, done}
use Rattle.meaning.specs.Services.{Answer, answer, judged, evaluate, effect, program_run, executed, run}
use Rattle.laws.specs.Lengths.{Fits}
use Rattle.lane.specs.Narrow.{narrow}
use Rattle.lane.specs.Lane.{variables_in, variables, seat, lane_bytes, HasLane, HoldsLane, FollowsLane, OneLane, SameLane, NoLeak}
use Rattle.lane.specs.Values.{lane}
use Rattle.lane.proofs.Tests.{or_cases, Order, below, same, above, order}
use Rattle.lane.proofs.Lanes.{Reaches, reaches_one, reaches-below}
use Rattle.lane.proofs.Programs.{lanes_of, no_alone}
use Rattle.lane.proofs.Declared.{Paired}
use Rattle.lane.proofs.Follow.{Followed, one_true, run_follows}
use Rattle.lane.proofs.Memories.{Agree, memory_holds}
use Rattle.lane.proofs.Fill.{narrow_start, held_room}
use Rattle.lane.proofs.Service.{ran, Ended, RanWell, ran_well, ran_well_as, ended_later, executed_is, run_is, judged-narrow}

-- A scalar, or a block of more than i lanes, has lane i.
reaches-lane : (i n : ℕ) → T (eqb n 1 || ltb i n) → Reaches i n
reaches-lane i n = or_cases (eqb n 1) (ltb i n) (λ t. rw (eqb→eq n 1 t) (reaches_one i)) (λ t. reaches-below i n (ltb→lt i n t))

first_lane : (i : ℕ) → lane false one_true i ≡ true
unfolding lane seat
first_lane i = refl

-- The narrow run of a program.
record FollowedBy (i : ℕ) (P : Program) (Γ Δ : Declarations) (budget : ℕ) (M N : Memory) (w : Ended P Γ budget M) : Type 0 where
  ended : Ended P Δ budget N
  left_over : w.left ≤ ended.left
  agree : Agree i Γ Δ w.end ended.end

module _ (text : List ℕ) (i : ℕ) (P : Program) (Γ Δ : Declarations) (pair : Paired text Γ Δ) (fits : Fits Γ 1 P) (free : T (no_alone P)) (all : (x : ℕ) → x < length Γ → Reaches i (lanes_of Γ x)) where
  follow_program : (budget : ℕ) (M N : Memory) (w : Ended P Γ budget M) → Agree i Γ Δ M N → FollowedBy i P Γ Δ budget M N w
  unfolding evaluate
  follow_program budget M N w a =
      go (ran P Δ budget N) refl
      (subst (λ (r : Ran Memory). Followed (Agree i Γ Δ) r (ran P Δ budget N)) w.is
      (run_follows Γ i all (fetch Γ) (effect Γ) (fetch Δ) (effect Δ) (Agree i Γ Δ) (memory_holds text i Γ Δ pair all) fits free (reaches_one i)
      (record { mask = one_true; budget = budget; budget' = budget; state = M; state' = N; size = refl; on = first_lane i; within = omega arith; holds = a })))
    where
      go : (r : Ran Memory) → ran P Δ budget N ≡ r → Followed (Agree i Γ Δ) (done w.end w.left) r → FollowedBy i P Γ Δ budget M N w
      go (stopped c p N' b) e h = absurd h
      go (done N' left) e h = record { ended = record { room = a.short; end = N'; left = left; is = e }; left_over = h.1; agree = h.0 }

-- What is judged, of a text.
module _ (text : List ℕ) (P : Program) (Γ : Declarations) (e : judged text ≡ ok P Γ) where
  pub variables_are : variables text ≡ Γ
  unfolding variables_in
  variables_are = ap variables_in e

  pub answered : (budget : ℕ) (M : Memory) (w : Ended P Γ budget M) → run text M budget ≡ (answer 0 0 (need Γ) (budget - w.left), w.end)
  answered budget M w = run_is text M budget ∙ ap (executed program_run M budget) e ∙ executed_is w

  pub all_reach : (i : ℕ) → HasLane i text → (x : ℕ) → x < length Γ → Reaches i (lanes_of Γ x)
  all_reach i h x l = reaches-lane i (lanes_of Γ x) (rw variables_are at (h.each x (rw variables_are l)))

-- What a text's run and a narrow run leave, from what they are.
module _ (text : List ℕ) (i budget : ℕ) (M N : Memory) (P : Program) (Γ Δ : Declarations) (e : judged text ≡ ok P Γ) (e' : judged (narrow text) ≡ ok P Δ) where
  starts : Paired text Γ Δ → ((x : ℕ) → x < length Γ → Reaches i (lanes_of Γ x)) → need Γ ≤ length M → HoldsLane i text M N → Agree i Γ Δ M N
  starts pair all room holds = record { full = record { long = room; each = each }; short = held_room text i Γ Δ pair all M room N each }
    where
      each : (x : ℕ) → x < length Γ → lane_bytes i (declared Γ x) M ≡ lane_bytes i (declared Δ x) N
      each x l = sym (rw (variables_are (narrow text) P Δ e', variables_are text P Γ e) at (holds.each x (rw (variables_are text P Γ e) l)))

  leaves : (w : Ended P Γ budget M) → FollowedBy i P Γ Δ budget M N w → FollowsLane i text budget M N
  unfolding answer
  leaves w f =
      let full = answered text P Γ e budget M w in
      let thin = answered (narrow text) P Δ e' budget N f.ended in
      record {
        ends = ap (λ (r : Answer × Memory). r.0.code) thin;
        no_more = rw (full, thin) (omega (arith, f.left_over));
        holds = record { each = λ x l. rw (full, thin, variables_are (narrow text) P Δ e', variables_are text P Γ e) (sym (f.agree.full.each x (rw (variables_are text P Γ e) at l))) };
      }

pub one_lane : OneLane
one_lane text i budget M N free has code holds = go (ran_well text M budget code)
  where
    go : RanWell (judged text) budget M → FollowsLane i text budget M N
    go r =
        let P = r.what in
        let Γ = r.where_to in
        let e = r.accepted in
        let w = r.ended_well in
        let n = judged-narrow text P Γ e in
        let all = all_reach text P Γ e i has in
        leaves text i budget M N P Γ n.table e n.accepted w
        (follow_program text i P Γ n.table n.paired n.fits (n.free free) all budget M N w
        (starts text i budget M N P Γ n.table e n.accepted n.paired all w.room holds))

-- Two runs of one program over one memory that both end, end alike.
same_end : (P : Program) (Δ : Declarations) (N : Memory) (b c : ℕ) (w : Ended P Δ b N) (u : Ended P Δ c N) → w.end ≡ u.end
same_end P Δ N b c w u = go (order b c)
  where
    go : Order b c → w.end ≡ u.end
    go (below l) =
        let e : b + (c - b) ≡ c = omega arith in
        let z : ran P Δ c N ≡ done w.end (w.left + (c - b)) = rw e at (ended_later (c - b) w) in cc
    go (same e) = let z : ran P Δ c N ≡ done w.end w.left = rw e at w.is in cc
    go (above l) =
        let e : c + (b - c) ≡ b = omega arith in
        let z : ran P Δ b N ≡ done u.end (u.left + (b - c)) = rw e at (ended_later (b - c) u) in cc

pub no_leak : NoLeak
no_leak text i b b' M M' free has code code' alike = go (ran_well text M b code)
  where
    go : RanWell (judged text) b M → SameLane i text (run text M b).1 (run text M' b').1
    go r =
        let P = r.what in
        let Γ = r.where_to in
        let e = r.accepted in
        let w = r.ended_well in
        let w' = ran_well_as text M' b' P Γ e code' in
        let n = judged-narrow text P Γ e in
        let Δ = n.table in
        let all = all_reach text P Γ e i has in
        let start = narrow_start text i Γ Δ n.paired all M w.room in
        let N = start.memory in
        let a : Agree i Γ Δ M N = start.agree in
        let a' : Agree i Γ Δ M' N = record {
          full = record { long = w'.room; each = λ x l. sym (rw (variables_are text P Γ e) at (alike.each x (rw (variables_are text P Γ e) l))) ∙ a.full.each x l };
          short = a.short;
        } in
        let f = follow_program text i P Γ Δ n.paired n.fits (n.free free) all b M N w a in
        let f' = follow_program text i P Γ Δ n.paired n.fits (n.free free) all b' M' N w' a' in
        record {
          each = λ x l. let k : x < length Γ = rw (variables_are text P Γ e) at l in
              rw (answered text P Γ e b M w, answered text P Γ e b' M' w', variables_are text P Γ e)
              (f.agree.full.each x k
              ∙ ap (lane_bytes i (declared Δ x)) (same_end P Δ N b b' f.ended f'.ended)
              ∙ sym (f'.agree.full.each x k));
        }
