-- The general laws in the service's terms: a masked-off lane keeps its bytes, and a finished run is the same under a larger budget.
use mathlib.Core.Path.{◌≡◌, refl, sym, ap, ◌∙◌}
use mathlib.Core.Bool.{false}
use mathlib.Core.List.{List}
use Prim.Native.Nat.{ℕ, ◌+◌, ◌-◌, ◌≤◌, ◌<◌}
use native.Mathlib.Omega.{arith}
use lib.Dec.{T}
use lib.ListN.{length}
use Rattle.meaning.specs.Program.{Program}
use Rattle.meaning.specs.Memory.{Memory, Mask, Declarations, declared, need, fetch}
use Rattle.meaning.specs.Services.{evaluate, effect, answer, judged, program_run, run}
use Rattle.laws.specs.Declarations.{Ordered}
use Rattle.laws.specs.Lengths.{Fits}
use Rattle.lane.specs.Lane.{lane_bytes}
use Rattle.lane.specs.Values.{lane}
use Rattle.lane.proofs.Lanes.{Reaches}
use Rattle.lane.proofs.Programs.{lanes_of, no_alone}
use Rattle.lane.proofs.Masked.{Leaves, run_quiet}
use Rattle.lane.proofs.Memories.{LaneIs, still_lane}
use Rattle.lane.proofs.Service.{Ended, RanWell, ran_well, ended_later}
use Rattle.lane.proofs.Theorem.{answered}

-- Under a mask that has lane i off, a program without `scalar` leaves every byte of that lane, also where its budget ends first.
pub masked_lane_keeps : {text : List ℕ} (i C : ℕ) (P : Program) (Γ : Declarations) → Ordered text Γ → Fits Γ C P → T (no_alone P) → ((x : ℕ) → x < length Γ → Reaches i (lanes_of Γ x)) → Reaches i C
    → (m : Mask) (budget : ℕ) (M : Memory) → length m ≡ C → lane false m i ≡ false → need Γ ≤ length M
    → Leaves (LaneIs i Γ (λ x. lane_bytes i (declared Γ x) M)) budget (program_run Γ P m budget M)
unfolding evaluate
masked_lane_keeps i C P Γ laid fits free all here m budget M size off room =
    run_quiet Γ i (fetch Γ) (effect Γ) (LaneIs i Γ (λ x. lane_bytes i (declared Γ x) M)) (still_lane i Γ laid all (λ x. lane_bytes i (declared Γ x) M)) all fits free here
    (record { mask = m; budget = budget; bound = budget; state = M; size = size; off = off; within = omega arith; has = record { long = room; each = λ x h. refl } })

-- A run that ended is the same, to the last number and byte, under a larger budget.
pub larger_budget : (text : List ℕ) (M : Memory) (budget more : ℕ) → (run text M budget).0.code ≡ 0 → run text M (budget + more) ≡ run text M budget
larger_budget text M budget more code = go (ran_well text M budget code)
  where
    go : RanWell (judged text) budget M → run text M (budget + more) ≡ run text M budget
    go r =
        let P = r.what in
        let Γ = r.where_to in
        let w = r.ended_well in
        let later : Ended P Γ (budget + more) M = record {
          room = w.room;
          end = w.end;
          left = w.left + more;
          is = ended_later more w;
        } in
        let steps : budget + more - (w.left + more) ≡ budget - w.left = omega arith in
        answered text P Γ r.accepted (budget + more) M later
        ∙ ap (λ (n : ℕ). (answer 0 0 (need Γ) n, w.end)) steps
        ∙ sym (answered text P Γ r.accepted budget M w)
