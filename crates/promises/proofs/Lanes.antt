-- Demand 3 of the services: what holds of every result that keeps run's promise, and judge's.
use mathlib.Core.Path.{◌≡◌, refl}
use mathlib.Core.List.{List}
use Prim.Native.Nat.{ℕ, ◌^◌, ◌<◌}
use native.Mathlib.Omega.{arith}
use lib.ListN.{replicate}
use Rattle.meaning.specs.Memory.{Memory}
use Rattle.meaning.specs.Services.{run, numbers, called, run_call, answer_bytes}
use Rattle.lane.specs.Narrow.{narrow}
use Rattle.lane.specs.Demand.{RunEnds, LanesByThemselves}
use Rattle.lane.proofs.Demand.{demand_three}
use Rattle.promises.specs.Lanes.{Answered, told, ToldEnd, LaneServed, LanesServed, DemandThreeServed}
use Rattle.promises.proofs.Calls.{with_one}
use Rattle.promises.proofs.Demands.{judge_reads, run_delivers, run_reads}

-- There are such calls, over every text and memory and with every budget: the definition's own.
pub a_call : (text : List ℕ) (M : Memory) (budget : ℕ) → budget < 2 ^ 32 → Answered text M budget
unfolding run_call called numbers
a_call text M budget word =
    let slice : List ℕ = replicate answer_bytes 0 in
    let by = run_call text M budget slice in
    record { word = word; slice = slice; written = by.slice; memory = by.lent; kept = record { returns = refl; slice_is = refl; lent_is = refl } }

-- What a call tells and leaves is the definition's.
module _ {text : List ℕ} {M : Memory} {budget : ℕ} (call : Answered text M budget) where
  tells : told call ≡ (run text M budget).0
  tells = run_reads text M budget call.slice call.kept call.word refl

  leaves : call.memory ≡ (run text M budget).1
  leaves = let d = run_delivers text M budget call.slice call.kept in (d.with_room (with_one d refl)).2

  ends : ToldEnd call → RunEnds text budget M
  ends e = record { code = omega (arith, rw tells at e.code) }

module _ (n : ℕ) (text : List ℕ) (said : LanesByThemselves n text) where
  lane_served : {budget : ℕ} {M : Memory} (full : Answered text M budget) → ToldEnd full → (i : ℕ) → i < n → LaneServed i full
  lane_served {budget} {M} full e i h =
      let a = said.one_lane budget M (ends full e) i h in
      record {
        there_is = a.there_is;
        for_every = λ {N} holds thin. let f = a.for_every N holds in
            record { ends = record { code = rw (tells thin) f.ends }; no_more = rw (tells thin, tells full) (omega (arith, f.no_more)); holds = rw (leaves thin, leaves full) f.holds };
      }

  lanes_served : LanesServed n text
  lanes_served = record {
    accepted = λ slice written kept. rw (judge_reads (narrow text) slice kept refl) said.accepted;
    one_lane = lane_served;
    no_other_lane = λ {budget} {budget'} {M} {M'} call call' e e' i h alike.
        rw (leaves call, leaves call') (said.no_other_lane budget budget' M M' (ends call e) (ends call' e') i h alike);
  }

pub demand_three_served : DemandThreeServed
demand_three_served n text of = lanes_served n text (demand_three n text of)
