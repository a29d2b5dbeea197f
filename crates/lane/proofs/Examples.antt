-- Document 01's routine and one of floats lane by lane, uses of the theorem, and why `scalar` is excluded: by computation.
use mathlib.Core.Path.{◌≡◌, refl}
use mathlib.Core.List.{List, [], ◌∷◌, ◌++◌, map}
use Prim.Native.Nat.{ℕ}
use Prim.Native.String.{String}
use native.Mathlib.Omega.{arith}
use lib.ListN.{replicate}
use Rattle.meaning.specs.Codes.{the_judge_gives, only_a_run_gives}
use Rattle.meaning.specs.Tokens.{bytes, lexed}
use Rattle.meaning.specs.Memory.{Memory, little_endian, declared}
use Rattle.meaning.specs.Services.{answer, judged, judge, run}
use Rattle.meaning.specs.Table.{Row, ◌over◌for◌gives◌leaves◌, ints, judged_as, found, expected}
use Rattle.meaning.specs.Errors.{routine, samples}
use Rattle.lane.specs.Narrow.{narrow}
use Rattle.lane.specs.Lane.{scalar_free, variables_in, lane_bytes, FollowsLane}
use Rattle.lane.specs.Demand.{OfOneLength, LaneByItself}
use Rattle.lane.proofs.Theorem.{one_lane}
use Rattle.lane.proofs.Demand.{demand_three}
use Rattle.lane.proofs.Instances.{all_below, has_lane?, holds_lane?, Asked, asked?, asked, follows?, not_followed, instance, one_length?, of_one_length?, of_one_length}

-- The routine narrowed.
unfoldable pub narrowed : String
narrowed = "bool block[1] ok; int block[1] s; int block[1] t = 10; if (ok) { if (s < t) s = s + t; else s = s - t; } else ;"

pub routine_narrows : narrow (bytes routine) ≡ bytes narrowed
unfolding narrow narrowed routine bytes lexed
routine_narrows = refl

-- Its memory: `ok`, `s` and `t`, with three bytes between `ok` and `s`.
unfoldable pub lane_of-samples : ℕ → ℕ → List ℕ → Memory
lane_of-samples ok s t = ok ∷ 0xaa ∷ 0xaa ∷ 0xaa ∷ ints (s ∷ []) ++ t

unfoldable pub untouched : List ℕ
untouched = replicate 4 0xaa

-- The four lanes of document 01's run (8 steps; 4, 7, 25, 90 become 14, 7, 15, 90), each by itself.
unfoldable pub lanes : List Row
lanes =
    narrowed over lane_of-samples 1 4 untouched for 1000 gives (0, 0, 12, 6) leaves lane_of-samples 1 14 (ints (10 ∷ []))
    ∷ narrowed over lane_of-samples 0 7 untouched for 1000 gives (0, 0, 12, 5) leaves lane_of-samples 0 7 (ints (10 ∷ []))
    ∷ narrowed over lane_of-samples 1 25 untouched for 1000 gives (0, 0, 12, 6) leaves lane_of-samples 1 15 (ints (10 ∷ []))
    ∷ narrowed over lane_of-samples 0 90 untouched for 1000 gives (0, 0, 12, 5) leaves lane_of-samples 0 90 (ints (10 ∷ []))
    ∷ []

pub lane_by_lane : map found lanes ≡ map expected lanes
unfolding found expected judged_as the_judge_gives only_a_run_gives narrowed lane_of-samples untouched lanes ◌over◌for◌gives◌leaves◌ ints bytes little_endian run judge answer
lane_by_lane = refl

-- The third lane, by the theorem: every hypothesis is met.
unfoldable pub full_memory : Memory
full_memory = samples (4 ∷ 7 ∷ 25 ∷ 90 ∷ []) (replicate 16 0xaa)

unfoldable pub third_memory : Memory
third_memory = lane_of-samples 1 25 untouched

pub third_follows : FollowsLane 2 (bytes routine) 1000 full_memory third_memory
unfolding asked? has_lane? holds_lane? all_below scalar_free narrow variables_in lane_bytes full_memory third_memory lane_of-samples untouched samples ints routine bytes little_endian lexed judged run answer declared
third_follows = instance (bytes routine) 2 1000 full_memory third_memory one_lane tt tt

-- The same by demand 3: every hypothesis is met there too, of the four lanes of the routine's blocks.
pub routine_of_four : OfOneLength 4 (bytes routine)
unfolding of_one_length? one_length? all_below scalar_free variables_in routine bytes lexed judged judge answer declared
routine_of_four = of_one_length 4 (bytes routine) tt

pub third_by_itself : LaneByItself 2 (bytes routine) 1000 full_memory
unfolding full_memory samples ints routine bytes little_endian run answer
third_by_itself = (demand_three 4 (bytes routine) routine_of_four).one_lane 1000 full_memory (record { code = refl }) 2 (omega arith)

-- Floats: lanes are compared byte for byte. Lane 0 is 2, lane 1 a not-a-number, which no store touches, lane 2 is 0.1 and lane 3 infinity,
-- whose difference with itself is stored as 7FC00000. A constant is no length: narrowing leaves it as it is written.
unfoldable pub singles : String
singles = "float block[4] v; float block[4] w = v - v; if (v < 4.0) v = v * v - 16.0; else ;"

unfoldable pub narrowed_singles : String
narrowed_singles = "float block[1] v; float block[1] w = v - v; if (v < 4.0) v = v * v - 16.0; else ;"

pub singles_narrow : narrow (bytes singles) ≡ bytes narrowed_singles
unfolding narrow narrowed_singles singles bytes lexed
singles_narrow = refl

unfoldable pub singles_memory : Memory
singles_memory = ints (0x40000000 ∷ 0x7FC00001 ∷ 0x3DCCCCCD ∷ 0x7F800000 ∷ []) ++ replicate 16 0xaa

unfoldable pub single_memory : ℕ → Memory
single_memory a = ints (a ∷ []) ++ untouched

unfoldable pub single_lanes : List Row
single_lanes =
    singles over singles_memory for 1000 gives (0, 0, 32, 5)
    leaves ints (0xC1400000 ∷ 0x7FC00001 ∷ 0xC17FD70A ∷ 0x7F800000 ∷ 0 ∷ 0x7FC00000 ∷ 0 ∷ 0x7FC00000 ∷ [])
    ∷ narrowed_singles over single_memory 0x40000000 for 1000 gives (0, 0, 8, 4) leaves ints (0xC1400000 ∷ 0 ∷ [])
    ∷ narrowed_singles over single_memory 0x7FC00001 for 1000 gives (0, 0, 8, 4) leaves ints (0x7FC00001 ∷ 0x7FC00000 ∷ [])
    ∷ narrowed_singles over single_memory 0x3DCCCCCD for 1000 gives (0, 0, 8, 4) leaves ints (0xC17FD70A ∷ 0 ∷ [])
    ∷ narrowed_singles over single_memory 0x7F800000 for 1000 gives (0, 0, 8, 4) leaves ints (0x7F800000 ∷ 0x7FC00000 ∷ [])
    ∷ []

pub single_by_single : map found single_lanes ≡ map expected single_lanes
unfolding found expected judged_as the_judge_gives only_a_run_gives singles narrowed_singles singles_memory single_memory untouched single_lanes ◌over◌for◌gives◌leaves◌ ints bytes little_endian run judge answer
single_by_single = refl

-- The not-a-number's lane, by the theorem.
pub second_single_follows : FollowsLane 1 (bytes singles) 1000 singles_memory (single_memory 0x7FC00001)
unfolding asked? has_lane? holds_lane? all_below scalar_free narrow variables_in lane_bytes singles_memory single_memory untouched ints singles bytes little_endian lexed judged run answer declared
second_single_follows = instance (bytes singles) 1 1000 singles_memory (single_memory 0x7FC00001) one_lane tt tt

-- `block[4.0]` is refused, and stays so.
unfoldable pub no_length : String
no_length = "float block[4.0] v;"

pub no_length_narrows : narrow (bytes no_length) ≡ bytes no_length
unfolding narrow no_length bytes lexed
no_length_narrows = refl

pub no_length_refused : judge (bytes no_length) ≡ answer 3 12 0 0
unfolding no_length bytes judge answer
no_length_refused = refl

-- With `scalar` the conclusion fails: here lane 0 alone takes the branch, and `scalar` writes both lanes of `a`.
unfoldable pub leaking : String
leaking = "bool block[2] m; int block[2] a; if (m) scalar a = 5; else ;"

unfoldable pub both_lanes : ℕ → ℕ → Memory
both_lanes a b = 1 ∷ 0 ∷ replicate 6 0xaa ++ ints (a ∷ b ∷ [])

unfoldable pub second_lane : ℕ → Memory
second_lane a = 0 ∷ replicate 3 0xaa ++ ints (a ∷ [])

leaking_run : run (bytes leaking) (both_lanes 7 7) 1000 ≡ (answer 0 0 16 5, both_lanes 5 5)
unfolding both_lanes leaking bytes ints little_endian run answer
leaking_run = refl

second_run : run (narrow (bytes leaking)) (second_lane 7) 1000 ≡ (answer 0 0 8 4, second_lane 7)
unfolding second_lane leaking narrow bytes ints little_endian run answer
second_run = refl

-- Every hypothesis but the one on `scalar`, and not the conclusion.
pub scalar_breaks : Asked (bytes leaking) 1 1000 (both_lanes 7 7) (second_lane 7) × (FollowsLane 1 (bytes leaking) 1000 (both_lanes 7 7) (second_lane 7) → ⊥)
unfolding asked? follows? has_lane? holds_lane? all_below narrow variables_in lane_bytes both_lanes second_lane ints leaking bytes little_endian lexed judged run answer declared
scalar_breaks = (asked (bytes leaking) 1 1000 (both_lanes 7 7) (second_lane 7) tt, not_followed (bytes leaking) 1 1000 (both_lanes 7 7) (second_lane 7) tt)
