-- A loop that makes a chunk of 16 lanes from its front, a lane a turn: zeros stand behind what is made.
use Prim.Native.Nat.{ℕ, suc, ◌+◌, ◌-◌, ◌<◌, ◌≤◌}
use mathlib.Core.Path.{◌≡◌, sym, ◌∙◌}
use mathlib.Core.List.{List, [], ◌∷◌, ◌++◌, zip_with, map, append-nil, append_assoc}
use native.Mathlib.Omega.{arith}
use native.Mathlib.Numerals.{add-one}
use lib.ListN.{length, get_or, take, set, replicate, length-map}
use lib.Seq.{length-take-le, take-suc, take-length, set_at}
use Rattle.laws.proofs.Lists.{length_zip, zip_at, map_at}

-- After i turns.
pub record Making (goal r : List ℕ) (i : ℕ) : Type 0 where
  pub few : length goal ≤ 16
  pub within : i ≤ length goal
  pub is : r ≡ take i goal ++ replicate (16 - i) 0

pub begun : (goal r : List ℕ) → length goal ≤ 16 → r ≡ replicate 16 0 → Making goal r 0
begun goal r h e = record { few = h; within = omega arith; is = e }

module _ {goal r : List ℕ} {i : ℕ} (m : Making goal r i) where
  pub one_made : (v : ℕ) → i < length goal → v ≡ get_or goal i 0 → Making goal (set r i v) (i + 1)
  one_made v h e =
      let left : 16 - i ≡ suc (16 - suc i) = omega (arith, m.few) in
      record {
        few = m.few;
        within = omega arith;
        is = rw (m.is, left, set_at (take i goal) 0 (replicate (16 - suc i) 0) v i (length-take-le i goal m.within), add-one i, take-suc goal i 0 h, ← e)
            (sym (append_assoc (take i goal) (v ∷ []) (replicate (16 - suc i) 0)));
      }

  pub made_padded : length goal ≤ i → r ≡ goal ++ replicate (16 - length goal) 0
  made_padded h =
      let e : i ≡ length goal = omega (arith, m.within) in
      m.is ∙ rw (e, take-length goal)

  pub made : length goal ≡ 16 → 16 ≤ i → r ≡ goal
  made e h = made_padded (omega arith) ∙ rw e (append-nil goal)

-- Two chunks meet, lane by lane.
pub record Zipping (f : ℕ → ℕ → ℕ) (x y r : List ℕ) (i : ℕ) : Type 0 where
  pub left : length x ≡ 16
  pub right : length y ≡ 16
  pub making : Making (zip_with f x y) r i

pub zip_begun : (f : ℕ → ℕ → ℕ) (x y r : List ℕ) → length x ≡ 16 → length y ≡ 16 → r ≡ replicate 16 0 → Zipping f x y r 0
zip_begun f x y r e g h = record { left = e; right = g; making = begun (zip_with f x y) r (omega (arith, length_zip f x y)) h }

module _ {f : ℕ → ℕ → ℕ} {x y r : List ℕ} {i : ℕ} (z : Zipping f x y r i) where
  pub one_zipped : (v : ℕ) → i < 16 → v ≡ f (get_or x i 0) (get_or y i 0) → Zipping f x y (set r i v) (i + 1)
  one_zipped v h e = record {
    left = z.left;
    right = z.right;
    making = one_made z.making v (omega (arith, length_zip f x y, z.left, z.right)) (e ∙ sym (zip_at f x y i (omega (arith, z.left)) (omega (arith, z.right))));
  }

  pub zipped : 16 ≤ i → r ≡ zip_with f x y
  zipped = made z.making (omega (arith, length_zip f x y, z.left, z.right))

-- A chunk lane by lane.
pub record Mapping (f : ℕ → ℕ) (x r : List ℕ) (i : ℕ) : Type 0 where
  pub lanes : length x ≡ 16
  pub making : Making (map f x) r i

pub map_begun : (f : ℕ → ℕ) (x r : List ℕ) → length x ≡ 16 → r ≡ replicate 16 0 → Mapping f x r 0
map_begun f x r e h = record { lanes = e; making = begun (map f x) r (omega (arith, length-map x f)) h }

module _ {f : ℕ → ℕ} {x r : List ℕ} {i : ℕ} (m : Mapping f x r i) where
  pub one_mapped : (v : ℕ) → i < 16 → v ≡ f (get_or x i 0) → Mapping f x (set r i v) (i + 1)
  one_mapped v h e = record {
    lanes = m.lanes;
    making = one_made m.making v (omega (arith, length-map x f, m.lanes)) (e ∙ sym (map_at f x i 0 (omega (arith, m.lanes))));
  }

  pub mapped : 16 ≤ i → r ≡ map f x
  mapped = made m.making (length-map x f ∙ m.lanes)
