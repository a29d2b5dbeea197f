-- A register's lanes, a chunk that is put into one, and a value in a chunk.
use Prim.Native.Nat.{ℕ, ◌+◌, ◌<◌, ◌≤◌}
use mathlib.Core.Path.{◌≡◌, refl, sym, ◌∙◌}
use mathlib.Core.List.{List, [], ◌∷◌, append_assoc}
use native.Mathlib.Omega.{arith}
use native.Mathlib.Numerals.{add-one}
use lib.ListN.{length, get_or, take, drop, set, replicate, length-drop, length-set}
use lib.Seq.{get_or-take, get_or-drop, drop-drop, length-take-le, take_all, paste, paste-zero, paste-suc}
use Rattle.blocks.specs.Chunks.{placed, padded, in_chunk}

-- A register's lanes.
module _ (l : List ℕ) (at : ℕ) (h : at + 16 ≤ length l) where
  pub length-register : length (take 16 (drop at l)) ≡ 16
  length-register = length-take-le 16 (drop at l) (omega (arith, length-drop at l))

  pub register_at : (i : ℕ) → i < 16 → get_or l (at + i) 0 ≡ get_or (take 16 (drop at l)) i 0
  register_at i k = sym (get_or-take 16 (drop at l) i 0 k ∙ get_or-drop at l i 0)

-- A loop that puts a chunk into a register.
pub record Pasting (l₀ : List ℕ) (at : ℕ) (x l : List ℕ) (i : ℕ) : Type 0 where
  pub lanes : length x ≡ 16
  pub room : at + 16 ≤ length l₀
  pub few : i ≤ 16
  pub size : length l ≡ length l₀
  pub is : l ≡ paste l₀ at x i

pub paste_begun : (l : List ℕ) (at : ℕ) (x : List ℕ) → length x ≡ 16 → at + 16 ≤ length l → Pasting l at x l 0
paste_begun l at x e h = record { lanes = e; room = h; few = omega arith; size = refl; is = paste-zero l at x }

module _ {l₀ x l : List ℕ} {at i : ℕ} (p : Pasting l₀ at x l i) where
  pub one_pasted : i < 16 → {v : ℕ} → v ≡ get_or x i 0 → Pasting l₀ at x (set l (at + i) v) (i + 1)
  one_pasted h {v} e = record {
    lanes = p.lanes;
    room = p.room;
    few = omega arith;
    size = length-set l (at + i) v ∙ p.size;
    is = rw (e, p.is, add-one i) (paste-suc l₀ at x i 0 (omega (arith, p.room)) (omega (arith, p.lanes)));
  }

  pub pasted : 16 ≤ i → l ≡ placed l₀ at 16 x
  pasted h =
      let e : i ≡ 16 = omega (arith, p.few) in
      p.is ∙ rw (e, take_all 16 x (omega (arith, p.lanes)), drop-drop 16 at l₀) (append_assoc (take at l₀) x (drop (at + 16) l₀))

-- A value in a chunk: one lane, or another number of them.
pub one_in_chunk : (v : List ℕ) → length v ≡ 1 → replicate 16 (get_or (padded v) 0 0) ≡ in_chunk v
unfolding in_chunk
one_in_chunk [] h = absurd (omega arith)
one_in_chunk (x ∷ []) h = refl
one_in_chunk (x ∷ y ∷ v) h = absurd (omega arith)

pub more_in_chunk : (v : List ℕ) → (length v ≡ 1 → ⊥) → padded v ≡ in_chunk v
unfolding in_chunk
more_in_chunk [] h = refl
more_in_chunk (x ∷ []) h = absurd (h refl)
more_in_chunk (x ∷ y ∷ v) h = refl
