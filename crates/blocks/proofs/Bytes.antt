-- A variable's bytes: the lanes that are loaded from them, and their whole size.
use Prim.Native.Nat.{ℕ, zero, suc, ◌+◌, ◌*◌, ◌-◌, ◌^◌, ◌<◌, ◌≤◌}
use mathlib.Core.Path.{◌≡◌, refl, sym, ap, ◌∙◌}
use mathlib.Core.Bool.{not}
use mathlib.Core.List.{List}
use native.Mathlib.Omega.{arith}
use native.Mathlib.Nat.{suc-mul, zero-mul}
use lib.Dec.{eqb}
use lib.ListN.{length, get_or, take, drop, length-drop}
use lib.Seq.{drop-drop, get_or-drop}
use Rattle.meaning.specs.declared.Kind.{Kind}
use Rattle.meaning.specs.declared.Kind.TheVariants.{Int as int, Bool as bool, Float as float}
use Rattle.meaning.specs.Memory.{size, bit, lane_of, load, whole}
use Rattle.layout.specs.Instructions.{mask_bits}
use Rattle.operators.proofs.Bytes.{bool_lane}
use Rattle.blocks.specs.Chunks.{padded}

pub length-load : (k : Kind) (n : ℕ) (l : List ℕ) → length (load k n l) ≡ n
unfolding load
length-load k zero l = refl
length-load k (suc n) l = ap suc (length-load k n (drop (size k) l))

pub load_at : (k : Kind) (n : ℕ) (l : List ℕ) (i : ℕ) → i < n → get_or (load k n l) i 0 ≡ lane_of k (take (size k) (drop (i * size k) l))
unfolding load
load_at k zero l i h = absurd (omega arith)
load_at k (suc n) l zero h = rw (zero-mul (size k))
load_at k (suc n) l (suc i) h =
    let e : size k + i * size k ≡ suc i * size k = sym (suc-mul i (size k) ∙ omega arith) in
    load_at k n (drop (size k) l) i (omega arith) ∙ rw (drop-drop (i * size k) (size k) l, e)

-- The whole size of n lanes.
pub whole_small : (k : Kind) (n : ℕ) → n ≤ mask_bits → n * size k < 2 ^ 64
unfolding size
whole_small int n h = omega arith
whole_small bool n h = omega arith
whole_small float n h = omega arith

pub whole_int : (n : ℕ) → whole int n ≡ n * 4
unfolding whole size
whole_int n = refl

pub whole_bool : (n : ℕ) → whole bool n ≡ n
unfolding whole size
whole_bool n = omega arith

-- Lane i, as `&memory[from..to]` and `memory[at + i]` have it.
pub int_at : (n : ℕ) (l : List ℕ) (at i : ℕ) → i < n → lane_of int (take (at + i * 4 + 4 - (at + i * 4)) (drop (at + i * 4) l)) ≡ get_or (load int n (drop at l)) i 0
unfolding size
int_at n l at i h =
    let four : at + i * 4 + 4 - (at + i * 4) ≡ 4 = omega arith in
    sym (load_at int n (drop at l) i h ∙ rw (drop-drop (i * 4) at l, four))

pub bool_at : (n : ℕ) (l : List ℕ) (at i : ℕ) → at + n ≤ length l → i < n → bit (not (eqb (get_or l (at + i) 0) 0)) ≡ get_or (load bool n (drop at l)) i 0
bool_at n l at i h k = rw (← get_or-drop at l i 0) (bool_lane (drop at l) i (omega (arith, length-drop at l)) ∙ sym (load_at bool n (drop at l) i k))

-- The lanes that were read for a kind are those of the kind that it is.
pub loaded-padded : {k j : Kind} (n : ℕ) (l : List ℕ) {lanes r : List ℕ} → k ≡ j → lanes ≡ r → r ≡ padded (load j n l) → lanes ≡ padded (load k n l)
loaded-padded n l e f g = f ∙ g ∙ rw e
