-- A store lane by lane: what a lane more writes, and what the lanes after a part write.
use Prim.Native.Nat.{ℕ, zero, suc, ◌+◌, ◌*◌, ◌-◌, ◌/◌, ◌^◌, ◌<◌, ◌≤◌}
use mathlib.Core.Path.{◌≡◌, refl, sym, ap, ◌∙◌}
use mathlib.Core.Bool.{Bool, true, false}
use mathlib.Core.List.{List, [], ◌∷◌, ◌++◌, append_assoc, append-nil}
use native.Mathlib.Omega.{arith}
use native.Mathlib.Nat.{suc-mul, zero-mul, mul-le-mul_right}
use native.Mathlib.Numerals.{add-one}
use lib.Dec.{eqb}
use lib.Bits.{bit_and}
use lib.ListN.{length, get_or, take, drop, set, length-append, length-drop, take-append-drop}
use lib.Seq.{drop-drop, drop-cons, drop-length, take_at, drop_at, take-add, take-take, take_all, length-take-le, set_split}
use Rattle.meaning.specs.declared.Kind.{Kind}
use Rattle.meaning.specs.declared.Kind.TheVariants.{Int as int, Bool as bool}
use Rattle.meaning.specs.Memory.{Mask, size, truth, bool_byte, bytes_of, store}
use Rattle.operators.proofs.Bytes.{length-bytes}
use Rattle.blocks.specs.Masks.{bits}
use Rattle.blocks.specs.Chunks.{placed}
use Rattle.blocks.proofs.Masks.{length-bits, bits_next}

-- No lane is active.
pub store_none : (k : Kind) (n : ℕ) (v l : List ℕ) → length v ≡ n → n * size k ≤ length l → store k (bits n 0) v l ≡ l
unfolding bits store
store_none k zero v l e h = refl
store_none k (suc n) [] l e h = refl
store_none k (suc n) (x ∷ v) l e h =
    let room : size k + n * size k ≤ length l = omega (arith, suc-mul n (size k)) in
    rw (store_none k n v (drop (size k) l) (omega arith) (omega (arith, length-drop (size k) l))) (take-append-drop (size k) l)

-- ---- parts of a list
pub part_of_front : (s k : ℕ) (l : List ℕ) → s ≤ length l → drop s (take (s + k) l) ≡ take k (drop s l)
part_of_front s k l h = rw (take-add s k l) (drop_at (take s l) (take k (drop s l)) s (length-take-le s l h))

none_left : (n : ℕ) (l : List ℕ) → length l ≡ n → drop n l ≡ []
none_left n l e = rw (← e) (drop-length l)

module _ (k : Kind) where
  -- ---- one lane
  pub one_active : (x : ℕ) (l : List ℕ) → length l ≡ size k → store k (true ∷ []) (x ∷ []) l ≡ bytes_of k x
  unfolding store
  one_active x l h = rw (none_left (size k) l h) (append-nil (bytes_of k x))

  pub one_idle : (x : ℕ) (l : List ℕ) → length l ≡ size k → store k (false ∷ []) (x ∷ []) l ≡ l
  unfolding store
  one_idle x l h = rw (none_left (size k) l h) (append-nil (take (size k) l) ∙ take_all (size k) l (omega arith))

  -- ---- a store in two parts
  pub store-append : (m n : Mask) (v w l : List ℕ) → length m ≡ length v → length v * size k ≤ length l
      → store k (m ++ n) (v ++ w) l ≡ store k m v (take (length v * size k) l) ++ store k n w (drop (length v * size k) l)
  unfolding store
  store-append [] n [] w l e h = rw (zero-mul (size k))
  store-append [] n (x ∷ v) w l e h = absurd (omega arith)
  store-append (c ∷ m) n [] w l e h = absurd (omega arith)
  store-append (true ∷ m) n (x ∷ v) w l e h =
      let t : suc (length v) * size k ≡ size k + length v * size k = suc-mul (length v) (size k) ∙ omega arith in
      let room : size k + length v * size k ≤ length l = omega arith in
      rw (t, part_of_front (size k) (length v * size k) l (omega arith), ← drop-drop (length v * size k) (size k) l, store-append m n v w (drop (size k) l) (omega arith) (omega (arith, length-drop (size k) l)))
      (sym (append_assoc (bytes_of k x) (store k m v (take (length v * size k) (drop (size k) l))) (store k n w (drop (length v * size k) (drop (size k) l)))))
  store-append (false ∷ m) n (x ∷ v) w l e h =
      let t : suc (length v) * size k ≡ size k + length v * size k = suc-mul (length v) (size k) ∙ omega arith in
      let room : size k + length v * size k ≤ length l = omega arith in
      rw (t, part_of_front (size k) (length v * size k) l (omega arith), take-take (size k) (size k + length v * size k) l (omega arith), ← drop-drop (length v * size k) (size k) l, store-append m n v w (drop (size k) l) (omega arith) (omega (arith, length-drop (size k) l)))
      (sym (append_assoc (take (size k) l) (store k m v (take (length v * size k) (drop (size k) l))) (store k n w (drop (length v * size k) (drop (size k) l)))))

  pub length-store : (m : Mask) (v l : List ℕ) → length v * size k ≤ length l → length (store k m v l) ≡ length l
  unfolding store
  length-store [] v l h = refl
  length-store (c ∷ m) [] l h = refl
  length-store (true ∷ m) (x ∷ v) l h =
      let room : size k + length v * size k ≤ length l = omega (arith, suc-mul (length v) (size k)) in
      omega (arith, length-append (bytes_of k x) (store k m v (drop (size k) l)), length-bytes k x, length-store m v (drop (size k) l) (omega (arith, length-drop (size k) l)), length-drop (size k) l)
  length-store (false ∷ m) (x ∷ v) l h =
      let room : size k + length v * size k ≤ length l = omega (arith, suc-mul (length v) (size k)) in
      omega (arith, length-append (take (size k) l) (store k m v (drop (size k) l)), length-take-le (size k) l (omega arith), length-store m v (drop (size k) l) (omega (arith, length-drop (size k) l)), length-drop (size k) l)

  -- A lane's bytes in their place.
  pub length-lane : (c : Bool) (x : ℕ) (l : List ℕ) (a : ℕ) → a + size k ≤ length l → length (placed l a (size k) (store k (c ∷ []) (x ∷ []) (take (size k) (drop a l)))) ≡ length l
  length-lane c x l a h =
      let t : length (take (size k) (drop a l)) ≡ size k = length-take-le (size k) (drop a l) (omega (arith, length-drop a l)) in
      let e : length (store k (c ∷ []) (x ∷ []) (take (size k) (drop a l))) ≡ size k = length-store (c ∷ []) (x ∷ []) (take (size k) (drop a l)) (omega (arith, t)) ∙ t in
      rw (length-append (take a l) (store k (c ∷ []) (x ∷ []) (take (size k) (drop a l)) ++ drop (size k) (drop a l)), length-append (store k (c ∷ []) (x ∷ []) (take (size k) (drop a l))) (drop (size k) (drop a l)), length-drop (size k) (drop a l), length-drop a l, length-take-le a l (omega arith), e) (omega arith)

  -- ---- one lane more: v is stored under m, and then x, the next lane, under c
  module _ (m : Mask) (c : Bool) (x : ℕ) (v w l : List ℕ) (e : length m ≡ length v) (room : length v * size k + size k ≤ length l) where
    a : ℕ
    a = length v * size k

    -- What the first lanes leave, and what stands behind them.
    front : List ℕ
    front = store k m v (take a l)

    long_front : length front ≡ a
    unfolding front a
    long_front = let t : length (take (length v * size k) l) ≡ length v * size k = length-take-le (length v * size k) l (omega arith) in
        length-store m v (take (length v * size k) l) (omega (arith, t)) ∙ t

    before : store k m (v ++ (x ∷ w)) l ≡ front ++ drop a l
    unfolding front a store
    before = rw (append-nil m) at (store-append m [] v (x ∷ w) l e (omega arith))

    one : store k (c ∷ []) (x ∷ w) (drop a l) ≡ store k (c ∷ []) (x ∷ []) (take (size k) (drop a l)) ++ drop (size k) (drop a l)
    unfolding a store
    one =
        let s : 1 * size k ≡ size k = omega arith in
        rw s at (store-append (c ∷ []) [] (x ∷ []) w (drop (length v * size k) l) refl (rw s (omega (arith, length-drop (length v * size k) l))))

    pub next_lane : store k (m ++ (c ∷ [])) (v ++ (x ∷ w)) l
        ≡ placed (store k m (v ++ (x ∷ w)) l) (length v * size k) (size k) (store k (c ∷ []) (x ∷ []) (take (size k) (drop (length v * size k) (store k m (v ++ (x ∷ w)) l))))
    unfolding front a
    next_lane =
        rw (before, take_at front (drop a l) a long_front, drop_at front (drop a l) a long_front, ← one)
        (store-append m (c ∷ []) v (x ∷ w) l e (omega arith))

-- ---- a loop that stores the active ones of n lanes of v, the first first
pub record Storing (k : Kind) (mask n : ℕ) (v l₀ l : List ℕ) (i : ℕ) : Type 0 where
  pub few : n ≤ length v
  pub room : length l₀ ≡ n * size k
  pub within : i ≤ n
  pub kept : length l ≡ length l₀
  pub is : l ≡ store k (bits i mask) v l₀

pub store_begun : {k : Kind} (mask n : ℕ) (v l : List ℕ) → n ≤ length v → length l ≡ n * size k → Storing k mask n v l l 0
unfolding bits store
store_begun mask n v l h e = record { few = h; room = e; within = omega arith; kept = refl; is = refl }

module _ {k : Kind} {mask n i : ℕ} {v l₀ l : List ℕ} (s : Storing k mask n v l₀ l i) where
  pub lane_room : i < n → i * size k + size k ≤ length l
  lane_room h = omega (arith, mul-le-mul_right (size k) h, suc-mul i (size k), s.room, s.kept)

  -- The lane's bytes become what a store of the lane alone makes of them.
  pub one_stored : i < n → {next : List ℕ}
      → next ≡ placed l (i * size k) (size k) (store k (eqb (bit_and (mask / 2 ^ i) 1) 1 ∷ []) (get_or v i 0 ∷ []) (take (size k) (drop (i * size k) l))) → Storing k mask n v l₀ next (i + 1)
  one_stored h {next} g =
      let split : v ≡ take i v ++ (get_or v i 0 ∷ drop (suc i) v) = sym (rw (← drop-cons v i 0 (omega (arith, s.few))) (take-append-drop i v)) in
      let long : length (take i v) ≡ i = length-take-le i v (omega (arith, s.few)) in
      record {
        few = s.few;
        room = s.room;
        within = omega arith;
        kept = rw g (length-lane k (eqb (bit_and (mask / 2 ^ i) 1) 1) (get_or v i 0) l (i * size k) (lane_room h)) ∙ s.kept;
        is = g ∙ rw (s.is, bits_next i mask) (sym (split_next split long));
      }
    where
      split_next : v ≡ take i v ++ (get_or v i 0 ∷ drop (suc i) v) → length (take i v) ≡ i
          → store k (bits i mask ++ (eqb (bit_and (mask / 2 ^ i) 1) 1 ∷ [])) v l₀
          ≡ placed (store k (bits i mask) v l₀) (i * size k) (size k) (store k (eqb (bit_and (mask / 2 ^ i) 1) 1 ∷ []) (get_or v i 0 ∷ []) (take (size k) (drop (i * size k) (store k (bits i mask) v l₀))))
      split_next split long = rw (long, ← split) at (next_lane k (bits i mask) (eqb (bit_and (mask / 2 ^ i) 1) 1) (get_or v i 0) (take i v) (drop (suc i) v) l₀ (length-bits i mask ∙ sym long) (rw long (omega (arith, lane_room h, s.kept))))

  pub all_stored : n ≤ i → l ≡ store k (bits n mask) v l₀
  all_stored h = let e : i ≡ n = omega (arith, s.within) in s.is ∙ rw e

-- ---- the i-th int, as `&mut bytes[from..to]` has it
four : (i : ℕ) → i * 4 + 4 - i * 4 ≡ 4
four i = omega arith

pub length_int : (l : List ℕ) (i : ℕ) → i * size int + size int ≤ length l → length (take (i * 4 + 4 - i * 4) (drop (i * 4) l)) ≡ 4
unfolding size
length_int l i h = rw (four i) (length-take-le 4 (drop (i * 4) l) (omega (arith, length-drop (i * 4) l)))

pub int_stored : (l : List ℕ) (i x : ℕ) (c : Bool) {ys : List ℕ} → ys ≡ store int (c ∷ []) (x ∷ []) (take (i * 4 + 4 - i * 4) (drop (i * 4) l))
    → placed l (i * 4) (i * 4 + 4 - i * 4) ys ≡ placed l (i * size int) (size int) (store int (c ∷ []) (x ∷ []) (take (size int) (drop (i * size int) l)))
unfolding size
int_stored l i x c {ys} e =
    let g : ys ≡ store int (c ∷ []) (x ∷ []) (take 4 (drop (i * 4) l)) = e ∙ ap (λ n. store int (c ∷ []) (x ∷ []) (take n (drop (i * 4) l))) (four i) in
    rw (four i, g)

-- ---- the i-th bool, where it is active and where it is not
module _ (l : List ℕ) (i x : ℕ) (c : Bool) (h : i < length l) where
  one_byte : length (take 1 (drop i l)) ≡ 1
  one_byte = length-take-le 1 (drop i l) (omega (arith, length-drop i l))

  pub bool_stored : c ≡ true → {b : ℕ} → b ≡ bool_byte (truth x) → set l i b ≡ placed l (i * size bool) (size bool) (store bool (c ∷ []) (x ∷ []) (take (size bool) (drop (i * size bool) l)))
  unfolding size bytes_of
  bool_stored t {b} e =
      let z : i * 1 ≡ i = omega arith in
      rw (t, z, one_active bool x (take 1 (drop i l)) one_byte, drop-drop 1 i l, add-one i, e) (set_split l i (bool_byte (truth x)) h)

  pub bool_kept : c ≡ false → l ≡ placed l (i * size bool) (size bool) (store bool (c ∷ []) (x ∷ []) (take (size bool) (drop (i * size bool) l)))
  unfolding size
  bool_kept f =
      let z : i * 1 ≡ i = omega arith in
      rw (f, z, one_idle bool x (take 1 (drop i l)) one_byte, take-append-drop 1 (drop i l)) (sym (take-append-drop i l))
