-- Four stores side by side, the last first, are the store of all their lanes; and the lanes of a mask by fours.
use Prim.Native.Nat.{ℕ, ◌+◌, ◌*◌, ◌/◌, ◌%◌, ◌^◌, ◌≤◌, suc}
use mathlib.Core.Path.{◌≡◌, refl, sym, ap, ◌∙◌}
use mathlib.Core.List.{List, [], ◌∷◌, ◌++◌, append_assoc, append-nil}
use native.Mathlib.Omega.{arith}
use lib.Dec.{eqb}
use lib.Bits.{bit_and, and_mask}
use lib.ListN.{length, get_or, take, drop, length-append, length-drop, take-append-drop}
use lib.Seq.{drop-drop, drop-cons, take_at, drop_at, take-take, take_all, take-append-le, drop-append-le, drop-length, length-take-le}
use Rattle.meaning.specs.declared.Kind.{Kind}
use Rattle.meaning.specs.declared.Kind.TheVariants.{Int as int}
use Rattle.meaning.specs.Memory.{Mask, size, store}
use Rattle.blocks.specs.Masks.{bits}
use Rattle.blocks.specs.Chunks.{placed}
use Rattle.blocks.proofs.Masks.{length-bits, bits-append, low_bit}
use Rattle.blocks.proofs.Stores.{part_of_front, store-append, length-store}

-- ---- parts of a list
module _ (b s : ℕ) (l z : List ℕ) (h : b + s ≤ length l) where
  front : length (take (b + s) l) ≡ b + s
  front = length-take-le (b + s) l h

  -- The part below a front of l, with anything behind it.
  pub part-below : take s (drop b (take (b + s) l ++ z)) ≡ take s (drop b l)
  part-below =
      let e : length (take s (drop b l)) ≡ s = length-take-le s (drop b l) (omega (arith, length-drop b l)) in
      rw (drop-append-le b (take (b + s) l) z (omega (arith, front)), part_of_front b s l (omega arith)) (take_at (take s (drop b l)) z s e)

  pub placed_below : (ys : List ℕ) → placed (take (b + s) l ++ z) b s ys ≡ take b l ++ (ys ++ z)
  placed_below ys =
      let e : length (take s (drop b l)) ≡ s = length-take-le s (drop b l) (omega (arith, length-drop b l)) in
      rw (take-append-le b (take (b + s) l) z (omega (arith, front)), take-take b (b + s) l (omega arith), drop-append-le b (take (b + s) l) z (omega (arith, front)), part_of_front b s l (omega arith), drop_at (take s (drop b l)) z s e)

-- ---- a store in four parts
module _ (k : Kind) where
  -- The store of four parts of s bytes each.
  store_four : (s : ℕ) (m₀ m₁ m₂ m₃ : Mask) (v₀ v₁ v₂ v₃ l : List ℕ)
      → length m₀ ≡ length v₀ → length m₁ ≡ length v₁ → length m₂ ≡ length v₂
      → length v₀ * size k ≡ s → length v₁ * size k ≡ s → length v₂ * size k ≡ s
      → length l ≡ s + s + s + s
      → store k (m₀ ++ (m₁ ++ (m₂ ++ m₃))) (v₀ ++ (v₁ ++ (v₂ ++ v₃))) l
      ≡ store k m₀ v₀ (take s l) ++ (store k m₁ v₁ (take s (drop s l)) ++ (store k m₂ v₂ (take s (drop (s + s) l)) ++ store k m₃ v₃ (drop (s + s + s) l)))
  store_four s m₀ m₁ m₂ m₃ v₀ v₁ v₂ v₃ l a₀ a₁ a₂ b₀ b₁ b₂ size_is =
      let t₀ : store k (m₀ ++ (m₁ ++ (m₂ ++ m₃))) (v₀ ++ (v₁ ++ (v₂ ++ v₃))) l ≡ store k m₀ v₀ (take s l) ++ store k (m₁ ++ (m₂ ++ m₃)) (v₁ ++ (v₂ ++ v₃)) (drop s l) =
      rw b₀ at (store-append k m₀ (m₁ ++ (m₂ ++ m₃)) v₀ (v₁ ++ (v₂ ++ v₃)) l a₀ (omega (arith, b₀))) in
      let t₁ : store k (m₁ ++ (m₂ ++ m₃)) (v₁ ++ (v₂ ++ v₃)) (drop s l) ≡ store k m₁ v₁ (take s (drop s l)) ++ store k (m₂ ++ m₃) (v₂ ++ v₃) (drop (s + s) l) =
      rw (b₁, drop-drop s s l) at (store-append k m₁ (m₂ ++ m₃) v₁ (v₂ ++ v₃) (drop s l) a₁ (omega (arith, b₁, length-drop s l))) in
      let t₂ : store k (m₂ ++ m₃) (v₂ ++ v₃) (drop (s + s) l) ≡ store k m₂ v₂ (take s (drop (s + s) l)) ++ store k m₃ v₃ (drop (s + s + s) l) =
      rw (b₂, drop-drop s (s + s) l) at (store-append k m₂ m₃ v₂ v₃ (drop (s + s) l) a₂ (omega (arith, b₂, length-drop (s + s) l))) in
      rw (t₀, t₁, t₂)

  -- Four stores of s bytes each.
  pub stored_fours : (s : ℕ) (m₀ m₁ m₂ m₃ : Mask) (v₀ v₁ v₂ v₃ l : List ℕ)
      → length m₀ ≡ length v₀ → length m₁ ≡ length v₁ → length m₂ ≡ length v₂
      → length v₀ * size k ≡ s → length v₁ * size k ≡ s → length v₂ * size k ≡ s
      → length l ≡ s + s + s + s
      → {y₀ y₁ y₂ y₃ : List ℕ}
      → y₃ ≡ store k m₃ v₃ (take s (drop (s + s + s) l))
      → y₂ ≡ store k m₂ v₂ (take s (drop (s + s) (placed l (s + s + s) s y₃)))
      → y₁ ≡ store k m₁ v₁ (take s (drop s (placed (placed l (s + s + s) s y₃) (s + s) s y₂)))
      → y₀ ≡ store k m₀ v₀ (take s (placed (placed (placed l (s + s + s) s y₃) (s + s) s y₂) s s y₁))
      → placed (placed (placed (placed l (s + s + s) s y₃) (s + s) s y₂) s s y₁) 0 s y₀ ≡ store k (m₀ ++ (m₁ ++ (m₂ ++ m₃))) (v₀ ++ (v₁ ++ (v₂ ++ v₃))) l
  stored_fours s m₀ m₁ m₂ m₃ v₀ v₁ v₂ v₃ l a₀ a₁ a₂ b₀ b₁ b₂ size_is {y₀} {y₁} {y₂} {y₃} e₃ e₂ e₁ e₀ =
      let nothing : drop s (drop (s + s + s) l) ≡ [] = none (drop s (drop (s + s + s) l)) (omega (arith, length-drop s (drop (s + s + s) l), length-drop (s + s + s) l)) in
      let q₃ : placed l (s + s + s) s y₃ ≡ take (s + s + s) l ++ y₃ = rw (nothing, append-nil y₃) in
      let q₂ : placed (placed l (s + s + s) s y₃) (s + s) s y₂ ≡ take (s + s) l ++ (y₂ ++ y₃) = rw q₃ (placed_below (s + s) s l y₃ (omega arith) y₂) in
      let q₁ : placed (placed (placed l (s + s + s) s y₃) (s + s) s y₂) s s y₁ ≡ take s l ++ (y₁ ++ (y₂ ++ y₃)) = rw q₂ (placed_below s s l (y₂ ++ y₃) (omega arith) y₁) in
      let f₂ : y₂ ≡ store k m₂ v₂ (take s (drop (s + s) l)) = e₂ ∙ rw (q₃, part-below (s + s) s l y₃ (omega arith)) in
      let f₁ : y₁ ≡ store k m₁ v₁ (take s (drop s l)) = e₁ ∙ rw (q₂, part-below s s l (y₂ ++ y₃) (omega arith)) in
      let f₀ : y₀ ≡ store k m₀ v₀ (take s l) = e₀ ∙ rw (q₁, take_at (take s l) (y₁ ++ (y₂ ++ y₃)) s (length-take-le s l (omega arith))) in
      let f₃ : y₃ ≡ store k m₃ v₃ (drop (s + s + s) l) = e₃ ∙ rw (take_all s (drop (s + s + s) l) (omega (arith, length-drop (s + s + s) l))) in
      rw (q₁, drop_at (take s l) (y₁ ++ (y₂ ++ y₃)) s (length-take-le s l (omega arith)), f₀, f₁, f₂, f₃, store_four s m₀ m₁ m₂ m₃ v₀ v₁ v₂ v₃ l a₀ a₁ a₂ b₀ b₁ b₂ size_is)
    where
      none : (l : List ℕ) → length l ≡ 0 → l ≡ []
      none [] e = refl
      none (x ∷ l) e = absurd (omega arith)

-- ---- the same from the first part up
module _ (s : ℕ) (p l ys : List ℕ) {a : ℕ} (e : length p ≡ a) where
  part_above : take s (drop a (p ++ drop a l)) ≡ take s (drop a l)
  part_above = rw (drop_at p (drop a l) a e)

  placed_above : placed (p ++ drop a l) a s ys ≡ (p ++ ys) ++ drop (a + s) l
  placed_above = rw (take_at p (drop a l) a e, drop_at p (drop a l) a e, drop-drop s a l) (sym (append_assoc p ys (drop (a + s) l)))

pub stored_up : (k : Kind) (s : ℕ) (m₀ m₁ m₂ m₃ : Mask) (v₀ v₁ v₂ v₃ l : List ℕ)
    → length m₀ ≡ length v₀ → length m₁ ≡ length v₁ → length m₂ ≡ length v₂
    → length v₀ * size k ≡ s → length v₁ * size k ≡ s → length v₂ * size k ≡ s
    → length l ≡ s + s + s + s
    → {y₀ y₁ y₂ y₃ : List ℕ}
    → y₀ ≡ store k m₀ v₀ (take s l)
    → y₁ ≡ store k m₁ v₁ (take s (drop s (placed l 0 s y₀)))
    → y₂ ≡ store k m₂ v₂ (take s (drop (s + s) (placed (placed l 0 s y₀) s s y₁)))
    → y₃ ≡ store k m₃ v₃ (take s (drop (s + s + s) (placed (placed (placed l 0 s y₀) s s y₁) (s + s) s y₂)))
    → placed (placed (placed (placed l 0 s y₀) s s y₁) (s + s) s y₂) (s + s + s) s y₃ ≡ store k (m₀ ++ (m₁ ++ (m₂ ++ m₃))) (v₀ ++ (v₁ ++ (v₂ ++ v₃))) l
stored_up k s m₀ m₁ m₂ m₃ v₀ v₁ v₂ v₃ l a₀ a₁ a₂ b₀ b₁ b₂ size_is {y₀} {y₁} {y₂} {y₃} e₀ e₁ e₂ e₃ =
    let n₀ : length y₀ ≡ s = long m₀ v₀ y₀ 0 b₀ e₀ (omega arith) in
    let f₁ : y₁ ≡ store k m₁ v₁ (take s (drop s l)) = e₁ ∙ rw (part_above s y₀ l y₁ n₀) in
    let n₁ : length y₁ ≡ s = long m₁ v₁ y₁ s b₁ f₁ (omega arith) in
    let l₁ : length (y₀ ++ y₁) ≡ s + s = length-append y₀ y₁ ∙ omega arith in
    let q₁ : placed (y₀ ++ drop s l) s s y₁ ≡ (y₀ ++ y₁) ++ drop (s + s) l = placed_above s y₀ l y₁ n₀ in
    let f₂ : y₂ ≡ store k m₂ v₂ (take s (drop (s + s) l)) = e₂ ∙ rw (q₁, part_above s (y₀ ++ y₁) l y₂ l₁) in
    let n₂ : length y₂ ≡ s = long m₂ v₂ y₂ (s + s) b₂ f₂ (omega arith) in
    let l₂ : length ((y₀ ++ y₁) ++ y₂) ≡ s + s + s = length-append (y₀ ++ y₁) y₂ ∙ omega arith in
    let q₂ : placed ((y₀ ++ y₁) ++ drop (s + s) l) (s + s) s y₂ ≡ ((y₀ ++ y₁) ++ y₂) ++ drop (s + s + s) l = placed_above s (y₀ ++ y₁) l y₂ l₁ in
    let q₃ : placed (((y₀ ++ y₁) ++ y₂) ++ drop (s + s + s) l) (s + s + s) s y₃ ≡ (((y₀ ++ y₁) ++ y₂) ++ y₃) ++ drop (s + s + s + s) l = placed_above s ((y₀ ++ y₁) ++ y₂) l y₃ l₂ in
    let nothing : drop (s + s + s + s) l ≡ [] = rw (← size_is) (drop-length l) in
    let f₃ : y₃ ≡ store k m₃ v₃ (drop (s + s + s) l) = e₃ ∙ rw (q₁, q₂, part_above s ((y₀ ++ y₁) ++ y₂) l y₃ l₂, take_all s (drop (s + s + s) l) (omega (arith, length-drop (s + s + s) l))) in
    rw (q₁, q₂, q₃, nothing, append-nil (((y₀ ++ y₁) ++ y₂) ++ y₃), append_assoc (y₀ ++ y₁) y₂ y₃, append_assoc y₀ y₁ (y₂ ++ y₃), store_four k s m₀ m₁ m₂ m₃ v₀ v₁ v₂ v₃ l a₀ a₁ a₂ b₀ b₁ b₂ size_is, ← e₀, ← f₁, ← f₂, ← f₃)
  where
    -- What a store makes of s bytes are s bytes.
    long : (m : Mask) (v y : List ℕ) (a : ℕ) → length v * size k ≡ s → y ≡ store k m v (take s (drop a l)) → a + s ≤ length l → length y ≡ s
    long m v y a b e h =
        let t : length (take s (drop a l)) ≡ s = length-take-le s (drop a l) (omega (arith, length-drop a l)) in
        rw e (length-store k m v (take s (drop a l)) (omega (arith, t, b)) ∙ t)

-- ---- the lanes of a mask
-- Each is tested by a shift.
pub bits_four : (m : ℕ) → bits 4 m ≡ eqb (bit_and m 1) 1 ∷ eqb (bit_and (m / 2 ^ 1) 1) 1 ∷ eqb (bit_and (m / 2 ^ 2) 1) 1 ∷ eqb (bit_and (m / 2 ^ 3) 1) 1 ∷ []
unfolding bits
bits_four m =
    let two : m / 2 ^ 2 ≡ m / 2 / 2 = omega arith in
    let three : m / 2 ^ 3 ≡ m / 2 / 2 / 2 = omega arith in
    rw (low_bit m, low_bit (m / 2 ^ 1), two, three, low_bit (m / 2 / 2), low_bit (m / 2 / 2 / 2))

pub bits_sixteen : (m : ℕ) → bits 16 m ≡ bits 4 m ++ (bits 4 (m / 2 ^ 4) ++ (bits 4 (m / 2 ^ 8) ++ bits 4 (m / 2 ^ 12)))
bits_sixteen m =
    let e : m / 2 ^ 4 / 2 ^ 4 ≡ m / 2 ^ 8 = omega arith in
    let f : m / 2 ^ 8 / 2 ^ 4 ≡ m / 2 ^ 12 = omega arith in
    bits-append 4 12 m ∙ ap (λ l. bits 4 m ++ l) (bits-append 4 8 (m / 2 ^ 4) ∙ rw e (ap (λ l. bits 4 (m / 2 ^ 4) ++ l) (bits-append 4 4 (m / 2 ^ 8) ∙ rw f)))

-- All four, or none.
pub four_active : (m : ℕ) → bit_and m 15 ≡ 15 → bits 4 m ≡ bits 4 15
unfolding bits
four_active m h =
    let e : m % 16 ≡ 15 = sym (and_mask m 4) ∙ h in
    let a : m % 2 ≡ 1 = omega arith in
    let h₁ : m / 2 ≡ m / 16 * 8 + 7 = omega arith in
    let h₂ : m / 2 / 2 ≡ m / 16 * 4 + 3 = omega arith in
    let h₃ : m / 2 / 2 / 2 ≡ m / 16 * 2 + 1 = omega arith in
    let b : m / 2 % 2 ≡ 1 = rw h₁ (omega arith) in
    let c : m / 2 / 2 % 2 ≡ 1 = rw h₂ (omega arith) in
    let d : m / 2 / 2 / 2 % 2 ≡ 1 = rw h₃ (omega arith) in
    rw (a, b, c, d)

pub four_idle : (m : ℕ) → bit_and m 15 ≡ 0 → bits 4 m ≡ bits 4 0
unfolding bits
four_idle m h =
    let e : m % 16 ≡ 0 = sym (and_mask m 4) ∙ h in
    let a : m % 2 ≡ 0 = omega arith in
    let h₁ : m / 2 ≡ m / 16 * 8 + 0 = omega arith in
    let h₂ : m / 2 / 2 ≡ m / 16 * 4 + 0 = omega arith in
    let h₃ : m / 2 / 2 / 2 ≡ m / 16 * 2 + 0 = omega arith in
    let b : m / 2 % 2 ≡ 0 = rw h₁ (omega arith) in
    let c : m / 2 / 2 % 2 ≡ 0 = rw h₂ (omega arith) in
    let d : m / 2 / 2 / 2 % 2 ≡ 0 = rw h₃ (omega arith) in
    rw (a, b, c, d)

-- ---- four lanes of a chunk
pub four_lanes : (x : List ℕ) (i : ℕ) → i + 4 ≤ length x → take 4 (drop i x) ≡ get_or x i 0 ∷ get_or x (i + 1) 0 ∷ get_or x (i + 2) 0 ∷ get_or x (i + 3) 0 ∷ []
four_lanes x i h =
    let a : i + 1 ≡ suc i = omega arith in
    let b : i + 2 ≡ suc (suc i) = omega arith in
    let c : i + 3 ≡ suc (suc (suc i)) = omega arith in
    rw (a, b, c, drop-cons x i 0 (omega arith), drop-cons x (suc i) 0 (omega arith), drop-cons x (suc (suc i)) 0 (omega arith), drop-cons x (suc (suc (suc i))) 0 (omega arith))

pub by_fours : (x : List ℕ) → length x ≡ 16 → x ≡ take 4 x ++ (take 4 (drop 4 x) ++ (take 4 (drop 8 x) ++ take 4 (drop 12 x)))
by_fours x h =
    let a : x ≡ take 4 x ++ drop 4 x = sym (take-append-drop 4 x) in
    let b : drop 4 x ≡ take 4 (drop 4 x) ++ drop 8 x = sym (rw (drop-drop 4 4 x) at (take-append-drop 4 (drop 4 x))) in
    let c : drop 8 x ≡ take 4 (drop 8 x) ++ drop 12 x = sym (rw (drop-drop 4 8 x) at (take-append-drop 4 (drop 8 x))) in
    let d : take 4 (drop 12 x) ≡ drop 12 x = take_all 4 (drop 12 x) (omega (arith, length-drop 12 x)) in
    a ∙ ap (λ t. take 4 x ++ t) (b ∙ ap (λ t. take 4 (drop 4 x) ++ t) (c ∙ ap (λ t. take 4 (drop 8 x) ++ t) (sym d)))

-- ---- sixteen lanes
pub stored_sixteen : (x : List ℕ) (m : ℕ) (l : List ℕ) → length x ≡ 16 → length l ≡ 64
    → {y₀ y₁ y₂ y₃ : List ℕ}
    → y₃ ≡ store int (bits 4 (m / 2 ^ 12)) (get_or x 12 0 ∷ get_or x 13 0 ∷ get_or x 14 0 ∷ get_or x 15 0 ∷ []) (take 16 (drop 48 l))
    → y₂ ≡ store int (bits 4 (m / 2 ^ 8)) (get_or x 8 0 ∷ get_or x 9 0 ∷ get_or x 10 0 ∷ get_or x 11 0 ∷ []) (take 16 (drop 32 (placed l 48 16 y₃)))
    → y₁ ≡ store int (bits 4 (m / 2 ^ 4)) (get_or x 4 0 ∷ get_or x 5 0 ∷ get_or x 6 0 ∷ get_or x 7 0 ∷ []) (take 16 (drop 16 (placed (placed l 48 16 y₃) 32 16 y₂)))
    → y₀ ≡ store int (bits 4 m) (get_or x 0 0 ∷ get_or x 1 0 ∷ get_or x 2 0 ∷ get_or x 3 0 ∷ []) (take 16 (placed (placed (placed l 48 16 y₃) 32 16 y₂) 16 16 y₁))
    → placed (placed (placed (placed l 48 16 y₃) 32 16 y₂) 16 16 y₁) 0 16 y₀ ≡ store int (bits 16 m) x l
unfolding size
stored_sixteen x m l h r e₃ e₂ e₁ e₀ =
    let values : get_or x 0 0 ∷ get_or x 1 0 ∷ get_or x 2 0 ∷ get_or x 3 0 ∷ get_or x 4 0 ∷ get_or x 5 0 ∷ get_or x 6 0 ∷ get_or x 7 0 ∷ get_or x 8 0 ∷ get_or x 9 0 ∷ get_or x 10 0 ∷ get_or x 11 0 ∷ get_or x 12 0 ∷ get_or x 13 0 ∷ get_or x 14 0 ∷ get_or x 15 0 ∷ [] ≡ x =
    sym (by_fours x h ∙ rw (four_lanes x 0 (omega arith), four_lanes x 4 (omega arith), four_lanes x 8 (omega arith), four_lanes x 12 (omega arith))) in
    stored_fours int 16 (bits 4 m) (bits 4 (m / 2 ^ 4)) (bits 4 (m / 2 ^ 8)) (bits 4 (m / 2 ^ 12))
    (get_or x 0 0 ∷ get_or x 1 0 ∷ get_or x 2 0 ∷ get_or x 3 0 ∷ []) (get_or x 4 0 ∷ get_or x 5 0 ∷ get_or x 6 0 ∷ get_or x 7 0 ∷ []) (get_or x 8 0 ∷ get_or x 9 0 ∷ get_or x 10 0 ∷ get_or x 11 0 ∷ []) (get_or x 12 0 ∷ get_or x 13 0 ∷ get_or x 14 0 ∷ get_or x 15 0 ∷ [])
    l (length-bits 4 m) (length-bits 4 (m / 2 ^ 4)) (length-bits 4 (m / 2 ^ 8)) refl refl refl r e₃ e₂ e₁ e₀
    ∙ rw (bits_sixteen m) (ap (λ t. store int (bits 4 m ++ (bits 4 (m / 2 ^ 4) ++ (bits 4 (m / 2 ^ 8) ++ bits 4 (m / 2 ^ 12)))) t l) values)
