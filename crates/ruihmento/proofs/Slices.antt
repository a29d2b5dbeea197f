-- What stands in an answer slice, and what a call leaves.
use Prim.Native.Nat.{ℕ, ◌≤◌, ◌<◌}
use mathlib.Core.Path.{◌≡◌, refl, ◌∙◌}
use mathlib.Core.List.{List, [], ◌∷◌}
use native.Mathlib.Omega.{arith}
use lib.ListN.{length}
use lib.Seq.{sets, sets-eq}
use borrow.Author.Tests.{le-leb, lt-leb}
use Rattle.meaning.specs.Memory.{little_endian}
use Rattle.meaning.specs.Services.{Answer, answer, in_a_row, numbers, with_numbers, called, Kept}
use Rattle.numbers.specs.Sizes.{four_bytes}
use Rattle.ruihmento.specs.Contract.{Leaves}

length_row : (c p n s : ℕ) → length (in_a_row (c ∷ p ∷ n ∷ s ∷ [])) ≡ four_bytes
unfolding in_a_row little_endian
length_row c p n s = refl

-- Four numbers at the front of a slice.
pub row_in_front : (slice : List ℕ) (c p n s : ℕ) → four_bytes ≤ length slice → sets slice 0 (in_a_row (c ∷ p ∷ n ∷ s ∷ [])) ≡ with_numbers (c ∷ p ∷ n ∷ s ∷ []) slice
unfolding with_numbers
row_in_front slice c p n s h = sets-eq (in_a_row (c ∷ p ∷ n ∷ s ∷ [])) slice 0 (omega (arith, length_row c p n s)) ∙ rw (length_row c p n s)

module _ {A : Type 0} (slice : List ℕ) (lent : A) where
  -- A slice without room stays, and so does what was lent.
  pub not_called : (a : Answer) (after : A) → length slice < four_bytes → Kept (called slice lent (numbers a, after)) 0 slice lent
  unfolding called numbers
  not_called a after h = rw (lt-leb four_bytes (length slice) h) (record { returns = refl; slice_is = refl; lent_is = refl })

  -- Otherwise it holds the answer, and what was lent is as the definition leaves it.
  pub kept : (o : Answer × A) {written : List ℕ} {after : A} → four_bytes ≤ length slice → Leaves o slice written after → Kept (called slice lent (numbers o.0, o.1)) 1 written after
  unfolding called numbers
  kept o h l = rw (le-leb four_bytes (length slice) h) (record { returns = refl; slice_is = l.written_is; lent_is = l.after_is })

-- The answer that was told.
pub leaves : {A : Type 0} (o : Answer × A) {slice written : List ℕ} {after : A} (c p n s : ℕ) → o ≡ (answer c p n s, after) → written ≡ with_numbers (c ∷ p ∷ n ∷ s ∷ []) slice → Leaves o slice written after
unfolding answer numbers
leaves o c p n s e w = rw e (record { written_is = w; after_is = refl })
