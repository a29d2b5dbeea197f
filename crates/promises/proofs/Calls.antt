-- What a call leaves that keeps its promise: one result alone, and what a caller finds in it.
use Prim.Native.Nat.{ℕ, ◌^◌, ◌≤◌, ◌<◌}
use mathlib.Core.Path.{◌≡◌, refl, sym, ◌∙◌}
use mathlib.Core.Bool.{Bool, true, false}
use mathlib.Core.List.{List}
use native.Mathlib.Omega.{arith}
use lib.Dec.{leb}
use lib.ListN.{length}
use borrow.Author.Tests.{le-leb, lt-leb, leb-true, leb-false}
use Rattle.meaning.specs.Memory.{little_endian, number_of}
use Rattle.meaning.specs.Services.{Answer, answer, answer_bytes, in_a_row, Called, numbers, with_numbers, called, Kept}
use Rattle.laws.specs.Words.{Words}
use Rattle.promises.specs.Promise.{number_at, numbers_in, Delivers}

-- Two results of a call that keep its promise are the same: return value, every byte of the answer slice and of what was lent.
pub coincide : {A : Type 0} (by : Called A) (r r' : ℕ) (s s' : List ℕ) (l l' : A) → Kept by r s l → Kept by r' s' l' → (r ≡ r') × (s ≡ s') × (l ≡ l')
coincide by r r' s s' l l' k k' = (k.returns ∙ sym k'.returns, k.slice_is ∙ sym k'.slice_is, k.lent_is ∙ sym k'.lent_is)

-- What a call delivers that keeps the promise of an answer.
pub delivers : {A : Type 0} (slice : List ℕ) (lent : A) (a : Answer) (after : A) {returned : ℕ} {slice' : List ℕ} {lent' : A}
    → Kept (called slice lent (numbers a, after)) returned slice' lent' → Delivers slice lent a after returned slice' lent'
unfolding called numbers
delivers slice lent a after {returned} {slice'} {lent'} kept = record { without_room = short; with_room = long }
  where
    short : length slice < answer_bytes → (returned ≡ 0) × (slice' ≡ slice) × (lent' ≡ lent)
    short h = let k = rw (lt-leb answer_bytes (length slice) h) at kept in (k.returns, k.slice_is, k.lent_is)

    long : answer_bytes ≤ length slice → (returned ≡ 1) × (slice' ≡ with_numbers (numbers a) slice) × (lent' ≡ after)
    long h = let k = rw (le-leb answer_bytes (length slice) h) at kept in (k.returns, k.slice_is, k.lent_is)

-- Four bytes hold a number below 2^32: it is read as it was written.
pub four_bytes : (n : ℕ) → n < 2 ^ 32 → number_of (little_endian 4 n) ≡ n
unfolding number_of little_endian
four_bytes n h = omega arith

read_back : (slice : List ℕ) {a : Answer} → Words a → numbers_in (with_numbers (numbers a) slice) ≡ a
unfolding numbers_in number_at with_numbers numbers in_a_row little_endian number_of answer
read_back slice {a} w = λ i. answer (four_bytes a.code w.code i) (four_bytes a.place w.place i) (four_bytes a.need w.need i) (four_bytes a.steps w.steps i)

module _ {A : Type 0} {slice : List ℕ} {lent : A} {a : Answer} {after : A} {returned : ℕ} {slice' : List ℕ} {lent' : A} (d : Delivers slice lent a after returned slice' lent') where
  -- Whoever is returned 1 had room, and reads the answer.
  pub with_one : returned ≡ 1 → answer_bytes ≤ length slice
  with_one e = go (leb answer_bytes (length slice)) refl
    where
      go : (b : Bool) → leb answer_bytes (length slice) ≡ b → answer_bytes ≤ length slice
      go true t = leb-true answer_bytes (length slice) t
      go false t = let z : returned ≡ 0 = (d.without_room (leb-false answer_bytes (length slice) t)).0 in absurd (omega arith)

  pub reads : Words a → returned ≡ 1 → numbers_in slice' ≡ a
  reads w e = rw (d.with_room (with_one e)).1 (read_back slice w)

  -- What was lent is as the definition leaves it, or, without room, as it was.
  pub left_as : (P : A → Type 0) → P lent → P after → P lent'
  left_as P was is = go (leb answer_bytes (length slice)) refl
    where
      go : (b : Bool) → leb answer_bytes (length slice) ≡ b → P lent'
      go true t = rw (d.with_room (leb-true answer_bytes (length slice) t)).2 is
      go false t = rw (d.without_room (leb-false answer_bytes (length slice) t)).2 was

  pub lent_stays : after ≡ lent → lent' ≡ lent
  lent_stays e = left_as (λ l. l ≡ lent) refl e
