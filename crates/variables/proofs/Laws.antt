-- Records one after another: what stands in a table after the first of them. Assumes nothing.
use Prim.Native.Nat.{ℕ, zero, suc, ◌+◌, ◌*◌, ◌/◌, min, ◌≤◌, ◌<◌}
use mathlib.Core.Path.{◌≡◌, refl, sym, ◌∙◌}
use mathlib.Core.List.{List, [], ◌∷◌, ◌++◌, append_assoc, append-nil}
use native.Mathlib.Omega.{arith}
use native.Mathlib.Nat.{eq-or-lt_of_le}
use mathlib.Core.Logic.{⊎_elim}
use lib.ListN.{length, drop, length-append, length-drop}
use lib.Seq.{sets, sets-eq, drop-drop, drop_at, take_at}
use borrow.Author.Tests.{le-leb, lt-leb}
use Rattle.meaning.specs.declared.Kind.{Kind}
use Rattle.meaning.specs.Memory.{Declared, Declarations, little_endian}
use Rattle.meaning.specs.Tree.{kind_number}
use Rattle.meaning.specs.Services.{in_a_row, listed}
use Rattle.layout.specs.Table.{word_of, place_column, kind_column, lanes_column, address_column, kind_of, entry, entries}

-- The record of a declaration, and those of several.
abbrev pub record_of : Declared → List ℕ
record_of d = in_a_row (d.place ∷ kind_number d.kind ∷ d.lanes ∷ d.address ∷ [])

unfoldable pub written : Declarations → List ℕ
written [] = []
written (d ∷ Γ) = record_of d ++ written Γ

length_record : (d : Declared) → length (record_of d) ≡ 16
unfolding in_a_row little_endian
length_record d = refl

length_written : (Γ : Declarations) → length (written Γ) ≡ 16 * length Γ
unfolding written
length_written [] = refl
length_written (d ∷ Γ) = simp (length-append, length_record) (omega (arith, length_written Γ))

-- Where the first fit, the others are listed behind them.
pub listed-append : (Γ Δ : Declarations) (l : List ℕ) → 16 * length Γ ≤ length l → listed (Γ ++ Δ) l ≡ written Γ ++ listed Δ (drop (16 * length Γ) l)
unfolding listed written
listed-append [] Δ l h = refl
listed-append (d ∷ Γ) Δ l h =
    let fits : 16 ≤ length l = omega arith in
    let rest : 16 * length Γ ≤ length (drop 16 l) = simp length-drop (omega arith) in
    let n : 16 + 16 * length Γ ≡ 16 * suc (length Γ) = omega arith in
    rw (le-leb 16 (length l) fits, listed-append Γ Δ (drop 16 l) rest, drop-drop, n) (sym (append_assoc (record_of d) (written Γ) _))

written_append : (Γ Δ : Declarations) → written (Γ ++ Δ) ≡ written Γ ++ written Δ
unfolding written
written_append [] Δ = refl
written_append (d ∷ Γ) Δ = rw (written_append Γ Δ) (sym (append_assoc (record_of d) (written Γ) (written Δ)))

-- A table that is too short for one more record stays.
listed_short : (Δ : Declarations) (l : List ℕ) → length l < 16 → listed Δ l ≡ l
unfolding listed
listed_short [] l h = refl
listed_short (d ∷ Δ) l h = rw (lt-leb 16 (length l) h)

entries-length : (table : List ℕ) (n : ℕ) → length (entries [] table n) ≡ n
unfolding entries
entries-length table zero = refl
entries-length table (suc n) = simp length-append (omega (arith, entries-length table n))

-- The first i of n declarations.
record Split (table : List ℕ) (i n : ℕ) : Type 0 where
  rest : Declarations
  is : entries [] table n ≡ entries [] table i ++ rest

split : (table : List ℕ) (i n : ℕ) → i ≤ n → Split table i n
unfolding entries
split table i zero h = let e : i ≡ 0 = omega arith in record { rest = []; is = rw e }
split table i (suc n) h =
    ⊎_elim (λ (e : i ≡ suc n). record { rest = []; is = rw e (sym (append-nil (entries [] table (suc n)))) })
    (λ (l : i < suc n). let s = split table i n (omega arith) in
    record { rest = s.rest ++ (entry [] table n ∷ []); is = rw s.is (append_assoc (entries [] table i) s.rest (entry [] table n ∷ [])) })
    (eq-or-lt_of_le h)

-- The bytes l after the first i records, from l₀.
pub record Listing (table l₀ : List ℕ) (i : ℕ) (l : List ℕ) : Type 0 where
  pub is : l ≡ written (entries [] table i) ++ drop (i * 16) l₀
  pub fits : i * 16 ≤ length l₀

pub listing_start : (table l₀ : List ℕ) → Listing table l₀ 0 l₀
unfolding entries written
listing_start table l₀ = record { is = refl; fits = omega arith }

module _ (table l₀ l : List ℕ) (i : ℕ) (so_far : Listing table l₀ i l) where
  front : length (written (entries [] table i)) ≡ i * 16
  front = omega (arith, length_written (entries [] table i), entries-length table i)

  pub listing_length : length l ≡ length l₀
  listing_length = rw so_far.is (simp (length-append, length-drop) (omega (arith, front, so_far.fits)))

  -- One more record, by the words of its row.
  pub listing_more : (l' : List ℕ) (place kind lanes address : ℕ) (k : Kind) → i * 16 + 16 ≤ length l
      → place ≡ word_of table i place_column → k ≡ kind_of (word_of table i kind_column) → kind ≡ kind_number k → lanes ≡ word_of table i lanes_column → address ≡ word_of table i address_column
      → l' ≡ sets l (i * 16) (in_a_row (place ∷ kind ∷ lanes ∷ address ∷ [])) → Listing table l₀ (suc i) l'
  unfolding entries entry written
  listing_more l' place kind lanes address k room p is n w a e =
      let d = entry [] table i in
      let next : suc i * 16 ≡ i * 16 + 16 = omega arith in
      record {
        is = rw (e, n, is, p, w, a, sets-eq (record_of d) l (i * 16) (omega (arith, length_record d)), length_record d, so_far.is, next, written_append, append-nil)
            (rw (
              take_at (written (entries [] table i)) (drop (i * 16) l₀) (i * 16) front,
              ← drop-drop 16 (i * 16) l₀,
              ← drop-drop 16 (i * 16) (written (entries [] table i) ++ drop (i * 16) l₀),
              drop_at (written (entries [] table i)) (drop (i * 16) l₀) (i * 16) front,
            ));
        fits = omega (arith, room, listing_length);
      }

  behind : (Δ : Declarations) → listed (entries [] table i ++ Δ) l₀ ≡ written (entries [] table i) ++ listed Δ (drop (i * 16) l₀)
  behind Δ =
      let n : 16 * length (entries [] table i) ≡ i * 16 = omega (arith, entries-length table i) in
      listed-append (entries [] table i) Δ l₀ (omega (arith, so_far.fits)) ∙ rw n

  -- The end, where all are written or no more fit.
  all_listed : l ≡ listed (entries [] table i) l₀
  unfolding listed
  all_listed = so_far.is ∙ sym (behind []) ∙ rw append-nil

  full_listed : (n : ℕ) → i ≤ n → length l < i * 16 + 16 → l ≡ listed (entries [] table n) l₀
  full_listed n h full =
      let s = split table i n h in
      let short : length (drop (i * 16) l₀) < 16 = simp length-drop (omega (arith, full, listing_length)) in
      so_far.is ∙ sym (rw s.is (behind s.rest ∙ rw (listed_short s.rest (drop (i * 16) l₀) short)))

  pub listed_as_fit : (n : ℕ) → i ≡ min n (length l₀ / 16) → l ≡ listed (entries [] table n) l₀
  listed_as_fit n e =
      ⊎_elim (λ (all : i ≡ n). rw all at all_listed) (λ (more : i < n). full_listed n (omega arith) (omega (arith, e, more, listing_length)))
      (eq-or-lt_of_le (omega arith))
