-- Bytes in hex, and rows, one after another. Assumes nothing.
use Prim.Native.Nat.{ℕ, suc, ◌+◌, ◌*◌, ◌/◌, ◌%◌, ◌≤◌, ◌<◌, min}
use mathlib.Core.Path.{◌≡◌, refl, ap, sym, ◌∙◌}
use mathlib.Core.List.{List, [], ◌∷◌, ◌++◌, append_assoc, append-nil}
use mathlib.Core.Bool.{Bool, true, false}
use native.Mathlib.Omega.{arith}
use lib.Dec.{ltb}
use borrow.Author.Tests.{ltb-true, ltb-false}
use lib.ListN.{length, take, get_or, length-append}
use Rattle.std.proofs.lemmas.List.{nil_from_length}
use lib.Seq.{take-suc, take_at, drop_at, take_all, length-take-le}
use Rattle.meaning.specs.Tokens.{bytes}
use Rattle.print.specs.Printed.{Printed}
use Rattle.print.proofs.Printing.{printed_both, printed_length, printed_as}
use Rattle.print.specs.Shown.{digit, hex, rows, row_count}

pub hex-append : (l r : List ℕ) → hex (l ++ r) ≡ hex l ++ hex r
unfolding hex
hex-append [] r = refl
hex-append (b ∷ l) r = rw (hex-append l r)

pub hex-length : (l : List ℕ) → length (hex l) ≡ 2 * length l
unfolding hex
hex-length [] = refl
hex-length (b ∷ l) = omega (arith, hex-length l)

-- One byte more.
pub hex_more : (l : List ℕ) (i : ℕ) → i < length l → hex (take (suc i) l) ≡ hex (take i l) ++ (digit (get_or l i 0 / 16) ∷ []) ++ (digit (get_or l i 0 % 16) ∷ [])
unfolding hex
hex_more l i h = rw (take-suc l i 0 h, hex-append) (simp append_assoc)

-- Where some of the bytes are printed, there is room for two digits more.
pub hex_room : (bytes : List ℕ) {a b : List ℕ} {at next i : ℕ}
    → Printed a at (hex (take i bytes)) b next → at + length (hex bytes) ≤ length a → i < length bytes → next + 2 ≤ length b
hex_room bytes {i = i} p room h =
    let n : length (take i bytes) ≡ i = length-take-le i bytes (omega arith) in
    omega (arith, p.next_is, printed_length p, hex-length (take i bytes), hex-length bytes)

-- The first row, and those behind it.
pub rows_cut : (row rest : List ℕ) → length row ≡ min 16 (length (row ++ rest)) → 0 < length row → rows (row_count (row ++ rest)) (row ++ rest) ≡ hex row ++ (10 ∷ []) ++ rows (row_count rest) rest
unfolding rows row_count bytes
rows_cut row rest size some = go (ltb (length row) 16) refl
  where
    both : length (row ++ rest) ≡ length row + length rest
    both = length-append row rest

    go : (b : Bool) → ltb (length row) 16 ≡ b → rows (row_count (row ++ rest)) (row ++ rest) ≡ hex row ++ (10 ∷ []) ++ rows (row_count rest) rest
    go true t =
        let short = ltb-true (length row) 16 t in
        let none : rest ≡ [] = nil_from_length rest (omega (arith, both, size)) in
        let one : (length row + 15) / 16 ≡ 1 = omega arith in
        let whole : take 16 row ≡ row = take_all 16 row (omega arith) in
        rw (none, append-nil row, one, whole)
    go false t =
        let long = ltb-false (length row) 16 t in
        let n : (length (row ++ rest) + 15) / 16 ≡ suc ((length rest + 15) / 16) = omega (arith, both, size) in
        rw (n, take_at row rest 16 (omega (arith, both, size)), drop_at row rest 16 (omega (arith, both, size)))

-- The rows of a memory M before those of `rest` are printed, from a place on.
pub record RowsBefore (M rest before : List ℕ) (at : ℕ) (after : List ℕ) (next : ℕ) : Type 0 where
  pub done : List ℕ
  pub printed : Printed before at done after next
  pub is : done ++ rows (row_count rest) rest ≡ rows (row_count M) M

module _ {M rest before : List ℕ} {at : ℕ} {after : List ℕ} {next : ℕ} (so_far : RowsBefore M rest before at after next) where
  module _ (row rest' : List ℕ) (cut : rest ≡ row ++ rest') (size : length row ≡ min 16 (length rest)) (some : 0 < length rest) where
    behind : so_far.done ++ (hex row ++ (10 ∷ []) ++ rows (row_count rest') rest') ≡ rows (row_count M) M
    behind = ap (λ l. so_far.done ++ l) (sym (rw cut (rows_cut row rest' (rw cut at size) (omega (arith, size, some))))) ∙ so_far.is

    -- There is room for one more.
    pub row_room : at + length (rows (row_count M) M) ≤ length before → next + length (hex row) + 1 ≤ length after
    row_room room = omega (arith, so_far.printed.next_is, printed_length so_far.printed, simp length-append at (ap length behind))

    pub row_more : {after' : List ℕ} {next' : ℕ} → Printed after next (hex row ++ (10 ∷ [])) after' next' → RowsBefore M rest' before at after' next'
    row_more p = record { done = so_far.done ++ (hex row ++ (10 ∷ [])); printed = printed_both so_far.printed p; is = simp append_assoc (simp append_assoc at behind) }

  pub all_rows : length rest ≡ 0 → Printed before at (rows (row_count M) M) after next
  unfolding rows row_count
  all_rows z = let none : rest ≡ [] = nil_from_length rest z in printed_as (rw (none, append-nil) at so_far.is) so_far.printed
