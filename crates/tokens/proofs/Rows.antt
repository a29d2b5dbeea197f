-- One more token in the buffer.
use mathlib.Core.Path.{◌≡◌, refl}
use mathlib.Core.Bool.{Bool, true, false}
use mathlib.Core.List.{List, [], ◌∷◌, ◌++◌}
use Prim.Native.Nat.{ℕ, suc, ◌+◌, ◌*◌, ◌≤◌, ◌<◌}
use native.Mathlib.Nat.{add-zero}
use native.Mathlib.Omega.{arith}
use lib.Dec.{ltb}
use lib.ListN.{length, get_or, length-append, get_or-append}
use lib.Seq.{sets, length-sets, get_or-append_seam}
use borrow.Author.Tests.{ltb-true, ltb-false}
use Rattle.meaning.specs.Tokens.{Token, end_at}
use Rattle.layout.specs.Words.{unit}
use Rattle.layout.specs.Tokens.{token_words, kind_at, place_at, value_at, TokenRow, Holds}
use Rattle.tokens.proofs.Written.{written_before, written_there}

-- Any buffer holds no token.
pub holds_none : (buffer : List ℕ) → Holds buffer []
holds_none buffer = record { room = omega arith; row = λ i lt. absurd (omega arith) }

-- The token t after the n that the buffer holds.
pub holds_more : {buffer : List ℕ} {ts : List Token} {k p v : ℕ} (n : ℕ) {t : Token}
    → Holds buffer ts → TokenRow k p v t → n ≡ length ts → n * token_words + token_words ≤ length buffer
    → Holds (sets buffer (n * token_words) (unit k p v)) (ts ++ (t ∷ []))
holds_more {buffer} {ts} {k} {p} {v} n {t} h r is le =
    let long = length-append ts (t ∷ []) in
    record { room = rw (length-sets buffer (n * token_words) (unit k p v)) (omega arith); row = λ i lt. go i (ltb i n) refl (omega arith) }
  where
    go : (i : ℕ) (g : Bool) → ltb i n ≡ g → i < suc n
        → let new = sets buffer (n * token_words) (unit k p v) in TokenRow (kind_at new i) (place_at new i) (value_at new i) (get_or (ts ++ (t ∷ [])) i (end_at 0))
    go i true e lt =
        let before = ltb-true i n e in
        let stays = written_before (unit k p v) buffer (n * token_words) in
        rw (stays (i * token_words) (omega arith), stays (i * token_words + 1) (omega arith), stays (i * token_words + 2) (omega arith), get_or-append ts (t ∷ []) (end_at 0) i (omega arith))
        (h.row i (omega arith))
    go i false e lt =
        let last = ltb-false i n e in
        let q : i ≡ n = omega arith in
        let new = written_there (unit k p v) buffer (n * token_words) in
        let seam : get_or (ts ++ (t ∷ [])) n (end_at 0) ≡ t = rw is (get_or-append_seam ts t [] (end_at 0)) in
        let first = rw (add-zero (n * token_words)) at (new 0 le (omega arith)) in
        rw (q, first, new 1 le (omega arith), new 2 le (omega arith), seam) r
