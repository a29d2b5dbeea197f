-- The tokens of a text stand at rising places.
use Prim.Native.Nat.{ℕ, zero, suc, ◌+◌, ◌≤◌, ◌<◌}
use mathlib.Core.Path.{◌≡◌, refl}
use mathlib.Core.Logic.{⊎_elim}
use mathlib.Core.List.{List, [], ◌∷◌, ◌++◌}
use native.Mathlib.Omega.{arith}
use native.Mathlib.Nat.{eq-or-lt_of_le}
use lib.Dec.{leb}
use lib.ListN.{length, drop, length-append, get_or-append}
use lib.Seq.{get_or_at}
use Rattle.meaning.specs.declared.Refusal.TheVariants.{TextTooLong, BadBytes}
use Rattle.meaning.specs.Codes.{text_limit}
use Rattle.meaning.specs.Tokens.{Token, Piece, over, bad, gap, token, piece, end_at, lexed}
use Rattle.laws.specs.Outcomes.{Yields, well, refusal}
use Rattle.laws.specs.Order.{token_at, Up}
use Rattle.laws.proofs.Tests.{by_if}
use Rattle.laws.proofs.Pieces.{Fair, between, taken, fair}
use Rattle.laws.proofs.Turns.{tokens_from, from_start, turn_over, turn_bad, turn_gap, turn-token}

-- Fewer below more.
up_more : {p q : ℕ} {l : List Token} → p ≤ q → Up p l → Up q l
up_more le u = record { below = λ i h. omega (arith, u.below i h); rising = u.rising }

-- One more, at p or behind it.
module _ {p q : ℕ} {l : List Token} (t : Token) (behind : p ≤ t.place) (before : t.place < q) (u : Up p l) where
  longer : length (l ++ (t ∷ [])) ≡ suc (length l)
  longer = simp length-append (omega arith)

  old : (i : ℕ) → i < length l → token_at (l ++ (t ∷ [])) i ≡ token_at l i
  old i h = get_or-append l (t ∷ []) _ i h

  new : token_at (l ++ (t ∷ [])) (length l) ≡ t
  new = get_or_at l t [] _ (length l) refl

  up_one : Up q (l ++ (t ∷ []))
  up_one = record { below = low; rising = rise }
    where
      low : (i : ℕ) → i < length (l ++ (t ∷ [])) → (token_at (l ++ (t ∷ [])) i).place < q
      low i h =
          let le : i ≤ length l = omega (arith, longer) in
          ⊎_elim (λ (e : i ≡ length l). rw (e, new) before) (λ (lt : i < length l). rw (old i lt) (omega (arith, u.below i lt))) (eq-or-lt_of_le le)

      rise : (i j : ℕ) → i < j → j < length (l ++ (t ∷ [])) → (token_at (l ++ (t ∷ [])) i).place < (token_at (l ++ (t ∷ [])) j).place
      rise i j h g =
          let first : i < length l = omega (arith, longer) in
          let le : j ≤ length l = omega (arith, longer) in
          rw (old i first)
          (⊎_elim (λ (e : j ≡ length l). rw (e, new) (omega (arith, u.below i first))) (λ (lt : j < length l). rw (old j lt) (u.rising i j h lt)) (eq-or-lt_of_le le))

-- The tokens of a text, from a place on.
up_from : (text : List ℕ) (k : ℕ) (l : List Token) (p : ℕ) → Up p l → Yields (λ ts q. Up (suc q) ts) (tokens_from text k l p)
unfolding tokens_from end_at
up_from text zero l p u = well {s = p} (up_one (end_at p) (omega arith) (omega arith) u)
up_from text (suc k) l p u = go (λ l' n. up_from text k l' (p + n)) (piece (drop p text)) refl (fair (drop p text))
  where
    go : ((l' : List Token) (n : ℕ) → Up (p + n) l' → Yields (λ ts q. Up (suc q) ts) (tokens_from text k l' (p + n)))
        → (q : Piece) → piece (drop p text) ≡ q → Fair (drop p text) q → Yields (λ ts q. Up (suc q) ts) (tokens_from text (suc k) l p)
    go later over h _ = rw (turn_over text k l p h) (well {s = p} (up_one (end_at p) (omega arith) (omega arith) u))
    go later bad h _ = rw (turn_bad text k l p h) (refusal {c = BadBytes} {p = p} tt)
    go later (gap n) h (between lt le) = rw (turn_gap text k l p h) (later l n (up_more (omega arith) u))
    go later (token i v x n) h (taken t) =
        rw (turn-token text k l p h)
        (later _ n (up_one (record { is = i; place = p; value = v; spelled = x }) (omega arith) (omega (arith, t.some_bytes)) u))

pub lexed_up : (text : List ℕ) → Yields (λ ts q. Up (suc q) ts) (lexed text)
unfolding lexed
lexed_up text =
    by_if (Yields (λ ts q. Up (suc q) ts)) (leb (length text) text_limit) _ _
    (λ _. rw (from_start text) (up_from text (suc (length text)) [] 0 (record { below = λ i h. absurd (omega arith); rising = λ i j h g. absurd (omega arith) })))
    (λ _. refusal {c = TextTooLong} {p = 0} tt)
