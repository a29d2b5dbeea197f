-- What the tokens of a text are from a place on, piece by piece.
use mathlib.Core.Path.{◌≡◌, refl}
use mathlib.Core.List.{List, [], ◌∷◌, ◌++◌}
use Prim.Native.Nat.{ℕ, suc, ◌+◌}
use lib.ListN.{length, drop}
use Rattle.meaning.specs.declared.Refusal.TheVariants.{BadBytes}
use Rattle.meaning.specs.Codes.{Out, ok, refused, after, repeat}
use Rattle.meaning.specs.Tokens.{Token, over, bad, gap, token, piece, turn, end_at, tokens}

-- The tokens of a text, where l stand before place p and at most k turns are left.
unfoldable pub tokens_from : List ℕ → ℕ → List Token → ℕ → Out ℕ (List Token)
tokens_from text k l p =
    after (repeat k (λ l p. turn (piece (drop p text)) l p) l p) (λ l p. ok (l ++ (end_at p ∷ [])) p)

pub from_start : (text : List ℕ) → tokens text ≡ tokens_from text (suc (length text)) [] 0
unfolding tokens tokens_from
from_start text = refl

module _ (text : List ℕ) (k : ℕ) (l : List Token) (p : ℕ) where
  pub turn_over : piece (drop p text) ≡ over → tokens_from text (suc k) l p ≡ ok (l ++ (end_at p ∷ [])) p
  unfolding tokens_from turn
  turn_over e = rw e

  pub turn_bad : piece (drop p text) ≡ bad → tokens_from text (suc k) l p ≡ refused BadBytes p
  unfolding tokens_from turn
  turn_bad e = rw e

  pub turn_gap : {n : ℕ} → piece (drop p text) ≡ gap n → tokens_from text (suc k) l p ≡ tokens_from text k l (p + n)
  unfolding tokens_from turn
  turn_gap e = rw e

  pub turn-token : {i v n : ℕ} {x : List ℕ} → piece (drop p text) ≡ token i v x n
      → tokens_from text (suc k) l p ≡ tokens_from text k (l ++ (record { is = i; place = p; value = v; spelled = x } ∷ [])) (p + n)
  unfolding tokens_from turn
  turn-token e = rw e
