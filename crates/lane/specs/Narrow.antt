-- Narrowing, on texts: "in each `block[N]` with N above 1 the digits of N become `1` (a second digit becomes a space), so that
-- every place and the text's length stay". A block whose length comes from its initial value narrows by itself.
use Rattle.std.specs.Prelude.{ℕ, zero, suc, ◌-◌, Bool, ◌&&◌, List, ◌∷◌, ◌++◌, eqb, leb, length, take, drop, replicate}
use Rattle.meaning.specs.Codes.{when◌then◌else◌}
use Rattle.meaning.specs.Tokens.{the, Piece, over, bad, gap, token, piece}

-- Is the token i, after the tokens j and k, the N of a `block[N]`?
unfoldable pub is_block : ℕ → ℕ → ℕ → Bool
is_block j k i = eqb j (the "block") && eqb k (the "[") && eqb i (the "number")

-- A `1` in the place of n digits, and spaces.
unfoldable pub one_padded : ℕ → List ℕ
one_padded n = 49 ∷ replicate (n - 1) 32

-- Bytes that begin with a piece, after the tokens j and k; `rest` narrows what follows the piece.
unfoldable pub narrow_piece : (ℕ → ℕ → List ℕ → List ℕ) → ℕ → ℕ → Piece → List ℕ → List ℕ
narrow_piece rest j k over s = s
narrow_piece rest j k bad s = s
narrow_piece rest j k (gap n) s = take n s ++ rest j k (drop n s)
narrow_piece rest j k (token i v x n) s = (when is_block j k i && leb 2 v then (λ _. one_padded n) else λ _. take n s) ++ rest k i (drop n s)

-- The first f pieces of some bytes.
unfoldable pub narrow_from : ℕ → ℕ → ℕ → List ℕ → List ℕ
narrow_from zero j k s = s
narrow_from (suc f) j k s = narrow_piece (narrow_from f) j k (piece s) s

-- The narrowed text. Each piece has a byte, so there are no more pieces than bytes.
unfoldable pub narrow : List ℕ → List ℕ
unfolding is_block one_padded narrow_piece narrow_from piece
narrow text = narrow_from (length text) (the "end") (the "end") text
