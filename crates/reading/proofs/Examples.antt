-- Cases that come easily wrong, by computation on the definitions: one table under one theorem.
use Prim.Native.Nat.{ℕ, zero, suc}
use Prim.Native.String.{String}
use mathlib.Core.Path.{◌≡◌, refl}
use mathlib.Core.List.{List, [], ◌∷◌, ◌++◌, map}
use Rattle.meaning.specs.Codes.{Out, ok, refused, code, after}
use Rattle.meaning.specs.Tokens.{bytes, lexed}
use Rattle.meaning.specs.Tree.{Stmts}
use Rattle.meaning.specs.Reading.{read}

-- Some bytes n times.
unfoldable pub many : ℕ → String → List ℕ
many zero s = []
many (suc n) s = bytes s ++ many n s

-- The code and the place that reading a text gives.
unfoldable pub answer : Out ℕ Stmts → ℕ × ℕ
answer (ok l at) = (0, 0)
answer (refused c p) = (code c, p)

unfoldable pub found : List ℕ → ℕ × ℕ
found text = answer (after (lexed text) (λ ts _. read ts))

infix 70 ◌gets◌at◌
-- A text with its code and place; code 0 where it is read.
unfoldable pub ◌gets◌at◌ : List ℕ → ℕ → ℕ → List ℕ × (ℕ × ℕ)
◌gets◌at◌ text c p = (text, (c, p))

-- `-` pending in parentheses; `{` and `;` as a body; parentheses in a condition; a token missing; a float's constant where a number has to
-- stand.
unfoldable pub rows : List (List ℕ × (ℕ × ℕ))
rows =
    (bytes "x = " ++ many 31 "(" ++ bytes "-1" ++ many 31 ")" ++ bytes ";") gets 0 at 0
    ∷ (bytes "x = " ++ many 32 "(" ++ bytes "-1" ++ many 32 ")" ++ bytes ";") gets 4 at 36
    ∷ (many 30 "{" ++ bytes "scalar {}" ++ many 30 "}") gets 0 at 0
    ∷ (many 31 "{" ++ bytes "scalar {}" ++ many 31 "}") gets 4 at 38
    ∷ (many 31 "{" ++ bytes "scalar ;" ++ many 31 "}") gets 0 at 0
    ∷ (many 32 "{" ++ bytes "scalar ;" ++ many 32 "}") gets 4 at 39
    ∷ (many 32 "{" ++ bytes "scalar )" ++ many 32 "}") gets 3 at 39
    ∷ (bytes "if (" ++ many 31 "(" ++ bytes "b" ++ many 31 ")" ++ bytes ") ; else ;") gets 0 at 0
    ∷ (bytes "if (" ++ many 32 "(" ++ bytes "b" ++ many 32 ")" ++ bytes ") ; else ;") gets 4 at 35
    ∷ (bytes "int block x;") gets 3 at 10
    ∷ (bytes "int block[n] x;") gets 3 at 10
    ∷ (bytes "float block[1.0] x;") gets 3 at 12
    ∷ (bytes "if (b) float x = -1.0; else ;") gets 0 at 0
    ∷ (bytes "x == 1;") gets 3 at 2
    ∷ (bytes "if (b) ; ") gets 3 at 9
    ∷ []

-- Every row of the table holds.
pub easily_wrong : map (λ r. found r.0) rows ≡ map (λ r. r.1) rows
unfolding rows ◌gets◌at◌ found answer many bytes lexed read
easily_wrong = refl
