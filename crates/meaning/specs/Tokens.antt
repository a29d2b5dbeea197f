-- Document 01, "The text": bytes to tokens with their places; refusal 2. Document 02, R-2: the constants of floats.
use Rattle.std.specs.Prelude.{ℕ, suc, ◌+◌, ◌*◌, ◌-◌, Bool, true, false, not, ◌&&◌, ◌||◌, List, [], ◌∷◌, ◌++◌, eqb, leb, length, take, drop, get_or}
use Prim.Native.String as S
use Prim.Native.String.{String}
use Prim.Native.Char as C
use Rattle.std.proofs.Math.Option.{Option, none, some}
use lib.Text.{eqt}
use Rattle.meaning.specs.declared.Refusal.TheVariants.{TextTooLong, BadBytes}
use Rattle.meaning.specs.Codes.{Out, ok, refused, Doing, ◌>>=◌, repeat, when◌then◌else◌, option, lookup, ◌among◌, text_limit, name_limit, number_limit, float_limit}
use Rattle.meaning.specs.Floats.{whole_float}

-- The bytes of a text that is written here in quotes.
unfoldable pub bytes : String → List ℕ
bytes S.[] = []
bytes (S.◌∷◌ c s) = C.code c ∷ bytes s

-- "Reserved: int bool block if else while scalar current_mask true false." Document 02, R-2: "`float` becomes reserved."
unfoldable pub reserved : List String
reserved = "int" ∷ "bool" ∷ "block" ∷ "if" ∷ "else" ∷ "while" ∷ "scalar" ∷ "current_mask" ∷ "true" ∷ "false" ∷ "float" ∷ []

-- "Signs: `; { } ( ) [ ] = == != < > <= >= + - * & | ^ ~ !`", in the order in which they are tried: "longest first".
unfoldable pub signs : List String
signs =
    "==" ∷ "!=" ∷ "<=" ∷ ">="
    ∷ ";" ∷ "{" ∷ "}" ∷ "(" ∷ ")" ∷ "[" ∷ "]" ∷ "=" ∷ "<" ∷ ">" ∷ "+" ∷ "-" ∷ "*" ∷ "&" ∷ "|" ∷ "^" ∷ "~" ∷ "!" ∷ []

-- Texts with a number each, from k on.
unfoldable pub numbered : ℕ → List String → List (String × ℕ)
numbered k [] = []
numbered k (s ∷ l) = (s, k) ∷ numbered (suc k) l

-- What a token can be has a number: reserved words from 16 on, signs from 48 on, so that either list can grow at its end.
unfoldable pub words : List (String × ℕ)
words = numbered 16 reserved

unfoldable pub marks : List (String × ℕ)
marks = numbered 48 signs

-- `the "if"`: what the token `if` is.
unfoldable pub the : String → ℕ
the s = option 0 (λ n. n) (lookup (eqt s) (numbered 0 ("end" ∷ "number" ∷ "name" ∷ "float number" ∷ []) ++ words ++ marks))

-- A token: what it is, its place ("a byte offset in the text"), the value of a number, of a float's constant its pattern, and the bytes of a
-- name.
pub record Token : Type 0 where
  pub is : ℕ
  pub place : ℕ
  pub value : ℕ
  pub spelled : List ℕ

-- The end of the text, at the "text length".
unfoldable pub end_at : ℕ → Token
end_at p = record { is = the "end"; place = p; value = 0; spelled = [] }

-- "Space, tab, LF, CR separate"
unfoldable pub space : ℕ → Bool
space c = c among (bytes " \t\n\r")

-- A byte of `0` to `9`.
unfoldable pub digit : ℕ → Bool
digit c = leb 48 c && leb c 57

-- "a letter or `_`"
unfoldable pub letter : ℕ → Bool
letter c = leb 65 c && leb c 90 || leb 97 c && leb c 122 || eqb c 95

-- "letters, digits, `_`"
unfoldable pub letter_or_digit : ℕ → Bool
letter_or_digit c = letter c || digit c

-- "any bytes to LF"
unfoldable pub in_line : ℕ → Bool
in_line c = not (eqb c 10)

-- How many bytes at the start of some pass a test.
unfoldable pub run_of : (ℕ → Bool) → List ℕ → ℕ
run_of p [] = 0
run_of p (c ∷ s) = when p c then (λ _. suc (run_of p s)) else λ _. 0

-- Do some bytes start with others?
unfoldable pub starts : List ℕ → List ℕ → Bool
starts [] s = true
starts (a ∷ l) [] = false
starts (a ∷ l) (c ∷ s) = eqb a c && starts l s

-- Are they the same?
unfoldable pub equal : List ℕ → List ℕ → Bool
equal a b = eqb (length a) (length b) && starts a b

-- "A number is decimal": n, followed by the digits of s.
unfoldable pub decimal : ℕ → List ℕ → ℕ
decimal n [] = n
decimal n (c ∷ s) = decimal (10 * n + (c - 48)) s

-- "0 to 2147483647, with no leading zero unless it is `0`": digits of a number up to a limit
unfoldable pub good_number : ℕ → List ℕ → Bool
good_number limit s = leb (decimal 0 s) limit && (eqb (length s) 1 || not (eqb (get_or s 0 0) 48))

-- What some bytes start with: nothing, what no rule allows, n bytes between tokens, or a token of n bytes.
pub data Piece : Type 0 where
  over bad : Piece
  gap : (n : ℕ) → Piece
  token : (is value : ℕ) (spelled : List ℕ) (n : ℕ) → Piece

-- A word: one of the reserved, or a name.
unfoldable pub word : List ℕ → Piece
word s =
    option
    (when leb (length s) name_limit then (λ _. token (the "name") 0 s (length s)) else λ _. bad)
    (λ k. token k 0 [] (length s))
    (lookup (λ r. equal (bytes r) s) words)

-- A number, from its digits.
unfoldable pub digits : List ℕ → Piece
digits s = when good_number number_limit s then (λ _. token (the "number") (decimal 0 s) [] (length s)) else λ _. bad

-- "A constant is a whole number up to 16777216 followed by `.0`": from the digits of the whole number and those behind the point.
unfoldable pub constant : List ℕ → List ℕ → Piece
constant s t =
    when good_number float_limit s && equal (bytes "0") t then (λ _. token (the "float number") (whole_float (decimal 0 s)) [] (length s + 2)) else λ _. bad

-- What begins with digits s, before the bytes t: a constant where a point follows directly. "2 for a larger or malformed constant".
unfoldable pub numeral : List ℕ → List ℕ → Piece
numeral s t = when starts (bytes ".") t then (λ _. constant s (take (run_of digit (drop 1 t)) (drop 1 t))) else λ _. digits s

-- The first sign of a list that the bytes start with.
unfoldable pub sign : List (String × ℕ) → List ℕ → Piece
sign [] s = bad
sign ((r, k) ∷ l) s = when starts (bytes r) s then (λ _. token k 0 [] (length (bytes r))) else λ _. sign l s

-- "Tokens are taken longest first"; "`//` runs over any bytes to LF or the end".
unfoldable pub piece : List ℕ → Piece
piece [] = over
piece (c ∷ s) = let t = c ∷ s in
    when space c then (λ _. gap (run_of space t)) else λ _.
    when starts (bytes "//") t then (λ _. gap (run_of in_line t)) else λ _.
    when letter c then (λ _. word (take (run_of letter_or_digit t) t)) else λ _.
    when digit c then (λ _. numeral (take (run_of digit t) t) (drop (run_of digit t) t)) else λ _.
    sign marks t

-- One turn at a place p, after the tokens l; a refusal is at the "token start".
unfoldable pub turn : Piece → List Token → Doing ℕ (Option (List Token))
turn over l p = ok none p
turn bad l p = refused BadBytes p
turn (gap n) l p = ok (some l) (p + n)
turn (token k v x n) l p = ok (some (l ++ (record { is = k; place = p; value = v; spelled = x } ∷ []))) (p + n)

-- The tokens of a text, and its end. Each turn takes a byte, so there are no more turns than bytes.
unfoldable pub tokens : List ℕ → Out ℕ (List Token)
tokens text = (do
  l ← repeat (suc (length text)) (λ l p. turn (piece (drop p text)) l p) []
  λ p. ok (l ++ (end_at p ∷ [])) p) 0

-- "At most 4,096 bytes." "Order: 1; then 2 over the whole text".
unfoldable pub lexed : List ℕ → Out ℕ (List Token)
unfolding bytes reserved signs numbered words marks the end_at space digit letter letter_or_digit in_line run_of starts equal decimal good_number whole_float word digits constant numeral sign piece turn tokens
lexed text = when leb (length text) text_limit then (λ _. tokens text) else λ _. refused TextTooLong 0
