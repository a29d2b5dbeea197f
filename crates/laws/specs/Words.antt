-- "four 32-bit little-endian numbers", and the limits that they keep to.
use Rattle.std.specs.Prelude.{ℕ, ◌*◌, ◌^◌, ◌≤◌, ◌<◌, List, length}
use Rattle.meaning.specs.Codes.{text_limit, declaration_limit}
use Rattle.meaning.specs.Services.{Answer}
use Rattle.laws.specs.Declarations.{whole_limit}

-- "Need is the end of the last one"; document 02, R-9: "need can reach 16,384", so it is at most the largest variable for each declaration.
unfoldable pub need_limit : ℕ
need_limit = declaration_limit * whole_limit

-- The four numbers fit.
pub record Words (a : Answer) : Type 0 where
  pub code : a.code < 2 ^ 32
  pub place : a.place < 2 ^ 32
  pub need : a.need < 2 ^ 32
  pub steps : a.steps < 2 ^ 32

-- The numbers of an answer to a text: "place (a byte offset in the text)", need within its limit, and no more steps than `most`.
pub record InLimits (text : List ℕ) (most : ℕ) (a : Answer) : Type 0 where
  pub code : a.code < 2 ^ 32
  pub place : a.place ≤ length text
  pub low : a.place ≤ text_limit
  pub need : a.need ≤ need_limit
  pub steps : a.steps ≤ most
