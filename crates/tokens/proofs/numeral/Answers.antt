-- `tokens::numeral` meets its contract.
use mathlib.Core.Path.{sym, ap, ◌∙◌}
use Rattle.meaning.specs.Tokens.{digit}
use Rattle.tokens.specs.Lexing.{lexeme}
use Rattle.laws.proofs.Bytes.{run_length}
use Rattle.tokens.proofs.Numbers.{number-token, no-token}
use Rattle.tokens.proofs.Constants.{all_digits, at_point, no_point, point_within}
use borrow.Author.Rules.{rules}
use Rattle.tokens.proofs.numeral.Goals as goal

pub slice_bounds-constant-end : goal.slice_bounds-constant-end
slice_bounds-constant-end c = rw (c.run-len.ensures digit (λ b r is. is), run_length)

-- The point is a byte of s.
pub slice_bounds-constant-count : goal.slice_bounds-constant-count
slice_bounds-constant-count c = point_within c.args.s.now _ (sym c.byte_at.ensures ∙ c.if-byte_at-eq46.true)

pub overflow_add-len : goal.overflow_add-len
overflow_add-len c = let i = point_within c.args.s.now _ (sym c.byte_at.ensures ∙ c.if-byte_at-eq46.true) in search rules

pub constant-requires : goal.constant-requires
constant-requires c = all_digits _ (c.run-len.ensures digit (λ b r is. is)) c.requires

pub returns-then-byte_at-eq46 : goal.returns-then-byte_at-eq46
returns-then-byte_at-eq46 c at = c.constant.ensures at ∙ ap (lexeme at) (at_point _ (c.run-len.ensures digit (λ b r is. is)) c.byte_at.ensures c.if-byte_at-eq46.true)

pub slice_bounds-number_of-end : goal.slice_bounds-number_of-end
slice_bounds-number_of-end c = rw (c.run-len.ensures digit (λ b r is. is), run_length)

pub number_of-requires : goal.number_of-requires
number_of-requires c = all_digits _ (c.run-len.ensures digit (λ b r is. is)) c.requires

pub returns-in_err-value : goal.returns-in_err-value
returns-in_err-value c at = c.from_residual.ensures ∙ no-token _ at c.in_err-value.ensures ∙ ap (lexeme at) (no_point _ (c.run-len.ensures digit (λ b r is. is)) c.byte_at.ensures c.if-byte_at-eq46.false)

pub returns : goal.returns
returns c at = number-token _ at c.in_ok-value.ensures (rw (c.run-len.ensures digit (λ b r is. is), run_length)) ∙ ap (lexeme at) (no_point _ (c.run-len.ensures digit (λ b r is. is)) c.byte_at.ensures c.if-byte_at-eq46.false)
