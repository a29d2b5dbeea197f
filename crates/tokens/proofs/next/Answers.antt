-- `tokens::next` meets its contract: the tests of the first byte are the definition's, in its order.
use mathlib.Core.Path.{sym, ap, ◌∙◌}
use native.Mathlib.Omega.{arith}
use lib.ListN.{length-take}
use Rattle.meaning.specs.Tokens.{space, digit, letter_or_digit, in_line}
use borrow.Author.Rules.{rules}
use Rattle.tokens.specs.Lexing.{lexeme}
use Rattle.laws.proofs.Bytes.{run_length, run_take}
use Rattle.tokens.proofs.Signs.{slashes, sign_of_two}
use Rattle.laws.proofs.Pieces.{Plain, at_space, at_comment, at_word, at_number, at_sign, some_digits}
use Rattle.tokens.proofs.next.Goals as goal
use Rattle.tokens.proofs.next.Goals.{Else-b-c}

-- Past both gaps.
no_gap : (c : Else-b-c) → Plain c.args.s.now
no_gap c =
    record {
      some_bytes = c.requires.0;
      no_space = sym c.is_space.ensures ∙ c.if-is_space.false;
      no_comment = sym (slashes _ c.requires.0) ∙ (rw c.byte_at-c.ensures at c.if-b-c.false);
    }

pub returns-then-is_space : goal.returns-then-is_space
unfolding lexeme
returns-then-is_space c = rw (at_space _ c.requires.0 (sym c.is_space.ensures ∙ c.if-is_space.true), c.run-len.ensures space (λ b r is. is))

pub returns-then-b-c : goal.returns-then-b-c
unfolding lexeme in_line
returns-then-b-c c = let comment = sym (slashes c.args.s.now c.requires.0) ∙ (rw c.byte_at-c.ensures at c.if-b-c.true) in
    rw (at_comment _ c.requires.0 (sym c.is_space.ensures ∙ c.if-is_space.false) comment, c.run-len-then-b-c.ensures in_line (λ b r is. search rules))

pub slice_bounds-word_of-end : goal.slice_bounds-word_of-end
unfolding letter_or_digit
slice_bounds-word_of-end c = rw (c.run-len-then-is_letter.ensures letter_or_digit (λ b r is. search rules), run_length)

pub word_of-requires : goal.word_of-requires
unfolding letter_or_digit
word_of-requires c = (rw (c.run-len-then-is_letter.ensures letter_or_digit (λ b r is. search rules)) (run_take letter_or_digit _), simp length-take (omega arith))

pub returns-then-is_letter : goal.returns-then-is_letter
unfolding letter_or_digit
returns-then-is_letter c = let plain = no_gap (goal.at.returns-then-is_letter c).Else-b-c in
    c.word_of.ensures ∙ rw (at_word plain (sym c.is_letter.ensures ∙ c.if-is_letter.true), c.run-len-then-is_letter.ensures letter_or_digit (λ b r is. search rules))

-- A digit begins.
pub numeral-requires : goal.numeral-requires
numeral-requires c = rw (run_length digit _) at (some_digits c.args.s.now c.requires.0 (sym c.is_digit.ensures ∙ c.if-is_digit.true))

pub returns-then-is_digit : goal.returns-then-is_digit
returns-then-is_digit c = let plain = no_gap (goal.at.returns-then-is_digit c).Else-b-c in
    c.numeral.ensures c.args.at ∙ rw (at_number plain (sym c.is_letter.ensures ∙ c.if-is_letter.false) (sym c.is_digit.ensures ∙ c.if-is_digit.true))

pub returns : goal.returns
returns c = let plain = no_gap (goal.at.returns c).Else-b-c in
    let two = rw (sym c.byte_at-c.ensures) at (sign_of_two c.args.s.now c.requires.0) in
    let sign = at_sign plain (sym c.is_letter.ensures ∙ c.if-is_letter.false) (sym c.is_digit.ensures ∙ c.if-is_digit.false) in
    c.longest.ensures c.args.at ∙ ap (lexeme c.args.at) (two ∙ sym sign)
