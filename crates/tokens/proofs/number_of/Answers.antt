-- `tokens::number_of` meets its contract: the digits so far are worth `value`.
use mathlib.Core.Path.{◌∙◌}
use native.Mathlib.Omega.{arith}
use Rattle.meaning.specs.Tokens.{digit}
use Rattle.laws.proofs.Bytes.{decimal_on, decimal-end, decimal_grows, run_passes}
use Rattle.tokens.proofs.Numbers.{one_digit, number-zero, number_large, number_good}
use Rattle.tokens.proofs.number_of.Goals as goal

pub returns-then-not-s : goal.returns-then-not-s
returns-then-not-s c = number-zero _ c.if-not-s.true

pub with_digit-more-requires : goal.with_digit-more-requires
with_digit-more-requires c = (run_passes digit c.args.s.now c.loop-b.b-index (omega arith), c.loop-b.invariant.in_range)

pub returns-then-more-gt-NUMBER : goal.returns-then-more-gt-NUMBER
returns-then-more-gt-NUMBER c = let more = decimal_on _ _ _ c.loop-b.invariant.so_far c.loop-b-test.true in
    number_large _ (rw (more, ← one_digit, ← c.with_digit-more.ensures) (decimal_grows _ _)) c.if-more-gt-NUMBER.true

pub loop-b-preserved : goal.loop-b-preserved
loop-b-preserved c =
    record {
      in_range = omega arith;
      so_far = decimal_on _ _ _ c.loop-b.invariant.so_far c.loop-b-test.true ∙ rw (c.with_digit-more.ensures, one_digit);
    }

pub returns : goal.returns
returns c = let l = c.loop-b in
    number_good _ c.if-not-s.false (decimal-end _ _ _ l.invariant.so_far c.loop-b-test.false) l.invariant.in_range
