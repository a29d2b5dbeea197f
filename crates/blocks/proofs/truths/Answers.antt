-- `blocks::truths` meets its contract. Assumes nothing.
use native.Mathlib.Omega.{arith}
use Rattle.blocks.proofs.Masks.{count_begun, count_small, count_fits, count_more, counted}
use borrow.Author.Rules.{rules}
use Rattle.blocks.proofs.truths.Goals as goal

pub loop-i-init : goal.loop-i-init
loop-i-init c = count_begun _ (search rules) c.requires

pub overflow_add-r : goal.overflow_add-r
overflow_add-r c = record { fits = count_fits c.loop-i.invariant c.loop-i-test.true }

pub loop-i-preserved : goal.loop-i-preserved
loop-i-preserved c = count_more c.loop-i.invariant c.loop-i-test.true

pub overflow_cast-result : goal.overflow_cast-result
overflow_cast-result c = omega (arith, count_small c.loop-i.invariant)

pub returns : goal.returns
returns c = counted c.loop-i.invariant c.loop-i-test.false
