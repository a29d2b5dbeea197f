-- `blocks::put` meets its contract. Assumes nothing.
use mathlib.Core.Path.{refl}
use Rattle.blocks.proofs.Chunks.{paste_begun, one_pasted, pasted}
use borrow.Author.Rules.{rules}
use Rattle.blocks.proofs.put.Goals as goal

pub loop-i-init : goal.loop-i-init
loop-i-init c = paste_begun _ _ _ (search rules) c.requires

pub loop-i-preserved : goal.loop-i-preserved
loop-i-preserved c = one_pasted c.loop-i.invariant c.loop-i-test.true refl

pub returns : goal.returns
returns c = pasted c.loop-i.invariant c.loop-i-test.false
