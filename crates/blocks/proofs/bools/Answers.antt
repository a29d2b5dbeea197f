-- `blocks::bools` meets its contract. Assumes nothing.
use mathlib.Core.Path.{refl, ◌∙◌}
use Rattle.meaning.specs.declared.Kind.TheVariants.{Bool as bool}
use Rattle.laws.proofs.Making.{begun, one_made, made_padded}
use Rattle.blocks.proofs.Bytes.{length-load, whole_bool, bool_at}
use Rattle.blocks.proofs.bools.Goals as goal

pub loop-i-init : goal.loop-i-init
loop-i-init c = begun _ _ (rw (length-load bool _ _) c.requires.0) refl

pub loop-i-preserved : goal.loop-i-preserved
loop-i-preserved c = let taken = c.loop-i-test.true in
    one_made c.loop-i.invariant _ (rw (length-load bool _ _) taken) (c.bit.ensures ∙ bool_at _ _ _ _ (rw (whole_bool _) at c.requires.1) taken)

pub returns : goal.returns
returns c = made_padded c.loop-i.invariant (rw (length-load bool _ _) c.loop-i-test.false)
