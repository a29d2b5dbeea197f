-- `blocks::ints16` meets its contract. Assumes nothing.
use mathlib.Core.Path.{◌∙◌}
use mathlib.Core.List.{append-nil}
use Rattle.meaning.specs.declared.Kind.TheVariants.{Int as int}
use Rattle.blocks.proofs.Bytes.{length-load}
use Rattle.blocks.proofs.ints16.Goals as goal

pub returns : goal.returns
returns c = c.ints.ensures ∙ rw (length-load int 16 _) (append-nil _)
