-- `read` reads the statements of a text and its end.
use Rattle.layout.proofs.Handed.{handed_up}
use Rattle.reading.proofs.LawsText as law
use Rattle.reading.proofs.read.Goals as goal

pub returns-in_err-all : goal.returns-in_err-all
returns-in_err-all c = law.tells_refused (handed_up _ c.from_residual.ensures.1) (λ ts h. law.read_refused ts (c.in_err-all.ensures.refused ts h))

pub returns : goal.returns
returns c = law.tells_end _ c.requires c.statements.auto.tree c.in_ok-all.ensures c.expect.ensures
