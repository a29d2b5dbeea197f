-- `ruihmento::tell_refusal` meets its contract. Assumes nothing.
use Rattle.ruihmento.specs.Contract.{with_refusal}
use Rattle.ruihmento.proofs.tell_refusal.Goals as goal

pub returns : goal.returns
unfolding with_refusal
returns c = rw (← c.from.ensures) c.tell.ensures
