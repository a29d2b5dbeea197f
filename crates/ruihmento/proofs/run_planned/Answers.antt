-- `ruihmento::run_planned` meets its contract.
use Rattle.ruihmento.proofs.Waiting.{registers_few, registers_all, a_run_ready}
use Rattle.ruihmento.proofs.run_planned.Goals as goal

pub perform_each-requires-clause-prepared : goal.perform_each-requires-clause-prepared
perform_each-requires-clause-prepared c = a_run_ready c.requires.1 (registers_few 32 c.if-words-le-FEW_WORDS.true)

pub perform_each-requires-then-words-le-MORE_WORDS-clause-prepared : goal.perform_each-requires-then-words-le-MORE_WORDS-clause-prepared
perform_each-requires-then-words-le-MORE_WORDS-clause-prepared c = a_run_ready c.requires.1 (registers_few 128 c.if-words-le-MORE_WORDS.true)

pub perform_each-requires-else-words-le-MORE_WORDS-clause-prepared : goal.perform_each-requires-else-words-le-MORE_WORDS-clause-prepared
perform_each-requires-else-words-le-MORE_WORDS-clause-prepared c = a_run_ready c.requires.1 (registers_all _)

pub returns-then-words-le-FEW_WORDS : goal.returns-then-words-le-FEW_WORDS
returns-then-words-le-FEW_WORDS c = λ Γ P p. c.perform_each.ensures Γ P (p.prepared _ (registers_few 32 c.if-words-le-FEW_WORDS.true))

pub returns-then-words-le-MORE_WORDS : goal.returns-then-words-le-MORE_WORDS
returns-then-words-le-MORE_WORDS c = λ Γ P p. c.perform_each-then-words-le-MORE_WORDS.ensures Γ P (p.prepared _ (registers_few 128 c.if-words-le-MORE_WORDS.true))

pub returns-else-words-le-MORE_WORDS : goal.returns-else-words-le-MORE_WORDS
returns-else-words-le-MORE_WORDS c = λ Γ P p. c.perform_each-else-words-le-MORE_WORDS.ensures Γ P (p.prepared _ (registers_all _))
