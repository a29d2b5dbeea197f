-- `initial` reads `;`, or a value.
use mathlib.Core.Path.{◌≡◌, sym, ◌∙◌}
use native.Mathlib.Omega.{arith}
use borrow.Author.Rules.{rules}
use Rattle.layout.specs.Tokens.{kind_at}
use Rattle.reading_expressions.proofs.Laws.{seen}
use Rattle.reading_expressions.proofs.Answers.{unit-fits, goes_on, shows_leaf, shows_made}
use Rattle.reading.proofs.LawsValue as law
use Rattle.reading.proofs.initial.Goals as goal

pub node-requires : goal.node-requires
node-requires c = unit-fits c.requires (sym c.kind.ensures ∙ c.if-kind-eq-SEMICOLON.true) (omega arith)

pub returns-then-kind-eq-SEMICOLON : goal.returns-then-kind-eq-SEMICOLON
returns-then-kind-eq-SEMICOLON c = let is = sym c.kind.ensures ∙ c.if-kind-eq-SEMICOLON.true in
    shows_leaf c.node.ensures (goes_on c.requires is (omega arith)) (λ ts h. law.initial_none _ (seen h (search rules)) is)

pub returns : goal.returns
returns c = let other = λ (is : kind_at c.args.tokens.now c.args.at ≡ 52). c.if-kind-eq-SEMICOLON.false (c.kind.ensures ∙ is) in
    shows_made c.value.ensures (omega arith) (λ ts h p q d. law.initial_read _ (seen h (search rules)) other d) (λ ts h r p said. law.initial_refused _ (seen h (search rules)) other said)
