-- `leaf` reads an operand of one token: an arm for each of them, and any other is refused.
use mathlib.Core.Path.{sym, ◌∙◌}
use native.Mathlib.Omega.{arith}
use borrow.Author.Rules.{rules}
use Rattle.reading_expressions.proofs.Answers.{goes_on, unit-fits, shows_leaf, shows_refused}
use Rattle.reading_expressions.proofs.Laws as law
use Rattle.reading_expressions.proofs.leaf.Goals as goal

pub node-requires : goal.node-requires
node-requires c = unit-fits c.requires.ready_to_read (sym c.kind-kind.ensures) (law.constant_above c.in-1.is)

pub node-requires-in-24 : goal.node-requires-in-24
node-requires-in-24 c = unit-fits c.requires.ready_to_read (sym c.kind-kind.ensures ∙ c.in-24.is) (omega arith)

pub node-requires-in-25 : goal.node-requires-in-25
node-requires-in-25 c = unit-fits c.requires.ready_to_read (sym c.kind-kind.ensures ∙ c.in-25.is) (omega arith)

pub node-requires-in-2 : goal.node-requires-in-2
node-requires-in-2 c = unit-fits c.requires.ready_to_read (sym c.kind-kind.ensures ∙ c.in-2.is) (omega arith)

pub node-requires-in-23 : goal.node-requires-in-23
node-requires-in-23 c = unit-fits c.requires.ready_to_read (sym c.kind-kind.ensures ∙ c.in-23.is) (omega arith)

pub returns-in-1 : goal.returns-in-1
returns-in-1 c = let kind = c.kind-kind.ensures in
    let put = rw c.value.ensures at c.node.ensures in
    shows_leaf put (goes_on c.requires.ready_to_read (sym kind) (law.constant_above c.in-1.is))
    (λ ts h. law.read_constant 0 (law.seen h (search rules)) kind c.in-1.is)

pub returns-in-24 : goal.returns-in-24
returns-in-24 c = let is = sym c.kind-kind.ensures ∙ c.in-24.is in
    shows_leaf c.node-in-24.ensures (goes_on c.requires.ready_to_read is (omega arith)) (λ ts h. law.read_true 0 (law.seen h (search rules)) is)

pub returns-in-25 : goal.returns-in-25
returns-in-25 c = let is = sym c.kind-kind.ensures ∙ c.in-25.is in
    shows_leaf c.node-in-25.ensures (goes_on c.requires.ready_to_read is (omega arith)) (λ ts h. law.read_false 0 (law.seen h (search rules)) is)

pub returns-in-2 : goal.returns-in-2
returns-in-2 c = let is = sym c.kind-kind.ensures ∙ c.in-2.is in
    let put = rw (c.place.ensures, c.value-in-2.ensures) at c.node-in-2.ensures in
    shows_leaf put (goes_on c.requires.ready_to_read is (omega arith)) (λ ts h. law.read_name 0 (law.seen h (search rules)) is)

pub returns-in-23 : goal.returns-in-23
returns-in-23 c = let is = sym c.kind-kind.ensures ∙ c.in-23.is in
    shows_leaf c.node-in-23.ensures (goes_on c.requires.ready_to_read is (omega arith)) (λ ts h. law.read_mask 0 (law.seen h (search rules)) is)

pub returns-in_default : goal.returns-in_default
returns-in_default c = shows_refused (search)
    (λ ts h. law.read_none 0 (law.seen h (search rules)) c.kind-kind.ensures (search) (search) (search) (search) (search) (search) (search))
