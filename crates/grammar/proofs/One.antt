-- A token list has one derivation.
use Prim.Native.Nat.{ℕ, ◌≤◌, ◌<◌, max}
use mathlib.Core.Path.{◌≡◌, sym, ap, ◌∙◌}
use mathlib.Core.List.{[], ◌∷◌}
use native.Mathlib.Omega.{arith}
use lib.ListN.{length}
use Rattle.meaning.specs.Codes.{ok}
use Rattle.grammar.specs.Grammar.{Program, token, program_tokens, program_nesting}
use Rattle.grammar.proofs.Written.{statements_joins}
use Rattle.grammar.proofs.Parse.{program}
use Rattle.grammar.proofs.Complete.{program_complete}
use Rattle.grammar.proofs.Deep.{IsTooDeep, program_deep}

-- The tokens of a program parse as that program.
pub parses : (p : Program) (K r : ℕ) → length (program_tokens p) ≤ K → program_nesting p ≤ r → program K r (program_tokens p) ≡ ok p []
unfolding program_tokens program_nesting
parses p K r f d =
    let joins = statements_joins p.statements (token p.end ∷ []) in
    rw joins at (program_complete K p r (rw joins f) d)

-- Those of a program that nests deeper than the room are refused as too deep.
pub deep_parses : (p : Program) (K r : ℕ) → length (program_tokens p) ≤ K → r < program_nesting p → IsTooDeep (program K r (program_tokens p))
unfolding program_tokens program_nesting
deep_parses p K r f d =
    let joins = statements_joins p.statements (token p.end ∷ []) in
    rw joins at (program_deep K p r (rw joins f) d)

pub one_derivation : (p q : Program) → program_tokens p ≡ program_tokens q → p ≡ q
one_derivation p q e =
    let K = length (program_tokens p) in
    let r = max (program_nesting p) (program_nesting q) in
    let first : program K r (program_tokens p) ≡ ok p [] = parses p K r (omega arith) (omega arith) in
    let second : program K r (program_tokens q) ≡ ok q [] = parses q K r (rw e (omega arith)) (omega arith) in
    let same : ok p [] ≡ ok q [] = sym first ∙ ap (program K r) e ∙ second in
    cc
