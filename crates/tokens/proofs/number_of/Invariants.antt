-- The invariant of the loop of `tokens::number_of`: the digits so far are worth `value`.
use mathlib.Core.Path.{◌≡◌}
use Prim.Native.Nat.{◌≤◌}
use lib.ListN.{drop}
use Rattle.meaning.specs.Codes.{number_limit}
use Rattle.meaning.specs.Tokens.{decimal}
use Rattle.tokens.proofs.number_of.Given as goal

abbrev pub invariant-loop-b : goal.invariant-loop-b
invariant-loop-b l = record { in_range : l.value ≤ number_limit; so_far : decimal 0 l.s ≡ decimal l.value (drop l.b-index l.s) }
