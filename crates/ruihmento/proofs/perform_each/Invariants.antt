-- The invariant of the loop of `ruihmento::perform_each`: the first k images are done.
use mathlib.Core.Path.{◌≡◌}
use lib.ListN.{length}
use Rattle.meaning.specs.Codes.{ok}
use Rattle.meaning.specs.Program.{Program}
use Rattle.meaning.specs.Memory.{Declarations}
use Rattle.meaning.specs.Services.{program_run, executed}
use Rattle.ruihmento.specs.Contract.{Prepared}
use Rattle.ruihmento.proofs.Images.{SoFar}
use Rattle.ruihmento.proofs.perform_each.Given as goal

abbrev pub invariant-loop-k : goal.invariant-loop-k
invariant-loop-k g l = record {
  registers : length l.registers ≡ g.row.REGISTERS;
  done : (Γ : Declarations) (P : Program) → Prepared l.code g.row.REGISTERS l.need Γ P
      → SoFar (λ M. executed program_run M l.budget (ok P Γ)) l.size l.k-end l.initial.images l.initial.answers l.k l.images l.answers;
}
