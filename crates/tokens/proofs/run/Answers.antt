-- `tokens::run` meets its contract: the run of the whole is i and the run of what is left.
use mathlib.Core.Path.{◌≡◌, sym, ◌∙◌}
use native.Mathlib.Omega.{arith}
use lib.ListN.{length}
use Rattle.laws.proofs.Bytes.{run_on, run-off, run_end}
use Rattle.tokens.proofs.run.Goals as goal

pub returns-then-not-passes : goal.returns-then-not-passes
returns-then-not-passes g c test told =
    run-off _ _ _ c.loop-i-test.true (sym (told _ _ c.if-not-passes.ensures)) (c.loop-i.invariant test told)

pub loop-i-preserved : goal.loop-i-preserved
loop-i-preserved g c test told =
    run_on _ _ _ c.loop-i-test.true (sym (told _ _ c.if-not-passes.ensures)) (c.loop-i.invariant test told)

pub returns : goal.returns
returns g c test told =
    let past : length c.args.s.now ≡ c.loop-i.i = omega arith in
    past ∙ run_end _ _ _ c.loop-i-test.false (c.loop-i.invariant test told)
