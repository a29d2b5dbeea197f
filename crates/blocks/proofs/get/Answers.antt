-- `blocks::get` meets its contract. Assumes nothing.
use Rattle.std.proofs.Common.{rules, take, drop}
use Rattle.floats.proofs.Made.{made}
use Rattle.blocks.proofs.Chunks.{length-register, register_at}
use Rattle.blocks.proofs.get.Goals as goal

pub returns : goal.returns
returns c =
    made _ _ _ _ (λ i v f' lt call. search rules) c.from_fn.ensures.items (take 16 (drop c.args.at c.args.registers.now))
    (length-register c.args.registers.now c.args.at c.requires) (register_at c.args.registers.now c.args.at c.requires)
