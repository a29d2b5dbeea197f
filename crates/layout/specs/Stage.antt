-- What a stage of judging answers: how far it came, or why and where the text is refused.
use Rattle.std.specs.declared.result.Result.{Result}
use Rattle.layout.specs.declared.Reached.{Reached}
use Rattle.layout.specs.declared.Refused.{Refused}

abbrev pub Stage : Type 0
Stage = Result Reached Refused
