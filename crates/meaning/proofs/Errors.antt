-- None of the errors that come easily is made: every row of their table holds.
use mathlib.Core.Path.{◌≡◌, refl}
use mathlib.Core.List.{map}
use Rattle.meaning.specs.Codes.{the_judge_gives, only_a_run_gives}
use Rattle.meaning.specs.Tokens.{bytes}
use Rattle.meaning.specs.Memory.{little_endian}
use Rattle.meaning.specs.Services.{answer, judge, run}
use Rattle.meaning.specs.Table.{◌over◌for◌gives◌leaves◌, ◌gets◌at◌, ints, judged_as, found, expected}
use Rattle.meaning.specs.Errors.{routine, samples, errors}

pub none_is_made : map found errors ≡ map expected errors
unfolding found expected judged_as the_judge_gives only_a_run_gives routine samples errors ◌over◌for◌gives◌leaves◌ ◌gets◌at◌ ints bytes little_endian run judge answer
none_is_made = refl
