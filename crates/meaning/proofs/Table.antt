-- Every starred case of document 01 holds: what run and judge make of each row is what the row says.
use mathlib.Core.Path.{◌≡◌, refl}
use mathlib.Core.List.{map}
use Rattle.meaning.specs.Codes.{the_judge_gives, only_a_run_gives}
use Rattle.meaning.specs.Tokens.{bytes}
use Rattle.meaning.specs.Memory.{little_endian}
use Rattle.meaning.specs.Services.{answer, judge, run}
use Rattle.meaning.specs.Table.{◌over◌for◌gives◌leaves◌, ◌gets◌at◌, ints, minus, vote, starred, judged_as, found, expected}

pub checked_by_hand : map found starred ≡ map expected starred
unfolding found expected judged_as the_judge_gives only_a_run_gives vote starred ◌over◌for◌gives◌leaves◌ ◌gets◌at◌ ints minus bytes little_endian run judge answer
checked_by_hand = refl
