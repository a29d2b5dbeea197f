-- Document 02: every row of its requests' tables holds.
use mathlib.Core.Path.{◌≡◌, refl}
use mathlib.Core.List.{map}
use Rattle.meaning.specs.Codes.{the_judge_gives, only_a_run_gives}
use Rattle.meaning.specs.Tokens.{bytes}
use Rattle.meaning.specs.Memory.{little_endian}
use Rattle.meaning.specs.Services.{answer, judge, run}
use Rattle.meaning.specs.Table.{◌over◌for◌gives◌leaves◌, ◌gets◌at◌, ints, judged_as, found, expected}
use Rattle.meaning.specs.Requests.{floats, near_words, long_blocks, digits, declarations}

pub floats_hold : map found floats ≡ map expected floats
unfolding found expected judged_as the_judge_gives only_a_run_gives floats ◌over◌for◌gives◌leaves◌ ◌gets◌at◌ ints bytes little_endian run judge answer
floats_hold = refl

pub near_words_hold : map found near_words ≡ map expected near_words
unfolding found expected judged_as the_judge_gives only_a_run_gives near_words ◌over◌for◌gives◌leaves◌ ◌gets◌at◌ ints bytes little_endian run judge answer
near_words_hold = refl

pub long_blocks_hold : map found long_blocks ≡ map expected long_blocks
unfolding found expected judged_as the_judge_gives only_a_run_gives long_blocks ◌over◌for◌gives◌leaves◌ ◌gets◌at◌ ints bytes little_endian run judge answer
long_blocks_hold = refl

-- "need can reach 16,384"
pub largest_need : judge (declarations 64) ≡ answer 0 0 16384 0
unfolding declarations digits bytes judge answer
largest_need = refl
