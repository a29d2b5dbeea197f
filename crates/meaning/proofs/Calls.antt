-- An answer slice, byte by byte: the routine of document 01 "with budget 6: 13 92 48 6, and the third sample still 25". The four
-- numbers are written in that order, each with its lowest byte first, and the byte behind them stays.
use mathlib.Core.Path.{◌≡◌, refl}
use mathlib.Core.List.{[], ◌∷◌, ◌++◌}
use lib.ListN.{replicate}
use Rattle.meaning.specs.Tokens.{bytes}
use Rattle.meaning.specs.Memory.{little_endian}
use Rattle.meaning.specs.Services.{answer, run, in_a_row, numbers, with_numbers, called, run_call, how_many, each, run_each_call}
use Rattle.meaning.specs.Table.{ints}
use Rattle.meaning.specs.Errors.{routine, samples}

pub written_in_order : run_call (bytes routine) (samples (4 ∷ 7 ∷ 25 ∷ 90 ∷ []) (replicate 16 0xaa)) 6 (replicate 17 0xee) ≡ record {
  returns = 1;
  slice = 13 ∷ 0 ∷ 0 ∷ 0 ∷ 92 ∷ 0 ∷ 0 ∷ 0 ∷ 48 ∷ 0 ∷ 0 ∷ 0 ∷ 6 ∷ 0 ∷ 0 ∷ 0 ∷ 0xee ∷ [];
  lent = samples (14 ∷ 7 ∷ 25 ∷ 90 ∷ []) (ints (10 ∷ 10 ∷ 10 ∷ 10 ∷ []));
}
unfolding run_call called with_numbers numbers in_a_row answer run routine samples ints bytes little_endian
written_in_order = refl

-- Two images of eight bytes, one after the other, and three bytes behind them: each is run with the whole budget, and the rest stays.
-- Of a text that needs eight bytes, images of four are too short.
pub each_in_order : run_each_call (bytes "int a; int b; a = a + b;") (ints (1 ∷ 2 ∷ 3 ∷ 4 ∷ []) ++ replicate 3 0xaa) 8 3 (replicate 33 0xee) ≡ record {
  returns = 2;
  slice = ints (0 ∷ 0 ∷ 8 ∷ 3 ∷ 0 ∷ 0 ∷ 8 ∷ 3 ∷ []) ++ 0xee ∷ [];
  lent = ints (3 ∷ 2 ∷ 7 ∷ 4 ∷ []) ++ replicate 3 0xaa;
}
unfolding run_each_call how_many each numbers in_a_row answer run ints bytes little_endian
each_in_order = refl

pub each_too_short : run_each_call (bytes "int a; int b; a = a + b;") (ints (1 ∷ 2 ∷ [])) 4 3 (replicate 32 0xee) ≡ record {
  returns = 2;
  slice = ints (12 ∷ 0 ∷ 8 ∷ 0 ∷ 12 ∷ 0 ∷ 8 ∷ 0 ∷ []);
  lent = ints (1 ∷ 2 ∷ []);
}
unfolding run_each_call how_many each numbers in_a_row answer run ints bytes little_endian
each_too_short = refl
