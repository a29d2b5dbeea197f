-- Document 01's example, from the routine's text to the lines that are printed.
use Prim.Native.String.{String}
use Rattle.std.specs.Prelude.{◌≡◌, refl, [], ◌∷◌, ◌++◌, replicate}
use Rattle.meaning.specs.Tokens.{bytes}
use Rattle.meaning.specs.Memory.{Memory}
use Rattle.meaning.specs.Services.{run}
use Rattle.meaning.specs.Table.{ints}
use Rattle.print.specs.Shown.{shown}

-- "Routine, one line, no LF"
pub routine : String
routine = "bool block[4] ok; int block[4] s; int block[4] t = 10; if (ok) { if (s < t) s = s + t; else s = s - t; } else ;"

-- "Memory of 48 bytes: 01 00 01 00, twelve aa, then 4, 7, 25, 90 as ints, sixteen aa."
pub memory : Memory
unfolding ints
memory = 1 ∷ 0 ∷ 1 ∷ 0 ∷ [] ++ replicate 12 0xaa ++ ints (4 ∷ 7 ∷ 25 ∷ 90 ∷ []) ++ replicate 16 0xaa

pub output : String
output = "0 0 48 8\n01000100aaaaaaaaaaaaaaaaaaaaaaaa\n0e000000070000000f0000005a000000\n0a0000000a0000000a0000000a000000\n"

pub prints : shown (run (bytes routine) memory 1000) ≡ bytes output
unfolding shown run routine memory output bytes
prints = refl
