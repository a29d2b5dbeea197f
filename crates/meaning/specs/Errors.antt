-- Document 01, "Errors that come easily": a run for each that the starred cases leave open. That every row holds is the theorem of
-- proofs/Errors.antt.
use Rattle.std.specs.Prelude.{List, [], ◌∷◌, ◌++◌, ℕ, replicate}
use Prim.Native.String.{String}
use Rattle.meaning.specs.Memory.{Memory}
use Rattle.meaning.specs.Table.{Row, ◌over◌for◌gives◌leaves◌, ◌gets◌at◌, ints}

-- Document 01's routine, and its memory: `ok`, `s` and `t`.
unfoldable pub routine : String
routine = "bool block[4] ok; int block[4] s; int block[4] t = 10; if (ok) { if (s < t) s = s + t; else s = s - t; } else ;"

unfoldable pub samples : List ℕ → List ℕ → Memory
samples s t = 1 ∷ 0 ∷ 1 ∷ 0 ∷ replicate 12 0xaa ++ ints s ++ t

-- In order: an inner else under not-m alone makes 80 of 90; a masked lane keeps its bytes, a bool's too; a closed scope's bytes
-- are not used again; a lane that has left a loop stays out when `scalar` changes its value. And "the initial value is typed
-- before its name is open".
unfoldable pub errors : List Row
errors =
    routine over samples (4 ∷ 7 ∷ 25 ∷ 90 ∷ []) (replicate 16 0xaa) for 1000 gives (0, 0, 48, 8) leaves samples (14 ∷ 7 ∷ 15 ∷ 90 ∷ []) (ints (10 ∷ 10 ∷ 10 ∷ 10 ∷ []))
    ∷ "bool block[2] m; bool block[2] b; if (m) b = !b; else ;" over 1 ∷ 0 ∷ 5 ∷ 5 ∷ [] for 1000 gives (0, 0, 4, 5) leaves (1 ∷ 0 ∷ 0 ∷ 5 ∷ [])
    ∷ "{ bool block[4] m = true; } int x = 5;" over ints (0 ∷ 0 ∷ []) for 1000 gives (0, 0, 8, 2) leaves (1 ∷ 1 ∷ 1 ∷ 1 ∷ ints (5 ∷ []))
    ∷ "int block[2] n; int c = 0; while (0 < n) { n = n - 1; scalar { c = c + 1; if (c == 2) n = n + 1; else ; } }" over ints (1 ∷ 3 ∷ 9 ∷ []) for 1000 gives (0, 0, 12, 23) leaves ints (1 ∷ 0 ∷ 4 ∷ [])
    ∷ "int x = x;" gets 5 at 8
    ∷ []
