-- `floats::pattern` meets its contract: the not-a-number has one pattern. Assumes nothing.
use mathlib.Core.Path.{◌≡◌, refl, sym, ap, ◌∙◌, subst}
use lib.Dec.{T}
use lib.Ieee.{Float, nan, inf, fin, binary32, to_bits, is_nan}
use Rattle.floats.proofs.Rounding.{nan_pattern_bits}
use Rattle.floats.proofs.pattern.Goals as goal

the_nan : (x : Float) → T (is_nan x) → x ≡ nan
unfolding is_nan
the_nan nan h = refl
the_nan (inf s) h = absurd h
the_nan (fin s m e) h = absurd h

pub returns-then-is_nan : goal.returns-then-is_nan
returns-then-is_nan c = sym (ap (to_bits binary32) (the_nan c.args.x (subst T c.if-is_nan.ensures.value tt)) ∙ nan_pattern_bits)
