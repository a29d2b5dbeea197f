-- What holds of each kind of an arm holds of the kind that took it.
use mathlib.Core.List.{[], ◌∷◌}
use denote.Enum.Declared.{tag_of}
use types.Run.{OneOf, miss}
use Rattle.meaning.specs.contracts.Kind.{the_type}
use Rattle.meaning.specs.declared.Kind.{Kind}
use Rattle.meaning.specs.declared.Kind.TheVariants.{Int as int, Bool as bool, Float as float}

-- `Kind::Int | Kind::Float`: lanes of four bytes.
pub int_or_float : (P : Kind → Type 0) → P int → P float → (k : Kind) → OneOf (0 ∷ 2 ∷ []) (tag_of the_type k) → P k
int_or_float P p q int h = p
int_or_float P p q bool h = absurd (miss (0 ∷ 2 ∷ []) 1 tt h)
int_or_float P p q float h = q

-- `Kind::Int | Kind::Bool`: lanes that are words or truths.
pub int_or_bool : (P : Kind → Type 0) → P int → P bool → (k : Kind) → OneOf (0 ∷ 1 ∷ []) (tag_of the_type k) → P k
int_or_bool P p q int h = p
int_or_bool P p q bool h = q
int_or_bool P p q float h = absurd (miss (0 ∷ 1 ∷ []) 2 tt h)
