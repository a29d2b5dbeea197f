-- How a lent buffer of words holds the stack on which expressions are typed: three words for each operand that waits, its kind, its
-- length, and the word that stands for it in the code.
use Rattle.std.specs.Prelude.{ℕ, ◌+◌, ◌*◌, List, get_or}
use Rattle.std.proofs.lemmas.List.Edits.{sets}
use Rattle.layout.specs.Words.{unit}

-- The words of an operand.
abbrev pub slot_words : ℕ
slot_words = 3

-- The number of the kind of operand i, its length, and its word.
abbrev pub slot_kind : List ℕ → ℕ → ℕ
slot_kind stack i = get_or stack (i * slot_words) 0

abbrev pub slot_lanes : List ℕ → ℕ → ℕ
slot_lanes stack i = get_or stack (i * slot_words + 1) 0

abbrev pub slot_word : List ℕ → ℕ → ℕ
slot_word stack i = get_or stack (i * slot_words + 2) 0

-- The stack with operand i.
abbrev pub with_slot : List ℕ → ℕ → ℕ → ℕ → ℕ → List ℕ
with_slot stack i kind lanes word = sets stack (i * slot_words) (unit kind lanes word)
