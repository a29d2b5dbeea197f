-- How many words the buffers have that hold a text's parts, by document 01's limits.
use Rattle.std.specs.Prelude.{ℕ, ◌+◌, ◌*◌}
use Rattle.meaning.specs.Codes.{text_limit, declaration_limit}
use Rattle.layout.specs.Tokens.{token_words}
use Rattle.layout.specs.Words.{unit_words}
use Rattle.layout.specs.Table.{row_words}

-- The tokens of n bytes of text, its end among them: each token takes a byte.
abbrev pub token_room : ℕ → ℕ
token_room n = (n + 1) * token_words

-- The tree of n bytes of text, and its program: each token leaves at most one unit.
abbrev pub tree_room : ℕ → ℕ
tree_room n = n * unit_words

-- The words of the longest tree.
abbrev pub tree_limit : ℕ
tree_limit = tree_room text_limit

-- The table of as many declarations as a text may have.
abbrev pub table_room : ℕ
table_room = declaration_limit * row_words
