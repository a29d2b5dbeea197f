-- The bytes of a "32-bit little-endian" number, and of four in a row.
use Rattle.std.specs.Prelude.{ℕ, ◌*◌}

abbrev pub number_bytes : ℕ
number_bytes = 4

abbrev pub four_bytes : ℕ
four_bytes = 4 * number_bytes
