-- What functions of this crate promise each other. The code's constant bears the same name.
--
--   padded_side       how many entries the padded list of a side has
use Rattle.std.specs.Prelude.{ℕ}

abbrev pub padded_side : ℕ
padded_side = 96
