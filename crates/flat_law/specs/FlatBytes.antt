-- The flat bytes of a problem: the flat ticket that states it (document 02, job 4).
--
--   flat_on q side   "every place of" a side that the kind has, "with 0 for an empty place"
--   flat_bytes_of q  the flat ticket: "bytes 0 to 2, then every place of every side the kind has (north; south; west; east)"
--   longest_flat     the most bytes of a flat ticket: bytes 0 to 2, and four sides of 90 places
use Rattle.std.specs.Prelude.{List, [], ◌∷◌, ◌++◌, ℕ}
use Rattle.terms.specs.Kinds.{Side, north, south, west, east}
use Rattle.problem.specs.declared.Problem.{Problem}
use Rattle.problem.specs.Problem.{pins_in}
use Rattle.ticket_sides.specs.Format.{values_from}
use Rattle.flat_reader.specs.Flat.{places_on}

abbrev pub flat_on : Problem → Side → List ℕ
flat_on q side = values_from (pins_in q.pins side) 1 (places_on q.kind q.n.0 q.byte2 side)

unfoldable pub flat_bytes_of : Problem → List ℕ
flat_bytes_of q = (q.kind ∷ q.n.0 ∷ q.byte2 ∷ []) ++ flat_on q north ++ flat_on q south ++ flat_on q west ++ flat_on q east

abbrev pub longest_flat : ℕ
longest_flat = 363
