-- The box that is written as the hardest of its shape. No promise of a public call cites it: "its net numbers are otherwise free".
-- Figure 8 of document 002 pairs place a of a side with place p + 1 - a of the opposite one: in an odd side the pair in the middle need
-- not pass the middle, and 557 shapes miss the floor. A rotation has no such pair but for p = 1, which the exchange mends.
--
--   half p            half of p, rounded up
--   rotated p a       place a of p moved on by half of them, around past the last
--   net_at n w s a    the net of place a of side s: north i and the south place that is rotated to i hold net i, west j and the east
--                     place that is rotated to j hold net n + j; but south 1 and west 1 have exchanged their nets
--   hardest_box n w   the problem
use Rattle.std.specs.Prelude.{ℕ, ◌+◌, ◌-◌, ◌/◌, cond, leb, eqb}
use Rattle.terms.specs.Kinds.{Side, north, south, west, east, box}
use Rattle.problem.specs.declared.Problem.{Problem}
use Rattle.ticket_sides.specs.Format.{side_list}

abbrev pub half : ℕ → ℕ
half p = (p + 1) / 2

unfoldable pub rotated : ℕ → ℕ → ℕ
rotated p a = cond (leb (a + half p) p) (a + half p) (a + half p - p)

abbrev pub net_at : ℕ → ℕ → Side → ℕ → ℕ
net_at n w north a = a
net_at n w south a = cond (eqb a 1) (n + 1) (rotated n a)
net_at n w west a = cond (eqb a 1) (rotated n 1) (n + a)
net_at n w east a = n + rotated w a

abbrev pub hardest_box : ℕ → ℕ → Problem
hardest_box n w =
    record {
      kind = box;
      n = record { 0 = n };
      byte2 = w;
      nets = n + w;
      pins =
          record {
            north = side_list (net_at n w north) n;
            south = side_list (net_at n w south) n;
            west = side_list (net_at n w west) w;
            east = side_list (net_at n w east) w;
          };
    }
