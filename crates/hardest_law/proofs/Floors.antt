-- The written box has its shape's hardest floor: every one of its n + w nets passes the middle column and the middle track.
use Prim.Native.Nat.{ℕ, ◌+◌, ◌-◌, ◌≤◌}
use mathlib.Core.Path.{◌≡◌, refl, sym, ap, ◌∙◌, subst}
use mathlib.Core.Logic.{◌≢◌, inl, inr, ⊎_elim, by_cases}
use mathlib.Core.Bool.{Bool, true, not}
use native.Mathlib.Decide.{ℕ_discrete, dec_le}
use native.Mathlib.Omega.{arith}
use lib.Dec.{eqb, leb}
use borrow.Author.Tests.{eq-eqb, ne_eqb, le-leb}
use Rattle.counting.specs.Counting.{In, bit}
use Rattle.counting.proofs.Sums.{sum_grows}
use Rattle.counting.proofs.Counts.{some_of, le_most}
use Rattle.counting.proofs.Tests.{count_all}
use Rattle.terms.specs.Kinds.{Side, north, south, west, east}
use Rattle.terms.specs.Limits.{longest_side, largest_net}
use Rattle.grid.specs.Grid.{Grid, Node, pin, places, upright, column_of, track_of}
use Rattle.grid.specs.Legal.{Pins, nets}
use Rattle.density.specs.Density.{pin_on, has_pin, passes_at, box_passes_at, box_passes, box_passes_track, box_across, up, floor_of}
use Rattle.density.proofs.Pinned.{side_of_lem}
use Rattle.density.proofs.Tracks.{all_same}
use Rattle.problem.specs.Problem.{pins_in, shape_of, Good}
use Rattle.hardest_law.specs.Box.{half, rotated, net_at, hardest_box}
use Rattle.hardest_law.specs.Hardest.{hardest_floor}
use Rattle.hardest_law.proofs.Lists.{box_pins, net_at_lem}
use Rattle.hardest_law.proofs.Rounding.{floors_grow, floor_hardest}
use Rattle.hardest_law.proofs.Ceilings.{box_floor}
use Rattle.hardest_law.proofs.Rotation.{rotated_in, rotated_first, Around, Astride, opposite}

-- ---- two pins of a net

record PinOf (g : Grid) (p : Pins) (m : ℕ) : Type 0 where
  pub side : Side
  pub place : ℕ
  pub on : In place (places g side)
  pub net : p side place ≡ m

module _ {g : Grid} {p : Pins} {m : ℕ} where
  abbrev node : PinOf g p m → Node
  node u = pin u.side u.place

  has_pin_lem : (at : Node → ℕ) (t : ℕ → Bool) (u : PinOf g p m) → t (at (node u)) ≡ true → has_pin g p at m t ≡ true
  unfolding has_pin pin_on
  has_pin_lem at t u e = side_of_lem (pin_on g p at m t) u.side (some_of _ _ u.place u.on (rw (eq-eqb _ m u.net) e))

  around_pins : (at : Node → ℕ) (c : ℕ) (u v : PinOf g p m) → Around c (at (node u)) (at (node v)) → passes_at g p at c m ≡ true
  unfolding passes_at
  around_pins at c u v (le, ge, lt) = all_same
      (has_pin_lem at (λ a. leb a c) u (le-leb _ c le))
      (has_pin_lem at (λ a. leb c a) v (le-leb c _ ge))
      (by_cases (ℕ_discrete (at (node u)) c)
      (λ e. has_pin_lem at (λ a. not (eqb a c)) v (ap not (ne_eqb _ c (omega arith))))
      (λ ne. has_pin_lem at (λ a. not (eqb a c)) u (ap not (ne_eqb _ c ne))))

  astride_pins : (at : Node → ℕ) (c : ℕ) (u v : PinOf g p m) → Astride c (at (node u)) (at (node v)) → passes_at g p at c m ≡ true
  astride_pins at c u v = ⊎_elim (around_pins at c u v) (around_pins at c v u)

-- ---- the nets of the written box

module _ (n w : ℕ) (long : In n longest_side) (broad : In w longest_side) where
  abbrev g : Grid
  g = upright n w 1

  -- two pins of net m, on both sides of the middle column and of the middle track
  record Crossing (m : ℕ) : Type 0 where
    one : PinOf g (box_pins n w) m
    other : PinOf g (box_pins n w) m
    columns : Astride (half n) (column_of g (node one)) (column_of g (node other))
    tracks : Astride (half w) (track_of g (node one)) (track_of g (node other))

  abbrev at_place : (m : ℕ) (s : Side) (a : ℕ) → In a (places g s) → net_at n w s a ≡ m → PinOf g (box_pins n w) m
  at_place m s a i e = record { side = s; place = a; on = i; net = net_at_lem n w long.1 broad.1 s a i ∙ e }

  -- north and south
  upright_net : (m : ℕ) → In m n → m ≢ rotated n 1 → Crossing m
  upright_net m i ne =
      let o = opposite n m i in
      let other : o.place ≢ 1 = λ e. ne (sym o.moved ∙ ap (rotated n) e) in
      record {
        one = at_place m north m i refl;
        other = at_place m south o.place o.on (rw (ne_eqb o.place 1 other) o.moved);
        columns = o.astride (omega (arith, other));
        tracks = inr (omega arith);
      }

  -- north and west 1
  first_west : Crossing (rotated n 1)
  first_west =
      let r = rotated_first n in
      let i = rotated_in n 1 (omega arith) in
      record {
        one = at_place (rotated n 1) north (rotated n 1) i refl;
        other = at_place (rotated n 1) west 1 (omega arith) refl;
        columns = inr (omega arith);
        tracks = inr (omega arith);
      }

  -- south 1 and east
  first_south : Crossing (n + 1)
  first_south =
      let o = opposite w 1 (omega arith) in
      record {
        one = at_place (n + 1) south 1 (omega arith) refl;
        other = at_place (n + 1) east o.place o.on (ap (λ b. n + b) o.moved);
        columns = inl (omega arith);
        tracks = inl (omega (arith, o.past (omega arith)));
      }

  -- west and east
  lying_net : (j : ℕ) → In j w → j ≢ 1 → Crossing (n + j)
  lying_net j i ne =
      let o = opposite w j i in
      record {
        one = at_place (n + j) west j i (rw (ne_eqb j 1 ne));
        other = at_place (n + j) east o.place o.on (ap (λ b. n + b) o.moved);
        columns = inl (omega arith);
        tracks = o.astride (omega (arith, ne));
      }

  crossing : (m : ℕ) → In m (n + w) → Crossing m
  crossing m i = elim (dec_le m n) [
    | yes le ↦ by_cases (ℕ_discrete m (rotated n 1)) (λ e. subst Crossing (sym e) first_west) (upright_net m (omega arith))
    | no gt ↦ by_cases (ℕ_discrete m (n + 1))
        (λ e. subst Crossing (sym e) first_south)
        (λ ne. let e : n + (m - n) ≡ m = omega arith in subst Crossing e (lying_net (m - n) (omega arith) (omega (arith, ne))))
  ]

  every_net : (m : ℕ) → In m (n + w) → (box_passes g (box_pins n w) (half n) m ≡ true) × (box_passes_track g (box_pins n w) (half w) m ≡ true)
  unfolding box_passes_at
  every_net m i =
      let c = crossing m i in (
        rw (astride_pins (column_of g) (half n) c.one c.other c.columns),
        rw (astride_pins (track_of g) (half w) c.one c.other c.tracks),
      )

  -- they are among the nets that are counted
  all_pass : (t : ℕ → Bool) → ((m : ℕ) → In m (n + w) → t m ≡ true) → n + w ≤ nets t
  all_pass t all = omega (arith, count_all t (n + w) all, sum_grows (λ m. bit (t m)) (n + w) largest_net (omega arith))

  across_many : n + w ≤ box_across g (box_pins n w)
  unfolding box_across
  across_many = omega (
    arith,
    le_most (λ c. nets (box_passes g (box_pins n w) c)) n (half n) (omega arith),
    all_pass (box_passes g (box_pins n w) (half n)) (λ m i. (every_net m i).0),
  )

  up_many : n + w ≤ up g (box_pins n w)
  unfolding up
  up_many = omega (
    arith,
    le_most (λ c. nets (box_passes_track g (box_pins n w) c)) w (half w) (omega arith),
    all_pass (box_passes_track g (box_pins n w) (half w)) (λ m i. (every_net m i).1),
  )

  pub hardest_floor_lem : Good (hardest_box n w) → floor_of (shape_of (hardest_box n w)) (pins_in (hardest_box n w).pins) ≡ hardest_floor n w
  hardest_floor_lem good = omega (
    arith,
    box_floor (hardest_box n w) good refl,
    floors_grow n w long.0 broad.0 (n + w) (n + w) _ _ across_many up_many,
    floor_hardest n w long.0 broad.0,
  )
