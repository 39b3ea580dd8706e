-- The wiring of full lines on every layer is a drawing of the box.
use Prim.Native.Nat.{ℕ, ◌+◌, ◌*◌, ◌%◌}
use mathlib.Core.Path.{refl}
use native.Mathlib.Omega.{arith}
use borrow.Author.Tests.{eq-eqb, ne_eqb, le-leb, lt-leb}
use Rattle.grid.specs.Legal.{Pins}
use Rattle.switchbox_law.specs.Drawing.{BoxDrawing, full_lines}

pub drawn : (n w q : ℕ) (p : Pins) (tracks columns : ℕ → ℕ) → BoxDrawing n w q p (full_lines w q p tracks columns) tracks columns
unfolding full_lines
drawn n w q p tracks columns = record {
  norths = λ i j l hi hj hl v. rw (le-leb l (2 * q + 1) hl.1, ne_eqb (l % 2) 0 (λ e. omega arith), eq-eqb ((l + 2 * q) % 4) 1 v);
  souths = λ i j l hi hj hl v. rw (le-leb l (2 * q + 1) hl.1, ne_eqb (l % 2) 0 (λ e. omega arith), ne_eqb ((l + 2 * q) % 4) 1 (λ e. omega arith));
  rows = λ i j l hi hj hl v. rw (le-leb l (2 * q + 1) (omega arith), eq-eqb (l % 2) 0 v);
  easts = λ i j hi hj. rw (lt-leb (2 * q + 2) (2 * q + 1) (omega arith), eq-eqb (2 * q + 2) (2 * q + 2) refl);
  posts = λ i j hi hj. rw (
    lt-leb (2 * q + 3) (2 * q + 1) (omega arith),
    ne_eqb (2 * q + 3) (2 * q + 2) (λ e. omega arith),
    eq-eqb (2 * q + 3)
        (2 * q + 3) refl,
  );
  wests = λ i j hi hj. rw (
    lt-leb (2 * q + 4) (2 * q + 1) (omega arith),
    ne_eqb (2 * q + 4) (2 * q + 2) (λ e. omega arith),
    ne_eqb (2 * q + 4) (2 * q + 3)
        (λ e. omega arith),
  );
}
