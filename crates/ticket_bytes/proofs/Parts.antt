-- A list that stands in a ticket from one of its bytes on; of two lists one behind the other each stands there.
use Prim.Native.Nat.{ℕ, ◌+◌, ◌≤◌, ◌<◌}
use mathlib.Core.Path.{◌≡◌, ap, ◌∙◌}
use mathlib.Core.List.{List, ◌++◌}
use native.Mathlib.Nat.{zero-add, add_assoc}
use native.Mathlib.Omega.{arith}
use lib.ListN.{length, get_or, length-append, get_or-append}
use lib.Seq.{get_or-append-add}
use Rattle.ticket_sides.specs.Format.{byte}

pub record Part (s : List ℕ) (from : ℕ) (l : List ℕ) : Type 0 where
  pub here : (i : ℕ) → i < length l → byte s (from + i) ≡ get_or l i 0
  pub room : from + length l ≤ length s

pub whole : (s : List ℕ) → Part s 0 s
whole s = record { here = λ i h. ap (byte s) (zero-add i); room = omega arith }

module _ {s : List ℕ} {from : ℕ} (x y : List ℕ) (p : Part s from (x ++ y)) where
  pub front : Part s from x
  front =
      let e = length-append x y in
      record { here = λ i h. p.here i (omega arith) ∙ get_or-append x y 0 i h; room = omega (arith, p.room) }

  pub back : Part s (from + length x) y
  back =
      let e = length-append x y in
      record {
        here = λ i h. ap (byte s) (add_assoc from (length x) i) ∙ p.here (length x + i) (omega arith) ∙ get_or-append-add x y i 0;
        room = omega (arith, p.room);
      }
