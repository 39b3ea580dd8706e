-- Once the header and the sides are read, the pins are nets or empty, end with their side, and leave bare the sides that the kind lacks.
-- Sides of at most 90 places follow from bytes 0 to 2 alone.
use Prim.Native.Nat.{ℕ, zero, suc, ◌+◌, ◌^◌, ◌≤◌, ◌<◌}
use mathlib.Core.Bool.{Bool, true, false, true≢false}
use mathlib.Core.List.{List}
use mathlib.Core.Logic.{◌⊎◌, inl, inr, ⊎_elim}
use mathlib.Core.Path.{◌≡◌, refl, sym, ap, ◌∙◌, subst}
use native.Mathlib.Nat.{div-eq_of_lt}
use native.Mathlib.Numerals.{add-one}
use native.Mathlib.Omega.{arith}
use Rattle.counting.specs.Counting.{In}
use Rattle.counting.proofs.Sums.{split}
use Rattle.terms.specs.Kinds.{Side, north, south, west, east, by_kind, has_side, largest_side_map, largest_byte2}
use Rattle.terms.proofs.Laws.{Known, is_row, is_channel, is_box, is_two_layer, known}
use Rattle.terms.specs.Limits.{largest_net, longest_side}
use Rattle.grid.specs.Grid.{Grid, places, upright}
use Rattle.grid.specs.Legal.{entry}
use Rattle.ticket_sides.proofs.Flags.{le_or_lt}
use Rattle.ticket.proofs.Placed.{standing_below, pin_stands, pin_empty, pin_past, pin_off}
use Rattle.ticket.proofs.Filled.{entry_values, entry_past}
use Rattle.ticket.proofs.Extents.{side_read, side_before}
use Rattle.ticket.proofs.Laws.{Fields, nets_each}
use Rattle.ticket_sides.specs.declared.Cursor.{Cursor}
use Rattle.problem.specs.declared.Pins.{Pins}
use Rattle.problem.specs.Problem.{pins_in, shape_of}
use Rattle.ticket_sides.specs.Format.{byte, is_on, stands, standing_bits, map_bytes, pin_net, values_from, side_nets}
use Rattle.ticket_sides.specs.Stages.{go_on, nets_of, after, north_end, south_end, west_end, east_end, ends_of}
use Rattle.ticket.specs.Read.{pins_at, problem_at}
use Rattle.ticket.specs.Steps.{Sited}

-- ---- a side's list

module _ (f : ℕ → ℕ) (n : ℕ) where
  -- what holds of 0 and of f at each place holds of each entry
  entry_all : (P : ℕ → Type 0) → P 0 → ((a : ℕ) → In a n → P (f a)) → (a : ℕ) → P (entry (values_from f 1 n) a)
  entry_all P z h zero = z
  entry_all P z h (suc k) =
      ⊎_elim
      (λ le. subst P (sym (entry_values f n (suc k) (omega arith))) (h (suc k) (omega arith)))
      (λ lt. subst P (sym (entry_past f n (suc k) lt)) z)
      (le_or_lt (suc k) n)

-- nets or empty places, and none past place p
record NetsUpTo (p : ℕ) (l : List ℕ) : Type 0 where
  small : (a : ℕ) → entry l a ≤ largest_net
  past : (a : ℕ) → p < a → entry l a ≡ 0

module _ (s : List ℕ) (from p : ℕ) (e : (nets_of 1 s (from + map_bytes p) (standing_bits s from p)).refusal.number ≡ 0) where
  pin_small : (i : ℕ) → pin_net s true from p (i + 1) ≤ largest_net
  pin_small i =
      ⊎_elim (λ le. omega (arith, pin_past s true from p (i + 1) (omega arith)))
      (λ lt.
      split (stands s from (i + 1))
      (λ t. rw (pin_stands s from p i lt t)
      (nets_each 1 s _ (from + map_bytes p) (standing_bits s from i) e (standing_below s from p i lt t)).small)
      (λ t. omega (arith, pin_empty s true from p (i + 1) t)))
      (le_or_lt p i)

  pin_small_at : (a : ℕ) → In a longest_side → pin_net s true from p a ≤ largest_net
  pin_small_at zero i = absurd (omega arith)
  pin_small_at (suc k) i = rw (← add-one) (pin_small k)

nets_up_to : (s : List ℕ) (on : Bool) (from p : ℕ) → ((a : ℕ) → In a longest_side → pin_net s on from p a ≤ largest_net)
    → NetsUpTo p (side_nets s on from p)
unfolding side_nets
nets_up_to s on from p small =
    record {
      small = entry_all (pin_net s on from p) longest_side (λ x. x ≤ largest_net) (omega arith) small;
      past = λ a h. ⊎_elim (λ le. entry_values (pin_net s on from p) longest_side a (omega arith) ∙ pin_past s on from p a h)
          (entry_past (pin_net s on from p) longest_side a) (le_or_lt a longest_side);
    }

side_up_to : (s : List ℕ) (on : Bool) (p : ℕ) (c : Cursor) → (after s on p c).refusal.number ≡ 0 → NetsUpTo p (side_nets s on c.at p)
side_up_to s true p c e = nets_up_to s true c.at p (pin_small_at s c.at p (side_read s p c e).nets)
side_up_to s false p c e = nets_up_to s false c.at p (λ a i. omega (arith, pin_off s c.at p a))

side_bare : (s : List ℕ) (on : Bool) (from p : ℕ) → on ≡ false → (a : ℕ) → entry (side_nets s on from p) a ≡ 0
unfolding side_nets
side_bare s on from p off a =
    entry_all (pin_net s on from p) longest_side (λ x. x ≡ 0) refl (λ b i. ap (λ (t : Bool). pin_net s t from p b) off ∙ pin_off s from p b) a

abbrev pub found : List ℕ → Pins
found s = pins_at s (ends_of s)

-- ---- the pins

-- the side's places by byte 2 are those of the problem's grid, or the kind lacks the side
pub own_places : {kind : ℕ} (n byte2 : ℕ) (side : Side) → Known kind
    → (has_side kind side ≡ false) ⊎ (places (upright n (by_kind kind 1 1 1 byte2 1) 1) side ≡ places (upright n byte2 1) side)
own_places n byte2 north k = inr refl
own_places n byte2 south k = inr refl
own_places n byte2 west is_row = inl refl
own_places n byte2 east is_row = inl refl
own_places n byte2 west is_channel = inl refl
own_places n byte2 east is_channel = inl refl
own_places n byte2 west is_two_layer = inl refl
own_places n byte2 east is_two_layer = inl refl
own_places n byte2 west is_box = inr refl
own_places n byte2 east is_box = inr refl

off : (b k : ℕ) → b < 2 ^ k → is_on b k ≡ false
off b k h = rw (div-eq_of_lt h)

module _ (s : List ℕ) (header : Fields (byte s 0) (byte s 1) (byte s 2)) (ps : Pins) where
  wide : {kind : ℕ} → Known kind → byte s 2 ≤ largest_byte2 kind → by_kind kind 1 1 1 (byte s 2) 1 ≤ longest_side
  wide is_row h = omega arith
  wide is_channel h = omega arith
  wide is_box h = h
  wide is_two_layer h = omega arith

  pub fits : (side : Side) → places (shape_of (problem_at s 0 ps)) side ≤ longest_side
  fits north = header.length.1
  fits south = header.length.1
  fits west = wide (known (byte s 0) header.named) header.second.1
  fits east = wide (known (byte s 0) header.named) header.second.1

module _ (s : List ℕ) (header : Fields (byte s 0) (byte s 1) (byte s 2)) (map : byte s 3 ≤ largest_side_map (byte s 0))
    (sides : (east_end s).refusal.number ≡ 0) where
  ends : NetsUpTo (byte s 1) (found s).north × NetsUpTo (byte s 1) (found s).south ×
      NetsUpTo (byte s 2) (found s).west × NetsUpTo (byte s 2) (found s).east
  unfolding north_end south_end west_end east_end
  ends =
      let w = side_before s _ _ (west_end s) sides in
      let so = side_before s _ _ (south_end s) w in
      let n = side_before s _ _ (north_end s) so in
      (side_up_to s _ _ (go_on 4) n, side_up_to s _ _ (north_end s) so, side_up_to s _ _ (south_end s) w, side_up_to s _ _ (west_end s) sides)

  abbrev grid : Grid
  grid = shape_of (problem_at s 0 (found s))

  small : (side : Side) (a : ℕ) → pins_in (found s) side a ≤ largest_net
  small north = ends.0.small
  small south = ends.1.small
  small west = ends.2.small
  small east = ends.3.small

  known_kind : Known (byte s 0)
  known_kind = known (byte s 0) header.named

  -- a side that the kind lacks has no bit in the side map
  lacking : {kind : ℕ} (side : Side) → Known kind → has_side kind side ≡ false → byte s 3 ≤ largest_side_map kind
      → (a : ℕ) → pins_in (found s) side a ≡ 0
  lacking south is_row e h = side_bare s _ _ _ (off (byte s 3) 1 (omega arith))
  lacking west is_row e h = side_bare s _ _ _ (off (byte s 3) 2 (omega arith))
  lacking east is_row e h = side_bare s _ _ _ (off (byte s 3) 3 (omega arith))
  lacking west is_channel e h = side_bare s _ _ _ (off (byte s 3) 2 (omega arith))
  lacking east is_channel e h = side_bare s _ _ _ (off (byte s 3) 3 (omega arith))
  lacking west is_two_layer e h = side_bare s _ _ _ (off (byte s 3) 2 (omega arith))
  lacking east is_two_layer e h = side_bare s _ _ _ (off (byte s 3) 3 (omega arith))
  lacking north is_two_layer e h = absurd (true≢false e)
  lacking south is_two_layer e h = absurd (true≢false e)
  lacking north is_row e h = absurd (true≢false e)
  lacking north is_channel e h = absurd (true≢false e)
  lacking south is_channel e h = absurd (true≢false e)
  lacking north is_box e h = absurd (true≢false e)
  lacking south is_box e h = absurd (true≢false e)
  lacking west is_box e h = absurd (true≢false e)
  lacking east is_box e h = absurd (true≢false e)

  pub bare : (side : Side) → has_side (byte s 0) side ≡ false → (a : ℕ) → pins_in (found s) side a ≡ 0
  bare side e = lacking side known_kind e map

  past_map : (side : Side) (a : ℕ) → places (upright (byte s 1) (byte s 2) 1) side < a → pins_in (found s) side a ≡ 0
  past_map north = ends.0.past
  past_map south = ends.1.past
  past_map west = ends.2.past
  past_map east = ends.3.past

  past : (side : Side) (a : ℕ) → places grid side < a → pins_in (found s) side a ≡ 0
  past side a h =
      ⊎_elim (λ e. bare side e a) (λ e. past_map side a (subst (λ (x : ℕ). x < a) e h)) (own_places (byte s 1) (byte s 2) side known_kind)

  pub sited : Sited s (found s)
  sited = record { numbered = small; ends = past; fits = fits s header (found s) }
