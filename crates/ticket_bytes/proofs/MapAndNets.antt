-- A side's bytes, its map and behind it its nets: the net of a filled place follows those of the filled places before it.
use Prim.Native.Nat.{ℕ, zero, suc, ◌+◌, ◌≤◌, ◌<◌}
use mathlib.Core.Path.{◌≡◌, refl, ◌∙◌}
use mathlib.Core.Logic.{by_cases, ⊎_elim}
use mathlib.Core.Bool.{Bool, true, false, cond}
use mathlib.Core.List.{List, [], ◌∷◌, ◌++◌}
use native.Mathlib.Decide.{ℕ_discrete}
use native.Mathlib.Omega.{arith}
use lib.ListN.{length, get_or, length-append, get_or-append}
use lib.Seq.{get_or_at}
use borrow.Author.Tests.{leb-true}
use Rattle.counting.specs.Counting.{In, bit, sum, count}
use Rattle.counting.proofs.Sums.{split, bit_one, bit_zero, sum_grows}
use Rattle.terms.specs.Limits.{largest_net}
use Rattle.ticket_sides.proofs.Flags.{le_or_lt}
use Rattle.ticket_sides.specs.Format.{map_bytes, values_from}
use Rattle.ticket.proofs.Filled.{length_values}
use Rattle.ticket_bytes.specs.Bytes.{is_filled, has_pins, map_byte, nets_to, side_bytes}

-- ---- the nets

one_net : (t : Bool) (m : ℕ) → length (cond t (m ∷ []) []) ≡ bit t
one_net true m = refl
one_net false m = refl

module _ (f : ℕ → ℕ) where
  pub length_nets : (p : ℕ) → length (nets_to f p) ≡ count (is_filled f) p
  unfolding nets_to sum
  length_nets zero = refl
  length_nets (suc p) =
      let t = is_filled f (suc p) in
      omega (arith, length-append (nets_to f p) (cond t (f (suc p) ∷ []) []), one_net t (f (suc p)), length_nets p)

  -- the filled places up to a + 1 are among those up to p
  pub count_below : (a p : ℕ) → a < p → is_filled f (suc a) ≡ true → count (is_filled f) a < count (is_filled f) p
  unfolding sum
  count_below a p h e = omega (arith, bit_one e, sum_grows (λ b. bit (is_filled f b)) (suc a) p h)

  pub net_at_lem : (p a : ℕ) → a < p → is_filled f (suc a) ≡ true → get_or (nets_to f p) (count (is_filled f) a) 0 ≡ f (suc a)
  unfolding nets_to
  net_at_lem zero a h e = absurd (omega arith)
  net_at_lem (suc p) a h e =
      by_cases (ℕ_discrete a p)
      (λ q. rw (← q, e) (get_or_at (nets_to f a) (f (suc a)) [] 0 (count (is_filled f) a) (length_nets a)))
      (λ ne.
      let less : a < p = omega arith in
      get_or-append (nets_to f p) _ 0 (count (is_filled f) a) (rw length_nets (count_below a p less e)) ∙ net_at_lem p a less e)

  pub net_in : ((a : ℕ) → f a ≤ largest_net) → (p j : ℕ) → j < length (nets_to f p) → In (get_or (nets_to f p) j 0) largest_net
  unfolding nets_to
  net_in small zero j h = absurd (omega arith)
  net_in small (suc p) j h =
      let t = is_filled f (suc p) in
      let more = length-append (nets_to f p) (cond t (f (suc p) ∷ []) []) in
      let one = one_net t (f (suc p)) in
      ⊎_elim
      (λ le. split t
      (λ e.
      let q : length (nets_to f p) ≡ j = omega (arith, bit_one e) in
      rw (e, get_or_at (nets_to f p) (f (suc p)) [] 0 j q) (leb-true 1 (f (suc p)) e, small (suc p)))
      (λ e. absurd (omega (arith, bit_zero e))))
      (λ lt. rw (get_or-append (nets_to f p) (cond t (f (suc p) ∷ []) []) 0 j lt) (net_in small p j lt))
      (le_or_lt (length (nets_to f p)) j)

-- ---- the map and the nets

module _ (f : ℕ → ℕ) (p : ℕ) where
  abbrev pub map_of : List ℕ
  map_of = values_from (map_byte f p) 0 (map_bytes p)

  pub side_standing : has_pins f p ≡ true → side_bytes f p ≡ map_of ++ nets_to f p
  unfolding side_bytes
  side_standing e = rw e

  pub side_missing : has_pins f p ≡ false → side_bytes f p ≡ []
  unfolding side_bytes
  side_missing e = rw e

  pub side_length : has_pins f p ≡ true → length (side_bytes f p) ≡ map_bytes p + count (is_filled f) p
  side_length e =
      rw (side_standing e)
      (omega (arith, length-append map_of (nets_to f p), length_values (map_byte f p) 0 (map_bytes p), length_nets f p))
