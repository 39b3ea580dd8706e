-- The sides of a reading that is not refused: from which byte to which each one lies.
use Prim.Native.Nat.{ℕ, ◌+◌, ◌≤◌}
use mathlib.Core.Bool.{Bool, true, false, and-false}
use mathlib.Core.List.{List}
use mathlib.Core.Logic.{by_cases}
use mathlib.Core.Path.{◌≡◌, sym, ap, ◌∙◌, subst}
use native.Mathlib.Decide.{ℕ_discrete}
use native.Mathlib.Omega.{arith}
use lib.Dec.{leb}
use lib.ListN.{length}
use borrow.Author.Tests.{eq-eqb, ne_eqb, leb-true}
use Rattle.ticket.proofs.Laws.{unless_good, nets_extent}
use Rattle.ticket_sides.specs.Format.{stands, standing_bits, map_bytes, good_map}
use Rattle.ticket_sides.specs.Stages.{go_on, nets_of, side_of, after, north_end, south_end, west_end, east_end, ends_of}
use Rattle.ticket.specs.Steps.{Extent, Extents}
use Rattle.ticket_sides.specs.Steps.{Header}
use Rattle.ticket_sides.specs.declared.Cursor.{Cursor}
use Rattle.ticket_sides.specs.declared.Ends.{Ends}

-- ---- where a side ends

-- a side that stands was read after c
pub record SideRead (s : List ℕ) (p : ℕ) (c : Cursor) : Type 0 where
  pub before : c.refusal.number ≡ 0
  pub map : c.at + map_bytes p ≤ length s
  pub good : good_map s c.at p ≡ true
  pub nets : (nets_of 1 s (c.at + map_bytes p) (standing_bits s c.at p)).refusal.number ≡ 0
  pub end : after s true p c ≡ nets_of 1 s (c.at + map_bytes p) (standing_bits s c.at p)

pub side_read : (s : List ℕ) (p : ℕ) (c : Cursor) → (after s true p c).refusal.number ≡ 0 → SideRead s p c
unfolding after side_of
side_read s p c e =
    by_cases (ℕ_discrete c.refusal.number 0)
    (λ z.
    let here : after s true p c ≡ side_of s c.at p = rw (eq-eqb c.refusal.number 0 z) in
    let a = unless_good (leb (c.at + map_bytes p) (length s)) 1 (length s) _ (λ q. omega arith)
    (ap (λ (x : Cursor). x.refusal.number) (sym here) ∙ e) in
    let b = unless_good (good_map s c.at p) 6 c.at _ (λ q. omega arith) a.1 in
    record { before = z; map = leb-true _ _ a.0; good = b.0; nets = b.1; end = here ∙ a.2 ∙ b.2 })
    (λ n. absurd (n (rw (ne_eqb c.refusal.number 0 n) at e)))

side_lacking : (s : List ℕ) (p : ℕ) (c : Cursor) → after s false p c ≡ c
unfolding after
side_lacking s p c = rw and-false

pub side_before : (s : List ℕ) (on : Bool) (p : ℕ) (c : Cursor) → (after s on p c).refusal.number ≡ 0 → c.refusal.number ≡ 0
side_before s true p c e = (side_read s p c e).before
side_before s false p c e = ap (λ (x : Cursor). x.refusal.number) (sym (side_lacking s p c)) ∙ e

side_extent : (s : List ℕ) (on : Bool) (p : ℕ) (c : Cursor) → c.at ≤ length s → (after s on p c).refusal.number ≡ 0 → Extent s on c.at p
    (after s on p c).at
side_extent s true p c l e =
    let r = side_read s p c e in
    let n = nets_extent 1 s (standing_bits s c.at p) (c.at + map_bytes p) r.map r.nets in
    let end = ap (λ (x : Cursor). x.at) r.end ∙ n.0 in
    record { stands = λ t. end; lacks = λ t. let z : ◌≡◌ {A = ℕ} 0 1 = cc in absurd (omega arith); start = omega arith; size = omega arith }
side_extent s false p c l e =
    let end = ap (λ (x : Cursor). x.at) (side_lacking s p c) in
    record { stands = λ t. let z : ◌≡◌ {A = ℕ} 0 1 = cc in absurd (omega arith); lacks = λ t. end; start = omega arith; size = omega arith }

all_extents : (s : List ℕ) → Header s → (east_end s).refusal.number ≡ 0 → Extents s (ends_of s)
unfolding north_end south_end west_end east_end
all_extents s h e =
    let w = side_before s _ _ (west_end s) e in
    let so = side_before s _ _ (south_end s) w in
    let n = side_before s _ _ (north_end s) so in
    let north = side_extent s _ _ (go_on 4) h.size n in
    let south = side_extent s _ _ (north_end s) north.size so in
    let west = side_extent s _ _ (south_end s) south.size w in
    record { north = north; south = south; west = west; east = side_extent s _ _ (west_end s) west.size e }

pub sides_extents : (s : List ℕ) {ends : Ends} → Header s → ends ≡ ends_of s → ends.east.refusal.number ≡ 0 → Extents s ends
sides_extents s h q e = subst (Extents s) (sym q) (all_extents s h (ap (λ (x : Ends). x.east.refusal.number) (sym q) ∙ e))

module _ {s : List ℕ} {on : Bool} {from p end : ℕ} where
  pub extent_as : {on' : Bool} → on' ≡ on → Extent s on from p end → Extent s on' from p end
  extent_as e w = subst (λ (b : Bool). Extent s b from p end) (sym e) w
