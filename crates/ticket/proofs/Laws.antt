-- What the stages of a reading say where nothing is refused, header and net bytes; and a stage of the whole reading, refused or passed.
use Prim.Native.Nat.{ℕ, zero, suc, ◌+◌, ◌≤◌, ◌<◌}
use mathlib.Core.Bool.{Bool, true, false}
use mathlib.Core.List.{List}
use mathlib.Core.Path.{◌≡◌, refl, sym, ap, ◌∙◌, subst}
use native.Mathlib.Nat.{add-zero}
use native.Mathlib.Omega.{arith}
use lib.Dec.{leb, ltb}
use lib.ListN.{length}
use borrow.Author.Tests.{eq-eqb, ne_eqb, leb-true}
use Rattle.counting.specs.Counting.{In}
use Rattle.terms.specs.Kinds.{is_kind, largest_byte2, largest_side_map}
use Rattle.terms.specs.Limits.{largest_net, longest_side, within}
use Rattle.terms.specs.Refusals.{unless}
use Rattle.terms.proofs.Laws.{within_in, Known, is_row, is_channel, is_box, is_two_layer, known}
use Rattle.ticket_sides.specs.Format.{byte}
use Rattle.ticket_sides.specs.Stages.{stop, fields_of, header_of, is_net, nets_of}
use Rattle.ticket_sides.specs.Steps.{Header}
use Rattle.ticket_sides.proofs.Laws.{net_in}
use Rattle.ticket_sides.specs.declared.Cursor.{Cursor}
use Rattle.ticket.specs.declared.Reading.{Reading}
use Rattle.ticket.specs.Read.{or_refused, refused_reading}

-- nothing is refused: the test held, and nothing is refused after it
pub unless_good : (t : Bool) (k p : ℕ) (c : Cursor) → (k ≡ 0 → ⊥) → (unless t (stop k p) c).refusal.number ≡ 0
    → (t ≡ true) × (c.refusal.number ≡ 0) × (unless t (stop k p) c ≡ c)
unless_good true k p c n e = (refl, e, refl)
unless_good false k p c n e = absurd (n e)

-- ---- the header

-- what good bytes 0 to 2 say
pub record Fields (kind n byte2 : ℕ) : Type 0 where
  pub named : is_kind kind ≡ true
  pub length : In n longest_side
  pub second : In byte2 (largest_byte2 kind)

fields_good : (kind n byte2 : ℕ) (rest : Cursor) → (fields_of kind n byte2 rest).refusal.number ≡ 0
    → Fields kind n byte2 × (rest.refusal.number ≡ 0)
unfolding fields_of
fields_good kind n byte2 rest e =
    let a = unless_good (is_kind kind) 2 0 _ (λ q. omega arith) e in
    let b = unless_good (within n longest_side) 3 1 _ (λ q. omega arith) a.1 in
    let c = unless_good (within byte2 (largest_byte2 kind)) 4 2 _ (λ q. omega arith) b.1 in
    (record { named = a.0; length = within_in _ _ b.0; second = within_in _ _ c.0 }, c.1)

-- byte 2 of every kind fits a side
pub second_le : {kind : ℕ} → Known kind → largest_byte2 kind ≤ longest_side
second_le is_row = omega arith
second_le is_channel = omega arith
second_le is_box = omega arith
second_le is_two_layer = omega arith

pub start_good : (s : List ℕ) (rest : Cursor)
    → (unless (leb 4 (length s)) (stop 1 (length s)) (fields_of (byte s 0) (byte s 1) (byte s 2) rest)).refusal.number ≡ 0
    → Header s × Fields (byte s 0) (byte s 1) (byte s 2) × (rest.refusal.number ≡ 0)
start_good s rest e =
    let a = unless_good (leb 4 (length s)) 1 (length s) _ (λ q. omega arith) e in
    let (f, z) = fields_good (byte s 0) (byte s 1) (byte s 2) rest a.1 in
    let two : In (byte s 2) longest_side = (f.second.0, omega (arith, f.second.1, second_le (known (byte s 0) f.named))) in
    (record { size = leb-true 4 (length s) a.0; one = f.length; two = two }, f, z)

pub header_good : (s : List ℕ) → (header_of s).refusal.number ≡ 0 → Header s
unfolding header_of
header_good s e = (start_good s _ e).0

pub header_fields : (s : List ℕ) → (header_of s).refusal.number ≡ 0 → Fields (byte s 0) (byte s 1) (byte s 2)
unfolding header_of
header_fields s e = (start_good s _ e).1

pub header_map : (s : List ℕ) → (header_of s).refusal.number ≡ 0 → byte s 3 ≤ largest_side_map (byte s 0)
unfolding header_of
header_map s e = leb-true _ _ (unless_good (leb (byte s 3) (largest_side_map (byte s 0))) 5 3 _ (λ q. omega arith) (start_good s _ e).2).0

-- ---- net bytes

module _ (least : ℕ) (s : List ℕ) where
  -- byte i is there and is a net number
  pub record NetByte (i : ℕ) : Type 0 where
    pub there : i < length s
    pub enough : least ≤ byte s i
    pub small : byte s i ≤ largest_net

  nets_good : (k i : ℕ) → (nets_of least s i (suc k)).refusal.number ≡ 0
      → NetByte i × ((nets_of least s (i + 1) k).refusal.number ≡ 0) × (nets_of least s i (suc k) ≡ nets_of least s (i + 1) k)
  unfolding nets_of
  nets_good k i e =
      let a = unless_good (ltb i (length s)) 1 (length s) _ (λ q. omega arith) e in
      let b = unless_good (is_net least (byte s i)) 7 i _ (λ q. omega arith) a.1 in
      let (enough, small) = net_in least (byte s i) b.0 in
      (record { there = leb-true _ _ a.0; enough = enough; small = small }, b.1, a.2 ∙ b.2)

  pub nets_each : (k i j : ℕ) → (nets_of least s i k).refusal.number ≡ 0 → j < k → NetByte (i + j)
  nets_each zero i j e h = absurd (omega arith)
  nets_each (suc k) i zero e h = subst NetByte (sym (add-zero i)) (nets_good k i e).0
  nets_each (suc k) i (suc j) e h = let q : i + 1 + j ≡ i + suc j = omega arith in
      subst NetByte q (nets_each k (i + 1) j (nets_good k i e).1 (omega arith))

  -- good net bytes are all there
  pub nets_extent : (k i : ℕ) → i ≤ length s → (nets_of least s i k).refusal.number ≡ 0
      → ((nets_of least s i k).at ≡ i + k) × (i + k ≤ length s)
  unfolding nets_of
  nets_extent zero i l e = (omega arith, omega arith)
  nets_extent (suc k) i l e =
      let g = nets_good k i e in
      let r = nets_extent k (i + 1) (omega (arith, g.0.there)) g.1 in
      (omega (arith, ap (λ (c : Cursor). c.at) g.2), omega arith)

-- ---- the stages of the whole reading

pub turned_down : {a c : Cursor} (t : Reading) {r : Reading} → a ≡ c → (a.refusal.number ≡ 0 → ⊥) → r ≡ refused_reading a
    → r ≡ or_refused c t
turned_down {a} {c} t e n h = h ∙ sym (rw (← e) (rw (ne_eqb a.refusal.number 0 n)))

pub going_on : {a c : Cursor} (t : Reading) → a ≡ c → a.refusal.number ≡ 0 → or_refused c t ≡ t
going_on {a} {c} t e z = rw (← e) (rw (eq-eqb a.refusal.number 0 z))
