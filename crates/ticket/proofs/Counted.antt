-- The table of the pins that were read: its counts are those of the pins, so the lone net and the number of nets are the definition's,
-- and so is the last test of the reading.
use Prim.Native.Nat.{ℕ, suc, ◌≤◌}
use mathlib.Core.Path.{◌≡◌, sym, ap, ◌∙◌, subst}
use mathlib.Core.List.{List}
use lib.Dec.{eqb, leb}
use Rattle.counting.specs.Counting.{In, count, least}
use Rattle.counting.proofs.Counts.{count_same}
use Rattle.counting.proofs.Leasts.{least_same}
use Rattle.terms.specs.Limits.{largest_net, longest_side}
use Rattle.terms.specs.Kinds.{north, south, west, east, by_kind}
use Rattle.grid.specs.Legal.{entry}
use Rattle.problem.specs.declared.Pins.{Pins}
use Rattle.problem.specs.Problem.{pins_in, pin_count, net_count, lone_net}
use Rattle.nets.specs.declared.Spans.{Spans}
use Rattle.nets.specs.Tables.{Numbered, Tabled, SpansOf, pin_sum}
use Rattle.nets.proofs.Totals.{counts_are}
use Rattle.ticket_sides.specs.Format.{byte}
use Rattle.ticket_sides.specs.declared.Cursor.{Cursor}
use Rattle.ticket.specs.declared.Reading.{Reading}
use Rattle.ticket.specs.Read.{no_lone, refused_reading, accepted_reading, problem_at, judged}
use Rattle.ticket.specs.Steps.{Sited}
use Rattle.ticket.proofs.Laws.{turned_down, going_on}

-- the number of nets plays no part
pub spans_any : (s : List ℕ) (k k' : ℕ) (ps : Pins) {t : Spans} → SpansOf (problem_at s k ps) t → SpansOf (problem_at s k' ps) t
spans_any s k k' ps is = record { columns = is.columns; tracks = is.tracks }

pub spans_read : (s : List ℕ) {ps : Pins} {w : ℕ} {t : Spans} → w ≡ by_kind (byte s 0) 1 1 1 (byte s 2) 1
    → Tabled (entry ps.north) (entry ps.south) (byte s 1) t.columns → Tabled (entry ps.west) (entry ps.east) w t.tracks
    → SpansOf (problem_at s 0 ps) t
spans_read s {ps} {t = t} z columns tracks =
    record { columns = columns; tracks = subst (λ (k : ℕ). Tabled (entry ps.west) (entry ps.east) k t.tracks) z tracks }

module _ (s : List ℕ) (ps : Pins) (sited : Sited s ps) where
  -- what `spans_of` asks
  pub spans_ask : {w : ℕ} → w ≡ by_kind (byte s 0) 1 1 1 (byte s 2) 1
      → ((byte s 1 ≤ longest_side) × (w ≤ longest_side))
      × (Numbered ps.north × Numbered ps.south × Numbered ps.west × Numbered ps.east)
  spans_ask z = (
    (sited.fits north, subst (λ (w : ℕ). w ≤ longest_side) (sym z) (sited.fits west)),
    (
      record { small = λ i. sited.numbered north (suc i) },
      record { small = λ i. sited.numbered south (suc i) },
      record { small = λ i. sited.numbered west (suc i) },
      record { small = λ i. sited.numbered east (suc i) },
    ),
  )

  module _ (t : Spans) (is : SpansOf (problem_at s 0 ps) t) where
    abbrev sums : ℕ → ℕ
    sums = pin_sum t.columns.one t.columns.two t.tracks.one t.tracks.two

    counts : (m : ℕ) → In m largest_net → sums m ≡ pin_count (pins_in ps) m
    counts = counts_are (problem_at s 0 ps) t (sited.fits north) (sited.fits west) sited.ends is

    lone_counted : least (λ m. eqb (sums m) 1) largest_net ≡ lone_net (pins_in ps)
    lone_counted = least_same _ _ largest_net (λ m i. ap (λ (k : ℕ). eqb k 1) (counts m i))

    nets_counted : count (λ m. leb 1 (sums m)) largest_net ≡ net_count (pins_in ps)
    nets_counted = count_same _ _ largest_net (λ m i. ap (leb 1) (counts m i))

    -- the last test by these counts, refused and passed
    module _ {last : Cursor} (e : last ≡ no_lone (least (λ m. eqb (sums m) 1) largest_net)) where
      pub judged_refused : {r : Reading} → (last.refusal.number ≡ 0 → ⊥) → r ≡ refused_reading last → r ≡ judged s ps
      judged_refused n h = turned_down _ (e ∙ ap no_lone lone_counted) n h

      pub judged_accepted : {r : Reading} {k : ℕ} → last.refusal.number ≡ 0 → k ≡ count (λ m. leb 1 (sums m)) largest_net
          → r ≡ accepted_reading (problem_at s k ps) → r ≡ judged s ps
      judged_accepted z many h =
          h ∙ ap (λ (k : ℕ). accepted_reading (problem_at s k ps)) (many ∙ nets_counted) ∙ sym (going_on _ (e ∙ ap no_lone lone_counted) z)
