-- What `record_at` answers is cut as its definition says, where the record is whole and where it is not.
use Prim.Native.Nat.{ℕ, ◌+◌, ◌≤◌, ◌<◌}
use mathlib.Core.List.{List}
use mathlib.Core.Path.{◌≡◌}
use native.Mathlib.Omega.{arith}
use lib.ListN.{length}
use borrow.Author.Tests.{le-leb, lt-leb}
use Rattle.records.specs.Records.{ticket_end, record_at, Cut}

pub cut_none : (s : List ℕ) (b more : ℕ) → b ≤ length s → length s < ticket_end s b + more → Cut s b more (record { from = b; end = b })
unfolding record_at
cut_none s b more inside short =
    record {
      here = simp (lt-leb (ticket_end s b + more) (length s) short);
      begins = omega arith;
      ends = omega arith;
      inside = inside;
      room = omega arith;
    }

pub cut_whole : (s : List ℕ) (b more e : ℕ) → e ≡ ticket_end s b → e + more ≤ length s → Cut s b more (record { from = b + 2; end = e })
unfolding record_at
cut_whole s b more e same whole =
    record {
      here = rw same (simp (le-leb (ticket_end s b + more) (length s) (omega arith)));
      begins = omega arith;
      ends = omega arith;
      inside = omega arith;
      room = omega arith;
    }
