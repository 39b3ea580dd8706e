-- After any list of calls the board holds the pins of the nets that are there, and its stored figures are true: a start has no nets, and
-- each call keeps it so (Steps). What else is kept follows from the pins and from the problem's being sound; what is read off the stored
-- figures is Survey's (Stored).
use Prim.Native.Nat.{ℕ}
use mathlib.Core.Path.{refl, sym, ◌∙◌, subst}
use mathlib.Core.Bool.{true≢false}
use mathlib.Core.List.{List}
use native.Mathlib.Omega.{arith}
use borrow.Author.Tests.{ne_eqb, leb-true}
use Rattle.counting.proofs.Counts.{count_same}
use Rattle.terms.specs.Limits.{largest_net}
use Rattle.problem.specs.declared.Problem.{Problem}
use Rattle.problem.proofs.Pinned.{two_pins}
use Rattle.ticket_bytes.proofs.ReadBack.{read_back}
use Rattle.board_law.specs.Places.{place_number}
use Rattle.board_law.specs.Edits.{start_problem, Sound}
use Rattle.board_law.specs.Counts.{Counted}
use Rattle.board_law.specs.History.{Call, NetPlaces, no_nets, nets_after, BoardState, Fresh, LeadsTo, done, adds, drops}
use Rattle.board_law.specs.History.{Kept, KeptCounts}
use Rattle.board_law.proofs.Places.{listed_none}
use Rattle.board_law.proofs.Start.{start_bare, start_sound}
use Rattle.board_law.proofs.Stored.{survey_is, count_small, stored_across_lem, stored_up_lem, stored_floor_lem}
use Rattle.board_law.proofs.Agreement.{Holds, there_same, adds_agree, drops_agree}
use Rattle.board_law.proofs.Steps.{net_added, nets_dropped}

-- ---- the start

start_holds : (kind n byte2 : ℕ) → Sound (start_problem kind n byte2) → Holds (start_problem kind n byte2) (start_problem kind n byte2) no_nets
start_holds kind n byte2 sound =
    record {
      pins = λ s a m i j. ne_eqb _ m (λ e. omega (arith, start_bare kind n byte2 s a)) ∙ sym (listed_none (place_number s a));
      listed_places = λ m v i e. absurd (true≢false (sym e ∙ listed_none v));
      kind = refl;
      n = refl;
      byte2 = refl;
      sound = sound;
    }

-- ---- every list of calls

calls_hold : {q₀ : Problem} {b b' : BoardState} {ns : NetPlaces} {cs : List Call} → Holds q₀ b.problem ns → LeadsTo b cs b'
    → Holds q₀ b'.problem (nets_after q₀ ns cs)
unfolding nets_after
calls_hold h done = h
calls_hold h (adds c k more) = calls_hold (net_added h c) more
calls_hold h (drops c k more) = calls_hold (nets_dropped h c) more

pub calls_count : {b b' : BoardState} {cs : List Call} → Counted b.problem b.columns b.tracks → LeadsTo b cs b'
    → Counted b'.problem b'.columns b'.tracks
calls_count counted done = counted
calls_count counted (adds c k more) = calls_count (k counted) more
calls_count counted (drops c k more) = calls_count (k counted) more

-- ---- what is kept

-- every board may stand for the one that it began as
anew : {q₀ q : Problem} {ns : NetPlaces} → Holds q₀ q ns → Holds q q ns
anew h = record { pins = h.pins; listed_places = h.listed_places; kind = refl; n = refl; byte2 = refl; sound = h.sound }

kept : {q₀ q : Problem} {ns : NetPlaces} → Holds q₀ q ns → Kept q₀ q ns
kept {q} h =
    let good = h.sound.good in
    record {
      kind = h.kind;
      n = h.n;
      byte2 = h.byte2;
      pins = h.pins;
      places = h.listed_places;
      add_refusals = adds_agree (anew h);
      drop_refusals = drops_agree h;
      nets = good.nets ∙ count_same _ _ largest_net (there_same h);
      several = λ m i e. two_pins q good m i.0 (leb-true 1 _ (there_same h m i ∙ e));
      read = read_back q good h.sound.sized;
      surveyed = survey_is h.sound;
    }

kept_counts : {b : BoardState} → Sound b.problem → Counted b.problem b.columns b.tracks → KeptCounts b
kept_counts sound counted =
    record {
      counted = counted;
      small = count_small sound counted;
      across = stored_across_lem sound counted;
      up = stored_up_lem sound counted;
      floor = stored_floor_lem sound counted;
    }

pub history : (kind n byte2 : ℕ) (cs : List Call) (b₀ b : BoardState) → Fresh kind n byte2 b₀ → LeadsTo b₀ cs b
    → Kept (start_problem kind n byte2) b.problem (nets_after (start_problem kind n byte2) no_nets cs) × KeptCounts b
history kind n byte2 cs b₀ b start runs =
    let q₀ = start_problem kind n byte2 in
    let began = subst (λ (q : Problem). Holds q₀ q no_nets) (sym start.problem) (start_holds kind n byte2 (start_sound kind n byte2)) in
    let holds = calls_hold began runs in
    (kept holds, kept_counts holds.sound (calls_count start.counted runs))
