-- The counts as the nets of a list are taken away one after the other: a net that is there, and none of those before it, takes its run
-- away from the counts of the problem without those before it.
use Prim.Native.Nat.{ℕ, ◌+◌, ◌<◌}
use mathlib.Core.Path.{◌≡◌, sym, ap, ◌∙◌, subst}
use mathlib.Core.Bool.{Bool, true, ◌||◌, or_comm}
use mathlib.Core.List.{List, [], ◌∷◌, ◌++◌}
use native.Mathlib.Numerals.{add-one}
use lib.ListN.{length, get_or, take}
use lib.Seq.{take-suc, take-length}
use Rattle.counting.specs.Counting.{In}
use Rattle.terms.specs.Limits.{largest_net}
use Rattle.grid.specs.Legal.{entry}
use Rattle.problem.specs.declared.Pins.{Pins}
use Rattle.problem.specs.declared.Problem.{Problem}
use Rattle.problem.specs.Problem.{pins_in}
use Rattle.board_law.specs.Edits.{is_there, first_repeat, Sound}
use Rattle.board_law.specs.Counts.{Counted}
use Rattle.board_law.specs.Runs.{Ends, TakenAway}
use Rattle.board_law.proofs.Accepted.{new_at}
use Rattle.board_law.proofs.Without.{without_none, next_sound, next_counts}
use Rattle.board_pins.proofs.Frees.{found}
use Rattle.board_sides.specs.Places.{first_in, last_in}
use Rattle.board_sides.specs.declared.places.EndPlaces.{EndPlaces}
use Rattle.board_counts.proofs.Recounts.{Recounts}

-- a net that is on one of the four sides is there
pub on_a_side : (ps : Pins) (m : ℕ) (a e : EndPlaces) {some : Bool}
    → Ends (entry ps.south) (entry ps.north) m (first_in a.span) (last_in a.span) a.one a.two
    → Ends (entry ps.west) (entry ps.east) m (first_in e.span) (last_in e.span) e.one e.two
    → some ≡ (((a.one || a.two) || e.one) || e.two) → some ≡ is_there (pins_in ps) m
on_a_side ps m a e x y either_one =
    either_one
    ∙ ap (λ (t : Bool). (t || e.one) || e.two) (or_comm a.one a.two)
    ∙ (λ i. ((x.on_two i || x.on_one i) || y.on_one i) || y.on_two i)
    ∙ found (pins_in ps) m

pub none_taken : {q : Problem} {columns tracks : List ℕ} → Sound q → TakenAway q [] columns tracks columns tracks
none_taken {q} {columns} {tracks} sound =
    let same = sym (without_none sound.sized) in
    record { sound = subst Sound same sound; counted = subst (λ (y : Problem). Counted y columns tracks) same }

-- what is known of the counts once i nets of the list are taken away, if the list has no repeat
abbrev pub TakenTo : Problem → List ℕ → ℕ → List ℕ → List ℕ → List ℕ → List ℕ → Type 0
TakenTo q l i columns tracks columns' tracks' =
    first_repeat l ≡ length l → Sound q → TakenAway q (take i l) columns tracks columns' tracks'

module _ (q : Problem) (l : List ℕ) (i : ℕ) (h : i < length l) where
  abbrev m : ℕ
  m = get_or l i 0

  next : take i l ++ (m ∷ []) ≡ take (i + 1) l
  next = sym (ap (λ (k : ℕ). take k l) (add-one i) ∙ take-suc l i 0 h)

  pub one_taken : (a e : EndPlaces) {columns tracks now_columns now_tracks next_columns next_tracks : List ℕ}
      → In m largest_net → is_there (pins_in q.pins) m ≡ true → Recounts q m 255 a e now_columns now_tracks next_columns next_tracks
      → TakenTo q l i columns tracks now_columns now_tracks → TakenTo q l (i + 1) columns tracks next_columns next_tracks
  one_taken a e {columns} {tracks} {next_columns = next_columns} {next_tracks = next_tracks} net there counts so_far no_repeat sound =
      let before = so_far no_repeat sound in
      let new = new_at l no_repeat i h in
      subst (λ (t : List ℕ). TakenAway q t columns tracks next_columns next_tracks) next (record {
        sound = next_sound q (take i l) m before.sound net there new sound.sized;
        counted = λ old.
            next_counts q (take i l) m before.sound net there new sound.sized counts.along counts.ends counts.on_columns
            counts.on_tracks (before.counted old);
      })

pub all_taken : (q : Problem) (l : List ℕ) (i : ℕ) {columns tracks columns' tracks' : List ℕ} → i ≡ length l
    → TakenTo q l i columns tracks columns' tracks'
    → first_repeat l ≡ length l → Sound q → TakenAway q l columns tracks columns' tracks'
all_taken q l i {columns} {tracks} {columns'} {tracks'} end taken no_repeat sound =
    let whole : take i l ≡ l = ap (λ (k : ℕ). take k l) end ∙ take-length l in
    subst (λ (t : List ℕ). TakenAway q t columns tracks columns' tracks') whole (taken no_repeat sound)
