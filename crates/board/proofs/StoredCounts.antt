-- What a board's stored figures say, as its calls read them: the count at a place, and the floor.
use Prim.Native.Nat.{ℕ, suc, ◌≤◌, ◌<◌, min, max}
use mathlib.Core.Path.{◌≡◌, sym, ap, ◌∙◌, subst}
use mathlib.Core.Bool.{cond, true≢false}
use mathlib.Core.List.{List}
use native.Mathlib.Decide.{ℕ_discrete, dec_le}
use native.Mathlib.Omega.{arith}
use lib.ListN.{replicate}
use Rattle.counting.specs.Counting.{In, ceil}
use Rattle.counting.proofs.Sums.{split}
use Rattle.counting.proofs.Lists.{zeros_at}
use Rattle.terms.specs.Kinds.{box, by_kind}
use Rattle.terms.specs.Limits.{longest_side, largest_net, within}
use Rattle.terms.proofs.Laws.{within_in, within_of, of_box, boxes_only}
use Rattle.grid.specs.Legal.{entry}
use Rattle.density.specs.Density.{floor}
use Rattle.problem.specs.declared.Problem.{Problem}
use Rattle.problem.specs.Problem.{width_of}
use Rattle.problem.proofs.Sizes.{byte2_in}
use Rattle.ticket_bytes.specs.Bytes.{bytes_of}
use Rattle.survey.specs.Survey.{survey_of}
use Rattle.board_law.specs.Edits.{start_problem, Sound}
use Rattle.board_law.specs.Counts.{count_entries, column_count, track_count, Counted, stored_across, stored_up, stored_floor}
use Rattle.board_law.proofs.Stored.{stored_floor_lem, across_small, up_small, start_counted}

-- ---- the count at a place

-- the list has f at 1 to n, and 0 past n
at_place : (list : List ℕ) (f : ℕ → ℕ) (n c : ℕ) → n ≤ count_entries → ((a : ℕ) → In a n → entry list a ≡ f a)
    → ((a : ℕ) → n < a → a ≤ count_entries → entry list a ≡ 0) → cond (within c count_entries) (entry list c) 0 ≡ cond (within c n) (f c) 0
at_place list f n c fits is past =
    split (within c n)
    (λ on. let i = within_in c n on in rw (on, within_of c count_entries (omega (arith, i))) (is c i))
    (λ off. rw off (split (within c count_entries)
    (λ e. rw e (let i = within_in c count_entries e in elim (dec_le c n) [
      | yes h ↦ absurd (true≢false (sym (within_of c n (omega (arith, i))) ∙ off))
      | no h ↦ past c (omega arith) i.1
    ]))
    (λ e. rw e)))

module _ {q : Problem} {columns tracks : List ℕ} (sound : Sound q) (counted : Counted q columns tracks) where
  pub column_at : (c : ℕ) → cond (within c count_entries) (entry columns c) 0 ≡ cond (within c q.n.0) (column_count q c) 0
  column_at c = at_place columns (column_count q) q.n.0 c (omega (arith, sound.good.columns)) counted.column counted.past_columns

  pub track_at : (c : ℕ) → cond (within c count_entries) (entry tracks c) 0 ≡ cond (within c (width_of q)) (track_count q c) 0
  track_at c = at_place tracks (track_count q) (width_of q) c (omega (arith, width_fits)) counted.track counted.past_tracks
    where
      width_fits : width_of q ≤ longest_side
      width_fits = elim (ℕ_discrete q.kind box) [
        | yes e ↦ omega (arith, of_box q.kind 1 1 1 q.byte2 1 e, byte2_in sound.good)
        | no ne ↦ omega (arith, boxes_only q.kind 1 q.byte2 ne)
      ]

  -- ---- the floor, from figures cut to their limits

  pub floor_at : (n w : ℕ) → n ≡ max 1 (min q.n.0 longest_side) → w ≡ max 1 (min q.byte2 longest_side)
      → by_kind q.kind 0 0 0 (floor (ceil (min (stored_across columns) largest_net) w) (ceil (min (stored_up tracks) largest_net) n)) 0
      ≡ (survey_of (bytes_of q)).floor.0
  unfolding stored_floor
  floor_at n w long broad = elim (ℕ_discrete q.kind box) [
    | yes e ↦ of_box q.kind 0 0 0 _ 0 e ∙ same e ∙ sym (of_box q.kind 0 0 0 _ 0 e) ∙ stored_floor_lem sound counted
    | no ne ↦ boxes_only q.kind 0 _ ne ∙ sym (boxes_only q.kind 0 _ ne) ∙ stored_floor_lem sound counted
  ]
    where
      same : q.kind ≡ box → floor (ceil (min (stored_across columns) largest_net) w) (ceil (min (stored_up tracks) largest_net) n)
          ≡ floor (ceil (stored_across columns) (width_of q)) (ceil (stored_up tracks) q.n.0)
      same e =
          let across : min (stored_across columns) largest_net ≡ stored_across columns = omega (arith, across_small sound counted) in
          let up : min (stored_up tracks) largest_net ≡ stored_up tracks = omega (arith, up_small sound counted) in
          let columns_are : n ≡ q.n.0 = omega (arith, sound.good.columns) in
          let tracks_are : w ≡ width_of q = omega (arith, byte2_in sound.good, of_box q.kind 1 1 1 q.byte2 1 e) in
          λ i. floor (ceil (across i) (tracks_are i)) (ceil (up i) (columns_are i))

  -- the same, as the call works it out
  pub floor_of_lem : {n w a u x y f r : ℕ} → n ≡ max 1 (min q.n.0 longest_side) → w ≡ max 1 (min q.byte2 longest_side)
      → a ≡ min (stored_across columns) largest_net → u ≡ min (stored_up tracks) largest_net → x ≡ ceil a w → y ≡ ceil u n → f ≡ floor x y
      → r ≡ by_kind q.kind 0 0 0 f 0 → r ≡ (survey_of (bytes_of q)).floor.0
  floor_of_lem {n} {w} long broad across up x_is y_is f_is r_is =
      r_is
      ∙ ap (λ (f : ℕ). by_kind q.kind 0 0 0 f 0)
      (f_is ∙ (λ i. floor (x_is i) (y_is i)) ∙ (λ i. floor (ceil (across i) w) (ceil (up i) n)))
      ∙ floor_at n w long broad

-- ---- a start's

pub fresh_counted : (kind n byte2 : ℕ) {q : Problem} {columns tracks : List ℕ} → q ≡ start_problem kind n byte2
    → (columns ≡ replicate count_entries 0) × (tracks ≡ replicate count_entries 0) → Counted q columns tracks
fresh_counted kind n byte2 {q} {columns} {tracks} is (cs, ts) =
    subst (λ (y : Problem). Counted y columns tracks) (sym is) (start_counted kind n byte2 (clear cs) (clear ts))
  where
    clear : {l : List ℕ} → l ≡ replicate count_entries 0 → (c : ℕ) → entry l c ≡ 0
    clear e c = ap (λ (l : List ℕ). entry l c) e ∙ zeros_at (suc count_entries) c
