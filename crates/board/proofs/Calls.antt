-- What a call on a board answers, test by test, as its contract states it.
use Prim.Native.Nat.{ℕ, ◌+◌, ◌-◌, ◌≤◌, ◌<◌}
use mathlib.Core.Path.{◌≡◌, sym, ap, ◌∙◌, subst}
use mathlib.Core.Bool.{Bool, true, false, true≢false}
use mathlib.Core.List.{List, []}
use native.Mathlib.Omega.{arith}
use lib.ListN.{length, get_or}
use borrow.Author.Tests.{eq-eqb, ne_eqb, le-leb, lt-leb}
use Rattle.counting.specs.Counting.{In}
use Rattle.terms.specs.Limits.{longest_side, largest_net, within}
use Rattle.terms.specs.Kinds.{Side}
use Rattle.terms.specs.Refusals.{refusal, accepted}
use Rattle.terms.specs.declared.Refusal.{Refusal}
use Rattle.problem.specs.declared.Pins.{Pins}
use Rattle.problem.specs.declared.Problem.{Problem}
use Rattle.problem.specs.Problem.{pins_in}
use Rattle.ticket_bytes.specs.Bytes.{Sized}
use Rattle.board_law.specs.Edits.{is_there, is_free, first_wrong, add_refusal, first_absent, first_repeat, drop_refusal, with_net, without_nets}
use Rattle.board_law.specs.Edits.{Sound, NetAdded, NetsDropped}
use Rattle.board_law.specs.Counts.{Counted}
use Rattle.board_law.specs.Runs.{NetNumbers, without, TakenAway}
use Rattle.board_law.proofs.Accepted.{first_absent_lem, first_repeat_lem, no_repeat, all_there}
use Rattle.board_law.proofs.Changes.{becomes, add_sound, add_apart}
use Rattle.board_law.proofs.Without.{without_is}
use Rattle.board_law.proofs.Gains.{with_pins}
use Rattle.board_law.proofs.Recount.{counts_with}
use Rattle.board_law.proofs.Ends.{ends_turned}
use Rattle.board_sides.specs.declared.places.EndPlaces.{EndPlaces}
use Rattle.board_counts.proofs.Recounts.{Recounts}
use Rattle.board.specs.declared.Board.{Board}

-- ---- adding

module _ (there : Bool) (free : ℕ → Bool) (m : ℕ) (l : List ℕ) where
  pub seven : within m largest_net ≡ false → refusal 7 0 ≡ add_refusal there free m l
  unfolding add_refusal
  seven a = rw a

  module _ (a : within m largest_net ≡ true) where
    pub twenty : there ≡ true → refusal 20 m ≡ add_refusal there free m l
    unfolding add_refusal
    twenty b = rw (a, b)

    module _ (b : there ≡ false) where
      pub too_few : length l < 2 → refusal 21 (length l) ≡ add_refusal there free m l
      unfolding add_refusal
      too_few c = rw (a, b, lt-leb 2 (length l) c)

      module _ (c : 2 ≤ length l) where
        pub wrong_place : (at : ℕ) → at ≡ first_wrong free [] l → at < length l → refusal 21 at ≡ add_refusal there free m l
        unfolding add_refusal
        wrong_place at d e =
            rw (a, b, le-leb 2 (length l) c, ne_eqb (first_wrong free [] l) (length l) (λ f. omega (arith, d, e, f))) (ap (refusal 21) d)

        pub no_wrong : first_wrong free [] l ≡ length l → refusal 0 0 ≡ add_refusal there free m l
        unfolding add_refusal
        no_wrong e = rw (a, b, le-leb 2 (length l) c, eq-eqb (first_wrong free [] l) (length l) e)

abbrev add_refusal_on : Problem → ℕ → List ℕ → Refusal
add_refusal_on q m l = add_refusal (is_there (pins_in q.pins) m) (is_free q (pins_in q.pins)) m l

-- a refused call: x is the board's problem as the call read it
pub not_added : (q x q' : Problem) (m : ℕ) (l : List ℕ) (r s : Refusal) → x ≡ q → q' ≡ q → r ≡ s → s ≡ add_refusal_on x m l
    → accepted s ≡ false → Sound q → NetAdded q m l r q'
not_added q x q' m l r s e same answer refused bad sound =
    record {
      refusal = answer ∙ refused ∙ ap (λ (y : Problem). add_refusal_on y m l) e;
      refused = λ z. same;
      added = λ ok. absurd (true≢false (sym ok ∙ ap accepted answer ∙ bad));
      sound = subst Sound (sym same) sound;
    }

module _ (q x q' : Problem) (ps : Pins) (m : ℕ) (l : List ℕ) (r : Refusal) (e : x ≡ q) (answer : r ≡ refusal 0 0)
    (right : refusal 0 0 ≡ add_refusal_on x m l)
    (stands : (s : Side) (a : ℕ) → In a longest_side → pins_in ps s a ≡ with_net (pins_in x.pins) m l s a)
    (is : q' ≡ record { kind = x.kind; n = x.n; byte2 = x.byte2; nets = x.nets + 1; pins = ps }) (sized : Sized q')
    (sound : Sound q) where
  sound_x : Sound x
  sound_x = subst Sound (sym e) sound

  pins : (s : Side) (a : ℕ) → In a longest_side → pins_in q'.pins s a ≡ with_net (pins_in x.pins) m l s a
  pins s a i = ap (λ (y : Problem). pins_in y.pins s a) is ∙ stands s a i

  ok : accepted (add_refusal_on x m l) ≡ true
  ok = ap accepted (sym right)

  kind : q'.kind ≡ x.kind
  kind = ap (λ (y : Problem). y.kind) is

  n : q'.n ≡ x.n
  n = ap (λ (y : Problem). y.n) is

  byte2 : q'.byte2 ≡ x.byte2
  byte2 = ap (λ (y : Problem). y.byte2) is

  sound' : Sound q'
  sound' = add_sound m l sound_x ok sized pins kind n byte2 (ap (λ (y : Problem). y.nets) is)

  pub is_added : NetAdded q m l r q'
  is_added = subst (λ (y : Problem). NetAdded y m l r q') e (record {
    refusal = answer ∙ right;
    refused = λ bad. absurd (true≢false (sym (ap accepted answer) ∙ bad));
    added = λ z. becomes sound_x kind n byte2 pins;
    sound = sound';
  })

  pub added_counts : {a b : EndPlaces} {columns tracks columns' tracks' : List ℕ}
      → Recounts (with_pins x (x.nets + 1) ps) m 1 a b columns tracks columns' tracks'
      → Counted q columns tracks → Counted q' columns' tracks'
  added_counts {a} {b} {columns} {tracks} {columns'} {tracks'} given counted =
      let k = subst (λ (y : Problem). Recounts y m 1 a b columns tracks columns' tracks') (sym is) given in
      counts_with (add_apart m l sound_x ok sized pins kind n byte2 sound'.good) (ends_turned k.along) k.ends k.on_columns
      k.on_tracks (subst (λ (y : Problem). Counted y columns tracks) (sym e) counted)

-- ---- dropping

module _ (there : ℕ → Bool) (l : List ℕ) where
  pub is_absent : {at : ℕ} → at ≡ first_absent there l → at < length l → refusal 22 (get_or l at 0) ≡ drop_refusal there l
  is_absent is less = ap (λ (k : ℕ). refusal 22 (get_or l k 0)) is ∙ sym (first_absent_lem there l (λ e. omega (arith, is, less, e)))

  module _ (all : first_absent there l ≡ length l) where
    pub is_repeat : {at : ℕ} → at ≡ first_repeat l → at < length l → refusal 23 at ≡ drop_refusal there l
    is_repeat is less = ap (refusal 23) is ∙ sym (first_repeat_lem there l all (λ e. omega (arith, is, less, e)))

    pub none_twice : first_repeat l ≡ length l → refusal 0 0 ≡ drop_refusal there l
    none_twice new = sym (no_repeat there l all new)

    pub net_numbers : NetNumbers l
    net_numbers = record { each = λ x e. (all_there there l all x e).0 }

abbrev drop_refusal_on : Problem → List ℕ → Refusal
drop_refusal_on q l = drop_refusal (is_there (pins_in q.pins)) l

pub not_dropped : (q x q' : Problem) (l : List ℕ) (r s : Refusal) → x ≡ q → q' ≡ q → r ≡ s → s ≡ drop_refusal_on x l → accepted s ≡ false
    → Sound q → NetsDropped q l r q'
not_dropped q x q' l r s e same answer refused bad sound =
    record {
      refusal = answer ∙ refused ∙ ap (λ (y : Problem). drop_refusal_on y l) e;
      refused = λ z. same;
      dropped = λ ok. absurd (true≢false (sym ok ∙ ap accepted answer ∙ bad));
      sound = subst Sound (sym same) sound;
    }

module _ (q x q' : Problem) (ps : Pins) (l : List ℕ) (left : ℕ) (r : Refusal) (e : x ≡ q) (answer : r ≡ refusal 0 0)
    (right : refusal 0 0 ≡ drop_refusal_on x l)
    (others : (s : Side) (a : ℕ) → In a longest_side → pins_in ps s a ≡ without_nets (pins_in x.pins) l s a)
    (fewer : left ≡ x.nets - length l)
    (is : q' ≡ record { kind = x.kind; n = x.n; byte2 = x.byte2; nets = left; pins = ps }) (sized : Sized q')
    {columns tracks columns' tracks' : List ℕ} (taken : Sound x → TakenAway x l columns tracks columns' tracks') (sound : Sound q) where
  sound_with : Sound x
  sound_with = subst Sound (sym e) sound

  pins_left : (s : Side) (a : ℕ) → In a longest_side → pins_in q'.pins s a ≡ without_nets (pins_in x.pins) l s a
  pins_left s a i = ap (λ (y : Problem). pins_in y.pins s a) is ∙ others s a i

  same_kind : q'.kind ≡ x.kind
  same_kind = ap (λ (y : Problem). y.kind) is

  same_n : q'.n ≡ x.n
  same_n = ap (λ (y : Problem). y.n) is

  same_byte2 : q'.byte2 ≡ x.byte2
  same_byte2 = ap (λ (y : Problem). y.byte2) is

  is_without : q' ≡ without x l
  is_without = without_is l sound_with.sized sized same_kind same_n same_byte2 (ap (λ (y : Problem). y.nets) is ∙ fewer) pins_left

  pub are_dropped : NetsDropped q l r q'
  are_dropped = subst (λ (y : Problem). NetsDropped y l r q') e (record {
    refusal = answer ∙ right;
    refused = λ bad. absurd (true≢false (sym (ap accepted answer) ∙ bad));
    dropped = λ z. becomes sound_with same_kind same_n same_byte2 pins_left;
    sound = subst Sound (sym is_without) (taken sound_with).sound;
  })

  pub dropped_counts : Counted q columns tracks → Counted q' columns' tracks'
  dropped_counts counted =
      subst (λ (y : Problem). Counted y columns' tracks') (sym is_without)
      ((taken sound_with).counted (subst (λ (y : Problem). Counted y columns tracks) (sym e) counted))

-- ---- the counts of a board that is handed back as it was

pub same_counts : {b b' : Board} → b' ≡ b → Counted b.problem b.columns b.tracks → Counted b'.problem b'.columns b'.tracks
same_counts e = subst (λ (b : Board). Counted b.problem b.columns b.tracks) (sym e)
