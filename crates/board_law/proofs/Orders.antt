-- The nets of an accepted list dropped singly, in whichever order, leave the board that the list leaves: each is there when its turn comes,
-- so none of the calls is refused, and what is left are the pins of the nets that are on neither list; a sound board's problem is told by
-- its pins, and true figures by the problem.
use Prim.Native.Nat.{ℕ, ◌+◌, ◌≤◌, ◌<◌}
use mathlib.Core.Path.{◌≡◌, refl, sym, ap, ◌∙◌, subst}
use mathlib.Core.Logic.{◌≢◌}
use mathlib.Core.Bool.{Bool, true, false, cond, ◌||◌, or-true, or-false}
use mathlib.Core.List.{List, [], ◌∷◌, ◌++◌}
use native.Mathlib.Decide.{dec_le}
use native.Mathlib.Omega.{arith}
use lib.Dec.{eqb, leb}
use lib.ListN.{length}
use borrow.Author.Tests.{eqb-true, eq-eqb, ne_eqb, leb-true, le-leb}
use Rattle.counting.specs.Counting.{In, bit}
use Rattle.counting.proofs.Sums.{split, bit_le}
use Rattle.terms.specs.Kinds.{Side}
use Rattle.terms.specs.Limits.{longest_side, largest_net}
use Rattle.terms.specs.Refusals.{accepted}
use Rattle.terms.specs.declared.Refusal.{Refusal}
use Rattle.grid.specs.Grid.{Grid, places}
use Rattle.grid.specs.Legal.{Pins, entry}
use Rattle.problem.specs.declared.Problem.{Problem}
use Rattle.problem.specs.Problem.{pins_in, pin_count, net_count, shape_of, width_of}
use Rattle.problem.proofs.Pinned.{pinned, a_pin}
use Rattle.board_law.specs.Places.{listed}
use Rattle.board_law.specs.Edits.{is_there, first_wrong, first_absent, drop_refusal, without_nets, Sound, Becomes, NetsDropped}
use Rattle.board_law.specs.Counts.{count_entries, Counted}
use Rattle.board_law.specs.History.{BoardState, CountsKept, LeadsTo, done, drops}
use Rattle.board_law.specs.Orders.{times_in, singly, SameBoard, AsSingly}
use Rattle.board_law.proofs.Places.{listed_none, listed_last}
use Rattle.board_law.proofs.Accepted.{accepted_drop, all_there, one_accepted, first_right}
use Rattle.board_law.proofs.Without.{leaves, empty_stays, same_pins, same_problem}
use Rattle.board_law.proofs.OneNet.{same_shape}
use Rattle.board_law.proofs.History.{calls_count}

-- ---- how often a number is in a list

listed_times : (l : List ℕ) (x : ℕ) → listed l x ≡ leb 1 (times_in l x)
unfolding listed times_in
listed_times [] x = refl
listed_times (y ∷ l) x =
    split (eqb y x)
    (λ e. rw e (sym (le-leb 1 (1 + times_in l x) (omega arith))))
    (λ e. let same : times_in l x ≡ 0 + times_in l x = omega arith in rw e (listed_times l x ∙ ap (leb 1) same))

-- a list without repeats, of which none is an earlier one, has each number once at most
once : (free : ℕ → Bool) (earlier l : List ℕ) → first_wrong free earlier l ≡ length l → (x : ℕ) → times_in l x + bit (listed earlier x) ≤ 1
unfolding times_in
once free earlier [] h x = omega (arith, bit_le (listed earlier x))
once free earlier (y ∷ l) h x =
    let (f, new, more) = first_right free earlier y l h in
    let rest = once free (earlier ++ (y ∷ [])) l more x in
    let last = ap bit (listed_last earlier y x) in
    split (eqb y x)
    (λ e.
    let none : listed earlier x ≡ false = ap (listed earlier) (sym (eqb-true y x e)) ∙ new in
    let one : bit (listed earlier x || eqb y x) ≡ 1 = ap bit (ap (λ (t : Bool). listed earlier x || t) e ∙ or-true (listed earlier x)) in
    rw (e, none) (omega (arith, rest, last, one)))
    (λ e.
    let same : bit (listed earlier x || eqb y x) ≡ bit (listed earlier x) =
    ap bit (ap (λ (t : Bool). listed earlier x || t) e ∙ or-false (listed earlier x)) in
    rw e (omega (arith, rest, last, same)))

-- ---- one net after the other

-- what is left after the first net and then after the rest
left_first : (m : ℕ) (l : List ℕ) (x : ℕ) → leaves l (leaves (m ∷ []) x) ≡ leaves (m ∷ l) x
unfolding listed
left_first m l x = split (eqb m x) (λ e. rw e (empty_stays l)) (λ e. rw e)

not_first : (m x : ℕ) → x ≢ m → listed (m ∷ []) x ≡ false
unfolding listed
not_first m x ne = rw (ne_eqb m x (λ e. ne (sym e)))

module _ {q q₁ : Problem} (sound : Sound q) (m : ℕ) (b : Becomes q (without_nets (pins_in q.pins) (m ∷ [])) q₁) where
  abbrev p : Pins
  p = pins_in q.pins

  -- another net is there still
  others_there : (x : ℕ) → 1 ≤ x → x ≢ m → is_there p x ≡ true → is_there (pins_in q₁.pins) x ≡ true
  others_there x one ne e =
      let (s, a, i, at) = a_pin p x (leb-true 1 (pin_count p x) e) in
      elim (dec_le a (places (shape_of q) s)) [
        | yes on ↦
            let left : leaves (m ∷ []) x ≡ x = rw (not_first m x ne) in
            let stays = b.pins s a (i.0, on) ∙ ap (leaves (m ∷ [])) at ∙ left in
            le-leb 1 _ (pinned (pins_in q₁.pins) x s a i stays)
        | no past ↦ absurd (omega (arith, sound.good.ends s a (omega arith)))
      ]

  then_rest : {q'' : Problem} (l : List ℕ) → Becomes q₁ (without_nets (pins_in q₁.pins) l) q'' → Becomes q (without_nets p (m ∷ l)) q''
  then_rest l c =
      record {
        kind = c.kind ∙ b.kind;
        n = c.n ∙ b.n;
        byte2 = c.byte2 ∙ b.byte2;
        pins = λ s a i.
            c.pins s a (subst (λ (g : Grid). In a (places g s)) (sym (same_shape b)) i)
            ∙ ap (leaves l) (b.pins s a i) ∙ left_first m l (p s a);
      }

head_listed : (m : ℕ) (l : List ℕ) → listed (m ∷ l) m ≡ true
unfolding listed
head_listed m l = rw (eq-eqb m m refl)

tail_listed : (m : ℕ) (l : List ℕ) (x : ℕ) → listed l x ≡ true → listed (m ∷ l) x ≡ true
unfolding listed
tail_listed m l x e = ap (λ (t : Bool). eqb m x || t) e ∙ or-true (eqb m x)

-- the first of a list without repeats is none of the rest
head_new : (m : ℕ) (l : List ℕ) → times_in (m ∷ l) m ≤ 1 → (x : ℕ) → listed l x ≡ true → x ≢ m
unfolding times_in
head_new m l few x e same =
    let here : 1 ≤ times_in l m = leb-true 1 _ (sym (listed_times l m) ∙ ap (listed l) (sym same) ∙ e) in
    let one : bit (eqb m m) ≡ 1 = ap bit (eq-eqb m m refl) in
    omega (arith, few, here, one)

tail_few : (m : ℕ) (l : List ℕ) (x : ℕ) → times_in (m ∷ l) x ≤ 1 → times_in l x ≤ 1
unfolding times_in
tail_few m l x few = omega (arith, few)

-- every net of the list is there, and none comes twice
dropped_singly : (l : List ℕ) {b b'' : BoardState} → Sound b.problem → ((x : ℕ) → times_in l x ≤ 1)
    → ((x : ℕ) → listed l x ≡ true → In x largest_net × (is_there (pins_in b.problem.pins) x ≡ true)) → LeadsTo b (singly l) b''
    → Becomes b.problem (without_nets (pins_in b.problem.pins) l) b''.problem × Sound b''.problem
unfolding singly
dropped_singly [] {b} sound few there done =
    (record { kind = refl; n = refl; byte2 = refl; pins = λ s a i. rw (listed_none (pins_in b.problem.pins s a)) }, sound)
dropped_singly (m ∷ l) {b} sound few there (drops c k more) =
    let (i, here) = there m (head_listed m l) in
    let first = c.dropped (ap accepted c.refusal ∙ one_accepted (is_there (pins_in b.problem.pins)) m i here) in
    let still : (x : ℕ) → listed l x ≡ true → In x largest_net × (is_there _ x ≡ true) =
    λ x e.
    let (j, t) = there x (tail_listed m l x e) in
    (j, others_there sound m first x j.0 (head_new m l (few m) x e) t) in
    let (rest, sound'') = dropped_singly l c.sound (λ x. tail_few m l x (few x)) still more in
    (then_rest sound m first l rest, sound'')

-- ---- the same board

past_shape : {q q' : Problem} {p : Pins} → Becomes q p q' → (s : Side) (a : ℕ) → places (shape_of q) s < a → places (shape_of q') s < a
past_shape b s a = subst (λ (g : Grid). places g s < a) (sym (same_shape b))

-- two sound boards that came of one by leaving out the same nets
same_left : {q q' q'' : Problem} (l l' : List ℕ) → ((x : ℕ) → listed l' x ≡ listed l x) → Becomes q (without_nets (pins_in q.pins) l) q'
    → Sound q' → Becomes q (without_nets (pins_in q.pins) l') q'' → Sound q'' → q'' ≡ q'
same_left {q} {q'} {q''} l l' same b' sound' b'' sound'' =
    same_problem (b''.kind ∙ sym b'.kind) (b''.n ∙ sym b'.n) (b''.byte2 ∙ sym b'.byte2) nets lists
  where
    pins : (s : Side) (a : ℕ) → In a longest_side → pins_in q''.pins s a ≡ pins_in q'.pins s a
    pins s a i = elim (dec_le a (places (shape_of q) s)) [
      | yes on ↦
          let x = pins_in q.pins s a in
          b''.pins s a (i.0, on) ∙ ap (λ (t : Bool). cond t 0 x) (same x) ∙ sym (b'.pins s a (i.0, on))
      | no past ↦
          sound''.good.ends s a (past_shape b'' s a (omega arith)) ∙ sym (sound'.good.ends s a (past_shape b' s a (omega arith)))
    ]

    lists : q''.pins ≡ q'.pins
    lists = same_pins sound'.sized sound''.sized pins

    nets : q''.nets ≡ q'.nets
    nets = sound''.good.nets ∙ ap (λ ps. net_count (pins_in ps)) lists ∙ sym sound'.good.nets

-- the entries of two lists that have f at 1 to n, and 0 past n
same_entries : (xs ys : List ℕ) (f : ℕ → ℕ) (n : ℕ) → ((c : ℕ) → In c n → entry xs c ≡ f c)
    → ((c : ℕ) → n < c → c ≤ count_entries → entry xs c ≡ 0) → ((c : ℕ) → In c n → entry ys c ≡ f c)
    → ((c : ℕ) → n < c → c ≤ count_entries → entry ys c ≡ 0) → (c : ℕ) → In c count_entries → entry ys c ≡ entry xs c
same_entries xs ys f n x z y w c i = elim (dec_le c n) [
  | yes on ↦ y c (i.0, on) ∙ sym (x c (i.0, on))
  | no past ↦ w c (omega arith) i.1 ∙ sym (z c (omega arith) i.1)
]

-- true figures of one problem
same_figures : {b b' : BoardState} → b'.problem ≡ b.problem → Counted b.problem b.columns b.tracks
    → Counted b'.problem b'.columns b'.tracks → SameBoard b b'
same_figures {b} {b'} same x y =
    let y' = subst (λ (q : Problem). Counted q b'.columns b'.tracks) same y in
    record {
      problem = same;
      column = same_entries b.columns b'.columns _ b.problem.n.0 x.column x.past_columns y'.column y'.past_columns;
      track = same_entries b.tracks b'.tracks _ (width_of b.problem) x.track x.past_tracks y'.track y'.past_tracks;
    }

pub any_order : {b b' : BoardState} {l : List ℕ} {r : Refusal} → Sound b.problem → Counted b.problem b.columns b.tracks
    → NetsDropped b.problem l r b'.problem → CountsKept b b' → accepted r ≡ true → AsSingly b l b'
any_order {b} {b'} {l} sound counted c kept ok =
    let there = is_there (pins_in b.problem.pins) in
    let (all, new) = accepted_drop there l (ap accepted (sym c.refusal) ∙ ok) in
    record {
      same = λ l' b'' reordered runs.
          let listed_same : (x : ℕ) → listed l' x ≡ listed l x =
          λ x. listed_times l' x ∙ ap (leb 1) (sym (reordered x)) ∙ sym (listed_times l x) in
          let few : (x : ℕ) → times_in l' x ≤ 1 = λ x. omega (arith, once (λ v. true) [] l new x, reordered x) in
          let (left, sound'') = dropped_singly l' sound few (λ x e. all_there there l all x (sym (listed_same x) ∙ e)) runs in
          same_figures (same_left l l' listed_same (c.dropped ok) c.sound left sound'') (kept counted) (calls_count counted runs);
    }

-- "an empty list changes nothing": it is accepted, and the board is that of no single drop at all
pub empty_list : {b b' : BoardState} {r : Refusal} → Sound b.problem → Counted b.problem b.columns b.tracks
    → NetsDropped b.problem [] r b'.problem → CountsKept b b' → (accepted r ≡ true) × SameBoard b' b
unfolding drop_refusal first_absent first_wrong singly
empty_list {b} sound counted c kept =
    let ok = ap accepted c.refusal in (ok, (any_order sound counted c kept ok).same [] b (λ x. refl) done)
