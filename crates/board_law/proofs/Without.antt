-- The problem without the nets of a list: one net more of the list leaves the problem sound, and tells it from the one before; the net
-- stands there where it stands in the problem itself, since the nets left out are others. So the counts go on from net to net.
use Prim.Native.Nat.{ℕ, zero, suc, ◌+◌, ◌-◌, ◌≤◌}
use mathlib.Core.Path.{◌≡◌, refl, sym, ap, ◌∙◌, subst}
use mathlib.Core.Bool.{Bool, true, false, cond, true≢false}
use mathlib.Core.List.{List, [], ◌∷◌, ◌++◌}
use native.Mathlib.Omega.{arith}
use lib.Dec.{eqb}
use lib.ListN.{length, get_or, length-map, length-append, get_or-map}
use lib.Seq.{ext_get_or}
use borrow.Author.Tests.{eqb-true, eqb-false, eq-eqb, ne_eqb, leb-true}
use Rattle.counting.specs.Counting.{In}
use Rattle.counting.proofs.Sums.{split}
use Rattle.terms.specs.Limits.{longest_side, largest_net}
use Rattle.terms.specs.Kinds.{Side, north, south, west, east}
use Rattle.grid.specs.Legal.{entry}
use Rattle.grid.proofs.Entries.{entry_next}
use Rattle.problem.specs.declared.Problem.{Problem}
use Rattle.problem.specs.Problem.{pins_in, pin_count}
use Rattle.problem.proofs.Pinned.{pinned, a_pin}
use Rattle.ticket_bytes.specs.Bytes.{Sized}
use Rattle.board_law.specs.Places.{listed}
use Rattle.board_law.specs.Edits.{is_there, without_nets, Sound}
use Rattle.board_law.specs.Counts.{Counted}
use Rattle.board_law.specs.Runs.{Ends, low_along, high_along, box_width, Recounted, left, without}
use Rattle.board_law.proofs.Places.{listed_none, listed_last}
use Rattle.board_law.proofs.Apart.{Apart}
use Rattle.board_law.proofs.Changes.{without_net, drop_sound, drop_apart}
use Rattle.board_law.proofs.Recount.{counts_without}
use Rattle.board_law.proofs.Ends.{same_ends, ends_turned}

-- ---- problems that agree place by place

same_list : (xs ys : List ℕ) → length xs ≡ longest_side → length ys ≡ longest_side
    → ((a : ℕ) → In a longest_side → entry xs a ≡ entry ys a) → xs ≡ ys
same_list xs ys x y same =
    ext_get_or 0 xs ys (x ∙ sym y) (λ i h. sym (entry_next xs i) ∙ same (i + 1) (omega (arith, x)) ∙ entry_next ys i)

pub same_pins : {q q' : Problem} → Sized q → Sized q'
    → ((s : Side) (a : ℕ) → In a longest_side → pins_in q'.pins s a ≡ pins_in q.pins s a) → q'.pins ≡ q.pins
same_pins {q} {q'} size size' pins =
    let norths = same_list q'.pins.north q.pins.north size'.north size.north (pins north) in
    let souths = same_list q'.pins.south q.pins.south size'.south size.south (pins south) in
    let wests = same_list q'.pins.west q.pins.west size'.west size.west (pins west) in
    let easts = same_list q'.pins.east q.pins.east size'.east size.east (pins east) in
    λ i. record { north = norths i; south = souths i; west = wests i; east = easts i }

pub same_problem : {q q' : Problem} → q'.kind ≡ q.kind → q'.n ≡ q.n → q'.byte2 ≡ q.byte2 → q'.nets ≡ q.nets
    → q'.pins ≡ q.pins → q' ≡ q
same_problem kinds ns bytes nets pins i = record { kind = kinds i; n = ns i; byte2 = bytes i; nets = nets i; pins = pins i }

-- ---- the pins that are left

-- what stands at a place that holds x once the nets of the list are left out
abbrev pub leaves : List ℕ → ℕ → ℕ
leaves l x = cond (listed l x) 0 x

pub empty_stays : (l : List ℕ) → leaves l 0 ≡ 0
empty_stays l = split (listed l 0) (λ e. rw e) (λ e. rw e)

entry_left : (l xs : List ℕ) (a : ℕ) → entry (left l xs) a ≡ leaves l (entry xs a)
entry_left l xs zero = sym (empty_stays l)
entry_left l xs (suc a) =
    subst (λ (d : ℕ). get_or (left l xs) a d ≡ leaves l (get_or xs a 0)) (empty_stays l) (get_or-map (leaves l) xs a 0)

pub pins_without : (q : Problem) (l : List ℕ) (s : Side) (a : ℕ) → pins_in (without q l).pins s a ≡ without_nets (pins_in q.pins) l s a
unfolding without
pins_without q l north = entry_left l q.pins.north
pins_without q l south = entry_left l q.pins.south
pins_without q l west = entry_left l q.pins.west
pins_without q l east = entry_left l q.pins.east

sized_without : {q : Problem} (l : List ℕ) → Sized q → Sized (without q l)
unfolding without
sized_without {q} l size =
    record {
      north = length-map q.pins.north _ ∙ size.north;
      south = length-map q.pins.south _ ∙ size.south;
      west = length-map q.pins.west _ ∙ size.west;
      east = length-map q.pins.east _ ∙ size.east;
    }

pub without_is : {q q' : Problem} (l : List ℕ) → Sized q → Sized q' → q'.kind ≡ q.kind → q'.n ≡ q.n → q'.byte2 ≡ q.byte2
    → q'.nets ≡ q.nets - length l
    → ((s : Side) (a : ℕ) → In a longest_side → pins_in q'.pins s a ≡ without_nets (pins_in q.pins) l s a) → q' ≡ without q l
unfolding without
without_is {q} l size size' kinds ns bytes nets pins =
    same_problem kinds ns bytes nets (same_pins (sized_without l size) size' (λ s a i. pins s a i ∙ sym (pins_without q l s a)))

-- an empty list leaves out nothing
pub without_none : {q : Problem} → Sized q → without q [] ≡ q
unfolding without
without_none {q} size =
    same_problem refl refl refl (omega arith)
    (same_pins size (sized_without [] size) (λ s a i. pins_without q [] s a ∙ rw (listed_none (pins_in q.pins s a))))

-- ---- one net more

pub left_next : (t : List ℕ) (m x : ℕ) → leaves (t ++ (m ∷ [])) x ≡ cond (eqb (leaves t x) m) 0 (leaves t x)
left_next t m x =
    ap (λ (b : Bool). cond b 0 x) (listed_last t m x) ∙ split (listed t x)
    (λ e. rw e (sym (nothing (eqb 0 m))))
    (λ e. rw (e, turned))
  where
    nothing : (b : Bool) → ◌≡◌ {A = ℕ} (cond b 0 0) 0
    nothing true = refl
    nothing false = refl

    turned : eqb m x ≡ eqb x m
    turned = split (eqb x m) (λ e. eq-eqb m x (sym (eqb-true x m e)) ∙ sym e) (λ e. ne_eqb m x (λ f. eqb-false x m e (sym f)) ∙ sym e)

-- a net that is not left out is where it was
module _ (t : List ℕ) (m : ℕ) (one : 1 ≤ m) (new : listed t m ≡ false) where
  still_at : (x : ℕ) → eqb (leaves t x) m ≡ eqb x m
  still_at x =
      split (listed t x)
      (λ e. rw e (ne_eqb 0 m (λ f. omega arith) ∙ sym (ne_eqb x m (λ f. true≢false (sym e ∙ ap (listed t) f ∙ new)))))
      (λ e. rw e)

  holds_still : (q : Problem) (s : Side) (a : ℕ) → eqb (pins_in (without q t).pins s a) m ≡ eqb (pins_in q.pins s a) m
  holds_still q s a = ap (λ (x : ℕ). eqb x m) (pins_without q t s a) ∙ still_at (pins_in q.pins s a)

  still_there : (q : Problem) → 1 ≤ pin_count (pins_in q.pins) m → 1 ≤ pin_count (pins_in (without q t).pins) m
  still_there q has =
      let (s, a, i, e) = a_pin (pins_in q.pins) m has in
      pinned (pins_in (without q t).pins) m s a i (eqb-true _ m (holds_still q s a ∙ eq-eqb _ m e))

-- a net that is there and is none of those left out
module _ (q : Problem) (t : List ℕ) (m : ℕ) (sound : Sound (without q t)) (i : In m largest_net)
    (there : is_there (pins_in q.pins) m ≡ true) (new : listed t m ≡ false) where
  abbrev more : List ℕ
  more = t ++ (m ∷ [])

  was_there : 1 ≤ pin_count (pins_in (without q t).pins) m
  was_there = still_there t m i.0 new q (leb-true 1 _ there)

  sizes : Sized q → Sized (without q more)
  sizes = sized_without more

  pins : (s : Side) (a : ℕ) → In a longest_side → pins_in (without q more).pins s a ≡ without_net (pins_in (without q t).pins) m s a
  pins s a j =
      pins_without q more s a ∙ left_next t m (pins_in q.pins s a)
      ∙ sym (ap (λ (x : ℕ). cond (eqb x m) 0 x) (pins_without q t s a))

  one_fewer : (without q more).nets ≡ (without q t).nets - 1
  unfolding without
  one_fewer = let size = length-append t (m ∷ []) in omega arith

  pub next_sound : Sized q → Sound (without q more)
  unfolding without
  next_sound size = drop_sound m sound i was_there (sizes size) pins refl refl refl one_fewer

  next_apart : Sized q → Apart m (without q more) (without q t)
  unfolding without
  next_apart size = drop_apart m sound i was_there (sizes size) pins refl refl refl

  -- the counts that a call takes away, by where the net stands in the problem itself, on south and north, and on west and east
  pub next_counts : {columns tracks columns' tracks' : List ℕ} {f l f' l' : ℕ} {ss ns ws es : Bool} → Sized q
      → Ends (pins_in q.pins south) (pins_in q.pins north) m f l ss ns
      → Ends (pins_in q.pins west) (pins_in q.pins east) m f' l' ws es
      → Recounted (low_along f ws (q.n.0 + 1)) (high_along l es (q.n.0 + 1)) q.n.0 255 columns columns'
      → Recounted (low_along f' ss (box_width q + 1)) (high_along l' ns (box_width q + 1)) (box_width q) 255 tracks tracks'
      → Counted (without q t) columns tracks → Counted (without q more) columns' tracks'
  unfolding without
  next_counts size along ends column track counted =
      let still : (s : Side) (a : ℕ) → eqb (pins_in (without q t).pins s a) m ≡ eqb (pins_in q.pins s a) m =
      holds_still t m i.0 new q in
      counts_without (next_apart size) (ends_turned (same_ends (still south) (still north) along))
      (same_ends (still west) (still east) ends) column track counted
