-- A place's number says its side and its place, and these say the number; what a list has.
use Prim.Native.Nat.{ℕ, zero, suc, ◌-◌, ◌≤◌, ◌<◌}
use mathlib.Core.Path.{◌≡◌, refl, sym, ap, ◌∙◌, subst}
use mathlib.Core.Bool.{Bool, true, false, ◌&&◌, ◌||◌, and-eq-true_iff, or-true, or-false, or_assoc}
use mathlib.Core.List.{List, [], ◌∷◌, ◌++◌}
use native.Mathlib.Decide.{dec_lt}
use native.Mathlib.Omega.{arith}
use lib.Dec.{eqb}
use lib.ListN.{length, get_or}
use borrow.Author.Tests.{eq-eqb, lt-ltb, le-ltb}
use Rattle.counting.specs.Counting.{In}
use Rattle.terms.specs.Limits.{byte_values, within}
use Rattle.terms.specs.Kinds.{Side, north, south, west, east, has_side}
use Rattle.terms.proofs.Laws.{within_in, within_of}
use Rattle.grid.specs.Grid.{places}
use Rattle.problem.specs.declared.Problem.{Problem}
use Rattle.problem.specs.Problem.{shape_of}
use Rattle.board_law.specs.Places.{place_number, side_in, place_in, is_place, listed}

-- which side a number says, by the tests for it
pub on_north : (v : ℕ) → v < 256 → side_in v ≡ north
on_north v a = rw (lt-ltb v 256 a)

pub on_south : (v : ℕ) → 256 ≤ v → v < 512 → side_in v ≡ south
on_south v a b = rw (le-ltb v 256 a, lt-ltb v 512 b)

pub on_west : (v : ℕ) → 512 ≤ v → v < 768 → side_in v ≡ west
on_west v a b = rw (le-ltb v 256 (omega arith), le-ltb v 512 a, lt-ltb v 768 b)

pub on_east : (v : ℕ) → 768 ≤ v → side_in v ≡ east
on_east v a = rw (le-ltb v 256 (omega arith), le-ltb v 512 (omega arith), le-ltb v 768 a)

pub side_back : (s : Side) (a : ℕ) → a < byte_values → side_in (place_number s a) ≡ s
side_back north a h = on_north (place_number north a) (omega arith)
side_back south a h = on_south (place_number south a) (omega arith) (omega arith)
side_back west a h = on_west (place_number west a) (omega arith) (omega arith)
side_back east a h = on_east (place_number east a) (omega arith)

pub place_back : (s : Side) (a : ℕ) → a < byte_values → place_in (place_number s a) ≡ a
place_back s a h = ap (λ (t : Side). place_number s a - place_number t 0) (side_back s a h) ∙ less s
  where
    less : (s : Side) → place_number s a - place_number s 0 ≡ a
    less north = omega arith
    less south = omega arith
    less west = omega arith
    less east = omega arith

data Said (v : ℕ) : Side → Type 0 where
  says_north : v < 256 → Said v north
  says_south : 256 ≤ v → v < 512 → Said v south
  says_west : 512 ≤ v → v < 768 → Said v west
  says_east : 768 ≤ v → Said v east

said : (v : ℕ) → Said v (side_in v)
said v = elim (dec_lt v 256) [
  | yes a ↦ subst (Said v) (sym (on_north v a)) (says_north a)
  | no a ↦ elim (dec_lt v 512) [
    | yes b ↦ subst (Said v) (sym (on_south v (omega arith) b)) (says_south (omega arith) b)
    | no b ↦ elim (dec_lt v 768) [
      | yes c ↦ subst (Said v) (sym (on_west v (omega arith) c)) (says_west (omega arith) c)
      | no c ↦ subst (Said v) (sym (on_east v (omega arith))) (says_east (omega arith))
    ]
  ]
]

pub number_back : (v : ℕ) → place_number (side_in v) (place_in v) ≡ v
number_back v = back (said v)
  where
    back : {s : Side} → Said v s → place_number s (v - place_number s 0) ≡ v
    back (says_north a) = omega arith
    back (says_south a b) = omega arith
    back (says_west a b) = omega arith
    back (says_east a) = omega arith

pub is_place_lem : (q : Problem) (v : ℕ) → is_place q v ≡ true
    → (has_side q.kind (side_in v) ≡ true) × In (place_in v) (places (shape_of q) (side_in v))
unfolding is_place
is_place_lem q v h = let b = (and-eq-true_iff _ _).0 h in (b.0, within_in _ _ b.1)

pub of_place : (q : Problem) (s : Side) (a : ℕ) → a < byte_values → has_side q.kind s ≡ true → In a (places (shape_of q) s)
    → is_place q (place_number s a) ≡ true
unfolding is_place
of_place q s a small on i =
    (λ k. has_side q.kind (side_back s a small k) && within (place_back s a small k) (places (shape_of q) (side_back s a small k)))
    ∙ rw (on, within_of a (places (shape_of q) s) i)

-- ---- lists

pub listed_none : (v : ℕ) → listed [] v ≡ false
unfolding listed
listed_none v = refl

pub listed_last : (l : List ℕ) (x v : ℕ) → listed (l ++ (x ∷ [])) v ≡ (listed l v || eqb x v)
unfolding listed
listed_last [] x v = or-false (eqb x v)
listed_last (y ∷ l) x v = ap (λ (t : Bool). eqb y v || t) (listed_last l x v) ∙ sym (or_assoc (eqb y v) (listed l v) (eqb x v))

-- each entry of a list is in it
pub listed_at : (l : List ℕ) (i : ℕ) → i < length l → listed l (get_or l i 0) ≡ true
unfolding listed
listed_at [] i h = absurd (omega arith)
listed_at (x ∷ l) zero h = rw (eq-eqb x x refl)
listed_at (x ∷ l) (suc i) h = ap (λ (t : Bool). eqb x (get_or l i 0) || t) (listed_at l i (omega arith)) ∙ or-true (eqb x (get_or l i 0))
