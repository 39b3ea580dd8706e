-- Where nets' pins and their lists change alike, the board still holds the pins of the nets that are there; so too where one net alone
-- changes.
use Prim.Native.Nat.{ℕ, ◌≤◌}
use mathlib.Core.Path.{◌≡◌, refl, ap, ◌∙◌, subst}
use mathlib.Core.Logic.{◌≢◌}
use mathlib.Core.Bool.{Bool, true, false, cond}
use mathlib.Core.List.{List}
use lib.Dec.{eqb}
use borrow.Author.Tests.{eqb-true, eqb-false}
use Rattle.counting.specs.Counting.{In}
use Rattle.terms.specs.Kinds.{Side}
use Rattle.terms.specs.Limits.{largest_net}
use Rattle.grid.specs.Grid.{places}
use Rattle.grid.specs.Legal.{Pins}
use Rattle.problem.specs.declared.Problem.{Problem}
use Rattle.problem.specs.Problem.{pins_in, shape_of}
use Rattle.board_law.specs.Places.{place_number, is_place, listed}
use Rattle.board_law.specs.Edits.{fresh, Sound, Becomes}
use Rattle.board_law.specs.History.{NetPlaces, changed}
use Rattle.board_law.proofs.Agreement.{Holds, same_places}

-- a board that gets other pins keeps its shape
pub same_shape : {q q' : Problem} {p : Pins} → Becomes q p q' → shape_of q' ≡ shape_of q
same_shape b i = shape_of (fresh (b.kind i) (b.n i).0 (b.byte2 i))

-- what holds of a choice, where it holds of each that can be chosen
pub chosen : {A : Type 0} (P : A → Type 0) (t : Bool) {x y : A} → (t ≡ true → P x) → (t ≡ false → P y) → P (cond t x y)
chosen P true f g = f refl
chosen P false f g = g refl

-- each net's pins and its list after the call say the same
pub nets_change : {q₀ q q' : Problem} {ns ns' : NetPlaces} {p : Pins} → Holds q₀ q ns → Becomes q p q' → Sound q'
    → ((x v : ℕ) → In x largest_net → listed (ns' x) v ≡ true → is_place q v ≡ true)
    → ((s : Side) (a x : ℕ) → In a (places (shape_of q) s) → In x largest_net → eqb (p s a) x ≡ listed (ns' x) (place_number s a))
    → Holds q₀ q' ns'
nets_change {q} {q'} h b sound on own =
    record {
      pins = λ s a x i j.
          let i' = subst (λ g. In a (places g s)) (same_shape b) i in ap (λ (y : ℕ). eqb y x) (b.pins s a i') ∙ own s a x i' j;
      listed_places = λ x v j e. ap (λ is. is v) (same_places q q' b.kind b.n b.byte2) ∙ on x v j e;
      kind = b.kind ∙ h.kind;
      n = b.n ∙ h.n;
      byte2 = b.byte2 ∙ h.byte2;
      sound = sound;
    }

pub one_changes : {q₀ q q' : Problem} {ns : NetPlaces} {p : Pins} (m : ℕ) (l : List ℕ) → Holds q₀ q ns → Becomes q p q' → Sound q'
    → ((v : ℕ) → listed l v ≡ true → is_place q v ≡ true)
    → ((s : Side) (a : ℕ) → In a (places (shape_of q) s) → eqb (p s a) m ≡ listed l (place_number s a))
    → ((s : Side) (a x : ℕ) → In a (places (shape_of q) s) → 1 ≤ x → x ≢ m → eqb (p s a) x ≡ eqb (pins_in q.pins s a) x)
    → Holds q₀ q' (changed ns m l)
one_changes {q} {ns = ns} {p = p} m l h b sound on own others =
    nets_change h b sound
    (λ x v j e. chosen (λ k. listed k v ≡ true → is_place q v ≡ true) (eqb x m) (λ same. on v) (λ other. h.listed_places x v j) e)
    (λ s a x i j.
    chosen (λ k. eqb (p s a) x ≡ listed k (place_number s a)) (eqb x m)
    (λ e. ap (eqb (p s a)) (eqb-true x m e) ∙ own s a i)
    (λ e. others s a x i j.0 (eqb-false x m e) ∙ h.pins s a x i j))
