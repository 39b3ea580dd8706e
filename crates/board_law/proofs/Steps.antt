-- After one call the board holds the pins of the nets that are there: the board refuses what the nets refuse (Agreement), and what is
-- accepted changes the pins and the lists of the same nets (OneNet).
use Prim.Native.Nat.{ℕ, ◌≤◌, ◌<◌}
use mathlib.Core.Path.{◌≡◌, refl, sym, ap, ap₂, ◌∙◌, subst}
use mathlib.Core.Logic.{◌≢◌}
use mathlib.Core.Bool.{Bool, true, false, cond, and-eq-true_iff, true≢false}
use mathlib.Core.List.{List, []}
use native.Mathlib.Omega.{arith}
use lib.Dec.{eqb}
use borrow.Author.Tests.{eqb-true, eq-eqb, ne_eqb, leb-false}
use Rattle.counting.specs.Counting.{In}
use Rattle.terms.specs.Kinds.{Side}
use Rattle.terms.specs.Limits.{byte_values, largest_net, longest_side}
use Rattle.terms.specs.Refusals.{accepted}
use Rattle.terms.specs.declared.Refusal.{Refusal}
use Rattle.grid.specs.Grid.{places}
use Rattle.grid.specs.Legal.{Pins}
use Rattle.problem.specs.declared.Problem.{Problem}
use Rattle.problem.specs.Problem.{pins_in, pin_count, shape_of}
use Rattle.problem.proofs.Sizes.{side_fits}
use Rattle.problem.proofs.Pinned.{pinned}
use Rattle.board_law.specs.Places.{place_number, side_in, place_in, is_place, listed}
use Rattle.board_law.specs.Edits.{is_there, is_free, add_refusal, drop_refusal, with_net, without_nets}
use Rattle.board_law.specs.Edits.{Sound, Becomes, NetAdded, NetsDropped}
use Rattle.board_law.specs.History.{adding, dropping, NetPlaces, is_in, is_open, changed, emptied, after_call}
use Rattle.board_law.proofs.Places.{side_back, place_back, listed_none}
use Rattle.board_law.proofs.Accepted.{accepted_add, all_free}
use Rattle.board_law.proofs.Agreement.{Holds, adds_agree, drops_agree}
use Rattle.board_law.proofs.OneNet.{chosen, nets_change, one_changes}

free_is : (q : Problem) (p : Pins) (v : ℕ) → is_free q p v ≡ true → (is_place q v ≡ true) × (p (side_in v) (place_in v) ≡ 0)
unfolding is_free
free_is q p v e = let b = (and-eq-true_iff _ _).0 e in (b.0, eqb-true _ 0 b.1)

module _ {q₀ q : Problem} {ns : NetPlaces} (h : Holds q₀ q ns) where
  abbrev p : Pins
  p = pins_in q.pins

  fits : (s : Side) (a : ℕ) → In a (places (shape_of q) s) → In a longest_side
  fits s a i = omega (arith, side_fits h.sound.good s)

  free_at : (s : Side) (a : ℕ) → In a (places (shape_of q) s) → is_free q p (place_number s a) ≡ true → p s a ≡ 0
  free_at s a i e =
      let small : a < byte_values = omega (arith, fits s a i) in
      sym (ap₂ p (side_back s a small) (place_back s a small)) ∙ (free_is q p (place_number s a) e).1

  not_there : (m : ℕ) → is_there p m ≡ false → (s : Side) (a : ℕ) → In a (places (shape_of q) s) → p s a ≢ m
  not_there m none s a i e = omega (arith, pinned p m s a (fits s a i) e, leb-false 1 (pin_count p m) none)

  -- ---- a net that is added had no pin, and the places on its list held none

  put_own : (m : ℕ) (l : List ℕ) → is_there p m ≡ false → (s : Side) (a : ℕ) → In a (places (shape_of q) s)
      → eqb (with_net p m l s a) m ≡ listed l (place_number s a)
  put_own m l none s a i =
      chosen (λ y. eqb y m ≡ listed l (place_number s a)) (listed l (place_number s a)) (λ e. eq-eqb m m refl ∙ sym e)
      (λ e. ne_eqb (p s a) m (not_there m none s a i) ∙ sym e)

  put_others : (m : ℕ) (l : List ℕ) → ((v : ℕ) → listed l v ≡ true → is_free q p v ≡ true)
      → (s : Side) (a x : ℕ) → In a (places (shape_of q) s) → 1 ≤ x → x ≢ m → eqb (with_net p m l s a) x ≡ eqb (p s a) x
  put_others m l free s a x i one other =
      chosen (λ y. eqb y x ≡ eqb (p s a) x) (listed l (place_number s a))
      (λ e. ne_eqb m x (λ f. other (sym f)) ∙ sym (ne_eqb (p s a) x (λ f. omega (arith, free_at s a i (free (place_number s a) e)))))
      (λ e. refl)

  net_put : {q' : Problem} (m : ℕ) (l : List ℕ) → accepted (add_refusal (is_there p m) (is_free q p) m l) ≡ true
      → Becomes q (with_net p m l) q' → Sound q' → Holds q₀ q' (changed ns m l)
  net_put m l e b sound =
      let (i, none, long, right) = accepted_add (is_there p m) (is_free q p) m l e in
      let free = all_free (is_free q p) [] l right in
      one_changes m l h b sound (λ v f. (free_is q p v (free v f)).0) (put_own m l none) (put_others m l free)

  pub net_added : {q' : Problem} {m : ℕ} {l : List ℕ} {r : Refusal} → NetAdded q m l r q' → Holds q₀ q' (after_call q₀ ns (adding m l))
  net_added {q'} {m} {l} {r} c =
      let agree : r ≡ add_refusal (is_in ns m) (is_open q₀ ns) m l = c.refusal ∙ adds_agree h m l in
      chosen (Holds q₀ q') (accepted (add_refusal (is_in ns m) (is_open q₀ ns) m l))
      (λ e. net_put m l (ap accepted (adds_agree h m l) ∙ e) (c.added (ap accepted agree ∙ e)) c.sound)
      (λ e. subst (λ z. Holds q₀ z ns) (sym (c.refused (ap accepted agree ∙ e))) h)

  -- ---- nets that are dropped have no pin left, and the others keep theirs

  left_at : (l : List ℕ) (s : Side) (a x : ℕ) → 1 ≤ x → In a (places (shape_of q) s)
      → eqb (without_nets p l s a) x ≡ cond (listed l x) false (eqb (p s a) x)
  left_at l s a x one i =
      chosen (λ y. eqb y x ≡ cond (listed l x) false (eqb (p s a) x)) (listed l (p s a))
      (λ e. ne_eqb 0 x (λ f. omega arith) ∙ gone e)
      (λ e. kept e)
    where
      gone : listed l (p s a) ≡ true → false ≡ cond (listed l x) false (eqb (p s a) x)
      gone e =
          chosen (λ t. false ≡ t) (listed l x) (λ f. refl)
          (λ f. sym (ne_eqb (p s a) x (λ same. true≢false (sym e ∙ ap (listed l) same ∙ f))))

      kept : listed l (p s a) ≡ false → eqb (p s a) x ≡ cond (listed l x) false (eqb (p s a) x)
      kept e =
          chosen (λ t. eqb (p s a) x ≡ t) (listed l x)
          (λ f. ne_eqb (p s a) x (λ same. true≢false (sym f ∙ sym (ap (listed l) same) ∙ e)))
          (λ f. refl)

  nets_off : {q' : Problem} (l : List ℕ) → Becomes q (without_nets p l) q' → Sound q' → Holds q₀ q' (emptied ns l)
  nets_off l b sound =
      nets_change h b sound
      (λ x v j e. chosen (λ k. listed k v ≡ true → is_place q v ≡ true) (listed l x)
      (λ gone f. absurd (true≢false (sym f ∙ listed_none v)))
      (λ there. h.listed_places x v j) e)
      (λ s a x i j. left_at l s a x j.0 i ∙ by_list s a x i j (listed l x))
    where
      by_list : (s : Side) (a x : ℕ) → In a (places (shape_of q) s) → In x largest_net → (t : Bool)
          → cond t false (eqb (p s a) x) ≡ listed (cond t [] (ns x)) (place_number s a)
      by_list s a x i j true = sym (listed_none (place_number s a))
      by_list s a x i j false = h.pins s a x i j

  pub nets_dropped : {q' : Problem} {l : List ℕ} {r : Refusal} → NetsDropped q l r q' → Holds q₀ q' (after_call q₀ ns (dropping l))
  nets_dropped {q'} {l} {r} c =
      let agree : r ≡ drop_refusal (is_in ns) l = c.refusal ∙ drops_agree h l in
      chosen (Holds q₀ q') (accepted (drop_refusal (is_in ns) l))
      (λ e. nets_off l (c.dropped (ap accepted agree ∙ e)) c.sound)
      (λ e. subst (λ z. Holds q₀ z ns) (sym (c.refused (ap accepted agree ∙ e))) h)
