-- What an accepted call shows: of the net and of every place on its list, of each of a list of nets.
use Prim.Native.Nat.{ℕ, zero, suc, ◌+◌, ◌≤◌, ◌<◌}
use mathlib.Core.Path.{◌≡◌, refl, sym, ap, ◌∙◌, subst}
use mathlib.Core.Logic.{◌≢◌, by_cases}
use mathlib.Core.Bool.{Bool, true, false, not, ◌&&◌, ◌||◌, and-eq-true_iff, true≢false}
use mathlib.Core.List.{List, [], ◌∷◌, ◌++◌, append_assoc, append-nil}
use native.Mathlib.Decide.{ℕ_discrete}
use native.Mathlib.Numerals.{add-one}
use native.Mathlib.Omega.{arith}
use lib.Dec.{eqb, leb}
use lib.ListN.{length, get_or, take, drop}
use lib.Seq.{drop-cons, take-suc, drop-length}
use borrow.Author.Tests.{eqb-true, eq-eqb, ne_eqb, leb-true, not-true}
use Rattle.counting.specs.Counting.{In}
use Rattle.counting.proofs.Sums.{split}
use Rattle.terms.specs.Limits.{longest_side, largest_net, within}
use Rattle.terms.specs.Kinds.{largest_byte2}
use Rattle.terms.specs.Refusals.{refusal, accepted}
use Rattle.terms.proofs.Laws.{within_in, within_of, passed}
use Rattle.board_law.specs.Places.{listed}
use Rattle.board_law.specs.Edits.{is_board_kind, start_refusal, first_wrong, add_refusal, first_absent, first_repeat, drop_refusal}

pub accepted_start : (kind n byte2 : ℕ) → accepted (start_refusal kind n byte2) ≡ true
    → (is_board_kind kind ≡ true) × In n longest_side × In byte2 (largest_byte2 kind)
accepted_start kind n byte2 h =
    let (a, h₁) = passed (is_board_kind kind) _ _ (λ e. omega (arith, e)) (eqb-true _ 0 h) in
    let (b, h₂) = passed (within n longest_side) _ _ (λ e. omega (arith, e)) h₁ in
    let (c, h₃) = passed (within byte2 (largest_byte2 kind)) _ _ (λ e. omega (arith, e)) h₂ in
    (a, within_in n longest_side b, within_in byte2 (largest_byte2 kind) c)

pub accepted_add : (there : Bool) (free : ℕ → Bool) (m : ℕ) (l : List ℕ) → accepted (add_refusal there free m l) ≡ true
    → In m largest_net × (there ≡ false) × (2 ≤ length l) × (first_wrong free [] l ≡ length l)
unfolding add_refusal
accepted_add there free m l h =
    let (a, h₁) = passed (within m largest_net) _ _ (λ e. omega (arith, e)) (eqb-true _ 0 h) in
    let (b, h₂) = passed (not there) _ _ (λ e. omega (arith, e)) h₁ in
    let (c, h₃) = passed (leb 2 (length l)) _ _ (λ e. omega (arith, e)) h₂ in
    let (d, h₄) = passed (eqb (first_wrong free [] l) (length l)) _ _ (λ e. omega (arith, e)) h₃ in
    (within_in m largest_net a, not-true there b, leb-true 2 (length l) c, eqb-true _ _ d)

-- the checks of a drop, in their order
module _ (there : ℕ → Bool) (l : List ℕ) where
  pub first_absent_lem : first_absent there l ≢ length l → drop_refusal there l ≡ refusal 22 (get_or l (first_absent there l) 0)
  unfolding drop_refusal
  first_absent_lem ne = rw (ne_eqb (first_absent there l) (length l) ne)

  module _ (all : first_absent there l ≡ length l) where
    pub first_repeat_lem : first_repeat l ≢ length l → drop_refusal there l ≡ refusal 23 (first_repeat l)
    unfolding drop_refusal
    first_repeat_lem ne = rw (eq-eqb (first_absent there l) (length l) all, ne_eqb (first_repeat l) (length l) ne)

    pub no_repeat : first_repeat l ≡ length l → drop_refusal there l ≡ refusal 0 0
    unfolding drop_refusal
    no_repeat new = rw (eq-eqb (first_absent there l) (length l) all, eq-eqb (first_repeat l) (length l) new)

  pub accepted_drop : accepted (drop_refusal there l) ≡ true → (first_absent there l ≡ length l) × (first_repeat l ≡ length l)
  accepted_drop h = by_cases (ℕ_discrete (first_absent there l) (length l))
      (λ all. by_cases (ℕ_discrete (first_repeat l) (length l))
      (λ new. (all, new))
      (λ ne. absurd (true≢false (sym h ∙ ap accepted (first_repeat_lem all ne)))))
      (λ ne. absurd (true≢false (sym h ∙ ap accepted (first_absent_lem ne))))

module _ (free : ℕ → Bool) where
  pub none_wrong : (earlier : List ℕ) → first_wrong free earlier [] ≡ 0
  unfolding first_wrong
  none_wrong earlier = refl

  -- a wrong place is the first wrong one; after a right one the count goes on
  pub wrong_here : (earlier : List ℕ) (v : ℕ) (l : List ℕ) → free v && not (listed earlier v) ≡ false → first_wrong free earlier (v ∷ l) ≡ 0
  unfolding first_wrong
  wrong_here earlier v l e = rw e

  pub right_here : (earlier : List ℕ) (v : ℕ) (l : List ℕ) → free v && not (listed earlier v) ≡ true
      → first_wrong free earlier (v ∷ l) ≡ suc (first_wrong free (earlier ++ (v ∷ [])) l)
  unfolding first_wrong
  right_here earlier v l e = rw e

  -- the first place of a list without a wrong one is free and new, and those after it are not wrong
  pub first_right : (earlier : List ℕ) (v : ℕ) (l : List ℕ) → first_wrong free earlier (v ∷ l) ≡ length (v ∷ l)
      → (free v ≡ true) × (listed earlier v ≡ false) × (first_wrong free (earlier ++ (v ∷ [])) l ≡ length l)
  first_right earlier v l h =
      split (free v && not (listed earlier v))
      (λ e.
      let b = (and-eq-true_iff (free v) (not (listed earlier v))).0 e in
      (b.0, not-true (listed earlier v) b.1, omega (arith, right_here earlier v l e)))
      (λ e. absurd (omega (arith, wrong_here earlier v l e)))

  pub all_free : (earlier l : List ℕ) → first_wrong free earlier l ≡ length l → (v : ℕ) → listed l v ≡ true → free v ≡ true
  unfolding listed
  all_free earlier [] h v e = absurd (true≢false (sym e))
  all_free earlier (x ∷ l) h v e =
      let (f, g, more) = first_right earlier x l h in
      split (eqb x v) (λ same. subst (λ (y : ℕ). free y ≡ true) (eqb-true x v same) f)
      (λ other. all_free (earlier ++ (x ∷ [])) l more v (sym (ap (λ (t : Bool). t || listed l v) other) ∙ e))

-- ---- a list, one after the other

-- how many places are right, where the first i are
abbrev pub Counting : (ℕ → Bool) → List ℕ → ℕ → Type 0
Counting free l i = first_wrong free [] l ≡ i + first_wrong free (take i l) (drop i l)

module _ (free : ℕ → Bool) (l : List ℕ) (i : ℕ) (h : i < length l) where
  -- the place at i is free and new, or it is the first wrong one
  pub wrong_at : Counting free l i → free (get_or l i 0) && not (listed (take i l) (get_or l i 0)) ≡ false → i ≡ first_wrong free [] l
  wrong_at e wrong =
      omega (arith, e, ap (first_wrong free (take i l)) (drop-cons l i 0 h), wrong_here free (take i l) (get_or l i 0) (drop (suc i) l) wrong)

  pub right_at : Counting free l i → free (get_or l i 0) && not (listed (take i l) (get_or l i 0)) ≡ true → Counting free l (i + 1)
  right_at e right =
      let more = right_here free (take i l) (get_or l i 0) (drop (suc i) l) right in
      let next : first_wrong free (take i l ++ (get_or l i 0 ∷ [])) (drop (suc i) l) ≡ first_wrong free (take (i + 1) l) (drop (i + 1) l) =
      rw (add-one i, take-suc l i 0 h) in
      omega (arith, e, ap (first_wrong free (take i l)) (drop-cons l i 0 h), more, next)

pub all_right : (free : ℕ → Bool) (l : List ℕ) (i : ℕ) → i ≡ length l → Counting free l i → i ≡ first_wrong free [] l
all_right free l i e c =
    omega (arith, c, ap (first_wrong free (take i l)) (ap (λ (k : ℕ). drop k l) e ∙ drop-length l), none_wrong free (take i l))

-- ---- lists of nets

module _ (there : ℕ → Bool) where
  pub none_absent : first_absent there [] ≡ 0
  unfolding first_absent
  none_absent = refl

  -- a number that is absent is the first absent one; after one that is there the count goes on
  pub absent_here : (m : ℕ) (l : List ℕ) → within m largest_net && there m ≡ false → first_absent there (m ∷ l) ≡ 0
  unfolding first_absent
  absent_here m l e = rw e

  pub there_here : (m : ℕ) (l : List ℕ) → within m largest_net && there m ≡ true → first_absent there (m ∷ l) ≡ suc (first_absent there l)
  unfolding first_absent
  there_here m l e = rw e

  pub absent_le : (l : List ℕ) → first_absent there l ≤ length l
  absent_le [] = omega (arith, none_absent)
  absent_le (m ∷ l) =
      split (within m largest_net && there m)
      (λ here. omega (arith, there_here m l here, absent_le l))
      (λ away. omega (arith, absent_here m l away))

  -- how many are there, where the first i are
  abbrev pub CountingThere : List ℕ → ℕ → Type 0
  CountingThere l i = first_absent there l ≡ i + first_absent there (drop i l)

  pub absent_at : (l : List ℕ) (i : ℕ) → i < length l → CountingThere l i
      → within (get_or l i 0) largest_net && there (get_or l i 0) ≡ false → i ≡ first_absent there l
  absent_at l i h e away = omega (arith, e, ap (first_absent there) (drop-cons l i 0 h), absent_here (get_or l i 0) (drop (suc i) l) away)

  pub there_at : (l : List ℕ) (i : ℕ) → i < length l → CountingThere l i
      → within (get_or l i 0) largest_net && there (get_or l i 0) ≡ true → CountingThere l (i + 1)
  there_at l i h e here =
      let next : first_absent there (drop (suc i) l) ≡ first_absent there (drop (i + 1) l) = rw (add-one i) in
      omega (arith, e, ap (first_absent there) (drop-cons l i 0 h), there_here (get_or l i 0) (drop (suc i) l) here, next)

  pub all_at : (l : List ℕ) (i : ℕ) → i ≡ length l → CountingThere l i → i ≡ first_absent there l
  all_at l i e c = omega (arith, c, ap (first_absent there) (ap (λ (k : ℕ). drop k l) e ∙ drop-length l), none_absent)

  -- where none is absent, each is a net that is there
  pub all_there : (l : List ℕ) → first_absent there l ≡ length l → (x : ℕ) → listed l x ≡ true → In x largest_net × (there x ≡ true)
  unfolding listed
  all_there [] h x e = absurd (true≢false (sym e))
  all_there (m ∷ l) h x e =
      split (within m largest_net && there m)
      (λ here. split (eqb m x)
      (λ same.
      let b = (and-eq-true_iff (within m largest_net) (there m)).0 here in
      subst (λ (y : ℕ). In y largest_net × (there y ≡ true)) (eqb-true m x same) (within_in m largest_net b.0, b.1))
      (λ other. all_there l (omega (arith, h, there_here m l here)) x (sym (ap (λ (t : Bool). t || listed l x) other) ∙ e)))
      (λ away. absurd (omega (arith, h, absent_here m l away)))

  -- a list of one net that is there is accepted
  pub one_accepted : (m : ℕ) → In m largest_net → there m ≡ true → accepted (drop_refusal there (m ∷ [])) ≡ true
  unfolding drop_refusal first_absent first_wrong listed
  one_accepted m i e = rw (within_of m largest_net i, e)

-- an entry of a list without repeats is none of those before it
new_after : (free : ℕ → Bool) (earlier l : List ℕ) → first_wrong free earlier l ≡ length l → (i : ℕ) → i < length l
    → listed (earlier ++ take i l) (get_or l i 0) ≡ false
new_after free earlier [] h i less = absurd (omega arith)
new_after free earlier (v ∷ l) h zero less =
    ap (λ (k : List ℕ). listed k v) (append-nil earlier) ∙ (first_right free earlier v l h).1
new_after free earlier (v ∷ l) h (suc i) less =
    ap (λ (k : List ℕ). listed k (get_or l i 0)) (sym (append_assoc earlier (v ∷ []) (take i l)))
    ∙ new_after free (earlier ++ (v ∷ [])) l (first_right free earlier v l h).2 i (omega arith)

pub new_at : (l : List ℕ) → first_repeat l ≡ length l → (i : ℕ) → i < length l → listed (take i l) (get_or l i 0) ≡ false
new_at = new_after (λ v. true) []
