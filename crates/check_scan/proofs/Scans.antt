-- The loops over pins and points, one entry more at a time.
use Prim.Native.Nat.{ℕ, ◌+◌, ◌≤◌, ◌<◌, min}
use mathlib.Core.Path.{◌≡◌, sym, ap, ◌∙◌, subst}
use mathlib.Core.Logic.{inl, inr, ◌≢◌, ⊎_elim}
use mathlib.Core.List.{List}
use native.Mathlib.Omega.{arith}
use borrow.Author.Tests.{eq-eqb, ne_eqb}
use lib.Dec.{eqb}
use mir.Val.{bool_byte}
use native.Mathlib.Decide.{ℕ_discrete, dec_lt, dec_le}
use lib.ListN.{length, set, replicate, length-replicate, get_or-replicate, get_or-eq_default}
use lib.Seq.{get_or-set_same, get_or-set_other}
use Rattle.terms.specs.Limits.{byte_values}
use Rattle.check_link.specs.Marks.{at}
use Rattle.check_sweep.specs.Reached.{Spot, a_pin, a_point, val}
use Rattle.check_scan.specs.Scan.{Holder, First, Opened, Bare, Lowest, LowestOf, no_net}

-- ---- cleared entries

pub clear_all : (n : ℕ) (q : ℕ) → at (replicate n 0) q ≡ 0
clear_all n q = elim (dec_lt q n) [ yes h ↦ get_or-replicate n q 0 0 h | no o ↦ get_or-eq_default (replicate n 0) 0 (rw length-replicate (omega arith)) ]

-- ---- the nets of the pins

pub opened_start : (p s : List ℕ) → Opened p s (set (replicate byte_values 0) 0 1) 0
opened_start p s =
    record {
      first = λ a h. absurd (omega arith);
      marked = λ a h. absurd (omega arith);
      known = λ v h ne. elim (ℕ_discrete v 0) [
        | yes e ↦ inl e
        | no n ↦ absurd (ne (get_or-set_other (replicate byte_values 0) 0 v 1 0 n
            ∙ get_or-replicate byte_values v 0 0 h))
      ];
      unknown = λ v h z. (λ e. zero v z e, λ o. omega (arith, o.1));
    }
  where
    zero : (v : ℕ) → at (set (replicate byte_values 0) 0 1) v ≡ 0 → v ≡ 0 → ⊥
    zero v z e =
        let o : at (set (replicate byte_values 0) 0 1) v ≡ 1 = ap (at (set (replicate byte_values 0) 0 1)) e ∙ get_or-set_same (replicate byte_values 0) 0 1 0
        (rw length-replicate (omega arith)) in
        omega arith

module _ (p s k : List ℕ) (a r : ℕ) (opened : Opened p s k a) (in_s : a < length s) (in_k : at p a < length k) (byte : at p a < byte_values)
    (new : at k (at p a) ≡ 0 → r ≢ 0) (old : at k (at p a) ≢ 0 → r ≡ 0) where
  new_known : r ≢ 0 → at k (at p a) ≡ 0
  new_known h = elim (ℕ_discrete (at k (at p a)) 0) [ yes z ↦ z | no n ↦ absurd (h (old n)) ]

  new_first : r ≢ 0 → First p a
  new_first h =
      let u = opened.unknown (at p a) byte (new_known h) in
      record { some = u.0; none = λ b l e. u.1 (b, l, e) }

  first_new : First p a → r ≢ 0
  first_new f =
      elim (ℕ_discrete (at k (at p a)) 0) [
        | yes z ↦ new z
        | no n ↦ absurd (⊎_elim f.some (λ o. f.none o.0 o.1 o.2) (opened.known (at p a) byte n))
      ]

  opened_more : Opened p (set s a r) (set k (at p a) 1) (a + 1)
  opened_more =
      record {
        first = λ b h. elim (ℕ_discrete b a) [
          | yes e ↦ λ ne. subst (First p) (sym e) (new_first (λ z. ne (ap (at (set s a r)) e ∙ get_or-set_same s a r 0 in_s ∙ z)))
          | no n ↦ λ ne. opened.first b (omega arith) (λ z. ne (get_or-set_other s a b r 0 n ∙ z))
        ];
        marked = λ b h f. elim (ℕ_discrete b a) [
          | yes e ↦ λ z. first_new (subst (First p) e f) (sym (get_or-set_same s a r 0 in_s) ∙ sym (ap (at (set s a r)) e) ∙ z)
          | no n ↦ λ z. opened.marked b (omega arith) f (sym (get_or-set_other s a b r 0 n) ∙ z)
        ];
        known = λ v h ne. elim (ℕ_discrete v (at p a)) [
          | yes e ↦ inr (a, omega arith, sym e)
          | no n ↦ ⊎_elim inl (λ o. inr (o.0, omega (arith, o.1), o.2)) (opened.known v h (λ z. ne (get_or-set_other k (at p a) v 1 0 n ∙ z)))
        ];
        unknown = λ v h z. elim (ℕ_discrete v (at p a)) [
          | yes e ↦ absurd (omega (arith, z, ap (at (set k (at p a) 1)) e, get_or-set_same k (at p a) 1 0 in_k))
          | no n ↦
              let u = opened.unknown v h (sym (get_or-set_other k (at p a) v 1 0 n) ∙ z) in
              (u.0, λ o. earlier v n u.1 o.0 o.1 o.2)
        ];
      }
    where
      earlier : (v : ℕ) → v ≢ at p a → (Holder p a v → ⊥) → (b : ℕ) → b < a + 1 → at p b ≡ v → ⊥
      earlier v n none b l e = elim (ℕ_discrete b a) [ yes q ↦ n (sym e ∙ ap (at p) q) | no o ↦ none (b, omega arith, e) ]

-- the same, with the number of the pin under another name, and the mark as a byte of the test
pub opened_at : (p s k : List ℕ) (a v r : ℕ) → v ≡ at p a → r ≡ bool_byte (eqb (at k v) 0) → Opened p s k a → a < length s → at p a < length k
    → at p a < byte_values → Opened p (set s a r) (set k v 1) (a + 1)
opened_at p s k a v r e is o i j b =
    subst (λ (u : ℕ). Opened p (set s a r) (set k u 1) (a + 1)) (sym e)
    (opened_more p s k a r o i j b
    (λ z u. (let one : r ≡ 1 = is ∙ ap bool_byte (eq-eqb _ _ (ap (at k) e ∙ z)) in omega arith))
    (λ ne. is ∙ ap bool_byte (ne_eqb _ _ (λ z. ne (sym (ap (at k) e) ∙ z)))))

-- ---- the smallest net without a mark

pub lowest_none : (x m : List ℕ) → Lowest x m 0 no_net
lowest_none x m = record { small = omega arith; under = λ a h. absurd (omega arith); has = λ h. absurd (omega arith) }

pub lowest_more : (x m : List ℕ) (q best u r : ℕ) → Lowest x m q best → Bare (at x q) (at m q) u → r ≡ min best u → Lowest x m (q + 1) r
lowest_more x m q best u r l b s =
    record {
      small = omega (arith, l.small);
      under = λ a h ne z. elim (ℕ_discrete a q) [
        | yes e ↦ omega (arith, b.net (λ o. ne (ap (at x) e ∙ o)) (sym (ap (at m) e) ∙ z), ap (at x) e)
        | no n ↦ omega (arith, l.under a (omega arith) ne z)
      ];
      has = λ h. elim (dec_le best u) [
        | yes c ↦
            let e : r ≡ best = omega arith in
            let o = l.has (omega arith) in
            (o.0, omega (arith, o.1), o.2 ∙ sym e, o.3, λ z. o.4 (sym e ∙ z))
        | no c ↦
            let e : r ≡ u = omega arith in
            let o = b.has (omega arith) in
            (q, omega arith, o.0 ∙ sym e, o.1, λ z. o.2 (sym e ∙ z))
      ];
    }

inside : (x : List ℕ) (q : ℕ) → at x q ≢ 0 → q < length x
inside x q ne = elim (dec_lt q (length x)) [ yes h ↦ h | no n ↦ absurd (ne (get_or-eq_default x 0 (omega arith))) ]

module _ (p s x m : List ℕ) (a b r : ℕ) (pins : Lowest p s (length p) a) (points : Lowest x m (length x) b) (least : r ≡ min a b) where
  none_under : (c : Spot) → val p x c ≢ 0 → val s m c ≡ 0 → r ≤ val p x c
  none_under (a_pin c) ne z = omega (arith, pins.under c (inside p c ne) ne z)
  none_under (a_point c) ne z = omega (arith, points.under c (inside x c ne) ne z)

  pub lowest_of : r ≢ no_net → LowestOf p s x m r
  lowest_of ne =
      record {
        under = λ c nz h o z. ⊎_elim (λ e. absurd (holder.2 e)) (λ l. absurd (omega (arith, none_under c nz z))) o;
        has = λ nz. (holder.0, holder.1.0, holder.1.1);
      }
    where
      small : r < no_net
      small = let h : r ≤ no_net = omega (arith, pins.small) in omega arith

      holder : (c : Spot) × ((val p x c ≡ r) × (val s m c ≡ 0)) × (r ≢ 0)
      holder = elim (dec_le a b) [
        | yes c ↦
            let e : r ≡ a = omega arith in
            let o = pins.has (omega (arith, small)) in
            (a_pin o.0, (o.2 ∙ sym e, o.3), λ z. o.4 (sym e ∙ z))
        | no c ↦
            let e : r ≡ b = omega arith in
            let o = points.has (omega (arith, small)) in
            (a_point o.0, (o.2 ∙ sym e, o.3), λ z. o.4 (sym e ∙ z))
      ]
