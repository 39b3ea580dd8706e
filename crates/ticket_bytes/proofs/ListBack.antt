-- A run of values that are the bytes of a list from a place on, with what the list has after it, is all that the list has from there on.
use Prim.Native.Nat.{ℕ, zero, suc, ◌+◌, ◌≤◌, ◌<◌}
use mathlib.Core.List.{List, ◌∷◌, ◌++◌}
use mathlib.Core.Path.{◌≡◌, sym, ap, ap₂, ◌∙◌}
use native.Mathlib.Nat.{add-zero}
use native.Mathlib.Omega.{arith}
use lib.ListN.{length, drop}
use lib.Seq.{drop-cons}
use Rattle.ticket_sides.specs.Format.{byte, values_from}

pub values_drop : (s : List ℕ) (f : ℕ → ℕ) (i from k : ℕ) → from + k ≤ length s → ((x : ℕ) → x < k → f (i + x) ≡ byte s (from + x))
    → values_from f i k ++ drop (from + k) s ≡ drop from s
unfolding values_from
values_drop s f i from zero h e = ap (λ (x : ℕ). drop x s) (add-zero from)
values_drop s f i from (suc k) h e =
    let up : from + suc k ≡ suc from + k = omega arith in
    let here : f i ≡ byte s from = ap f (sym (add-zero i)) ∙ e 0 (omega arith) ∙ ap (byte s) (add-zero from) in
    let rest = values_drop s f (suc i) (suc from) k (omega arith) (λ x lt. next x (e (suc x) (omega arith))) in
    ap₂ {C = List ℕ} (λ x l. x ∷ l) here (ap (λ (x : ℕ). values_from f (suc i) k ++ drop x s) up ∙ rest)
    ∙ sym (drop-cons s from 0 (omega arith))
  where
    next : (x : ℕ) → f (i + suc x) ≡ byte s (from + suc x) → f (suc i + x) ≡ byte s (suc from + x)
    next x q =
        let a : suc i + x ≡ i + suc x = omega arith in
        let b : from + suc x ≡ suc from + x = omega arith in
        ap f a ∙ q ∙ ap (byte s) b
