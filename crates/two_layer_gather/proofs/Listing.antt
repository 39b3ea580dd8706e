-- Operations are listed one after the other: what is known of those listed stays.
use Rattle.std.proofs.Common.{ℕ, ◌<◌, refl, List, [], ◌∷◌, ◌++◌, length, get_or, arith, length-append}
use Rattle.std.proofs.lemmas.List.{get_or_push, get_or_append_left}
use mathlib.Core.Logic.{by_cases}
use native.Mathlib.Decide.{ℕ_discrete}
use Rattle.two_layer_cuts.specs.declared.Operation.{Operation}
use Rattle.two_layer_cuts.specs.Rows.{no_operation}

-- P tells of operation s what it is
pub record Held (P : ℕ → Operation → Type 0) (list : List Operation) : Type 0 where
  pub is : (s : ℕ) → s < length list → P s (get_or list s no_operation)

pub held_none : (P : ℕ → Operation → Type 0) → Held P []
held_none P = record { is = λ s l. absurd (omega arith) }

pub held_more : (P : ℕ → Operation → Type 0) (list : List Operation) (x : Operation) → Held P list → P (length list) x
    → Held P (list ++ x ∷ [])
held_more P list x held p = record {
  is = λ s l. by_cases (ℕ_discrete s (length list))
      (λ e. rw (e, get_or_push list x no_operation (length list) refl) p)
      (λ d.
      let k : s < length list = omega (arith, length-append list (x ∷ []), d) in
      rw (get_or_append_left list (x ∷ []) no_operation s k) (held.is s k));
}
