-- "Each refusal is a number and a place, counted from 0; the answer's other fields are 0. Otherwise number and place are 0".
--
--   refusal number place   the refusal of this number and place; 0 and 0 where nothing is refused
--   accepted r             nothing is refused
--   unless t r s           r where the test t fails, else s: a list of checks in their order
use Rattle.std.specs.Prelude.{ℕ, Bool, cond, eqb}
use Rattle.terms.specs.declared.Refusal.{Refusal}

abbrev pub refusal : ℕ → ℕ → Refusal
refusal number place = record { number = number; place = place }

abbrev pub accepted : Refusal → Bool
accepted r = eqb r.number 0

abbrev pub unless : {A : Type 0} → Bool → A → A → A
unless t r s = cond t s r
