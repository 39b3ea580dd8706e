-- The states between the moves of a channel, as the inner functions' contracts cite them.
--
--   state_of cut at left           a state whose cut is a row and whose columns of nets are a table
--   Agree n st st'                 the same state, as far as rows and tables tell
--   leads_solid cut goal n         in both rows every column has a net, and not the same everywhere
--   LeastFound t n r               the first of 1 to n that passes the test t, if one does
--   Unblocked n goal cut r         the net in the first column that is wrong is moved to the first spare one, if a column is wrong
--   Moved n goal cut at left x t   x and t are the net and the column of the next move
--   Next n goal cut at left r      the next move, if all do not stand right
use Rattle.std.specs.Prelude.{ℕ, ◌≤◌, ◌<◌, ◌≡◌, ◌≢◌, List, Bool, not, ◌&&◌, eqb, leb, Option, None, Some}
use Rattle.counting.specs.Counting.{some, every, least}
use Rattle.terms.specs.Limits.{byte_values}
use Rattle.two_layer_law.specs.Moves.{MoveState, wrong, spare, moved, moved_to}
use Rattle.two_layer_cuts.specs.Rows.{item}
use Rattle.two_layer_plan.specs.declared.Move.{Move}

abbrev pub state_of : List ℕ → List ℕ → ℕ → MoveState
state_of cut at left = record { cut = item cut; at = item at; left = left }

pub record Agree (n : ℕ) (st st' : MoveState) : Type 0 where
  pub cuts : (c : ℕ) → c ≤ n → st.cut c ≡ st'.cut c
  pub ats : (m : ℕ) → m < byte_values → st.at m ≡ st'.at m
  pub lefts : st.left ≡ st'.left

abbrev pub leads_solid : (ℕ → ℕ) → (ℕ → ℕ) → ℕ → Bool
leads_solid cut goal n = every (λ c. leb 1 (cut c) && leb 1 (goal c)) n && some (λ c. not (eqb (cut c) (goal c))) n

abbrev pub LeastFound : (ℕ → Bool) → ℕ → Option ℕ → Type 0
LeastFound t n None = least t n ≡ 0
LeastFound t n (Some c) = least t n ≡ c

abbrev pub Unblocked : ℕ → (ℕ → ℕ) → (ℕ → ℕ) → Option Move → Type 0
Unblocked n goal cut None = least (wrong goal cut) n ≡ 0
Unblocked n goal cut (Some step) =
    (1 ≤ least (wrong goal cut) n) × (step.net ≡ cut (least (wrong goal cut) n)) × (step.net ≢ 0) × (step.to ≡ least (spare goal cut) n)

pub record Moved (n : ℕ) (goal cut at : ℕ → ℕ) (left x t : ℕ) : Type 0 where
  pub net : x ≡ moved n goal (record { cut = cut; at = at; left = left })
  pub column : t ≡ moved_to n goal (record { cut = cut; at = at; left = left })
  pub some : x ≢ 0

abbrev pub Next : ℕ → (ℕ → ℕ) → (ℕ → ℕ) → (ℕ → ℕ) → ℕ → Option Move → Type 0
Next n goal cut at left None = moved n goal (record { cut = cut; at = at; left = left }) ≡ 0
Next n goal cut at left (Some step) = Moved n goal cut at left step.net step.to
