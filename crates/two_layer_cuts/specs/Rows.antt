-- Operations as a list, and cuts as arrays.
--
--   operations_in o  the operations that the array holds: the first so many as are counted
--   no_operation     what is read past the end of a list of operations
--   ops_of l         the list as operations
--   column_entries   the entries of a row with one for each column and one for 0
--   item list m      entry m of a list, counted from 0; 0 past its end
--   Row n f list     entry c of the list is f c, for each of columns 1 to n and for 0
use Rattle.std.specs.Prelude.{ℕ, ◌+◌, ◌≤◌, ◌≡◌, List, length, get_or, take}
use Rattle.terms.specs.Limits.{longest_side}
use Rattle.two_layer_law.specs.Cuts.{Ops}
use Rattle.two_layer_cuts.specs.declared.Operation.{Operation}
use Rattle.two_layer_cuts.specs.declared.list.Operations.{Operations}

unfoldable pub operations_in : Operations → List Operation
operations_in o = take o.count o.items

abbrev pub no_operation : Operation
no_operation = record { net = 0; to = 0; low = 0; high = 0 }

abbrev pub ops_of : List Operation → Ops
ops_of l =
    record {
      count = length l;
      net = λ s. (get_or l s no_operation).net;
      to = λ s. (get_or l s no_operation).to;
      low = λ s. (get_or l s no_operation).low;
      high = λ s. (get_or l s no_operation).high;
    }

abbrev pub column_entries : ℕ
column_entries = longest_side + 1

abbrev pub item : List ℕ → ℕ → ℕ
item list m = get_or list m 0

pub record Row (n : ℕ) (f : ℕ → ℕ) (list : List ℕ) : Type 0 where
  pub size : length list ≡ column_entries
  pub is : (c : ℕ) → c ≤ n → get_or list c 0 ≡ f c
