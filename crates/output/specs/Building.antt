-- Bytes as our own functions build them. No promise of a public call cites it.
--
--   most_output    the bytes that can be built
--   Says out l     what is built so far is l
--   Adds out l r   r is what out was, and then l
use Rattle.std.specs.Prelude.{ℕ, ◌+◌, ◌≡◌, List, ◌++◌, length, take}
use Rattle.output.specs.declared.Output.{Output}

abbrev pub most_output : ℕ
most_output = 412

pub record Says (out : Output) (l : List ℕ) : Type 0 where
  pub size : out.used ≡ length l
  pub bytes : take out.used out.bytes ≡ l

pub record Adds (out : Output) (l : List ℕ) (r : Output) : Type 0 where
  pub size : r.used ≡ out.used + length l
  pub bytes : take r.used r.bytes ≡ take out.used out.bytes ++ l
