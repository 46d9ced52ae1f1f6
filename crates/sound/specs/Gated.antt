-- What the gate says of data memory and notice memory that are told by their lengths. Assumes nothing.
use Rattle.std.specs.Prelude.{Result, Ok, ⊤, ◌≡◌, ℕ, List, length}
use Rattle.rules.specs.declared.Saved.{Saved}
use Rattle.rules.specs.Memory.{machine}
use Rattle.rules.specs.Calls.{gate}
use Rattle.rules.specs.declared.Refusal.{Refusal}

-- The verdict is the gate's, whatever bytes and notices of these lengths the machine has.
pub record Gated (s : Saved) (send receive : List ℕ) (data_length n : ℕ) (v : Result ⊤ Refusal) : Type 0 where
  pub verdict : (bytes notices : List ℕ) → length bytes ≡ data_length → length notices ≡ n
      → v ≡ gate (machine s send receive bytes notices) (Ok tt)
