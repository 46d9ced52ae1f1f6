-- "The station program", its sample: five records and their five lines. Assumes nothing.
use Rattle.std.specs.Prelude.{◌≡◌, ℕ, List, [], ◌∷◌, ◌++◌, replicate}
use Rattle.ground.specs.Bytes.{to_bytes}
use Rattle.ground.specs.Text.{ascii}
use Rattle.rules.specs.Station.{station}

-- A record of a kind and two numbers, without a packet.
abbrev rec : ℕ → ℕ → ℕ → List ℕ
rec kind first second = (kind ∷ 0 ∷ 0 ∷ 0 ∷ []) ++ to_bytes (first ∷ second ∷ 0 ∷ []) ++ replicate 176 0

-- "write 0 0x40030007; read 0; write 0x01C 0x20; send 1; write 0x01C 0".
abbrev input : List ℕ
input = rec 1 0 0x40030007 ++ rec 2 0 0 ++ rec 1 0x01C 0x20 ++ rec 4 1 0 ++ rec 1 0x01C 0

-- Its lines.
abbrev lines : List ℕ
lines = ascii "1 done 00000000 0\n2 done 40030007 0\n1 done 00000000 0\n4 quiet 00000000 0\n1 bad-value 00000000 0\n"

-- Three bytes more, a torn record.
abbrev torn : List ℕ
torn = 1 ∷ 0 ∷ 0 ∷ []

pub record Sample : Type 0 where
  pub five_records : station input ≡ lines
  pub torn_record : station (input ++ torn) ≡ lines ++ ascii "0 no-register 00000000 0\n"
