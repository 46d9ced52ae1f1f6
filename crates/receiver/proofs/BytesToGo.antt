-- bytes_to_go: what the code's i32 and its word stand for. Assumes nothing.
use mir.ValLaws.{to_z-of_z, to_z_pos}
use Rattle.ground.proofs.Signed.{signed_to_z, unsigned_of_z, zero_bits}

pub ruleset numbers = (to_z-of_z, to_z_pos, signed_to_z, unsigned_of_z, zero_bits)
