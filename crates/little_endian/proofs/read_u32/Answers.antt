-- `read_u32` meets its contract: its bytes are there, or not.
use Rattle.little_endian.proofs.EndianLaws.{four_from}
use Rattle.little_endian.proofs.read_u32.Goals as goal

pub returns : goal.returns
returns c = four_from _ _ c.bytes_at.result _ c.bytes_at.ensures c.map_or.ensures
