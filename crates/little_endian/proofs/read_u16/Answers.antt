-- `read_u16` meets its contract: its bytes are there, or not.
use Rattle.little_endian.proofs.EndianLaws.{two_from}
use Rattle.little_endian.proofs.read_u16.Goals as goal

pub returns : goal.returns
returns c = two_from _ _ c.bytes_at.result _ c.bytes_at.ensures c.map_or.ensures
