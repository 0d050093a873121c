-- `read_u64` meets its contract: its bytes are there, or not.
use Rattle.little_endian.proofs.EndianLaws.{eight_from}
use Rattle.little_endian.proofs.read_u64.Goals as goal

pub returns : goal.returns
returns c = eight_from _ _ c.bytes_at.result _ c.bytes_at.ensures c.map_or.ensures
