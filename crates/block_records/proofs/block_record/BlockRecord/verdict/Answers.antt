use Rattle.std.proofs.Common.{rules}
use Rattle.block_records.proofs.block_record.BlockRecord.verdict.Goals as goal

pub returns-then-agrees : goal.returns-then-agrees
returns-then-agrees c = search rules
