use Rattle.std.proofs.Common.{rules}
use Rattle.file_paths.proofs.name.is_name.Goals as goal

pub returns-then-are_name_bytes : goal.returns-then-are_name_bytes
returns-then-are_name_bytes c = search rules

pub returns-else-are_name_bytes : goal.returns-else-are_name_bytes
returns-else-are_name_bytes c = search rules
