use Rattle.block_tokens.proofs.Names.{name_is_text}
use Rattle.block_tokens.proofs.reading.user_name.Goals as goal

pub from_utf8_unchecked-requires : goal.from_utf8_unchecked-requires
from_utf8_unchecked-requires c = name_is_text c.args.bytes.now c.if-not-is_who.ensures
