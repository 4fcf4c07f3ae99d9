use Rattle.std.proofs.Common.{sym, subst}
use Rattle.std.specs.Str.{IsUtf8}
use Rattle.cluster_text.proofs.Digits.{digits_are_text}
use Rattle.cluster_text.proofs.node_reply.push_spelled.Goals as goal

pub from_utf8_unchecked-requires : goal.from_utf8_unchecked-requires
from_utf8_unchecked-requires c = subst IsUtf8 (sym c.spell.ensures) (digits_are_text c.args.bytes.now)
