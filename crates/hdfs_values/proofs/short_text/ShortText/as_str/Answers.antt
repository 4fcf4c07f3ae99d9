use Rattle.std.proofs.lemmas.Str.{IsUtf8-had}
use Rattle.hdfs_values.proofs.short_text.ShortText.as_str.Goals as goal

pub from_utf8_unchecked-requires : goal.from_utf8_unchecked-requires
from_utf8_unchecked-requires c =
    let held = rw c.in-Inline.is at c.self.invariant in
    rw c.from.ensures (IsUtf8-had _ held.2)
