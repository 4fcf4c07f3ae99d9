use Rattle.permission_bits.proofs.Digits.{four_are_text}
use Rattle.permission_bits.proofs.mode.ModeDisplay.fmt.Goals as goal

pub from_utf8_unchecked-requires : goal.from_utf8_unchecked-requires
from_utf8_unchecked-requires g c =
    four_are_text c.digit.result c.digit-2.result c.digit-3.result c.digit-4.result c.digit.ensures.ascii c.digit-2.ensures.ascii c.digit-3.ensures.ascii c.digit-4.ensures.ascii
