use Rattle.std.proofs.Common.{arith, w64}
use Rattle.std.proofs.lemmas.Nat.Bits.{bit_at-trailing_zeros}
use Rattle.script_words.proofs.next_blank.lowest.Goals as goal

pub returns : goal.returns
returns c =
    let told = bit_at-trailing_zeros w64 c.args.marks (omega (arith, c.requires)) c.ranges.marks.fits in
    record { set = told.1; below = told.2 }
