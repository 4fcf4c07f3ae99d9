use Rattle.std.proofs.Common.{ℕ, w8, refl, arith}
use Rattle.std.proofs.lemmas.Simd.{length-chunk, chunk-fits, zip2_splat, zip2_of_maps}
use lib.Bits.{bit_or}
use lib.Lanes.{chunk}
use Rattle.file_paths.specs.Marks.{ends_name}
use Rattle.file_paths.proofs.Marked.{hit, masked}
use Rattle.file_paths.proofs.marks.marks_at.Goals as goal

pub returns : goal.returns
returns g c =
    let n = g.row.N in
    let v = chunk c.args.at n c.args.bytes.now in
    let long = length-chunk c.args.at n c.args.bytes.now c.requires.room in
    let is = λ (y : ℕ). zip2_splat hit v n y long in
    masked _ ends_name v _ (omega (arith, long, c.requires.lanes.1)) (chunk-fits w8 c.args.at n c.args.bytes.now c.type_inv.bytes)
    (zip2_of_maps bit_or _ _ v (zip2_of_maps bit_or _ _ v (zip2_of_maps bit_or _ _ v (is 47) (is 58)) (is 0)) (is 10)) refl
