use Rattle.std.proofs.Common.{lit<, sym, subst}
use Rattle.hdfs_values.specs.Parsed.{ParsesInParts}
use Rattle.hdfs_values.specs.declared.fault.IllFormed.TheVariants.{BadLine}
use Rattle.cluster_text.specs.Words.{bytes_by}
use Rattle.cluster_text.proofs.Spelled.{no_star, star}
use Rattle.cluster_text.proofs.payload.bytes_in.Goals as goal

pub returns-in-Some : goal.returns-in-Some
returns-in-Some c =
    let cut = c.in-Some.ensures.byte (lit< tt) (λ w o f. f) in
    subst (λ pieces. ParsesInParts BadLine c.repeated_once.result (bytes_by pieces)) (sym (star c.args.word.now c.in-Some.times.now c.in-Some.digits.now cut.0 cut.1 cut.2)) c.repeated_once.ensures

pub returns-in-None : goal.returns-in-None
returns-in-None c = subst
    (λ pieces. ParsesInParts BadLine c.listed.result (bytes_by pieces))
    (sym (no_star c.args.word.now (c.in-None.ensures.byte (lit< tt) (λ w o f. f))))
    c.listed.ensures
