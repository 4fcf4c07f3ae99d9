use Rattle.std.proofs.Common.{◌∷◌, lit<, refl, sym, subst}
use Rattle.hdfs_values.specs.Parsed.{ParsesInParts}
use Rattle.hdfs_values.specs.declared.fault.IllFormed.TheVariants.{BadLine}
use Rattle.cluster_text.specs.Words.{bytes_by}
use Rattle.cluster_text.proofs.Spelled.{no_star, two_stars}
use Rattle.cluster_text.proofs.payload.repeated_once.Goals as goal

pub returns-in-Some : goal.returns-in-Some
returns-in-Some c = (refl, two_stars c.args.times.now c.args.digits.now (c.in-Some.ensures.byte (lit< tt) (λ w o f. f)).2)

pub returns-in-None : goal.returns-in-None
returns-in-None c = subst
    (λ pieces. ParsesInParts BadLine c.repeated.result (bytes_by (c.args.times.now ∷ pieces)))
    (sym (no_star c.args.digits.now (c.in-None.ensures.byte (lit< tt) (λ w o f. f))))
    c.repeated.ensures
