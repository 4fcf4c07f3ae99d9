use Rattle.std.proofs.Common.{◌≡◌, ◌∙◌, ℕ, Bool, true, false, not, Option, Some, refl, ap}
use Rattle.hdfs_values.proofs.Texts.{same_is}
use Rattle.flat_rows.specs.declared.takeover.Sought.{Sought}
use Rattle.file_takeovers.proofs.SoughtFiles.{held_is}
use Rattle.file_takeovers.proofs.sought.held_by.Goals as goal

equal : (b : Bool) → false ≡ not b → b ≡ true
equal true e = refl
equal false e = cc

pub returns-clause-sought : goal.returns-clause-sought
returns-clause-sought c = λ expiry among.
    let made = λ (block : Option ℕ). let sought : Sought = record { holder = Some c.in-Open.holder; block = block } in sought in
    held_is expiry c.args.client.now c.in-Open.holder c.args.file.now c.in_ok-sought.sought c.in-Open.is (same_is c.args.client.now c.in-Open.holder (equal _ c.if-ne.ensures)) (c.in_ok-sought.ensures ∙ ap made c.in-Some.ensures) among
