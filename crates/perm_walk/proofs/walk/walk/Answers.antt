use Rattle.std.proofs.Common.{◌≡◌, ◌∙◌, sym, subst}
use Rattle.std.specs.Prelude.{IfOk}
use Rattle.std.specs.List.{flat_map}
use Rattle.flat_rows.specs.Decision.{asks_of, denial_of}
use Rattle.perm_walk.proofs.Denials.{first_of_all, superuser_meets}
use Rattle.perm_walk.proofs.walk.walk.Goals as goal

pub returns-then-is_superuser : goal.returns-then-is_superuser
returns-then-is_superuser c =
    superuser_meets c.args.caller.now (sym c.is_superuser.ensures ∙ c.if-is_superuser.true)
    (flat_map (asks_of c.args.tree.now) c.args.needs.now)

pub returns : goal.returns
returns c =
    subst (λ denial. IfOk c.first_denial.result (λ found. found ≡ denial)) (first_of_all (denial_of c.args.caller.now) (asks_of c.args.tree.now) c.args.needs.now)
    (rw c.as_slice-demands.ensures at c.first_denial.ensures.denial)
