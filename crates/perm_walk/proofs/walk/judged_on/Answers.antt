use Rattle.std.proofs.Common.{◌∙◌, sym, subst}
use Rattle.flat_rows.specs.Decision.{asks_of, denial_of}
use Rattle.perm_walk.specs.Reached.{IsReach}
use Rattle.perm_walk.proofs.Denials.{first_of_all}
use Rattle.perm_walk.proofs.walk.judged_on.Goals as goal

pub returns-in-Some : goal.returns-in-Some
returns-in-Some c = sym (first_of_all (denial_of c.args.caller.now) (asks_of c.args.tree.now) c.args.demands.now) ∙ sym c.in_ok-denial.ensures.denial ∙ c.in-Some.is

pub returns-in-None : goal.returns-in-None
returns-in-None c = record {
  granted = sym (first_of_all (denial_of c.args.caller.now) (asks_of c.args.tree.now) c.args.demands.now) ∙ sym c.in_ok-denial.ensures.denial ∙ c.in-None.is;
  leads = subst (λ path. IsReach path c.args.tree.now c.reached.result) c.in_ok-denial.ensures.path c.reached.ensures;
}
