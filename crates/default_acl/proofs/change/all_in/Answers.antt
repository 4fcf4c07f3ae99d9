use Rattle.std.proofs.Common.{Result, Ok, Err, sym, subst}
use Rattle.std.specs.Prelude.{IfOk}
use Rattle.partial_acl.specs.Answers.{IsPartialList}
use Rattle.default_acl.proofs.Partials.{all_good}
use Rattle.default_acl.proofs.change.all_in.Goals as goal

if_ok : {T E : Type 0} {P Q : T → Type 0} (r : Result T E) → ((x : T) → P x → Q x) → IfOk r P → IfOk r Q
if_ok (Ok x) f h = f x h
if_ok (Err e) f h = h

pub returns-in-Some-clause-entries : goal.returns-in-Some-clause-entries
returns-in-Some-clause-entries c = if_ok c.all_of.result (λ all is. subst IsPartialList (sym is) (all_good c.in-Some.list.now c.all_of.ensures.entries)) c.all_of.ensures.all
