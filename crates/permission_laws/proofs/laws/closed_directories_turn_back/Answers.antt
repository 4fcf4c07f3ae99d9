use Rattle.std.proofs.Common.{◌∙◌, Option, ap}
use Rattle.flat_rows.specs.Denial.{Denial}
use Rattle.flat_rows.specs.Outcome.{denied_or_outcome}
use Rattle.flat_rows.proofs.Judging.{while_checking}
use Rattle.permission_laws.proofs.Checked.{denied_anyway}
use Rattle.permission_laws.proofs.Endings.{denied}
use Rattle.permission_laws.proofs.Traversal.{turned, reached}
use Rattle.permission_laws.proofs.laws.closed_directories_turn_back.Goals as goal

pub returns-clause-turned : goal.returns-clause-turned
returns-clause-turned c = λ a path directory namespace on named up at shut.
    let turn = turned a.rows namespace a.users a.caller directory at shut a.op path named up in
    let decided = while_checking a.rows a.users a.caller a.op on ∙ turn.decided in
    record {
      denial = turn.denial;
      verdict = ap (λ (d : Option Denial). (denied_or_outcome a.facts a.rows a.users a.caller a.op d).verdict) decided;
      stands = turn.stands_there;
      shut = turn.shut;
      above = turn.above;
      on_the_way = turn.on_way;
      rows = ap (λ (d : Option Denial). (denied_or_outcome a.facts a.rows a.users a.caller a.op d).rows) decided;
      users = ap (λ (d : Option Denial). (denied_or_outcome a.facts a.rows a.users a.caller a.op d).users) decided;
    }

pub returns-clause-told : goal.returns-clause-told
returns-clause-told c = λ a denial directory namespace verdict up at.
    reached a.rows namespace a.users a.caller a.op denial (denied_anyway a.rows a.users a.caller a.op denial (denied a.facts a.rows a.users a.caller a.op denial verdict)) directory at up
