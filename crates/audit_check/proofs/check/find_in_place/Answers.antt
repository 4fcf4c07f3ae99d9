use Rattle.std.proofs.Common.{◌∙◌, sym, length}
use Rattle.history_replay.specs.Agreement.{Placed, Received, Opened}
use Rattle.audit_check.specs.Checking.{Standing}
use Rattle.audit_check.proofs.Finding.{none_found, last_found}
use Rattle.audit_check.proofs.check.find_in_place.Goals as goal

pub returns : goal.returns
returns c =
    last_found (Received (length c.args.begun.now) c.args.history.now c.args.passes.now) (Standing c.args.begun.now c.args.history.now c.args.passes.now) c.find_unreceived.result c.find_unreceived.ensures
    (λ pass index w. w.received)
    (λ pass index received. record {
      placed = none_found (Placed (length c.args.begun.now) c.args.history.now c.args.passes.now) c.find_misplaced-misplaced.result c.find_misplaced-misplaced.ensures (sym c.is_some-2.ensures ∙ c.if-is_some-2.false) pass index;
      received = received;
      opened = none_found (Opened c.args.begun.now c.args.history.now) c.find_lost-lost.result c.find_lost-lost.ensures (sym c.is_some.ensures ∙ c.if-is_some.false) pass index;
    })
