use Rattle.std.proofs.Common.{◌∙◌, sym, ap}
use Rattle.known_blocks.specs.Known.{KnownBlocks}
use Rattle.block_map.specs.BlockFacts.{Blocks}
use Rattle.block_map.specs.BlockEffects.{with_replica_invalid, reported_by}
use Rattle.block_map.proofs.Reporting.{superseded_valid, invalid_valid, stays, reported_as, on_ok, on_err}
use Rattle.block_map.proofs.blocks.Blocks.report.Goals as goal

pub returns-in-Superseded : goal.returns-in-Superseded
returns-in-Superseded c =
    let same = stays c.in_ok-report.field-0 c.args.node c.args.stamp c.args.length c.args.block c.self.inside.known c.report.new.self (λ valid. superseded_valid (sym c.in-Superseded.is ∙ valid))
    c.in_ok-report.ensures.verdict c.in_ok-report.ensures.ok in
    let again = ap (λ (known : KnownBlocks). record { retry = c.self.inside.retry; known = known; nodes = c.self.inside.nodes; marks = c.self.inside.marks; queued = c.self.inside.queue }) same ∙ c.self.view_is in
    record {
      ok = again ∙ sym (reported_as c.in_ok-report.field-0 c.args.self.now c.self.inside.known c.args.node c.args.block c.args.stamp c.args.length
          (sym (ap (λ (facts : Blocks). facts.known) c.self.view_is)) c.in_ok-report.ensures.verdict
          ∙ ap (λ verdict. reported_by verdict c.args.self.now c.args.node c.args.block c.args.stamp c.args.length) c.in-Superseded.is);
      err = tt;
    }

pub returns-in-Invalid-clause-ok : goal.returns-in-Invalid-clause-ok
returns-in-Invalid-clause-ok c =
    let same = stays c.in_ok-report.field-0 c.args.node c.args.stamp c.args.length c.args.block c.self.inside.known c.report.new.self (λ valid. invalid_valid (sym c.in-Invalid.is ∙ valid))
    c.in_ok-report.ensures.verdict c.in_ok-report.ensures.ok in
    let again = ap (λ (known : KnownBlocks). record { retry = c.self.inside.retry; known = known; nodes = c.self.inside.nodes; marks = c.self.inside.marks; queued = c.self.inside.queue }) same ∙ c.self.view_is in
    on_ok c.invalidate.result (λ is. is ∙ (ap (λ (facts : Blocks). with_replica_invalid facts c.args.node c.args.block c.args.stamp) again
    ∙ sym (reported_as c.in_ok-report.field-0 c.args.self.now c.self.inside.known c.args.node c.args.block c.args.stamp c.args.length (sym (ap (λ (facts : Blocks). facts.known) c.self.view_is)) c.in_ok-report.ensures.verdict
    ∙ ap (λ verdict. reported_by verdict c.args.self.now c.args.node c.args.block c.args.stamp c.args.length) c.in-Invalid.is)))
    c.invalidate.ensures.ok

pub returns-in-Invalid-clause-err : goal.returns-in-Invalid-clause-err
returns-in-Invalid-clause-err c =
    let same = stays c.in_ok-report.field-0 c.args.node c.args.stamp c.args.length c.args.block c.self.inside.known c.report.new.self (λ valid. invalid_valid (sym c.in-Invalid.is ∙ valid))
    c.in_ok-report.ensures.verdict c.in_ok-report.ensures.ok in
    let again = ap (λ (known : KnownBlocks). record { retry = c.self.inside.retry; known = known; nodes = c.self.inside.nodes; marks = c.self.inside.marks; queued = c.self.inside.queue }) same ∙ c.self.view_is in
    on_err c.invalidate.result (λ is. is ∙ again) c.invalidate.ensures.err
