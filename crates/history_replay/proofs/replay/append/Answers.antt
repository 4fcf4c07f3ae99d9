use Rattle.std.proofs.Common.{◌≡◌, ◌∙◌, ap, subst, slice_get}
use Rattle.std.specs.Bool.{Decides}
use Rattle.std.specs.Option.{IsSomeAnd}
use Rattle.hdfs_types.specs.declared.op.Request.{Request}
use Rattle.name_core.specs.NameCore.{NameCore, with_next_entry}
use Rattle.history_replay.proofs.replay.append.Goals as goal

pub returns-clause-new : goal.returns-clause-new
returns-clause-new c = c.in_ok-append.ensures.ok ∙ ap (λ (request : Request). with_next_entry c.args.core.now c.args.entry.now.pass c.args.entry.now.index request) c.in_ok-request.ensures

pub returns-clause-legal : goal.returns-clause-legal
returns-clause-legal c =
    subst (λ (core : NameCore). Decides c.is_as_newest.result (IsSomeAnd (slice_get core.entries 0) (λ own. (c.args.entry.now.place ≡ own.place) × (c.args.entry.now.verdict ≡ own.verdict))))
    (c.in_ok-append.ensures.ok ∙ ap (λ (request : Request). with_next_entry c.args.core.now c.args.entry.now.pass c.args.entry.now.index request) c.in_ok-request.ensures) c.is_as_newest.ensures
