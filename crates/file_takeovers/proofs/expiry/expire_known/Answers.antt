use Rattle.std.proofs.Common.{◌≡◌, ◌<◌, ◌^◌, ◌∙◌, List, sum_by, refl, sym, ap, subst}
use Rattle.std.specs.BTreeMap.{values}
use Rattle.recovery_queue.specs.declared.begun.BegunRecovery.{BegunRecovery}
use Rattle.block_map.specs.BlockEffects.{recoveries_begun}
use Rattle.file_takeovers.specs.Expiry.{Expiry, AreAtMost, sought_entries, blocks_to_recover}
use Rattle.file_takeovers.proofs.SoughtFiles.{held_each}
use Rattle.file_takeovers.proofs.ClosedFiles.{still_found, expired_behind}
use Rattle.file_takeovers.proofs.expiry.expire_known.Goals as goal

pub take_each-requires-clause-held : goal.take_each-requires-clause-held
take_each-requires-clause-held c =
    let expiry : Expiry = record { past = c.args.past.now; retry = c.args.blocks.now.retry; now = c.args.now } in
    held_each expiry c.close_each-closed.new.tree c.args.known.now.files.entries
    (still_found expiry c.args.tree.now c.close_each-closed.new.tree c.args.known.now.files.entries c.close_each-closed.ensures.no_other c.requires.some c.requires.unfinished)

pub returns-clause-ok : goal.returns-clause-ok
returns-clause-ok c = λ last exact at_most all.
    let expiry : Expiry = record { past = c.args.past.now; retry = c.args.blocks.now.retry; now = c.args.now } in
    let between = c.close_each-closed.new.tree in
    let most : AreAtMost c.args.tree.now c.args.past.now c.deref.result.now = subst (AreAtMost c.args.tree.now c.args.past.now) (sym c.deref.ensures.value) at_most in
    let fits = subst (λ numbers. sum_by (λ number. number) numbers < 2 ^ 64) (sym c.deref.ensures.value) c.requires.fits in
    let closing = c.close_each-closed.ensures.closed most in
    let all_behind : c.args.known.now.files.entries ≡ sought_entries expiry between = all ∙ ap (sought_entries expiry) (sym closing) in
    let begun : List BegunRecovery = recoveries_begun c.args.blocks.now (blocks_to_recover (values c.args.known.now.files)) c.args.now in
    expired_behind last expiry c.args.tree.now between c.take_each.new.tree c.args.blocks.now _ c.close_each-closed.new.writers c.take_each.new.writers c.args.known.now.files.entries c.close_each-closed.result c.in_ok-begun.begun.number
    closing all_behind c.in_ok-begun.ensures.begun (c.close_each-closed.ensures.count most fits) c.in_ok-begun.ensures.number (c.take_each.ensures.taken expiry begun refl c.in_ok-begun.ensures.stamps all_behind) (c.close_each-closed.ensures.exact last most exact)
