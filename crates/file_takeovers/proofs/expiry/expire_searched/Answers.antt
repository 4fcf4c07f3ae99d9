use Rattle.std.proofs.Common.{◌≡◌, ◌∙◌, ℕ, List, ap, refl}
use Rattle.std.specs.BTreeMap.{values}
use Rattle.recovery_queue.specs.declared.begun.BegunRecovery.{BegunRecovery}
use Rattle.block_map.specs.BlockEffects.{recoveries_begun}
use Rattle.file_takeovers.specs.Expiry.{Expiry, sought_entries, blocks_to_recover}
use Rattle.file_takeovers.proofs.TakenFiles.{expired_is}
use Rattle.file_takeovers.proofs.ClosedFiles.{all_held}
use Rattle.file_takeovers.proofs.expiry.expire_searched.Goals as goal

pub take_each-requires-clause-held : goal.take_each-requires-clause-held
take_each-requires-clause-held c = all_held (record { past = c.args.past.now; retry = c.retry.result; now = c.args.now }) c.args.tree.now c.in_ok-files.files.entries c.requires.namespace c.in_ok-files.ensures

pub returns-clause-ok : goal.returns-clause-ok
returns-clause-ok c = λ last exact.
    let expiry : Expiry = record { past = c.args.past.now; retry = c.args.blocks.now.retry; now = c.args.now } in
    let all : c.in_ok-files.files.entries ≡ sought_entries expiry c.args.tree.now = c.in_ok-files.ensures ∙ ap (λ retry. sought_entries (record { past = c.args.past.now; retry = retry; now = c.args.now }) c.args.tree.now) c.retry.ensures in
    let sought : List ℕ = blocks_to_recover (values c.in_ok-files.files) in
    let begun : List BegunRecovery = recoveries_begun c.args.blocks.now sought c.args.now in
    expired_is last expiry c.args.tree.now c.take_each.new.tree c.args.blocks.now _ c.args.writers.now c.take_each.new.writers c.in_ok-files.files.entries sought begun c.count_closed.result c.in_ok-begun.begun.number
    all refl refl c.in_ok-begun.ensures.begun c.count_closed.ensures c.in_ok-begun.ensures.number (c.take_each.ensures.taken expiry begun refl c.in_ok-begun.ensures.stamps all) exact
