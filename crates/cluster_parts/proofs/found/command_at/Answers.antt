use Rattle.std.proofs.Common.{◌≡◌, ℕ, ◌+◌, ◌-◌, ◌<◌, List, suc, length, refl, sym, ap, ◌∙◌, Some, arith}
use Rattle.std.specs.Prelude.{slice_get, option_map}
use Rattle.std.proofs.lemmas.Option.{slice_get_past, slice_get_read}
use Rattle.block_answers.specs.declared.commands.CopyOrder.{CopyOrder}
use Rattle.block_answers.specs.declared.commands.Recover.{Recover}
use Rattle.block_answers.specs.declared.commands.Removal.{Removal}
use Rattle.cluster_trace.specs.Trace.{recover_message, removal_message, copy_message, command_messages}
use Rattle.cluster_parts.proofs.Commands.{at_recovery, at_removal, at_copy}
use Rattle.cluster_parts.proofs.found.command_at.Goals as goal

pub returns-then-index-recoveries : goal.returns-then-index-recoveries
returns-then-index-recoveries c =
    let all = c.args.commands.now in
    let at : ℕ = c.args.index - 1 in
    let e : c.args.index ≡ suc at = omega arith in
    let own : List Recover = c.recoveries-recoveries.result.now in
    let is : own ≡ all.recoveries = c.recoveries-recoveries.ensures in
    let within : at < length own = omega arith in
    let got : slice_get all.recoveries at ≡ Some c.index-recoveries-index.result =
    ap (λ (l : List Recover). slice_get l at) (sym is) ∙ slice_get_read own (length own) at c.index-recoveries-index.result refl within c.index-recoveries-index.is in
    sym (ap (slice_get (command_messages c.args.node all)) e ∙ at_recovery c.args.node all at (omega (arith, within, ap length is)) ∙ ap (option_map (recover_message c.args.node)) got)

pub returns-then-index-removals : goal.returns-then-index-removals
returns-then-index-removals c =
    let all = c.args.commands.now in
    let at : ℕ = c.args.index - 1 - length c.recoveries-recoveries.result.now in
    let recovered : length c.recoveries-recoveries.result.now ≡ length all.recoveries = ap length c.recoveries-recoveries.ensures in
    let e : c.args.index ≡ suc (length all.recoveries + at) = omega (arith, recovered) in
    let own : List Removal = c.removals-removals.result.now in
    let is : own ≡ all.removals = c.removals-removals.ensures in
    let within : at < length own = omega arith in
    let got : slice_get all.removals at ≡ Some c.index-removals-index.result =
    ap (λ (l : List Removal). slice_get l at) (sym is) ∙ slice_get_read own (length own) at c.index-removals-index.result refl within c.index-removals-index.is in
    sym (ap (slice_get (command_messages c.args.node all)) e ∙ at_removal c.args.node all at (omega (arith, within, ap length is)) ∙ ap (option_map (removal_message c.args.node)) got)

pub returns-then-index-copies : goal.returns-then-index-copies
returns-then-index-copies c =
    let all = c.args.commands.now in
    let at : ℕ = c.args.index - 1 - length c.recoveries-recoveries.result.now - length c.removals-removals.result.now in
    let recovered : length c.recoveries-recoveries.result.now ≡ length all.recoveries = ap length c.recoveries-recoveries.ensures in
    let removed : length c.removals-removals.result.now ≡ length all.removals = ap length c.removals-removals.ensures in
    let e : c.args.index ≡ suc (length all.recoveries + (length all.removals + at)) = omega (arith, recovered, removed) in
    let own : List CopyOrder = c.copies-copies.result.now in
    let is : own ≡ all.copies = c.copies-copies.ensures in
    let within : at < length own = omega arith in
    let got : slice_get all.copies at ≡ Some c.index-copies-index.result =
    ap (λ (l : List CopyOrder). slice_get l at) (sym is) ∙ slice_get_read own (length own) at c.index-copies-index.result refl within c.index-copies-index.is in
    sym (ap (slice_get (command_messages c.args.node all)) e ∙ at_copy c.args.node all at ∙ ap (option_map (copy_message c.args.node)) got)

pub returns : goal.returns
returns c =
    let all = c.args.commands.now in
    let at : ℕ = c.args.index - 1 - length c.recoveries-recoveries.result.now - length c.removals-removals.result.now in
    let recovered : length c.recoveries-recoveries.result.now ≡ length all.recoveries = ap length c.recoveries-recoveries.ensures in
    let removed : length c.removals-removals.result.now ≡ length all.removals = ap length c.removals-removals.ensures in
    let copied : length c.copies-copies.result.now ≡ length all.copies = ap length c.copies-copies.ensures in
    let e : c.args.index ≡ suc (length all.recoveries + (length all.removals + at)) = omega (arith, recovered, removed) in
    sym (ap (slice_get (command_messages c.args.node all)) e ∙ at_copy c.args.node all at ∙ ap (option_map (copy_message c.args.node)) (slice_get_past all.copies at (omega (arith, copied))))
