-- Where the commands of a heartbeat stand among its messages.
use Rattle.std.proofs.Common.{◌≡◌, ℕ, suc, ◌+◌, ◌<◌, List, ◌++◌, map, length, ap, ◌∙◌, arith}
use Rattle.std.specs.Prelude.{slice_get, option_map}
use Rattle.std.proofs.lemmas.List.{length-map}
use Rattle.std.proofs.lemmas.Option.{slice_get-map}
use Rattle.block_answers.specs.Commands.{Commands}
use Rattle.node_calls.specs.declared.message.Message.{Message}
use Rattle.cluster_trace.specs.Trace.{recover_message, removal_message, copy_message, command_messages}
use Rattle.cluster_parts.proofs.Gets.{get_left, get_right}

module _ (node : ℕ) (commands : Commands) where
  abbrev recovered : List Message
  recovered = map (recover_message node) commands.recoveries

  abbrev removed : List Message
  removed = map (removal_message node) commands.removals

  abbrev copied : List Message
  copied = map (copy_message node) commands.copies

  pub at_recovery : (index : ℕ) → index < length commands.recoveries → slice_get (command_messages node commands) (suc index) ≡ option_map (recover_message node) (slice_get commands.recoveries index)
  at_recovery index within = get_left recovered (removed ++ copied) index (omega (arith, length-map commands.recoveries (recover_message node), within)) ∙ slice_get-map (recover_message node) commands.recoveries index

  behind : (index : ℕ) → slice_get (command_messages node commands) (suc (length commands.recoveries + index)) ≡ slice_get (removed ++ copied) index
  behind index =
      let e : length commands.recoveries + index ≡ length recovered + index = omega (arith, length-map commands.recoveries (recover_message node)) in
      ap (slice_get (recovered ++ (removed ++ copied))) e ∙ get_right recovered (removed ++ copied) index

  pub at_removal : (index : ℕ) → index < length commands.removals → slice_get (command_messages node commands) (suc (length commands.recoveries + index)) ≡ option_map (removal_message node) (slice_get commands.removals index)
  at_removal index within =
      behind index ∙ get_left removed copied index (omega (arith, length-map commands.removals (removal_message node), within)) ∙ slice_get-map (removal_message node) commands.removals index

  pub at_copy : (index : ℕ) → slice_get (command_messages node commands) (suc (length commands.recoveries + (length commands.removals + index))) ≡ option_map (copy_message node) (slice_get commands.copies index)
  at_copy index =
      let e : length commands.removals + index ≡ length removed + index = omega (arith, length-map commands.removals (removal_message node)) in
      behind (length commands.removals + index) ∙ ap (slice_get (removed ++ copied)) e ∙ get_right removed copied index ∙ slice_get-map (copy_message node) commands.copies index
