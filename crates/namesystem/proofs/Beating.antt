-- What a DataNode's heartbeat leaves, and its report of a replica.
use Rattle.std.proofs.Common.{◌≡◌, ℕ, true, List, Option, Some, None, refl, sym, ap, ◌∙◌}
use Rattle.node_ids.specs.NodeId.{node_of}
use Rattle.hdfs_types.specs.declared.op.Op.{Op}
use Rattle.hdfs_types.specs.declared.op.Op.TheVariants as op
use Rattle.hdfs_types.specs.declared.replica.ReportedReplica.{ReportedReplica}
use Rattle.hdfs_types.specs.declared.reply.Reply.{Reply}
use Rattle.hdfs_types.specs.declared.reply.Reply.TheVariants as reply
use Rattle.block_map.specs.BlockFacts.{Blocks}
use Rattle.flat_rows.specs.declared.verdict.Verdict.TheVariants.{Done, Denied}
use Rattle.flat_rows.specs.Denial as denied
use Rattle.flat_rows.specs.Decision.{decision}
use Rattle.flat_rows.specs.NodeOutcome.{heartbeat_reply}
use Rattle.flat_rows.specs.Outcome.{denied_or_outcome}
use Rattle.history.specs.Blocks.{heard_of, reported_of}
use Rattle.file_effects.specs.Effected.{IsExact}
use Rattle.namesystem.specs.declared.namesystem.Namesystem.{Namesystem}
use Rattle.namesystem.specs.Told.{may_change}
use Rattle.namesystem.specs.Performed.{IsPerformed, facts_in}
use Rattle.namesystem.proofs.Performing.{changing, performed_not_done}

abbrev with_blocks : Namesystem → Blocks → Namesystem
with_blocks old blocks = record old { blocks = blocks }

module _ (last : List ℕ → Option ℕ) (now : ℕ) (caller : List ℕ) (old : Namesystem) (exact : IsExact last old.tree old.writers) where
  pub done_beat : (heard : Option ℕ) (told : Reply) (blocks : Blocks) → decision old.tree old.users caller op.Heartbeat ≡ None → heard ≡ node_of caller
      → told ≡ heartbeat_reply (facts_in last now old) caller heard → may_change (Done told) ≡ true → blocks ≡ heard_of heard now old.blocks
      → IsPerformed last now caller op.Heartbeat old (Done told) (with_blocks old blocks)
  done_beat heard told blocks granted is answer change left =
      record {
        stepped =
            ap (λ (t : Reply). record { verdict = Done t; rows = old.tree; users = old.users }) (answer ∙ ap (heartbeat_reply (facts_in last now old) caller) is)
            ∙ sym (ap (denied_or_outcome (facts_in last now old) old.tree old.users caller op.Heartbeat) granted);
        ring = refl;
        blocks = left ∙ ap (λ node. heard_of node now old.blocks) is;
        exact = exact;
        unchanged = changing old (with_blocks old blocks) (Done told) (Done told) refl change;
      }

  pub done_report : (heard : Option ℕ) (replica : ReportedReplica) (blocks : Blocks) → decision old.tree old.users caller (op.Reported replica) ≡ None → heard ≡ node_of caller
      → blocks ≡ reported_of heard replica old.blocks → IsPerformed last now caller (op.Reported replica) old (Done reply.Empty) (with_blocks old blocks)
  done_report heard replica blocks granted is left =
      record {
        stepped = sym (ap (denied_or_outcome (facts_in last now old) old.tree old.users caller (op.Reported replica)) granted);
        ring = refl;
        blocks = left ∙ ap (λ node. reported_of node replica old.blocks) is;
        exact = exact;
        unchanged = changing old (with_blocks old blocks) (Done reply.Empty) (Done reply.Empty) refl refl;
      }

  pub denied_node : (what : Op) (denial : denied.Denial) → decision old.tree old.users caller what ≡ Some denial → IsPerformed last now caller what old (Denied denial) old
  denied_node what denial is =
      performed_not_done last now caller what old (Denied denial) (sym (ap (λ d. (denied_or_outcome (facts_in last now old) old.tree old.users caller what d).verdict) is)) refl exact
