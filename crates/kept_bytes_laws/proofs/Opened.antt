-- What holds of each block that a reader can be told of holds of all blocks of a file that is opened.
use Rattle.std.proofs.Common.{◌≡◌, ℕ, Bool, true, false, List, [], ◌∷◌, filter, Option, Some, None, refl, sym, ap, ◌∙◌, subst, cond}
use Rattle.std.specs.Bool.{⊤}
use Rattle.std.specs.List.{AllByRecursion}
use Rattle.std.specs.Option.{option_map, option_and_then}
use Rattle.node_ids.specs.NodeId.{node_of}
use Rattle.file_paths.specs.PathOrder.{same_path}
use Rattle.block_records.specs.declared.block_record.BlockRecord.{BlockRecord}
use Rattle.block_records.specs.declared.last_block.LastBlock.{LastBlock}
use Rattle.block_answers.specs.declared.located.LocatedBlock.{LocatedBlock}
use Rattle.block_map.specs.BlockFacts.{known_block, committed_length}
use Rattle.file_blocks.specs.declared.blocks.FileBlock.{FileBlock}
use Rattle.hdfs_types.specs.declared.op.Op.{Op}
use Rattle.hdfs_types.specs.declared.op.Op.TheVariants as op
use Rattle.hdfs_types.specs.declared.reply.Reply.{Reply}
use Rattle.hdfs_types.specs.declared.reply.Reply.TheVariants as reply
use Rattle.namespace_rows.specs.declared.row.Row.{Row}
use Rattle.namespace_rows.specs.First.{first as front}
use Rattle.namespace_rows.specs.Rows.{row_at}
use Rattle.flat_rows.specs.BlockOutcome.{replication_at, added_to, located_block, located_with, blocks_of_file as blocks_in, blocks_of_row}
use Rattle.flat_rows.specs.Facts.{Facts}
use Rattle.flat_rows.specs.FileOutcome.{holder_at}
use Rattle.flat_rows.specs.NodeOutcome.{heartbeat_reply}
use Rattle.flat_rows.specs.Outcome.{reply_of, status_of, acl_status_of, serial_reply}
use Rattle.flat_rows.specs.Takeover.{unfinished_at, appended_reply}
use Rattle.block_laws.specs.Laws.{LengthsAre}
use Rattle.cluster_trace.proofs.Each.{some_is, never_some}
use Rattle.fencing_laws.proofs.Orders.{each_found}

row_has : (P : Row → Type 0) (path : List (List ℕ)) (rows : List Row) (row : Row) → AllByRecursion P rows → row_at path rows ≡ Some row → P row
row_has P path [] row all at = absurd (never_some row at)
row_has P path (first ∷ rows) row all at = by (same_path path first.path) at (row_has P path rows row all.1)
  where
    by : (b : Bool) → front (cond b (first ∷ filter (λ other. same_path path other.path) rows) (filter (λ other. same_path path other.path) rows)) ≡ Some row → (row_at path rows ≡ Some row → P row) → P row
    by true h rest = subst P (some_is first row h) all.0
    by false h rest = rest h

-- ---- replies

module _ (P : LocatedBlock → Type 0) where
  abbrev pub OfListed : Reply → Type 0
  OfListed (reply.Opened file) = AllByRecursion P file.blocks
  OfListed _ = ⊤

  module _ (facts : Facts) (caller : List ℕ) (rows : List Row) (lengths : LengthsAre facts.blocks rows)
      (located : (length : ℕ) (block : FileBlock) (own : BlockRecord) → own.committed ≡ Some length → known_block facts.blocks block.id ≡ Some own → P (located_with facts.token caller block.id length own)) where
    abbrev IsTold : FileBlock → Type 0
    IsTold block = committed_length facts.blocks block.id ≡ block.committed

    located_is : (x y : LocatedBlock) → Some x ≡ Some y → x ≡ y
    located_is x y e = cc

    of_block : (block : FileBlock) (listed : LocatedBlock) → IsTold block → located_block facts.token caller facts.blocks block ≡ Some listed → P listed
    of_block block listed told is = by block.committed refl is
      where
        by_record : (length : ℕ) → block.committed ≡ Some length → (found : Option BlockRecord) → known_block facts.blocks block.id ≡ found → option_map (located_with facts.token caller block.id length) found ≡ Some listed → P listed
        by_record length e None at h = absurd (never_some listed h)
        by_record length e (Some own) at h =
            let committed : own.committed ≡ Some length = ap (λ (found : Option BlockRecord). option_and_then (λ (one : BlockRecord). one.committed) found) (sym at) ∙ (told ∙ e) in
            subst P (located_is (located_with facts.token caller block.id length own) listed h) (located length block own committed at)

        by : (found : Option ℕ) → block.committed ≡ found → option_and_then (λ length. option_map (located_with facts.token caller block.id length) (known_block facts.blocks block.id)) found ≡ Some listed → P listed
        by None e h = absurd (never_some listed h)
        by (Some length) e h = by_record length e (known_block facts.blocks block.id) refl h

    told_at : (found : Option Row) (path : List (List ℕ)) → row_at path rows ≡ found → AllByRecursion IsTold (blocks_of_row found)
    told_at None path e = tt
    told_at (Some row) path e = row_has (λ (one : Row). AllByRecursion IsTold (blocks_in one.file)) path rows row lengths e

    of_status : (at : Option Row) → OfListed (status_of at)
    of_status None = tt
    of_status (Some row) = tt

    of_acl : (at : Option Row) → OfListed (acl_status_of at)
    of_acl None = tt
    of_acl (Some row) = tt

    of_append : (holder : Option (List ℕ)) (block : Option ℕ) → OfListed (appended_reply facts.blocks holder block)
    of_append None block = tt
    of_append (Some holder) None = tt
    of_append (Some holder) (Some block) = tt

    of_serial : (serial : Option ℕ) → OfListed (serial_reply serial)
    of_serial None = tt
    of_serial (Some serial) = tt

    of_added : (last : Option LastBlock) (replication : Option ℕ) → OfListed (added_to facts.token caller facts.blocks last facts.now replication)
    of_added last None = tt
    of_added last (Some replication) = tt

    of_heartbeat : (node : Option ℕ) → OfListed (heartbeat_reply facts caller node)
    of_heartbeat None = tt
    of_heartbeat (Some node) = tt

    pub of_reply : (what : Op) → OfListed (reply_of facts caller what rows)
    of_reply (op.Stat path) = of_status (row_at path rows)
    of_reply (op.GetAcl path) = of_acl (row_at path rows)
    of_reply (op.Append path) = of_append (holder_at (row_at path rows)) (unfinished_at (row_at path rows))
    of_reply (op.AddBlock path last) = of_added last (replication_at (row_at path rows))
    of_reply (op.Open path) = each_found IsTold P (located_block facts.token caller facts.blocks) of_block (blocks_of_row (row_at path rows)) (told_at (row_at path rows) path refl)
    of_reply (op.RollKey key) = of_serial facts.next_serial
    of_reply op.Heartbeat = of_heartbeat (node_of caller)
    of_reply _ = tt
