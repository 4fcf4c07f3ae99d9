-- What an operation that is done had: no refusal of its list applied.
use Rattle.std.proofs.Common.{◌≡◌, ℕ, ◌==◌, Bool, true, false, not, List, [], ◌∷◌, ◌++◌, is_some, Option, Some, None, refl, sym, ap, ◌∙◌, subst, cond}
use Rattle.std.proofs.lemmas.Bool.{eqb-true}
use Rattle.std.specs.Option.{option_map, option_or}
use Rattle.block_records.specs.declared.last_block.LastBlock.{LastBlock}
use Rattle.block_records.specs.declared.block_record.BlockRecord.{BlockRecord}
use Rattle.block_records.specs.declared.fault.BlockRefusal.{BlockRefusal}
use Rattle.block_records.specs.declared.fault.BlockRefusal.TheVariants.{NotOpen, StaleStamp}
use Rattle.file_states.specs.declared.state.FileState.{FileState}
use Rattle.file_states.specs.declared.state.FileState.TheVariants.{Closed, Open, Recovering}
use Rattle.hdfs_types.specs.declared.op.Op.{Op}
use Rattle.hdfs_types.specs.declared.op.Op.TheVariants as op
use Rattle.hdfs_types.specs.declared.replica.RecoveredBlock.{RecoveredBlock}
use Rattle.hdfs_types.specs.declared.reply.Reply.{Reply}
use Rattle.refusals.specs.declared.refusal.Refusal.{Refusal}
use Rattle.refusals.specs.declared.refusal.Refusal.TheVariants.{IsDirectory, NotDirectory, NotYetReplicated}
use Rattle.file_paths.specs.Path.{is_prefix}
use Rattle.block_changes.specs.Ends.{refused_recovered_by}
use Rattle.block_map.specs.BlockFacts.{refused_commit, refused_targets, refused_recovered}
use Rattle.block_map.specs.BlockEffects as effect
use Rattle.known_blocks.specs.Known.{KnownBlocks, block_of, refused_new_block}
use Rattle.principals.specs.Users.{Users}
use Rattle.namespace_rows.specs.declared.file_row.FileRow.{FileRow}
use Rattle.namespace_rows.specs.declared.row.Row.{Row}
use Rattle.file_blocks.specs.Blocks.{unfinished_block}
use Rattle.namespace_rows.specs.Namespace.{IsNamespace, is_root, suits_parts, suits_kind}
use Rattle.namespace_rows.specs.Rows.{is_directory, is_none, is_missing, row_at, file_above, directory_of}
use Rattle.namespace_rows.proofs.Namespaces.{namespace_tests}
use Rattle.flat_rows.specs.declared.verdict.Verdict.TheVariants.{Done}
use Rattle.flat_rows.specs.Denial as denied
use Rattle.flat_rows.specs.Decision.{decision}
use Rattle.flat_rows.specs.Facts.{Facts}
use Rattle.flat_rows.specs.BlockOutcome.{is_last, refused_unless_last, refused_by, refused_new, refused_end}
use Rattle.flat_rows.specs.FileOutcome.{directory_there, of_file, if_some_file, refused_by_state, refused_write}
use Rattle.flat_rows.specs.Takeover.{refused_state, refused_append}
use Rattle.flat_rows.specs.Outcome.{step, denied_or_outcome, refused_or_done, first_refusal, first_some, refusals_of_file, refused_where, nothing_at, something_at, beneath_file, reply_of}
use Rattle.flat_rows.proofs.Firsts.{first_passes}

pub neither : {X : Type 0} (a b : Option X) → option_or a b ≡ None → (a ≡ None) × (b ≡ None)
neither None b h = (refl, h)
neither (Some x) b h = cc

pub one : {X : Type 0} (x y : X) → Some x ≡ Some y → x ≡ y
one x y e = cc

-- ---- verdicts

module _ (facts : Facts) (rows : List Row) (users : Users) (caller : List ℕ) (what : Op) where
  pub record WasDone (told : Reply) : Type 0 where
    pub unrefused : first_refusal facts caller what rows users ≡ None
    pub told_is : told ≡ reply_of facts caller what rows

  told_same : (a b : Reply) → Done a ≡ Done b → a ≡ b
  told_same a b e = cc

  pub was_done : (told : Reply) → Done told ≡ (step facts rows users caller what).verdict → WasDone told
  was_done told is = by_decision (decision rows users caller what) is
    where
      by_refusal : (refusal : Option Refusal) → first_refusal facts caller what rows users ≡ refusal → Done told ≡ (refused_or_done facts rows users caller what refusal).verdict → WasDone told
      by_refusal None e is = record { unrefused = e; told_is = told_same told (reply_of facts caller what rows) is }
      by_refusal (Some refusal) e is = cc

      by_decision : (denial : Option denied.Denial) → Done told ≡ (denied_or_outcome facts rows users caller what denial).verdict → WasDone told
      by_decision None is = by_refusal (first_refusal facts caller what rows users) refl is
      by_decision (Some denial) is = cc

-- ---- refusals

pub unless : (b : Bool) (refusal : Refusal) → refused_where b refusal ≡ None → b ≡ false
unless true refusal h = cc
unless false refusal h = refl

none_mapped : {X Y : Type 0} (f : X → Y) (o : Option X) → option_map f o ≡ None → o ≡ None
none_mapped f None h = refl
none_mapped f (Some x) h = cc

no_file_above : (path : List (List ℕ)) (rows : List Row) → beneath_file path rows ≡ None → file_above path rows ≡ None
no_file_above path rows h = none_mapped (λ (row : Row). NotDirectory row.path) (file_above path rows) h

some_there : (o : Option Row) → nothing_at o ≡ None → (row : Row) × (o ≡ Some row)
some_there None h = cc
some_there (Some row) h = (row, refl)

none_there : (o : Option Row) → something_at o ≡ None → is_none o ≡ true
none_there None h = refl
none_there (Some row) h = cc

no_directory : (row : Row) → directory_there (Some row) ≡ None → is_directory row ≡ false
no_directory row h = by (is_directory row) h
  where
    by : (b : Bool) → cond b (Some IsDirectory) None ≡ None → b ≡ false
    by true h = cc
    by false h = refl

-- what has the path is a file
pub record IsFileAt (path : List (List ℕ)) (rows : List Row) : Type 0 where
  pub row : Row
  pub its : FileRow
  pub there : row_at path rows ≡ Some row
  pub file : row.file ≡ Some its

file_of : (row : Row) → is_directory row ≡ false → suits_kind row ≡ true → (its : FileRow) × (row.file ≡ Some its)
file_of row plain suits = by row.file refl (subst (λ b. suits_parts b row.acl row.file ≡ true) plain suits)
  where
    by : (file : Option FileRow) → row.file ≡ file → suits_parts false row.acl file ≡ true → (its : FileRow) × (row.file ≡ Some its)
    by None e h = cc
    by (Some its) e h = (its, e)

module _ (path : List (List ℕ)) (rows : List Row) (namespace : IsNamespace rows) where
  pub file_there_is : nothing_at (row_at path rows) ≡ None → directory_there (row_at path rows) ≡ None → IsFileAt path rows
  file_there_is some plain =
      let found = some_there (row_at path rows) some in
      let suits = first_passes _ suits_kind rows found.0 (namespace_tests rows namespace).suit found.1 in
      let file = file_of found.0 (no_directory found.0 (ap directory_there (sym found.1) ∙ plain)) suits in
      record { row = found.0; its = file.0; there = found.1; file = file.1 }

module _ (facts : Facts) (caller : List ℕ) (path : List (List ℕ)) (rows : List Row) (users : Users) where
  -- nothing refuses what is made
  pub made_above : (refusals : List (Option Refusal)) → first_some (beneath_file path rows ∷ refusals) ≡ None → file_above path rows ≡ None
  made_above refusals h = no_file_above path rows (neither (beneath_file path rows) (first_some refusals) h).0

  pub deleted_below_root : (recursive : Bool) → first_refusal facts caller (op.Delete path recursive) rows users ≡ None → is_root path ≡ false
  deleted_below_root recursive h = unless (is_root path) _ (neither _ _ h).0

  pub created_on_no_directory : (mode replication : ℕ) (over : Bool) → first_refusal facts caller (op.Create path mode replication over) rows users ≡ None → directory_there (row_at path rows) ≡ None
  created_on_no_directory mode replication over h = (neither (directory_there (row_at path rows)) _ (neither (beneath_file path rows) _ h).1).0

pub record IsFree (from to : List (List ℕ)) (rows : List Row) : Type 0 where
  pub missing : is_missing to rows ≡ true
  pub parent : is_none (directory_of to rows) ≡ false
  pub beside : is_prefix from to ≡ false

pub renamed_to_free : (facts : Facts) (caller : List ℕ) (from to : List (List ℕ)) (rows : List Row) (users : Users) → first_refusal facts caller (op.Rename from to) rows users ≡ None → IsFree from to rows
renamed_to_free facts caller from to rows users h =
    let a = neither _ _ h in
    let b = neither (beneath_file from rows) _ a.1 in
    let c = neither (nothing_at (row_at from rows)) _ b.1 in
    let d = neither (beneath_file to rows) _ c.1 in
    let e = neither _ _ d.1 in
    let f = neither (something_at (row_at to rows)) _ e.1 in
    let g = neither _ _ f.1 in
    record {
      missing = none_there (row_at to rows) f.0;
      parent = unless (is_none (directory_of to rows)) _ g.0;
      beside = unless (is_prefix from to) _ e.0;
    }

-- ---- blocks

-- the last block of a file is recovered
abbrev pub is_recovery : FileState → Bool
is_recovery Closed = false
is_recovery (Open client) = false
is_recovery (Recovering block stamp begun) = true

-- the file at the path, which isn't in recovery, and its last block as the writer names it
pub record IsWritten (path : List (List ℕ)) (last : Option LastBlock) (rows : List Row) : Type 0 where
  pub at : IsFileAt path rows
  pub named : is_last last at.its.blocks ≡ true
  pub quiet : is_recovery at.its.state ≡ false

-- what refuses nothing of the file at the path
of_file_at : (path : List (List ℕ)) (rows : List Row) (at : IsFileAt path rows) (refused : FileRow → Option Refusal) → of_file refused (row_at path rows) ≡ None → refused at.its ≡ None
of_file_at path rows at refused h = ap (if_some_file refused) (sym at.file) ∙ (ap (of_file refused) (sym at.there) ∙ h)

not_recovered : (caller : List ℕ) (state : FileState) → refused_by_state caller state ≡ None → is_recovery state ≡ false
not_recovered caller Closed h = refl
not_recovered caller (Open client) h = refl
not_recovered caller (Recovering block stamp begun) h = cc

last_named : (path : List (List ℕ)) (last : Option LastBlock) (rows : List Row) (at : IsFileAt path rows) → of_file (refused_unless_last last) (row_at path rows) ≡ None → is_last last at.its.blocks ≡ true
last_named path last rows at h = by (is_last last at.its.blocks) (of_file_at path rows at (refused_unless_last last) h)
  where
    by : (b : Bool) → cond b None (Some NotYetReplicated) ≡ None → b ≡ true
    by true h = refl
    by false h = cc

unrefused_by : (refusal : Option BlockRefusal) → refused_by refusal ≡ None → refusal ≡ None
unrefused_by None h = refl
unrefused_by (Some refusal) h = cc

module _ (facts : Facts) (caller : List ℕ) (path : List (List ℕ)) (last : Option LastBlock) (rows : List Row) (users : Users) (namespace : IsNamespace rows) where
  written : (own : Option Refusal) → first_some (refusals_of_file path rows ++ of_file (refused_write caller) (row_at path rows) ∷ of_file (refused_unless_last last) (row_at path rows) ∷ own ∷ []) ≡ None
      → IsWritten path last rows × (own ≡ None)
  written own h =
      let a = neither (beneath_file path rows) _ h in
      let b = neither (nothing_at (row_at path rows)) _ a.1 in
      let c = neither (directory_there (row_at path rows)) _ b.1 in
      let d = neither (of_file (refused_write caller) (row_at path rows)) _ c.1 in
      let e = neither (of_file (refused_unless_last last) (row_at path rows)) _ d.1 in
      let at = file_there_is path rows namespace b.0 c.0 in
      let quiet = not_recovered caller at.its.state (of_file_at path rows at (refused_write caller) d.0) in
      (record { at = at; named = last_named path last rows at e.0; quiet = quiet }, (neither own None e.1).0)

  pub block_asked : first_refusal facts caller (op.AddBlock path last) rows users ≡ None → IsWritten path last rows × (effect.refused_last facts.blocks last ≡ None)
  block_asked h =
      let parts = written (refused_new facts.blocks last facts.now) h in
      let own = unrefused_by (effect.refused_behind facts.blocks last facts.now) parts.1 in
      (parts.0, (neither (effect.refused_last facts.blocks last) (option_or (refused_targets facts.blocks facts.now) (refused_new_block facts.blocks.known)) own).0)

  completed_last : (last : Option LastBlock) → refused_end facts.blocks last ≡ None → effect.refused_last facts.blocks last ≡ None
  completed_last None h = refl
  completed_last (Some own) h = unrefused_by (refused_commit facts.blocks own.block own.length) h

  pub file_completed : first_refusal facts caller (op.Complete path last) rows users ≡ None → IsWritten path last rows × (effect.refused_last facts.blocks last ≡ None)
  file_completed h = let parts = written (refused_end facts.blocks last) h in (parts.0, completed_last last parts.1)

-- ---- files that are taken, and recoveries that end

module _ (facts : Facts) (caller : List ℕ) (path : List (List ℕ)) (rows : List Row) (users : Users) (namespace : IsNamespace rows) where
  pub file_appended : first_refusal facts caller (op.Append path) rows users ≡ None → (at : IsFileAt path rows) × (is_recovery at.its.state ≡ false)
  file_appended h =
      let a = neither (beneath_file path rows) _ h in
      let b = neither (nothing_at (row_at path rows)) _ a.1 in
      let c = neither (directory_there (row_at path rows)) _ b.1 in
      let d = neither (of_file (refused_append facts caller) (row_at path rows)) None c.1 in
      let at = file_there_is path rows namespace b.0 c.0 in
      (at, not_taken (unfinished_block at.its.blocks) at.its.state (of_file_at path rows at (refused_append facts caller) d.0))
    where
      not_taken : (block : Option ℕ) (state : FileState) → refused_state facts caller block state ≡ None → is_recovery state ≡ false
      not_taken block Closed h = refl
      not_taken block (Open holder) h = refl
      not_taken block (Recovering own stamp begun) h = cc

-- a recovery of the block runs, under this stamp
pub record IsRunning (own : KnownBlocks) (block stamp : ℕ) : Type 0 where
  pub known : BlockRecord
  pub since : ℕ
  pub there : block_of own block ≡ Some known
  pub stamped : stamp ≡ known.stamp
  pub begun : known.recovering ≡ Some since

running_by : (own : KnownBlocks) (block stamp : ℕ) → refused_recovered_by (block_of own block) stamp ≡ None → IsRunning own block stamp
running_by own block stamp h = by (block_of own block) refl h
  where
    by_since : (known : BlockRecord) → block_of own block ≡ Some known → stamp ≡ known.stamp → (since : Option ℕ) → known.recovering ≡ since → cond (is_some since) None (Some NotOpen) ≡ None → IsRunning own block stamp
    by_since known is same None e h = cc
    by_since known is same (Some since) e h = record { known = known; since = since; there = is; stamped = same; begun = e }

    by_stamp : (known : BlockRecord) → block_of own block ≡ Some known → (b : Bool) → (stamp == known.stamp) ≡ b
        → cond (not b) (Some (StaleStamp known.stamp)) (cond (is_some known.recovering) None (Some NotOpen)) ≡ None → IsRunning own block stamp
    by_stamp known is true e h = by_since known is (eqb-true stamp known.stamp e) known.recovering refl h
    by_stamp known is false e h = cc

    by : (found : Option BlockRecord) → block_of own block ≡ found → refused_recovered_by found stamp ≡ None → IsRunning own block stamp
    by None is h = cc
    by (Some known) is h = by_stamp known is (stamp == known.stamp) refl h

pub recovery_ran : (facts : Facts) (caller : List ℕ) (recovered : RecoveredBlock) (rows : List Row) (users : Users) → first_refusal facts caller (op.CommitRecovery recovered) rows users ≡ None
    → IsRunning facts.blocks.known recovered.block recovered.stamp
recovery_ran facts caller recovered rows users h =
    running_by facts.blocks.known recovered.block recovered.stamp (unrefused_by (refused_recovered facts.blocks recovered.block recovered.stamp) h)
