-- What stands against a verb on a file, and what is asked of the file.
use Rattle.std.proofs.Common.{◌≡◌, ℕ, true, false, List, [], ◌∷◌, ◌++◌, Option, Some, None, refl, sym, ap, ◌∙◌}
use Rattle.std.specs.Option.{option_or}
use Rattle.hdfs_types.specs.Request.{is_for_nodes}
use Rattle.hdfs_types.specs.declared.op.Op.{Op}
use Rattle.hdfs_types.specs.declared.op.Op.TheVariants.{Append, AddBlock, Complete, Open}
use Rattle.hdfs_types.specs.declared.reply.Reply.{Reply}
use Rattle.hdfs_types.specs.declared.reply.Reply.TheVariants as replies
use Rattle.block_records.specs.declared.last_block.LastBlock.{LastBlock}
use Rattle.block_map.specs.BlockEffects.{given_behind}
use Rattle.flat_rows.specs.declared.verdict.Verdict.TheVariants.{Done}
use Rattle.refusals.specs.declared.refusal.Refusal.{Refusal}
use Rattle.principals.specs.Users.{Users, Caller, caller_of}
use Rattle.namespace_rows.specs.declared.file_row.FileRow.{FileRow}
use Rattle.namespace_rows.specs.declared.row.Row.{Row}
use Rattle.namespace_rows.specs.Rows.{row_at}
use Rattle.file_blocks.specs.Blocks.{unfinished_block}
use Rattle.namespace_rows.specs.Files.{holder_of, holder_of_file}
use Rattle.flat_rows.specs.FileOutcome.{directory_there, of_file, if_some_file, refused_write, holder_at}
use Rattle.flat_rows.specs.Takeover.{refused_append, appended_reply, unfinished_of, unfinished_at}
use Rattle.flat_rows.specs.BlockOutcome.{replication_of, replication_at, refused_unless_last, refused_new, refused_end, added_reply, added_to, opened_reply, blocks_of_file, blocks_of_row, bytes_behind, bytes_behind_at}
use Rattle.flat_rows.specs.Facts.{Facts}
use Rattle.required_rights.specs.RequiredRights.{Demand, required_rights}
use Rattle.flat_rows.specs.Decision.{denial_among, decision, without_rank_where}
use Rattle.flat_rows.specs.Judging.{is_strict, judged_caller}
use Rattle.flat_rows.proofs.Judging.{strictly_decided}
use Rattle.flat_rows.specs.Outcome.{Step, step, first_some, beneath_file, nothing_at, refusals_of_file, first_refusal, reply_of, refused_or_done, denied_or_outcome}
use Rattle.perm_walk.specs.Target.{file_at_row, IsFileThere}
use Rattle.perm_walk.specs.JudgedStep.{judged_step}
use Rattle.perm_walk.proofs.Steps.{as_step}
use Rattle.write_rules.specs.Judged.{refused_or}
use Rattle.write_rules.specs.declared.appends.JudgedAppend.{JudgedAppend}
use Rattle.write_rules.specs.declared.appends.JudgedAppend.TheVariants as form
use Rattle.write_rules.specs.JudgedAppends.{IsJudgedFile, IsJudgedAt}

-- where nothing stands against any verb on a file, what stands against this one
pub free_at_file : (path : List (List ℕ)) (rows : List Row) (rest : List (Option Refusal)) → first_some (refusals_of_file path rows) ≡ None → first_some (refusals_of_file path rows ++ rest) ≡ first_some rest
free_at_file path rows rest h = by (beneath_file path rows) (nothing_at (row_at path rows)) (directory_there (row_at path rows)) h
  where
    by : (a b c : Option Refusal) → first_some (a ∷ b ∷ c ∷ []) ≡ None → first_some (a ∷ b ∷ c ∷ rest) ≡ first_some rest
    by (Some r) b c k = cc
    by None (Some r) c k = cc
    by None None (Some r) k = cc
    by None None None k = refl

-- what is asked of the file that has a path
pub of_this : (refused : FileRow → Option Refusal) (at : Option Row) (file : FileRow) → file_at_row at ≡ Some file → of_file refused at ≡ refused file
of_this refused None file h = cc
of_this refused (Some row) file h = ap (if_some_file refused) h

pub holder_of_this : (at : Option Row) (file : FileRow) → file_at_row at ≡ Some file → holder_at at ≡ holder_of file.state
holder_of_this None file h = cc
holder_of_this (Some row) file h = ap holder_of_file h

unfinished_of_this : (at : Option Row) (file : FileRow) → file_at_row at ≡ Some file → unfinished_at at ≡ unfinished_block file.blocks
unfinished_of_this None file h = cc
unfinished_of_this (Some row) file h = ap unfinished_of h

-- what an append to a file answers
or_none : (refusal : Option Refusal) → option_or refusal None ≡ refusal
or_none None = refl
or_none (Some refusal) = refl

verdict_is : (facts : Facts) (rows : List Row) (users : Users) (caller : List ℕ) (op : Op) (refusal : Option Refusal) → refused_or (reply_of facts caller op rows) refusal ≡ (refused_or_done facts rows users caller op refusal).verdict
verdict_is facts rows users caller op None = refl
verdict_is facts rows users caller op (Some refusal) = refl

pub append_verdict : (facts : Facts) (path : List (List ℕ)) (rows : List Row) (users : Users) (caller : Caller) (needs : List Demand) (file : FileRow) → IsFileThere path rows file → denial_among rows caller needs ≡ None
    → refused_or (appended_reply facts.blocks (holder_of file.state) (unfinished_block file.blocks)) (refused_append facts caller.name file) ≡ (judged_step facts rows users caller needs (Append path)).verdict
append_verdict facts path rows users caller needs file there granted =
    let takeover = of_file (refused_append facts caller.name) (row_at path rows) in
    let refusal : first_refusal facts caller.name (Append path) rows users ≡ refused_append facts caller.name file =
    free_at_file path rows (takeover ∷ []) there.free ∙ or_none takeover ∙ of_this (refused_append facts caller.name) (row_at path rows) file there.at in
    ap (refused_or (appended_reply facts.blocks (holder_of file.state) (unfinished_block file.blocks))) (sym refusal)
    ∙ ap (λ holder. refused_or (appended_reply facts.blocks holder (unfinished_block file.blocks)) (first_refusal facts caller.name (Append path) rows users)) (sym (holder_of_this (row_at path rows) file there.at))
    ∙ ap (λ block. refused_or (appended_reply facts.blocks (holder_at (row_at path rows)) block) (first_refusal facts caller.name (Append path) rows users)) (sym (unfinished_of_this (row_at path rows) file there.at))
    ∙ verdict_is facts rows users caller.name (Append path) (first_refusal facts caller.name (Append path) rows users)
    ∙ ap (λ denied. (denied_or_outcome facts rows users caller.name (Append path) denied).verdict) (sym granted)

-- what was found of the file is found at the path
pub judged_at : (path : List (List ℕ)) (rows : List Row) (file : FileRow) → file_at_row (row_at path rows) ≡ Some file → (judged : JudgedAppend) → IsJudgedFile file judged → IsJudgedAt path rows judged
judged_at path rows file at (form.Verdict verdict) found = found
judged_at path rows file at form.Closed found = (file, at, found)
judged_at path rows file at (form.Held holder block) found = (file, at, found)

-- ---- the blocks of a file

bytes_of_this : (last : Option LastBlock) (at : Option Row) (file : FileRow) → file_at_row at ≡ Some file → bytes_behind_at last at ≡ bytes_behind last (Some file)
bytes_of_this last None file h = cc
bytes_of_this last (Some row) file h = ap (bytes_behind last) h

pub replication_of_this : (at : Option Row) (file : FileRow) → file_at_row at ≡ Some file → replication_at at ≡ Some file.replication
replication_of_this None file h = cc
replication_of_this (Some row) file h = ap replication_of h

blocks_of_this : (at : Option Row) (file : FileRow) → file_at_row at ≡ Some file → blocks_of_row at ≡ file.blocks
blocks_of_this None file h = cc
blocks_of_this (Some row) file h = ap blocks_of_file h

-- what stands against a writer, and behind that what the map of blocks refuses
abbrev pub against : List ℕ → Option LastBlock → FileRow → Option Refusal → Option Refusal
against client last file behind = option_or (refused_write client file) (option_or (refused_unless_last last file) behind)

pub against_none : (client : List ℕ) (last : Option LastBlock) (file : FileRow) (behind : Option Refusal) → option_or (refused_write client file) (refused_unless_last last file) ≡ None → against client last file behind ≡ behind
against_none client last file behind h = by (refused_write client file) (refused_unless_last last file) h
  where
    by : (a b : Option Refusal) → option_or a b ≡ None → option_or a (option_or b behind) ≡ behind
    by (Some r) b k = cc
    by None (Some r) k = cc
    by None None k = refl

against_is : (path : List (List ℕ)) (rows : List Row) (client : List ℕ) (last : Option LastBlock) (file : FileRow) (behind : Option Refusal) → IsFileThere path rows file
    → first_some (refusals_of_file path rows ++ of_file (refused_write client) (row_at path rows) ∷ of_file (refused_unless_last last) (row_at path rows) ∷ behind ∷ []) ≡ against client last file behind
against_is path rows client last file behind there =
    free_at_file path rows (of_file (refused_write client) (row_at path rows) ∷ of_file (refused_unless_last last) (row_at path rows) ∷ behind ∷ []) there.free
    ∙ (ap (λ a. option_or a (option_or (of_file (refused_unless_last last) (row_at path rows)) (option_or behind None))) (of_this (refused_write client) (row_at path rows) file there.at)
    ∙ (ap (λ b. option_or (refused_write client file) (option_or b (option_or behind None))) (of_this (refused_unless_last last) (row_at path rows) file there.at)
    ∙ ap (λ c. option_or (refused_write client file) (option_or (refused_unless_last last file) c)) (or_none behind)))

module _ (facts : Facts) (path : List (List ℕ)) (rows : List Row) (users : Users) (caller : Caller) (needs : List Demand) (file : FileRow) (there : IsFileThere path rows file) (granted : denial_among rows caller needs ≡ None) where
  judged_of : (what : Op) (reply : Reply) (refusal : Option Refusal) → reply ≡ reply_of facts caller.name what rows → refusal ≡ first_refusal facts caller.name what rows users → refused_or reply refusal ≡ (judged_step facts rows users caller needs what).verdict
  judged_of what reply refusal told is =
      ap (λ r. refused_or r refusal) told
      ∙ (ap (refused_or (reply_of facts caller.name what rows)) is
      ∙ (verdict_is facts rows users caller.name what (first_refusal facts caller.name what rows users)
      ∙ ap (λ denied. (denied_or_outcome facts rows users caller.name what denied).verdict) (sym granted)))

  pub complete_verdict : (last : Option LastBlock) → refused_or (replies.Closed (bytes_behind last (Some file))) (against caller.name last file (refused_end facts.blocks last)) ≡ (judged_step facts rows users caller needs (Complete path last)).verdict
  complete_verdict last =
      judged_of (Complete path last) (replies.Closed (bytes_behind last (Some file))) (against caller.name last file (refused_end facts.blocks last))
      (ap replies.Closed (sym (bytes_of_this last (row_at path rows) file there.at))) (sym (against_is path rows caller.name last file (refused_end facts.blocks last) there))

  pub add_block_verdict : (last : Option LastBlock)
      → refused_or (added_reply facts.token caller.name (given_behind facts.blocks last facts.now file.replication)) (against caller.name last file (refused_new facts.blocks last facts.now)) ≡ (judged_step facts rows users caller needs (AddBlock path last)).verdict
  add_block_verdict last =
      judged_of (AddBlock path last) (added_reply facts.token caller.name (given_behind facts.blocks last facts.now file.replication)) (against caller.name last file (refused_new facts.blocks last facts.now))
      (ap (added_to facts.token caller.name facts.blocks last facts.now) (sym (replication_of_this (row_at path rows) file there.at))) (sym (against_is path rows caller.name last file (refused_new facts.blocks last facts.now) there))

  pub open_verdict : Done (opened_reply facts.token caller.name facts.blocks file.blocks) ≡ (judged_step facts rows users caller needs (Open path)).verdict
  open_verdict =
      judged_of (Open path) (opened_reply facts.token caller.name facts.blocks file.blocks) None
      (ap (opened_reply facts.token caller.name facts.blocks) (sym (blocks_of_this (row_at path rows) file there.at))) (sym there.free)

-- the verdict on what is judged with its needs is that of the step
pub as_judged : (facts : Facts) (rows : List Row) (users : Users) (caller : List ℕ) (who : Caller) (needs : List Demand) (what taken : Op) → who ≡ judged_caller users caller taken → needs ≡ required_rights what → what ≡ taken
    → (judged_step facts rows users who needs taken).verdict ≡ (step facts rows users caller what).verdict
as_judged facts rows users caller who needs what taken him all is = ap (λ (s : Step). s.verdict) (as_step facts rows users caller who needs what taken him all is)

-- ---- needs that are judged always, alone

pub rights_decided : (rows : List Row) (users : Users) (caller : List ℕ) (who : Caller) (needs : List Demand) → who ≡ caller_of users caller → (what : Op) → is_strict what ≡ true → is_for_nodes what ≡ false → needs ≡ required_rights what
    → denial_among rows who needs ≡ decision rows users caller what
rights_decided rows users caller who needs him what strict users_alone all =
    rw (him, all) (ap (λ b. denial_among rows (without_rank_where b (caller_of users caller)) (required_rights what)) (sym users_alone) ∙ strictly_decided rows users caller what strict)

pub nodes_decided : (rows : List Row) (users : Users) (caller : List ℕ) (who : Caller) (needs : List Demand) → who ≡ without_rank_where true (caller_of users caller) → (what : Op) → is_strict what ≡ true → is_for_nodes what ≡ true
    → needs ≡ required_rights what → denial_among rows who needs ≡ decision rows users caller what
nodes_decided rows users caller who needs him what strict nodes_alone all =
    rw (him, all) (ap (λ b. denial_among rows (without_rank_where b (caller_of users caller)) (required_rights what)) (sym nodes_alone) ∙ strictly_decided rows users caller what strict)
