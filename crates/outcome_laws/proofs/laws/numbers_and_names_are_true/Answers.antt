use Rattle.std.proofs.Common.{◌+◌, length, sym, ap, ◌∙◌, cond}
use Rattle.std.specs.List.{list_any}
use Rattle.hdfs_values.specs.Text.{same}
use Rattle.hdfs_types.specs.declared.op.Op.TheVariants as op
use Rattle.block_answers.specs.LocatedBlocks.{OpenedFile}
use Rattle.hdfs_types.specs.declared.reply.Reply.TheVariants.{Summary, Deleted, Names, Status, Opened, Closed}
use Rattle.file_blocks.specs.Blocks.{length_of}
use Rattle.namespace_rows.specs.Rows.{row_at}
use Rattle.namespace_rows.specs.Changes.{rows_under, without, child_names}
use Rattle.flat_rows.specs.Verdicts.{is_done}
use Rattle.flat_rows.specs.declared.verdict.Verdict.TheVariants.{Done}
use Rattle.flat_rows.specs.Outcome.{listed_names, own_name, bytes_in}
use Rattle.flat_rows.specs.BlockOutcome.{blocks_of_row}
use Rattle.outcome_laws.specs.Laws.{bytes_held}
use Rattle.outcome_laws.proofs.Doing.{left, told, answered}
use Rattle.outcome_laws.proofs.Counting.{fewer}
use Rattle.outcome_laws.proofs.Listing.{names_told}
use Rattle.outcome_laws.proofs.Told.{count_of, summary_is, names_of, opened_is, bytes_told}
use Rattle.outcome_laws.proofs.Bytes.{bytes_gone}
use Rattle.outcome_laws.proofs.Lengths.{length_told, ended}
use Rattle.outcome_laws.proofs.laws.numbers_and_names_are_true.Goals as goal

pub returns-clause-deleted : goal.returns-clause-deleted
returns-clause-deleted c = λ a path recursive count asked verdict.
    fewer path a.rows ∙ ap (λ n. length (without path a.rows) + n) (count_of (told a (op.Delete path recursive) asked (Deleted count) verdict))
    ∙ ap (λ some. length some + count) (sym (left a (op.Delete path recursive) asked (ap is_done verdict)))

pub returns-clause-counted : goal.returns-clause-counted
returns-clause-counted c = λ look deletion path recursive summary count alike looked asked summed deleted.
    summary_is (rows_under path look.rows) summary (told look (op.Summary path) looked (Summary summary) summed)
    ∙ ap (λ some. length (rows_under path some)) alike ∙ count_of (told deletion (op.Delete path recursive) asked (Deleted count) deleted)

pub returns-clause-listed : goal.returns-clause-listed
returns-clause-listed c = λ a path directory names name asked at kind verdict.
    ap (list_any (same name)) (sym (names_of (told a (op.List path) asked (Names names) verdict)) ∙ ap (λ o. listed_names path o a.rows) at ∙ ap (λ b. cond b (child_names path a.rows) (own_name path)) kind)
    ∙ names_told name path a.rows

pub returns-clause-bytes : goal.returns-clause-bytes
returns-clause-bytes c = λ look deletion path recursive summary alike looked asked summed is_done.
    bytes_gone path deletion.rows ∙ ap (λ n. bytes_held (without path deletion.rows) + n) (ap (λ some. bytes_in (rows_under path some)) (sym alike) ∙ bytes_told (rows_under path look.rows) summary (told look (op.Summary path) looked (Summary summary) summed))
    ∙ ap (λ some. bytes_held some + summary.bytes) (sym (left deletion (op.Delete path recursive) asked is_done))

pub returns-clause-readers : goal.returns-clause-readers
returns-clause-readers c = λ look reading path status detail opened alike looked asked stated file read.
    sym (ap (λ (o : OpenedFile). o.length) (opened_is (told reading (op.Open path) asked (Opened opened) read)))
    ∙ ap (λ some. length_of (blocks_of_row (row_at path some))) (sym alike) ∙ length_told (row_at path look.rows) status detail (told look (op.Stat path) looked (Status status) stated) file

pub returns-clause-writers : goal.returns-clause-writers
returns-clause-writers c = λ a path last later file is_done asked after is.
    let both = ended path a.rows last later file (ap (row_at path) (sym (left a (op.Complete path last) asked is_done)) ∙ after) is in
    (answered a (op.Complete path last) asked is_done ∙ ap (λ n. Done (Closed n)) (sym both.0), both.1)
