-- What replies hold.
use Rattle.std.proofs.Common.{◌≡◌, ℕ, ◌+◌, List, length, sym, ap, ◌∙◌}
use Rattle.block_answers.specs.LocatedBlocks.{OpenedFile}
use Rattle.hdfs_types.specs.declared.reply.Reply.TheVariants.{Summary, Deleted, Names, Opened}
use Rattle.hdfs_types.specs.declared.reply.ContentSummary.{ContentSummary}
use Rattle.namespace_rows.specs.declared.row.Row.{Row}
use Rattle.flat_rows.specs.Outcome.{summary_of, bytes_in}
use Rattle.outcome_laws.proofs.Counting.{kinds}

pub count_of : {n m : ℕ} → Deleted n ≡ Deleted m → n ≡ m
count_of e = cc

pub names_of : {n m : List (List ℕ)} → Names n ≡ Names m → n ≡ m
names_of e = cc

inner : {s t : ContentSummary} → Summary s ≡ Summary t → s ≡ t
inner e = cc

pub opened_is : {o p : OpenedFile} → Opened o ≡ Opened p → o ≡ p
opened_is e = cc

pub bytes_told : (rows : List Row) (summary : ContentSummary) → summary_of rows ≡ Summary summary → bytes_in rows ≡ summary.bytes
bytes_told rows summary e = ap (λ (s : ContentSummary). s.bytes) (inner e)

pub summary_is : (rows : List Row) (summary : ContentSummary) → summary_of rows ≡ Summary summary → summary.directories + summary.files ≡ length rows
summary_is rows summary e = ap (λ (s : ContentSummary). s.directories + s.files) (sym (inner e)) ∙ kinds rows
