-- The texts of replies.
use Rattle.std.specs.Prelude.{ℕ, Bool, true, false, List, [], ◌∷◌, ◌++◌, Option, Some, None, codes}
use Rattle.std.specs.Fmt.{decimal}
use Rattle.std.specs.List.{flat_map}
use Rattle.permission_bits.specs.Mode.{mode_text}
use Rattle.hdfs_types.specs.AclStatus.{AclStatus}
use Rattle.file_states.specs.declared.kind.ObjectKind.{ObjectKind}
use Rattle.file_states.specs.declared.kind.ObjectKind.TheVariants.{File, Directory}
use Rattle.hdfs_types.specs.File.{detail_text}
use Rattle.hdfs_types.specs.declared.file.FileDetail.{FileDetail}
use Rattle.hdfs_types.specs.declared.reply.FileStatus.{FileStatus}
use Rattle.hdfs_types.specs.declared.reply.ContentSummary.{ContentSummary}

abbrev pub object_kind_text : ObjectKind → List ℕ
object_kind_text File = codes "file"
object_kind_text Directory = codes "dir"

-- behind a mode that doesn't show the whole access control list
abbrev pub acl_mark : Bool → List ℕ
acl_mark true = codes "+"
acl_mark false = []

abbrev pub file_text : Option FileDetail → List ℕ
file_text (Some detail) = detail_text detail
file_text None = []

abbrev pub status_text : FileStatus → List ℕ
status_text status =
    object_kind_text status.kind ++ (32 ∷ (mode_text status.mode ++ (acl_mark status.has_acl ++ (32 ∷ (status.owner ++ (32 ∷ (status.group ++ file_text status.file)))))))

abbrev pub acl_status_text : AclStatus → List ℕ
acl_status_text status = status.owner ++ (32 ∷ (status.group ++ (32 ∷ status.spec)))

-- each name behind a blank
abbrev pub names_text : List (List ℕ) → List ℕ
names_text names = flat_map (λ name. 32 ∷ name) names

abbrev pub summary_text : ContentSummary → List ℕ
summary_text summary = 32 ∷ (decimal summary.directories ++ (32 ∷ (decimal summary.files ++ (32 ∷ decimal summary.bytes))))
