use Rattle.std.proofs.Common.{◌≡◌, Some, is_some, refl}
use Rattle.namespace_rows.specs.Rows.{row_at}
use Rattle.permission_laws.proofs.Endings.{either_way}
use Rattle.permission_laws.proofs.Parts.{with_file_of, with_list_of, with_owner_of, files_alone, lists_alone, owners_alone, undone_alone, all_alike}
use Rattle.permission_laws.proofs.laws.parts_change_alone.Goals as goal

pub returns-clause-files : goal.returns-clause-files
returns-clause-files c = λ a path row later about there after.
    either_way a.facts a.rows a.users a.caller a.op (λ some. row_at path some ≡ Some later → with_file_of row later ≡ row)
    (undone_alone a.rows path row later there with_file_of (λ r. refl)) (files_alone a.rows path row later there a.facts a.caller a.op about) after

pub returns-clause-lists : goal.returns-clause-lists
returns-clause-lists c = λ a path row later about there after.
    either_way a.facts a.rows a.users a.caller a.op (λ some. row_at path some ≡ Some later → with_list_of row later ≡ row)
    (undone_alone a.rows path row later there with_list_of (λ r. refl)) (lists_alone a.rows path row later there a.facts a.caller a.op about) after

pub returns-clause-owners : goal.returns-clause-owners
returns-clause-owners c = λ a path row later about there after.
    either_way a.facts a.rows a.users a.caller a.op (λ some. row_at path some ≡ Some later → with_owner_of row later ≡ row)
    (undone_alone a.rows path row later there with_owner_of (λ r. refl)) (owners_alone a.rows path row later there a.facts a.caller a.op about) after

pub returns-clause-stand : goal.returns-clause-stand
returns-clause-stand c = λ a path about.
    either_way a.facts a.rows a.users a.caller a.op (λ some. is_some (row_at path some) ≡ is_some (row_at path a.rows)) refl (all_alike a.rows path a.facts a.caller a.op about)
