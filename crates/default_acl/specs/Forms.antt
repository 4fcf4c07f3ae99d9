-- The changes of an access control list that come with a spec. (HDFS Permissions Guide, "ACLs Shell Commands".)
use Rattle.std.specs.Prelude.{◌≡◌, List, Result, Ok, Err}
use Rattle.permission_specs.specs.declared.entry.Entry.{Entry}
use Rattle.permission_specs.specs.declared.acl_change.AclChange.{AclChange}
use Rattle.permission_specs.specs.declared.acl_change.AclChange.TheVariants.{Set, Modify, Remove}
use Rattle.refusals.specs.declared.refusal.Refusal.{Refusal}
use Rattle.acl_entries.specs.Acl.{Acl}
use Rattle.partial_acl.specs.declared.fault.AclChangeFault.{AclChangeFault}
use Rattle.partial_acl.specs.declared.fault.AclChangeFault.TheVariants.{Refused, OutOfMemory}
use Rattle.default_acl.specs.declared.change.Form.{Form}
use Rattle.default_acl.specs.declared.change.Form.TheVariants as form

-- the change of a form by a spec
abbrev pub change_of : Form → List Entry → AclChange
change_of form.Set spec = Set spec
change_of form.Modify spec = Modify spec
change_of form.Remove spec = Remove spec

-- a changed list was made, or refused, as is due; out of memory may be answered instead of any answer
abbrev pub MakesChanged : Result Acl AclChangeFault → Result Acl Refusal → Type 0
MakesChanged (Ok acl) due = due ≡ Ok acl
MakesChanged (Err (Refused refusal)) due = due ≡ Err refusal
MakesChanged (Err OutOfMemory) due = Unit {0}
