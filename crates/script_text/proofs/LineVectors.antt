-- The definitions compute a line of each verb, and the faults that come first.
use Rattle.std.proofs.Common.{◌≡◌, ℕ, true, false, List, [], ◌∷◌, Option, Some, None, Result, Ok, Err, refl}
use Rattle.std.specs.Prelude.{codes}
use Rattle.hdfs_values.specs.declared.fault.IllFormed.{IllFormed}
use Rattle.hdfs_values.specs.declared.fault.IllFormed.TheVariants.{BadLine, BadPath, BadName, BadMode, BadAcl}
use Rattle.hdfs_values.specs.declared.fault.AclFault.TheVariants as faults
use Rattle.permission_specs.specs.declared.acl_change.AclChange.TheVariants as change
use Rattle.permission_specs.specs.declared.entry.Scope.{Scope}
use Rattle.permission_specs.specs.declared.entry.Scope.TheVariants.{Access, Default}
use Rattle.permission_specs.specs.declared.entry.EntryKind.{EntryKind}
use Rattle.permission_specs.specs.declared.entry.EntryKind.TheVariants.{User, Group, Mask, Other}
use Rattle.permission_specs.specs.declared.entry.Entry.{Entry}
use Rattle.hdfs_types.specs.declared.op.Op.{Op}
use Rattle.hdfs_types.specs.declared.op.Op.TheVariants as op
use Rattle.hdfs_types.specs.declared.op.Request.{Request}
use Rattle.permission_bits.specs.Rights.{rights}
use Rattle.script_text.specs.Script.{request_of}
use Rattle.script_words.specs.Words.{words_of}

abbrev said : List ℕ → Result Request IllFormed
said line = request_of (words_of line)

abbrev anns : Op → Result Request IllFormed
anns asked = Ok (record { caller = codes "ann"; moment = 0; op = asked })

abbrev a : List (List ℕ)
a = codes "a" ∷ []

ls : said (codes "0 ann ls /a") ≡ anns (op.List a)
ls = refl

du : said (codes "0 ann du /a") ≡ anns (op.Summary a)
du = refl

delete : said (codes "0 ann delete /a") ≡ anns (op.Delete a false)
delete = refl

delete_all : said (codes "0 ann delete /a recursive") ≡ anns (op.Delete a true)
delete_all = refl

rename : said (codes "0 ann rename /a /a/b") ≡ anns (op.Rename a (codes "a" ∷ codes "b" ∷ []))
rename = refl

chmod : said (codes "0 ann chmod /a 1777") ≡ anns (op.SetMode a 1023)
chmod = refl

chown : said (codes "0 ann chown /a - crew") ≡ anns (op.SetOwner a None (Some (codes "crew")))
chown = refl

adduser : said (codes "0 ann adduser bob g2,g1,g2") ≡ anns (op.AddUser (codes "bob") (codes "g2" ∷ codes "g1" ∷ codes "g2" ∷ []))
adduser = refl

groups : said (codes "0 ann groups bob -") ≡ anns (op.SetGroups (codes "bob") [])
groups = refl

abbrev entry : Scope → EntryKind → Option (List ℕ) → ℕ → Entry
entry scope kind name bits = record { scope = scope; kind = kind; name = name; rights = rights bits }

getfacl : said (codes "0 ann getfacl /a") ≡ anns (op.GetAcl a)
getfacl = refl

setfacl_set : said (codes "0 ann setfacl /a set user::rwx,default:group:crew:r--")
    ≡ anns (op.SetAcl a (change.Set (entry Access User None 7 ∷ entry Default Group (Some (codes "crew")) 4 ∷ [])))
setfacl_set = refl

setfacl_modify : said (codes "0 ann setfacl /a modify mask::--x,other::-w-")
    ≡ anns (op.SetAcl a (change.Modify (entry Access Mask None 1 ∷ entry Access Other None 2 ∷ [])))
setfacl_modify = refl

setfacl_remove : said (codes "0 ann setfacl /a remove user:b:,default:mask")
    ≡ anns (op.SetAcl a (change.Remove (entry Access User (Some (codes "b")) 0 ∷ entry Default Mask None 0 ∷ [])))
setfacl_remove = refl

setfacl_default : said (codes "0 ann setfacl /a default") ≡ anns (op.SetAcl a change.RemoveDefault)
setfacl_default = refl

setfacl_clear : said (codes "0 ann setfacl /a clear") ≡ anns (op.SetAcl a change.Clear)
setfacl_clear = refl

create : said (codes "0 ann create /a 644 016") ≡ anns (op.Create a 420 16 false)
create = refl

create_over : said (codes "0 ann create /a 1777 1 over") ≡ anns (op.Create a 1023 1 true)
create_over = refl

append : said (codes "0 ann append /a") ≡ anns (op.Append a)
append = refl

addblock : said (codes "0 ann addblock /a") ≡ anns (op.AddBlock a None)
addblock = refl

addblock_behind : said (codes "0 ann addblock /a 7 09") ≡ anns (op.AddBlock a (Some (record { block = 7; length = 9 })))
addblock_behind = refl

complete : said (codes "0 ann complete /a") ≡ anns (op.Complete a None)
complete = refl

complete_behind : said (codes "0 ann complete /a 7 0") ≡ anns (op.Complete a (Some (record { block = 7; length = 0 })))
complete_behind = refl

open_to_read : said (codes "0 ann open /a") ≡ anns (op.Open a)
open_to_read = refl

setrep : said (codes "0 ann setrep /a 3") ≡ anns (op.SetReplication a 3)
setrep = refl

renew : said (codes "0 ann renew") ≡ anns op.Renew
renew = refl

tick : said (codes "0 ann tick") ≡ anns op.Tick
tick = refl

heartbeat : said (codes "0 ann heartbeat") ≡ anns op.Heartbeat
heartbeat = refl

mode_before_replication : said (codes "0 ann create /a 999 77") ≡ Err BadMode
mode_before_replication = refl

replication_too_great : said (codes "0 ann create /a 644 17") ≡ Err BadLine
replication_too_great = refl

path_before_over : said (codes "0 ann create /.. 999 77 under") ≡ Err BadPath
path_before_over = refl

block_without_bytes : said (codes "0 a:b complete /.. 7") ≡ Err BadLine
block_without_bytes = refl

number_too_great : said (codes "0 ann addblock /a 7 18446744073709551616") ≡ Err BadLine
number_too_great = refl

renew_with_a_word : said (codes "0 a:b renew /..") ≡ Err BadLine
renew_with_a_word = refl

clear_with_entries : said (codes "0 a:b setfacl /.. clear user") ≡ Err BadLine
clear_with_entries = refl

set_without_entries : said (codes "0 a:b setfacl /.. set") ≡ Err BadLine
set_without_entries = refl

path_before_unknown_form : said (codes "0 ann setfacl /.. frob") ≡ Err BadPath
path_before_unknown_form = refl

unknown_form_before_entries : said (codes "0 ann setfacl /a frob user") ≡ Err BadLine
unknown_form_before_entries = refl

ill_formed_entries : said (codes "0 ann setfacl /a set mask:x:rwx,user") ≡ Err (BadAcl faults.Form)
ill_formed_entries = refl

doubled_entries : said (codes "0 ann setfacl /a remove mask:x,user,user:") ≡ Err (BadAcl faults.Duplicate)
doubled_entries = refl

named_mask : said (codes "0 ann setfacl /a modify mask:x:rwx") ≡ Err (BadAcl faults.NamedBase)
named_mask = refl

unknown_word : said (codes "0 ann delete /a nonsense") ≡ Err BadLine
unknown_word = refl

path_before_word : said (codes "0 ann delete /.. nonsense") ≡ Err BadPath
path_before_word = refl

gap_in_groups : said (codes "0 ann groups bob a,,b") ≡ Err BadName
gap_in_groups = refl

count_first : said (codes "x a:b chown /.. -") ≡ Err BadLine
count_first = refl
