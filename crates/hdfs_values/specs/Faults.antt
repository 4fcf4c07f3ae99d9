-- The codes and the texts of the faults that a text may have.
use Rattle.std.specs.Prelude.{ℕ, List, ◌++◌, codes}
use Rattle.hdfs_values.specs.declared.fault.AclFault.{AclFault}
use Rattle.hdfs_values.specs.declared.fault.AclFault.TheVariants.{Form, Duplicate, NamedBase, DefaultOnFile, NoBase, BaseRemoved, MaskRemoved}
use Rattle.hdfs_values.specs.declared.fault.IllFormed.{IllFormed}
use Rattle.hdfs_values.specs.declared.fault.IllFormed.TheVariants.{BadLine, BadPath, BadAcl, BadName, BadMode}

abbrev pub ill_formed_code : IllFormed → ℕ
ill_formed_code BadLine = 0
ill_formed_code BadPath = 1
ill_formed_code (BadAcl fault) = 9
ill_formed_code BadName = 19
ill_formed_code BadMode = 20

abbrev pub acl_fault_text : AclFault → List ℕ
acl_fault_text Form = codes "Form"
acl_fault_text Duplicate = codes "Duplicate"
acl_fault_text NamedBase = codes "NamedBase"
acl_fault_text DefaultOnFile = codes "DefaultOnFile"
acl_fault_text NoBase = codes "NoBase"
acl_fault_text BaseRemoved = codes "BaseRemoved"
acl_fault_text MaskRemoved = codes "MaskRemoved"

abbrev pub ill_formed_text : IllFormed → List ℕ
ill_formed_text BadLine = codes "0 BadLine"
ill_formed_text BadPath = codes "1 BadPath"
ill_formed_text (BadAcl fault) = codes "9 BadAcl " ++ acl_fault_text fault
ill_formed_text BadName = codes "19 BadName"
ill_formed_text BadMode = codes "20 BadMode"
