-- How a need, and what decided about it, are printed.
use Rattle.std.specs.Prelude.{ℕ, List, [], ◌++◌, Option, Some, None, codes}
use Rattle.permission_bits.specs.Rights.{rights_text}
use Rattle.permission_specs.specs.Entry.{entry_text}
use Rattle.permission_bits.specs.declared.rights.Rights as bits
use Rattle.required_rights.specs.declared.need.Need.{Need}
use Rattle.required_rights.specs.declared.need.Need.TheVariants as need
use Rattle.required_rights.specs.declared.need.By.{By}
use Rattle.required_rights.specs.declared.need.By.TheVariants as by

abbrev pub need_text : Need → List ℕ
need_text (need.Rights asked) = rights_text asked.0
need_text need.Sticky = codes "sticky"
need_text need.Owner = codes "owner"
need_text (need.Member group) = codes "member:" ++ group
need_text need.Superuser = codes "superuser"
need_text need.Node = codes "node"

abbrev pub mask_text : Option bits.Rights → List ℕ
mask_text None = []
mask_text (Some mask) = codes " mask::" ++ rights_text mask.0

abbrev pub by_text : By → List ℕ
by_text (by.Entry entry mask) = entry_text entry ++ mask_text mask
by_text (by.Owner owner) = codes "owner:" ++ owner
by_text (by.Owners owner above) = codes "owner:" ++ (owner ++ (codes " dir:" ++ above))
by_text (by.Group group) = codes "group:" ++ group
by_text by.Superuser = codes "superuser"
by_text by.Node = codes "node"
by_text by.Unchecked = codes "unchecked"
