-- What the calls of this crate answer, beside what the definitions say. Out of memory may be answered instead of any answer.
use Rattle.std.specs.Prelude.{◌≡◌, ℕ, ◌+◌, Bool, true, false, ◌&&◌, length, Option, Result, Ok, Err, IsTrue}
use Rattle.std.specs.Option.{option_map_or}
use Rattle.refusals.specs.declared.refusal.Refusal.{Refusal}
use Rattle.refusals.specs.declared.refusal.Refusal.TheVariants.{TooManyEntries}
use Rattle.acl_entries.specs.Acl.{Acl, EntryList, IsEntryList, fits_in_scope, ascend, grant_rights, are_rights}
use Rattle.partial_acl.specs.declared.fault.AclChangeFault.{AclChangeFault}
use Rattle.partial_acl.specs.declared.fault.AclChangeFault.TheVariants.{Refused, OutOfMemory}
use Rattle.partial_acl.specs.AclChange.{PartialList}

-- a change was done, or refused, as is due; and a list that isn't changed stays
abbrev pub Changes : {T : Type 0} → Result T AclChangeFault → Result Acl Refusal → Acl → Acl → Type 0
Changes (Ok done) due old new = due ≡ Ok new
Changes (Err (Refused refusal)) due old new = (due ≡ Err refusal) × (new ≡ old)
Changes (Err OutOfMemory) due old new = new ≡ old

-- a call that was refused says so; one that was done, or had no memory, says nothing
abbrev pub IfChangeRefused : {T : Type 0} → Result T AclChangeFault → (Refusal → Type 0) → Type 0
IfChangeRefused (Ok done) claim = Unit {0}
IfChangeRefused (Err (Refused refusal)) claim = claim refusal
IfChangeRefused (Err OutOfMemory) claim = Unit {0}

-- a list of entries was made where it has no more than may stand in a scope, and refused where it has
abbrev pub Makes : Result EntryList AclChangeFault → EntryList → Type 0
Makes (Ok list) due = (list ≡ due) × IsEntryList due
Makes (Err (Refused refusal)) due = (refusal ≡ TooManyEntries) × (fits_in_scope due ≡ false)
Makes (Err OutOfMemory) due = Unit {0}

-- the same of a list that may be empty
abbrev pub MakesAny : Result (Option EntryList) AclChangeFault → Option EntryList → Type 0
MakesAny (Ok list) due = (list ≡ due) × IsTrue (option_map_or fits_in_scope due true)
MakesAny (Err (Refused refusal)) due = (refusal ≡ TooManyEntries) × (option_map_or fits_in_scope due true ≡ false)
MakesAny (Err OutOfMemory) due = Unit {0}

-- entries that an access control list can have: each name before the next, and rights of three bits
abbrev pub is_partial_list : PartialList → Bool
is_partial_list list =
    ascend list.users && (ascend list.groups && (grant_rights list.users && (grant_rights list.groups
    && (option_map_or are_rights list.user true && (option_map_or are_rights list.group true && option_map_or are_rights list.other true)))))

abbrev pub IsPartialList : PartialList → Type 0
IsPartialList list = IsTrue (is_partial_list list)

-- how many named entries there are
abbrev pub named_count : PartialList → ℕ
named_count list = length list.users + length list.groups
