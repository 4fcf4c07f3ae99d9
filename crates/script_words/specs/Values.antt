-- What the words of a line say, or how one is ill-formed.
use Rattle.std.specs.Prelude.{ℕ, Bool, true, false, ◌||◌, List, [], if◌then◌else◌, Option, Some, None, Result, Ok, Err, codes, ok_or}
use Rattle.std.specs.List.{list_all}
use Rattle.std.specs.Option.{option_and_then}
use Rattle.std.specs.Result.{result_ok}
use Rattle.hdfs_values.specs.Text.{same}
use Rattle.hdfs_values.specs.Number.{number_of}
use Rattle.hdfs_values.specs.Moment.{moment_of}
use Rattle.hdfs_values.specs.Who.{is_who, who_of}
use Rattle.file_paths.specs.Path.{path_of}
use Rattle.permission_bits.specs.Mode.{mode_of}
use Rattle.hdfs_values.specs.Replication.{is_replication}
use Rattle.hdfs_values.specs.declared.fault.IllFormed.{IllFormed}
use Rattle.hdfs_values.specs.declared.fault.IllFormed.TheVariants.{BadLine, BadPath, BadName, BadMode, BadAcl}
use Rattle.block_records.specs.declared.last_block.LastBlock.{LastBlock}
use Rattle.hdfs_types.specs.declared.op.Op.{Op}
use Rattle.hdfs_types.specs.declared.op.Op.TheVariants.{Rename}
use Rattle.permission_specs.specs.declared.entry.Entry.{Entry}
use Rattle.hdfs_values.specs.declared.fault.AclFault.{AclFault}
use Rattle.permission_specs.specs.declared.acl_change.AclChange.{AclChange}
use Rattle.permission_specs.specs.declared.acl_change.AclChange.TheVariants as change
use Rattle.permission_specs.specs.SpecText.{spec_of}
use Rattle.hex.specs.Hex.{decode_sized}
use Rattle.script_words.specs.Words.{pieces_at}

-- the first fault, else what comes next makes of the value
infixl 10 ◌>>=◌
abbrev pub ◌>>=◌ : {A B : Type 0} → Result A IllFormed → (A → Result B IllFormed) → Result B IllFormed
(Ok x) >>= f = f x
(Err fault) >>= f = Err fault

-- milliseconds in decimal digits
abbrev pub moment_word : List ℕ → Result ℕ IllFormed
moment_word word = ok_or (option_and_then moment_of (number_of word)) BadLine

abbrev pub who_word : List ℕ → Result (List ℕ) IllFormed
who_word word = ok_or (who_of word) BadName

abbrev pub path_word : List ℕ → Result (List (List ℕ)) IllFormed
path_word word = ok_or (path_of word) BadPath

abbrev pub mode_word : List ℕ → Result ℕ IllFormed
mode_word word = ok_or (mode_of word) BadMode

abbrev pub allowed_replication : ℕ → Option ℕ
allowed_replication replicas = if is_replication replicas then Some replicas else None

-- how many replicas, in decimal digits
abbrev pub replication_word : List ℕ → Result ℕ IllFormed
replication_word word = ok_or (option_and_then allowed_replication (number_of word)) BadLine

-- a number below 2^64, as of a block or of bytes
abbrev pub number_word : List ℕ → Result ℕ IllFormed
number_word word = ok_or (number_of word) BadLine

-- the 20 bytes of a key, in 40 hexadecimal digits of either case
abbrev pub key_word : List ℕ → Result (List ℕ) IllFormed
key_word word = ok_or (result_ok (decode_sized word 20)) BadLine

-- whether a deletion is recursive, as the word behind its path says
abbrev pub recursive_word : List ℕ → Result Bool IllFormed
recursive_word word = if same word (codes "recursive") then Ok true else Err BadLine

-- that what is made takes the place of a file, as the word behind the replication says
abbrev pub over_word : List ℕ → Result Bool IllFormed
over_word word = if same word (codes "over") then Ok true else Err BadLine

-- which block the last one is, and how many bytes were written of it
abbrev pub last_words : List ℕ → List ℕ → Result LastBlock IllFormed
last_words block bytes = do
  b ← number_word block
  n ← number_word bytes
  Ok (record { block = b; length = n })

-- a rename of the first path to the second
abbrev pub rename_words : List ℕ → List ℕ → Result Op IllFormed
rename_words from to = do
  f ← path_word from
  t ← path_word to
  Ok (Rename f t)

abbrev pub new_who_word : List ℕ → Result (Option (List ℕ)) IllFormed
new_who_word word = do
  w ← who_word word
  Ok (Some w)

-- a new owner or group, or `-` for the one that there is
abbrev pub change_word : List ℕ → Result (Option (List ℕ)) IllFormed
change_word word = if same word (codes "-") then Ok None else new_who_word word

-- the names that pieces are, where each is one
abbrev pub whos_of : List (List ℕ) → Option (List (List ℕ))
whos_of pieces = if list_all is_who pieces then Some pieces else None

-- names with a comma between each two, or `-` for none; a group may stand twice
abbrev pub groups_in_word : List ℕ → Option (List (List ℕ))
groups_in_word word = if same word (codes "-") then Some [] else whos_of (pieces_at 44 word)

abbrev pub groups_word : List ℕ → Result (List (List ℕ)) IllFormed
groups_word word = ok_or (groups_in_word word) BadName

abbrev pub spec_or_bad : Result (List Entry) AclFault → Result (List Entry) IllFormed
spec_or_bad (Ok spec) = Ok spec
spec_or_bad (Err fault) = Err (BadAcl fault)

-- entries of an access control list, with their rights or without
abbrev pub spec_word : Bool → List ℕ → Result (List Entry) IllFormed
spec_word with_rights word = spec_or_bad (spec_of with_rights word)

abbrev pub set_to : List ℕ → Result AclChange IllFormed
set_to spec = do
  s ← spec_word true spec
  Ok (change.Set s)

abbrev pub modify_by : List ℕ → Result AclChange IllFormed
modify_by spec = do
  s ← spec_word true spec
  Ok (change.Modify s)

abbrev pub remove_all : List ℕ → Result AclChange IllFormed
remove_all spec = do
  s ← spec_word false spec
  Ok (change.Remove s)

-- a change that names entries
abbrev pub change_by : List ℕ → List ℕ → Result AclChange IllFormed
change_by form spec =
    if same form (codes "set") then set_to spec else
    if same form (codes "modify") then modify_by spec else
    if same form (codes "remove") then remove_all spec else Err BadLine

-- a change that names none
abbrev pub bare_change : List ℕ → Result AclChange IllFormed
bare_change form =
    if same form (codes "default") then Ok change.RemoveDefault else
    if same form (codes "clear") then Ok change.Clear else Err BadLine

-- a form that is known wants a spec, or none
abbrev pub wants_spec : List ℕ → Bool
wants_spec form = same form (codes "set") || (same form (codes "modify") || same form (codes "remove"))

abbrev pub wants_none : List ℕ → Bool
wants_none form = same form (codes "default") || same form (codes "clear")
