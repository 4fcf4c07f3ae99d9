-- The request that a line of a script makes: `MOMENT CALLER VERB WORDS`, or how it is ill-formed.
-- An unknown verb and a wrong number of words come first, and then the first ill-formed word.
use Rattle.std.specs.Prelude.{ℕ, Bool, true, false, not, ◌&&◌, List, [], ◌∷◌, if◌then◌else◌, Option, Some, None, Result, Ok, Err, codes}
use Rattle.hdfs_values.specs.Text.{same}
use Rattle.hdfs_values.specs.declared.fault.IllFormed.{IllFormed}
use Rattle.hdfs_values.specs.declared.fault.IllFormed.TheVariants.{BadLine}
use Rattle.hdfs_types.specs.declared.op.Op.{Op}
use Rattle.hdfs_types.specs.declared.op.Op.TheVariants as op
use Rattle.hdfs_types.specs.declared.op.Request.{Request}
use Rattle.script_text.specs.declared.line.Asker.{Asker}
use Rattle.script_words.specs.Values.{◌>>=◌, moment_word, who_word, path_word, mode_word, replication_word, recursive_word, over_word, key_word, last_words, rename_words, change_word, groups_word, bare_change, change_by, wants_spec, wants_none}

abbrev pub mkdirs_of : List ℕ → List ℕ → Result Op IllFormed
mkdirs_of path mode = do
  p ← path_word path
  m ← mode_word mode
  Ok (op.Mkdirs p m)

abbrev pub stat_of : List ℕ → Result Op IllFormed
stat_of path = do
  p ← path_word path
  Ok (op.Stat p)

abbrev pub ls_of : List ℕ → Result Op IllFormed
ls_of path = do
  p ← path_word path
  Ok (op.List p)

abbrev pub du_of : List ℕ → Result Op IllFormed
du_of path = do
  p ← path_word path
  Ok (op.Summary p)

abbrev pub delete_of : List ℕ → Result Op IllFormed
delete_of path = do
  p ← path_word path
  Ok (op.Delete p false)

abbrev pub delete_with : List ℕ → List ℕ → Result Op IllFormed
delete_with path recursive = do
  p ← path_word path
  r ← recursive_word recursive
  Ok (op.Delete p r)

abbrev pub chmod_of : List ℕ → List ℕ → Result Op IllFormed
chmod_of path mode = do
  p ← path_word path
  m ← mode_word mode
  Ok (op.SetMode p m)

abbrev pub chown_of : List ℕ → List ℕ → List ℕ → Result Op IllFormed
chown_of path owner group = do
  p ← path_word path
  o ← change_word owner
  g ← change_word group
  Ok (op.SetOwner p o g)

abbrev pub getfacl_of : List ℕ → Result Op IllFormed
getfacl_of path = do
  p ← path_word path
  Ok (op.GetAcl p)

abbrev pub setfacl_of : List ℕ → List ℕ → Result Op IllFormed
setfacl_of path form = do
  p ← path_word path
  c ← bare_change form
  Ok (op.SetAcl p c)

abbrev pub setfacl_with : List ℕ → List ℕ → List ℕ → Result Op IllFormed
setfacl_with path form spec = do
  p ← path_word path
  c ← change_by form spec
  Ok (op.SetAcl p c)

abbrev pub adduser_of : List ℕ → List ℕ → Result Op IllFormed
adduser_of user groups = do
  u ← who_word user
  g ← groups_word groups
  Ok (op.AddUser u g)

abbrev pub set_groups_of : List ℕ → List ℕ → Result Op IllFormed
set_groups_of user groups = do
  u ← who_word user
  g ← groups_word groups
  Ok (op.SetGroups u g)

abbrev pub create_of : List ℕ → List ℕ → List ℕ → Result Op IllFormed
create_of path mode replication = do
  p ← path_word path
  m ← mode_word mode
  r ← replication_word replication
  Ok (op.Create p m r false)

abbrev pub create_with : List ℕ → List ℕ → List ℕ → List ℕ → Result Op IllFormed
create_with path mode replication over = do
  p ← path_word path
  m ← mode_word mode
  r ← replication_word replication
  o ← over_word over
  Ok (op.Create p m r o)

abbrev pub append_of : List ℕ → Result Op IllFormed
append_of path = do
  p ← path_word path
  Ok (op.Append p)

abbrev pub addblock_of : List ℕ → Result Op IllFormed
addblock_of path = do
  p ← path_word path
  Ok (op.AddBlock p None)

abbrev pub addblock_with : List ℕ → List ℕ → List ℕ → Result Op IllFormed
addblock_with path block bytes = do
  p ← path_word path
  l ← last_words block bytes
  Ok (op.AddBlock p (Some l))

abbrev pub complete_of : List ℕ → Result Op IllFormed
complete_of path = do
  p ← path_word path
  Ok (op.Complete p None)

abbrev pub complete_with : List ℕ → List ℕ → List ℕ → Result Op IllFormed
complete_with path block bytes = do
  p ← path_word path
  l ← last_words block bytes
  Ok (op.Complete p (Some l))

abbrev pub open_of : List ℕ → Result Op IllFormed
open_of path = do
  p ← path_word path
  Ok (op.Open p)

abbrev pub setrep_of : List ℕ → List ℕ → Result Op IllFormed
setrep_of path replication = do
  p ← path_word path
  r ← replication_word replication
  Ok (op.SetReplication p r)

abbrev pub rollkey_of : List ℕ → Result Op IllFormed
rollkey_of digits = do
  k ← key_word digits
  Ok (op.RollKey k)

-- `on` or `off`
abbrev pub switch_word : List ℕ → Result Bool IllFormed
switch_word word = if same word (codes "on") then Ok true else (if same word (codes "off") then Ok false else Err BadLine)

abbrev pub permissions_of : List ℕ → Result Op IllFormed
permissions_of word = do
  on ← switch_word word
  Ok (op.SetChecking on)

-- the operation that a verb alone says
abbrev pub op_of_none : List ℕ → Option (Result Op IllFormed)
op_of_none verb =
    if same verb (codes "renew") then Some (Ok op.Renew) else
    if same verb (codes "tick") then Some (Ok op.Tick) else
    if same verb (codes "heartbeat") then Some (Ok op.Heartbeat) else None

-- the operation that a verb says whose one word is no path
abbrev pub op_without_path : List ℕ → List ℕ → Option (Result Op IllFormed)
op_without_path verb word =
    if same verb (codes "rollkey") then Some (rollkey_of word) else
    if same verb (codes "permissions") then Some (permissions_of word) else None

-- the operation that a verb and its one word say
abbrev pub op_of_one : List ℕ → List ℕ → Option (Result Op IllFormed)
op_of_one verb word =
    if same verb (codes "stat") then Some (stat_of word) else
    if same verb (codes "ls") then Some (ls_of word) else
    if same verb (codes "du") then Some (du_of word) else
    if same verb (codes "delete") then Some (delete_of word) else
    if same verb (codes "getfacl") then Some (getfacl_of word) else
    if same verb (codes "append") then Some (append_of word) else
    if same verb (codes "addblock") then Some (addblock_of word) else
    if same verb (codes "complete") then Some (complete_of word) else
    if same verb (codes "open") then Some (open_of word) else op_without_path verb word

abbrev pub op_of_two : List ℕ → List ℕ → List ℕ → Option (Result Op IllFormed)
op_of_two verb first second =
    if same verb (codes "mkdirs") then Some (mkdirs_of first second) else
    if same verb (codes "delete") then Some (delete_with first second) else
    if same verb (codes "rename") then Some (rename_words first second) else
    if same verb (codes "chmod") then Some (chmod_of first second) else
    if same verb (codes "adduser") then Some (adduser_of first second) else
    if same verb (codes "groups") then Some (set_groups_of first second) else
    if same verb (codes "setrep") then Some (setrep_of first second) else
    if same verb (codes "setfacl") && not (wants_spec second) then Some (setfacl_of first second) else None

abbrev pub op_of_three : List ℕ → List ℕ → List ℕ → List ℕ → Option (Result Op IllFormed)
op_of_three verb first second third =
    if same verb (codes "chown") then Some (chown_of first second third) else
    if same verb (codes "create") then Some (create_of first second third) else
    if same verb (codes "addblock") then Some (addblock_with first second third) else
    if same verb (codes "complete") then Some (complete_with first second third) else
    if same verb (codes "setfacl") && not (wants_none second) then Some (setfacl_with first second third) else None

abbrev pub op_of_four : List ℕ → List ℕ → List ℕ → List ℕ → List ℕ → Option (Result Op IllFormed)
op_of_four verb first second third fourth =
    if same verb (codes "create") then Some (create_with first second third fourth) else None

-- the operation that a verb and its words say; nothing where the verb is unknown or wants another number of words
abbrev pub op_of_words : List ℕ → List (List ℕ) → Option (Result Op IllFormed)
op_of_words verb [] = op_of_none verb
op_of_words verb (word ∷ []) = op_of_one verb word
op_of_words verb (first ∷ second ∷ []) = op_of_two verb first second
op_of_words verb (first ∷ second ∷ third ∷ []) = op_of_three verb first second third
op_of_words verb (first ∷ second ∷ third ∷ fourth ∷ []) = op_of_four verb first second third fourth
op_of_words verb _ = None

-- who asks, and when
abbrev pub asker_of : List ℕ → List ℕ → Result Asker IllFormed
asker_of moment caller = do
  m ← moment_word moment
  c ← who_word caller
  Ok (record { caller = c; moment = m })

abbrev pub asked_for : Asker → Result Op IllFormed → Result Request IllFormed
asked_for asker said = do
  o ← said
  Ok (record { caller = asker.caller; moment = asker.moment; op = o })

abbrev pub request_with : List ℕ → List ℕ → Option (Result Op IllFormed) → Result Request IllFormed
request_with moment caller None = Err BadLine
request_with moment caller (Some said) = do
  m ← moment_word moment
  c ← who_word caller
  o ← said
  Ok (record { caller = c; moment = m; op = o })

abbrev pub request_of : List (List ℕ) → Result Request IllFormed
request_of (moment ∷ caller ∷ verb ∷ words) = request_with moment caller (op_of_words verb words)
request_of _ = Err BadLine
