-- The codes and the texts of refusals.
use Rattle.std.specs.Prelude.{ℕ, List, ◌++◌, codes}
use Rattle.std.specs.Fmt.{decimal}
use Rattle.file_paths.specs.Path.{path_text}
use Rattle.hdfs_values.specs.Faults.{acl_fault_text}
use Rattle.refusals.specs.declared.refusal.Counter.{Counter}
use Rattle.refusals.specs.declared.refusal.Counter.TheVariants as counter
use Rattle.refusals.specs.declared.refusal.Refusal.{Refusal}
use Rattle.refusals.specs.declared.refusal.Refusal.TheVariants.{BadPath, NotFound, NotDirectory, IsDirectory, Exists, NotEmpty, IsRoot, UnderItself, BadAcl, TooManyEntries, LeaseHeld, RecoveryRunning, NoLease, NotOpen, NotYetReplicated, TooFewNodes, StaleStamp, Spent, BadName}

abbrev pub counter_text : Counter → List ℕ
counter_text counter.BlockId = codes "BlockId"
counter_text counter.Stamp = codes "Stamp"
counter_text counter.Serial = codes "Serial"

abbrev pub refusal_code : Refusal → ℕ
refusal_code BadPath = 1
refusal_code NotFound = 2
refusal_code (NotDirectory file) = 3
refusal_code IsDirectory = 4
refusal_code Exists = 5
refusal_code NotEmpty = 6
refusal_code IsRoot = 7
refusal_code UnderItself = 8
refusal_code (BadAcl fault) = 9
refusal_code TooManyEntries = 10
refusal_code (LeaseHeld client) = 11
refusal_code RecoveryRunning = 12
refusal_code NoLease = 13
refusal_code NotOpen = 14
refusal_code NotYetReplicated = 15
refusal_code TooFewNodes = 16
refusal_code (StaleStamp newest) = 17
refusal_code (Spent counter) = 18
refusal_code BadName = 19

-- the code and the name, without what is told behind them
abbrev pub refusal_title : Refusal → List ℕ
refusal_title BadPath = codes "1 BadPath"
refusal_title NotFound = codes "2 NotFound"
refusal_title (NotDirectory file) = codes "3 NotDirectory"
refusal_title IsDirectory = codes "4 IsDirectory"
refusal_title Exists = codes "5 Exists"
refusal_title NotEmpty = codes "6 NotEmpty"
refusal_title IsRoot = codes "7 IsRoot"
refusal_title UnderItself = codes "8 UnderItself"
refusal_title (BadAcl fault) = codes "9 BadAcl"
refusal_title TooManyEntries = codes "10 TooManyEntries"
refusal_title (LeaseHeld client) = codes "11 LeaseHeld"
refusal_title RecoveryRunning = codes "12 RecoveryRunning"
refusal_title NoLease = codes "13 NoLease"
refusal_title NotOpen = codes "14 NotOpen"
refusal_title NotYetReplicated = codes "15 NotYetReplicated"
refusal_title TooFewNodes = codes "16 TooFewNodes"
refusal_title (StaleStamp newest) = codes "17 StaleStamp"
refusal_title (Spent counter) = codes "18 Spent"
refusal_title BadName = codes "19 BadName"

abbrev pub refusal_text : Refusal → List ℕ
refusal_text BadPath = codes "1 BadPath"
refusal_text NotFound = codes "2 NotFound"
refusal_text (NotDirectory file) = codes "3 NotDirectory " ++ path_text file
refusal_text IsDirectory = codes "4 IsDirectory"
refusal_text Exists = codes "5 Exists"
refusal_text NotEmpty = codes "6 NotEmpty"
refusal_text IsRoot = codes "7 IsRoot"
refusal_text UnderItself = codes "8 UnderItself"
refusal_text (BadAcl fault) = codes "9 BadAcl " ++ acl_fault_text fault
refusal_text TooManyEntries = codes "10 TooManyEntries"
refusal_text (LeaseHeld client) = codes "11 LeaseHeld " ++ client
refusal_text RecoveryRunning = codes "12 RecoveryRunning"
refusal_text NoLease = codes "13 NoLease"
refusal_text NotOpen = codes "14 NotOpen"
refusal_text NotYetReplicated = codes "15 NotYetReplicated"
refusal_text TooFewNodes = codes "16 TooFewNodes"
refusal_text (StaleStamp newest) = codes "17 StaleStamp " ++ decimal newest
refusal_text (Spent counter) = codes "18 Spent " ++ counter_text counter
refusal_text BadName = codes "19 BadName"
