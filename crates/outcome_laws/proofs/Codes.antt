-- The codes of refusals, their kinds and their texts.
use Rattle.std.proofs.Common.{◌≡◌, ℕ, List, [], ◌∷◌, ◌++◌, refl, sym, ap, ◌∙◌}
use Rattle.std.specs.Prelude.{◌==◌, if◌then◌else◌, codes}
use Rattle.std.specs.Fmt.{decimal}
use Rattle.file_paths.specs.Path.{path_text}
use Rattle.hdfs_values.specs.Faults.{acl_fault_text}
use Rattle.hdfs_values.specs.declared.fault.AclFault.TheVariants.{NoBase}
use Rattle.refusals.specs.Refusal.{counter_text, refusal_code, refusal_text}
use Rattle.refusals.specs.declared.refusal.Counter.TheVariants.{Serial}
use Rattle.refusals.specs.declared.refusal.Refusal.{Refusal}
use Rattle.refusals.specs.declared.refusal.Refusal.TheVariants.{BadPath, NotFound, NotDirectory, IsDirectory, Exists, NotEmpty, IsRoot, UnderItself, BadAcl, TooManyEntries, LeaseHeld, RecoveryRunning, NoLease, NotOpen, NotYetReplicated, TooFewNodes, StaleStamp, Spent, BadName}
use Rattle.outcome_laws.specs.Laws.{bare, digits_of}

-- the kind of a code
abbrev kind_of : ℕ → Refusal
kind_of code =
    if code == 1 then BadPath else
    if code == 2 then NotFound else
    if code == 3 then NotDirectory [] else
    if code == 4 then IsDirectory else
    if code == 5 then Exists else
    if code == 6 then NotEmpty else
    if code == 7 then IsRoot else
    if code == 8 then UnderItself else
    if code == 9 then BadAcl NoBase else
    if code == 10 then TooManyEntries else
    if code == 11 then LeaseHeld [] else
    if code == 12 then RecoveryRunning else
    if code == 13 then NoLease else
    if code == 14 then NotOpen else
    if code == 15 then NotYetReplicated else
    if code == 16 then TooFewNodes else
    if code == 17 then StaleStamp 0 else
    if code == 18 then Spent Serial else
    BadName

kind_is : (refusal : Refusal) → bare refusal ≡ kind_of (refusal_code refusal)
kind_is BadPath = refl
kind_is NotFound = refl
kind_is (NotDirectory file) = refl
kind_is IsDirectory = refl
kind_is Exists = refl
kind_is NotEmpty = refl
kind_is IsRoot = refl
kind_is UnderItself = refl
kind_is (BadAcl fault) = refl
kind_is TooManyEntries = refl
kind_is (LeaseHeld client) = refl
kind_is RecoveryRunning = refl
kind_is NoLease = refl
kind_is NotOpen = refl
kind_is NotYetReplicated = refl
kind_is TooFewNodes = refl
kind_is (StaleStamp newest) = refl
kind_is (Spent counter) = refl
kind_is BadName = refl

pub same_kinds : (one other : Refusal) → refusal_code one ≡ refusal_code other → bare one ≡ bare other
same_kinds one other e = kind_is one ∙ ap kind_of e ∙ sym (kind_is other)

pub begins : (refusal : Refusal) → (name : List ℕ) × (refusal_text refusal ≡ digits_of (refusal_code refusal) ++ 32 ∷ name)
begins BadPath = (codes "BadPath", refl)
begins NotFound = (codes "NotFound", refl)
begins (NotDirectory file) = (codes "NotDirectory " ++ path_text file, refl)
begins IsDirectory = (codes "IsDirectory", refl)
begins Exists = (codes "Exists", refl)
begins NotEmpty = (codes "NotEmpty", refl)
begins IsRoot = (codes "IsRoot", refl)
begins UnderItself = (codes "UnderItself", refl)
begins (BadAcl fault) = (codes "BadAcl " ++ acl_fault_text fault, refl)
begins TooManyEntries = (codes "TooManyEntries", refl)
begins (LeaseHeld client) = (codes "LeaseHeld " ++ client, refl)
begins RecoveryRunning = (codes "RecoveryRunning", refl)
begins NoLease = (codes "NoLease", refl)
begins NotOpen = (codes "NotOpen", refl)
begins NotYetReplicated = (codes "NotYetReplicated", refl)
begins TooFewNodes = (codes "TooFewNodes", refl)
begins (StaleStamp newest) = (codes "StaleStamp " ++ decimal newest, refl)
begins (Spent counter) = (codes "Spent " ++ counter_text counter, refl)
begins BadName = (codes "BadName", refl)
