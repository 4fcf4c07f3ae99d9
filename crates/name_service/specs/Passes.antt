-- A caller's session with a NameNode: what it was told, and what it learns of one more request.
-- (This project's own rule: what callers were told can be laid beside the history afterwards.)
use Rattle.std.specs.Prelude.{◌≡◌, ℕ, zero, suc, ◌<◌, ◌≤◌, List, [], ◌∷◌, ◌++◌, length, if◌then◌else◌}
use Rattle.std.specs.Bool.{⊤}
use Rattle.hdfs_types.specs.declared.op.Request.{Request}
use Rattle.hdfs_types.specs.Request.{is_look}
use Rattle.history.specs.declared.entry.Answer.{Answer}
use Rattle.history.specs.LegalHistory.{IsLegal, verdict_of}
use Rattle.name_core.specs.NameCore.{NameCore, entry_for, with_next_entry, answer_from}
use Rattle.name_service.specs.declared.pass.AskFault.{AskFault}
use Rattle.name_service.specs.declared.pass.AskFault.TheVariants.{OutOfMemory, Rewound}

pub record Pass : Type 0 where
  pub number : ℕ
  -- the place of the last answer; before the first, the number of entries when the pass began
  pub seen : ℕ
  -- the answers that it kept, the oldest first
  pub receipts : List Answer

abbrev pub new_pass : ℕ → ℕ → Pass
new_pass number seen = record { number = number; seen = seen; receipts = [] }

-- so many passes, numbered from 0 on
abbrev pub new_passes : ℕ → ℕ → List Pass
new_passes zero seen = []
new_passes (suc number) seen = new_passes number seen ++ new_pass number seen ∷ []

abbrev pub with_receipt : Pass → Answer → Pass
with_receipt pass answer = record { number = pass.number; seen = answer.place; receipts = pass.receipts ++ answer ∷ [] }

-- ---- what a core answers to the next request of a pass

-- what the entry says that the request makes
abbrev pub change_answer : NameCore → Pass → Request → Answer
change_answer core pass request = answer_from (entry_for core pass.number (length pass.receipts) request)

-- what all its entries give
abbrev pub look_answer : NameCore → Request → Answer
look_answer core request = record { place = length core.entries; request = request; verdict = verdict_of core.opening core.entries request }

abbrev pub answer_to : NameCore → Pass → Request → Answer
answer_to core pass request = if is_look request.op then look_answer core request else change_answer core pass request

-- ---- under the lock, on a core that is known

-- the core has one entry more, and the pass the answer that it gives
pub record ChangeAnswered (core : NameCore) (old : Pass) (request : Request) (new_core : NameCore) (new : Pass) : Type 0 where
  pub not_rewound : old.seen ≤ length core.entries
  pub core_is : new_core ≡ with_next_entry core old.number (length old.receipts) request
  pub pass_is : new ≡ with_receipt old (change_answer core old request)

pub record LookAnswered (core : NameCore) (old : Pass) (request : Request) (new : Pass) : Type 0 where
  pub not_rewound : old.seen ≤ length core.entries
  pub pass_is : new ≡ with_receipt old (look_answer core request)

-- where so many entries are found, and the pass has seen more, that is told; else memory was lacking
abbrev pub IsFaultAt : ℕ → ℕ → AskFault → Type 0
IsFaultAt seen found OutOfMemory = seen ≤ found
IsFaultAt seen found (Rewound told_seen told_found) = (told_seen ≡ seen) × (told_found ≡ found) × (found < seen)

-- ---- behind a lock, whatever other callers do

-- the pass has one receipt more, this one: the answer to this request, by the rules, behind a legal history of at least as many entries as it
-- had seen
pub record Gains (old : Pass) (request : Request) (answer : Answer) (new : Pass) : Type 0 where
  pub core : NameCore
  pub legal : IsLegal core.opening core.entries
  pub not_rewound : old.seen ≤ length core.entries
  pub answer_is : answer ≡ answer_to core old request
  pub new_is : new ≡ with_receipt old answer

abbrev pub GainsOne : Pass → Request → Pass → Type 0
GainsOne old request new = (answer : Answer) × Gains old request answer new

-- fewer entries were found than the pass has seen, or memory was lacking
abbrev pub IsSomeFault : ℕ → AskFault → Type 0
IsSomeFault seen OutOfMemory = ⊤
IsSomeFault seen (Rewound told_seen found) = (told_seen ≡ seen) × (found < seen)
