-- What callers of a DataNode keep of its log.
-- (HADOOP-4359: a DataNode lets at a block who presents a token for it. That each keeps what was noted down of him is this project's own.)
use Rattle.std.specs.Prelude.{◌≡◌, ℕ, suc, ◌≤◌, List, [], ◌∷◌, ◌++◌, length, replicate, Result, Ok, Err}
use Rattle.call_parts.specs.declared.access_log.AccessRecord.{AccessRecord}
use Rattle.call_parts.specs.declared.presented.Presented.{Presented}
use Rattle.node_calls.specs.declared.call.NodeCall.{NodeCall}
use Rattle.node_calls.specs.declared.call.NodeCall.TheVariants.{Presenting, Invalidate, Keys}
use Rattle.node_calls.specs.declared.call.TokenCall.{TokenCall}
use Rattle.node_calls.specs.declared.refusal.NodeRefusal.{NodeRefusal}
use Rattle.node_calls.specs.declared.reply.NodeReply.{NodeReply}
use Rattle.replicas.specs.Asking.{asked_by, modes_of_call}
use Rattle.datanode.specs.Kept.{AreCovered, HasFittingToken}
use Rattle.datanode.specs.NodeStep.{DataNode, node_after, node_answer}
use Rattle.datanode.specs.declared.answered.Answered.{Answered}
use Rattle.data_service.specs.declared.seat.LogReceipt.{LogReceipt}

-- what a caller keeps, the oldest first
abbrev pub Seat : Type 0
Seat = List LogReceipt

-- records one behind the other, from this number on
abbrev pub numbered : ℕ → List AccessRecord → List LogReceipt
numbered number [] = []
numbered number (entry ∷ entries) = record { number = number; entry = entry } ∷ numbered (suc number) entries

-- ---- under the lock, on a log that is known

-- what was noted down behind the old log is kept, each record with its number
abbrev pub KeepsNew : List AccessRecord → List AccessRecord → Seat → Seat → Type 0
KeepsNew old_log new_log old new = (entries : List AccessRecord) × (new_log ≡ old_log ++ entries) × (new ≡ old ++ numbered (length old_log) entries)

-- ---- behind a lock, whatever other callers do

-- some node, whose records all have fitting tokens, was asked this, answered so, and what it noted down is kept
pub record IsAnswered (moment : ℕ) (asked : NodeCall) (answered : Answered) (old new : Seat) : Type 0 where
  pub node : DataNode
  pub covered : AreCovered node.log
  pub answer : answered ≡ node_answer node moment asked
  pub keeps : KeepsNew node.log (node_after node moment asked).log old new

-- a record of this call, made with this token: the token is its caller's, for its block and its access, and expires behind the moment
-- (a copy is sent in the name of the node that is asked for it)
pub record IsNotedFor (moment : ℕ) (presented : Presented) (asked : TokenCall) (entry : AccessRecord) : Type 0 where
  pub caller : entry.caller ≡ (asked_by entry.node presented asked).caller
  pub block : entry.block ≡ presented.block
  pub mode : entry.mode ≡ modes_of_call asked
  pub token : entry.token ≡ presented.token
  pub fitting : HasFittingToken entry
  pub in_time : moment ≤ entry.moment

-- of a call that presents a token and is served there is one receipt more, and of any other none
abbrev pub Keeps : ℕ → NodeCall → Result NodeReply NodeRefusal → Seat → Seat → Type 0
Keeps moment (Presenting presented asked) (Ok reply) old new = (receipt : LogReceipt) × (new ≡ old ++ receipt ∷ []) × IsNotedFor moment presented asked receipt.entry
Keeps moment (Presenting presented asked) (Err refusal) old new = new ≡ old
Keeps moment (Invalidate block stamp) told old new = new ≡ old
Keeps moment (Keys update) told old new = new ≡ old

-- nobody has kept anything yet
abbrev pub new_seats : ℕ → List Seat
new_seats count = replicate count []
