-- The event that a line of a script makes in a cluster, or how the line is ill-formed:
--   MOMENT CALLER VERB ..         a request to the NameNode
--   MOMENT CALLER @NODE VERB ..   a call of a DataNode, or in its own name of the recoveries that it leads
--   MOMENT - deliver NUMBER       the delivery of a message
-- An unknown verb and a wrong number of words come first, and then the first ill-formed word. A token is named by its row in the ledger of
-- those that were granted before the line.
use Rattle.std.specs.Prelude.{ℕ, Bool, false, ◌==◌, ◌&&◌, List, [], ◌∷◌, length, if◌then◌else◌, Option, Some, None, Result, Ok, Err, codes}
use Rattle.node_ids.specs.NodeId.{node_of}
use Rattle.hdfs_values.specs.Text.{same}
use Rattle.hdfs_values.specs.declared.fault.IllFormed.{IllFormed}
use Rattle.hdfs_values.specs.declared.fault.IllFormed.TheVariants.{BadLine}
use Rattle.hdfs_types.specs.declared.op.Request.{Request}
use Rattle.grant_ledger.specs.declared.ledger.LedgerRow.{LedgerRow}
use Rattle.cluster_trace.specs.DataCall.{DataCall, BeginWrite, Packet, Finalize, Read, Decide, Commit}
use Rattle.cluster_trace.specs.declared.event.Event.{Event}
use Rattle.cluster_trace.specs.declared.event.Event.TheVariants.{Name, Deliver, Data}
use Rattle.script_words.specs.Values.{◌>>=◌, moment_word, who_word, number_word}
use Rattle.script_text.specs.Script.{request_of}
use Rattle.cluster_text.specs.Calls.{is_call}
use Rattle.cluster_text.specs.Words.{node_word, next_word, bytes_word, token_word}
use Rattle.call_parts.specs.declared.presented.Presented.{Presented}
use Rattle.cluster_text.specs.declared.event_line.NodeAsker.{NodeAsker}
use Rattle.cluster_text.specs.declared.event_line.Place.{Place}

-- ---- calls of a DataNode

-- who asks which DataNode, and when
abbrev pub node_asker_of : List ℕ → List ℕ → List ℕ → Result NodeAsker IllFormed
node_asker_of moment caller node = do
  m ← moment_word moment
  c ← who_word caller
  n ← node_word node
  Ok (record { moment = m; caller = c; node = n })

-- a block at a generation stamp
abbrev pub place_words : List ℕ → List ℕ → Result Place IllFormed
place_words block stamp = do
  b ← number_word block
  s ← number_word stamp
  Ok (record { block = b; stamp = s })

-- the caller presents a token for what is there
abbrev pub presented_of : List LedgerRow → List ℕ → Place → List ℕ → Result Presented IllFormed
presented_of ledger caller at token = do
  t ← token_word ledger token
  Ok (record { caller = caller; block = at.block; stamp = at.stamp; token = t })

abbrev pub begin_of : List LedgerRow → List ℕ → List ℕ → List ℕ → List ℕ → List ℕ → Result DataCall IllFormed
begin_of ledger caller block stamp next token = do
  a ← place_words block stamp
  n ← next_word next
  p ← presented_of ledger caller a token
  Ok (BeginWrite p n)

abbrev pub packet_of : List LedgerRow → List ℕ → List ℕ → List ℕ → List ℕ → List ℕ → List ℕ → List ℕ → Result DataCall IllFormed
packet_of ledger caller block stamp offset bytes next token = do
  a ← place_words block stamp
  o ← number_word offset
  b ← bytes_word bytes
  n ← next_word next
  p ← presented_of ledger caller a token
  Ok (Packet p o b n)

abbrev pub finalize_of : List LedgerRow → List ℕ → List ℕ → List ℕ → List ℕ → List ℕ → List ℕ → Result DataCall IllFormed
finalize_of ledger caller block stamp count next token = do
  a ← place_words block stamp
  c ← number_word count
  n ← next_word next
  p ← presented_of ledger caller a token
  Ok (Finalize p c n)

abbrev pub read_of : List LedgerRow → List ℕ → List ℕ → List ℕ → List ℕ → List ℕ → List ℕ → Result DataCall IllFormed
read_of ledger caller block stamp offset count token = do
  a ← place_words block stamp
  o ← number_word offset
  c ← number_word count
  p ← presented_of ledger caller a token
  Ok (Read p o c)

abbrev pub going_on : List ℕ → List ℕ → List ℕ → Result DataCall IllFormed
going_on verb block stamp = do
  a ← place_words block stamp
  Ok (if same verb (codes "decide") then Decide a.block a.stamp else Commit a.block a.stamp)

abbrev pub is_that : ℕ → Option ℕ → Bool
is_that node None = false
is_that node (Some own) = own == node

-- a node goes on with the recoveries that it leads in its own name alone
abbrev pub led_of : NodeAsker → List ℕ → List ℕ → List ℕ → Result DataCall IllFormed
led_of asker verb block stamp =
    if is_that asker.node (node_of asker.caller) then going_on verb block stamp else Err BadLine

-- two verbs want five words
abbrev pub five_of : List LedgerRow → List ℕ → List ℕ → List ℕ → List ℕ → List ℕ → List ℕ → List ℕ → Result DataCall IllFormed
five_of ledger caller verb block stamp number next token =
    if same verb (codes "finalize") then finalize_of ledger caller block stamp number next token else read_of ledger caller block stamp number next token

abbrev pub data_call_of : List LedgerRow → NodeAsker → List ℕ → List (List ℕ) → Result DataCall IllFormed
data_call_of ledger asker verb (block ∷ stamp ∷ []) = led_of asker verb block stamp
data_call_of ledger asker verb (block ∷ stamp ∷ next ∷ token ∷ []) = begin_of ledger asker.caller block stamp next token
data_call_of ledger asker verb (block ∷ stamp ∷ number ∷ next ∷ token ∷ []) = five_of ledger asker.caller verb block stamp number next token
data_call_of ledger asker verb (block ∷ stamp ∷ offset ∷ bytes ∷ next ∷ token ∷ []) = packet_of ledger asker.caller block stamp offset bytes next token
data_call_of ledger asker verb _ = Err BadLine

abbrev pub call_event : List LedgerRow → NodeAsker → List ℕ → List (List ℕ) → Result Event IllFormed
call_event ledger asker verb words = do
  c ← data_call_of ledger asker verb words
  Ok (Data asker.node asker.moment c)

abbrev pub data_event : List LedgerRow → List ℕ → List ℕ → List ℕ → List ℕ → List (List ℕ) → Result Event IllFormed
data_event ledger moment caller node verb words = do
  a ← node_asker_of moment caller node
  call_event ledger a verb words

abbrev pub node_event : List LedgerRow → List ℕ → List ℕ → List ℕ → List (List ℕ) → Result Event IllFormed
node_event ledger moment caller node [] = Err BadLine
node_event ledger moment caller node (verb ∷ words) = if is_call verb (length words) then data_event ledger moment caller node verb words else Err BadLine

-- ---- deliveries

abbrev pub delivery_of : List ℕ → List ℕ → Result Event IllFormed
delivery_of moment number = do
  m ← moment_word moment
  k ← number_word number
  Ok (Deliver k m)

abbrev pub is_delivery : List ℕ → List ℕ → Bool
is_delivery caller verb = same caller (codes "-") && same verb (codes "deliver")

abbrev pub delivery_event : List ℕ → List (List ℕ) → Result Event IllFormed
delivery_event moment (number ∷ []) = delivery_of moment number
delivery_event moment _ = Err BadLine

-- ---- requests to the NameNode

abbrev pub name_event : List (List ℕ) → Result Event IllFormed
name_event words = do
  r ← request_of words
  Ok (Name r)

-- ---- all lines

-- a word that names a DataNode
abbrev pub names_node : List ℕ → Bool
names_node [] = false
names_node (byte ∷ rest) = byte == 64

abbrev pub event_of : List LedgerRow → List (List ℕ) → Result Event IllFormed
event_of ledger (moment ∷ caller ∷ verb ∷ words) =
    if names_node verb then node_event ledger moment caller verb words else
    if is_delivery caller verb then delivery_event moment words else name_event (moment ∷ caller ∷ verb ∷ words)
event_of ledger _ = Err BadLine
