-- What the words of a call of a DataNode say, or how one is ill-formed.
use Rattle.std.specs.Prelude.{ℕ, zero, suc, List, [], ◌∷◌, ◌==◌, replicate, slice_get, slice_index, if◌then◌else◌, Option, Some, None, Result, codes, ok_or}
use Rattle.std.specs.Option.{option_and_then, option_map}
use Rattle.std.specs.Result.{result_ok}
use Rattle.hex.specs.Hex.{decode_of, decode_sized}
use Rattle.hdfs_values.specs.Text.{same}
use Rattle.hdfs_values.specs.Number.{number_of}
use Rattle.node_ids.specs.NodeId.{is_node_id}
use Rattle.hdfs_values.specs.declared.fault.IllFormed.{IllFormed}
use Rattle.hdfs_values.specs.declared.fault.IllFormed.TheVariants.{BadLine}
use Rattle.grant_ledger.specs.declared.ledger.LedgerRow.{LedgerRow}
use Rattle.script_words.specs.Words.{pieces_at}

-- ---- DataNodes

-- what stands behind a sign that a word begins with
abbrev pub behind : ℕ → List ℕ → Option (List ℕ)
behind sign [] = None
behind sign (byte ∷ rest) = if byte == sign then Some rest else None

abbrev pub node_of_number : ℕ → Option ℕ
node_of_number id = if is_node_id id then Some id else None

-- an id in decimal digits; leading zeros are allowed
abbrev pub node_id_of : List ℕ → Option ℕ
node_id_of text = option_and_then node_of_number (number_of text)

-- the DataNode that is asked: `@` and its id
abbrev pub node_word : List ℕ → Result ℕ IllFormed
node_word word = ok_or (option_and_then node_id_of (behind 64 word)) BadLine

-- the nodes that pieces name, where each names one
abbrev pub nodes_in : List (List ℕ) → Option (List ℕ)
nodes_in [] = Some []
nodes_in (piece ∷ pieces) = option_and_then (λ node. option_map (λ nodes. node ∷ nodes) (nodes_in pieces)) (node_id_of piece)

-- the nodes that come next in a pipeline: ids with a comma between each two, or `-` for none; a node may stand twice
abbrev pub next_of : List ℕ → Option (List ℕ)
next_of word = if same word (codes "-") then Some [] else nodes_in (pieces_at 44 word)

abbrev pub next_word : List ℕ → Result (List ℕ) IllFormed
next_word word = ok_or (next_of word) BadLine

-- ---- the bytes of a packet

-- the byte that two hexadecimal digits spell
abbrev pub byte_of : List ℕ → Option ℕ
byte_of digits = option_map (λ bytes. slice_index bytes 0) (result_ok (decode_sized digits 1))

-- so many times
abbrev pub repeated_by : List ℕ → ℕ → Option (List ℕ)
repeated_by digits times = option_map (replicate times) (byte_of digits)

-- a number, and the byte that is repeated
abbrev pub repeated_of : List ℕ → List ℕ → Option (List ℕ)
repeated_of times digits = option_and_then (repeated_by digits) (number_of times)

-- hexadecimal digits of either case, two for each byte; or one byte many times: `900*61`
abbrev pub bytes_by : List (List ℕ) → Option (List ℕ)
bytes_by (digits ∷ []) = result_ok (decode_of digits)
bytes_by (times ∷ digits ∷ []) = repeated_of times digits
bytes_by _ = None

abbrev pub bytes_word : List ℕ → Result (List ℕ) IllFormed
bytes_word word = ok_or (bytes_by (pieces_at 42 word)) BadLine

-- ---- tokens

-- the token in a row of the ledger; the first row has the number 1
abbrev pub token_at : List LedgerRow → ℕ → Option (List ℕ)
token_at ledger zero = None
token_at ledger (suc before) = option_map (λ (row : LedgerRow). row.grant.token) (slice_get ledger before)

-- a token that was granted: `#` and the number of its row
abbrev pub token_of : List LedgerRow → List ℕ → Option (List ℕ)
token_of ledger word = option_and_then (token_at ledger) (option_and_then number_of (behind 35 word))

abbrev pub token_word : List LedgerRow → List ℕ → Result (List ℕ) IllFormed
token_word ledger word = ok_or (token_of ledger word) BadLine
