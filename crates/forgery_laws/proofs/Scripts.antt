-- The lines of a script present granted tokens alone.
use Rattle.std.proofs.Common.{◌≡◌, ℕ, zero, suc, ◌+◌, Bool, true, false, inl, inr, List, [], ◌∷◌, length, Option, Some, None, Result, Ok, Err, refl, sym, subst, codes}
use Rattle.std.specs.Prelude.{slice_get, if◌then◌else◌, IfOk, ok_or}
use Rattle.std.specs.List.{fold}
use Rattle.std.specs.Option.{option_and_then, option_map}
use Rattle.grant_ledger.specs.declared.ledger.LedgerRow.{LedgerRow}
use Rattle.node_ids.specs.NodeId.{node_of}
use Rattle.hdfs_values.specs.Number.{number_of}
use Rattle.hdfs_values.specs.Text.{same}
use Rattle.hdfs_values.specs.declared.fault.IllFormed.{IllFormed}
use Rattle.hdfs_values.specs.declared.fault.IllFormed.TheVariants.{BadLine}
use Rattle.history.specs.Config as name
use Rattle.history.specs.Grants.{ledger_of}
use Rattle.script_words.specs.Values.{◌>>=◌, moment_word, number_word}
use Rattle.script_words.specs.Words.{is_skipped, without_return, words_of}
use Rattle.script_text.specs.Script.{request_of}
use Rattle.cluster_text.specs.Calls.{is_call}
use Rattle.cluster_text.specs.Words.{behind, token_at, token_word, next_word, bytes_word}
use Rattle.call_parts.specs.declared.presented.Presented.{Presented}
use Rattle.cluster_trace.specs.DataCall.{DataCall, BeginWrite, Packet, Finalize, Read, Decide, Commit}
use Rattle.cluster_trace.specs.Provenance.{IsIn}
use Rattle.cluster_trace.specs.Trace.{ClusterOpening, after}
use Rattle.cluster_trace.specs.declared.event.Event.{Event}
use Rattle.cluster_trace.proofs.Each.{some_is, never_some}
use Rattle.cluster_core.specs.World.{state_after}
use Rattle.cluster_text.specs.EventLine.{place_words, presented_of, begin_of, packet_of, finalize_of, read_of, going_on, is_that, led_of, data_call_of, node_asker_of, call_event, node_event, is_delivery, delivery_event, names_node, event_of}
use Rattle.forgery_laws.specs.Forgeries.{IsTokenOf, PresentsGrantedToken, PresentsOf, AllPresentGranted, ScriptsForgeNothing}
use Rattle.forgery_laws.proofs.Sent.{nothing_is_forged}
use Rattle.cluster_runs.specs.Output.{State, no_lines, ledger_after, line_answered, event_in, after_answer, after_line}

-- ---- what a word says, and then what is made of it

module _ {A B : Type 0} (P : B → Type 0) where
  then_has : (said : Result A IllFormed) (made : A → Result B IllFormed) → ((x : A) → IfOk (made x) P) → IfOk (said >>= made) P
  then_has (Ok x) made h = h x
  then_has (Err fault) made h = tt

  then_uses : (Q : A → Type 0) (said : Result A IllFormed) (made : A → Result B IllFormed) → IfOk said Q → ((x : A) → Q x → IfOk (made x) P) → IfOk (said >>= made) P
  then_uses Q (Ok x) made q h = h x q
  then_uses Q (Err fault) made q h = tt

-- ---- tokens

in_row : (rows : List LedgerRow) (i : ℕ) (row : LedgerRow) → slice_get rows i ≡ Some row → IsIn row rows
in_row [] i row e = absurd (never_some row e)
in_row (first ∷ rows) zero row e = inl (sym (some_is first row e))
in_row (first ∷ rows) (suc i) row e = inr (in_row rows i row e)

row_has : (rows : List LedgerRow) (number : ℕ) → IfOk (ok_or (token_at rows number) BadLine) (IsTokenOf rows)
row_has rows zero = tt
row_has rows (suc before) = by (slice_get rows before) refl
  where
    by : (found : Option LedgerRow) → slice_get rows before ≡ found → IfOk (ok_or (option_map (λ (row : LedgerRow). row.grant.token) found) BadLine) (IsTokenOf rows)
    by None e = tt
    by (Some row) e = (row, in_row rows before row e, refl)

token_has : (rows : List LedgerRow) (word : List ℕ) → IfOk (token_word rows word) (IsTokenOf rows)
token_has rows word = by (option_and_then number_of (behind 35 word))
  where
    by : (number : Option ℕ) → IfOk (ok_or (option_and_then (token_at rows) number) BadLine) (IsTokenOf rows)
    by None = tt
    by (Some number) = row_has rows number

-- ---- calls

module _ (rows : List LedgerRow) where
  abbrev CallShows : DataCall → Type 0
  CallShows asked = PresentsGrantedToken rows asked

  presented_has : (caller : List ℕ) (at : _) (token : List ℕ) → IfOk (presented_of rows caller at token) (λ presented. IsTokenOf rows presented.token)
  presented_has caller at token = then_uses (λ (presented : Presented). IsTokenOf rows presented.token) (IsTokenOf rows) (token_word rows token) _ (token_has rows token) (λ t h. h)

  -- what is made of what is presented
  last_has : (caller : List ℕ) (at : _) (token : List ℕ) (made : Presented → DataCall) → ((presented : Presented) → IsTokenOf rows presented.token → CallShows (made presented))
      → IfOk (presented_of rows caller at token >>= (λ presented. Ok (made presented))) CallShows
  last_has caller at token made h = then_uses CallShows (λ (presented : Presented). IsTokenOf rows presented.token) (presented_of rows caller at token) _ (presented_has caller at token) h

  begin_has : (caller block stamp next token : List ℕ) → IfOk (begin_of rows caller block stamp next token) CallShows
  begin_has caller block stamp next token =
      then_has CallShows (place_words block stamp) _ (λ at. then_has CallShows (next_word next) _ (λ n. last_has caller at token (λ p. BeginWrite p n) (λ p h. h)))

  packet_has : (caller block stamp offset bytes next token : List ℕ) → IfOk (packet_of rows caller block stamp offset bytes next token) CallShows
  packet_has caller block stamp offset bytes next token =
      then_has CallShows (place_words block stamp) _ (λ at. then_has CallShows (number_word offset) _ (λ o. then_has CallShows (bytes_word bytes) _ (λ b. then_has CallShows (next_word next) _ (λ n.
      last_has caller at token (λ p. Packet p o b n) (λ p h. h)))))

  finalize_has : (caller block stamp count next token : List ℕ) → IfOk (finalize_of rows caller block stamp count next token) CallShows
  finalize_has caller block stamp count next token =
      then_has CallShows (place_words block stamp) _ (λ at. then_has CallShows (number_word count) _ (λ c. then_has CallShows (next_word next) _ (λ n. last_has caller at token (λ p. Finalize p c n) (λ p h. h))))

  read_has : (caller block stamp offset count token : List ℕ) → IfOk (read_of rows caller block stamp offset count token) CallShows
  read_has caller block stamp offset count token =
      then_has CallShows (place_words block stamp) _ (λ at. then_has CallShows (number_word offset) _ (λ o. then_has CallShows (number_word count) _ (λ c. last_has caller at token (λ p. Read p o c) (λ p h. h))))

  five_has : (finalizes : Bool) (caller block stamp number next token : List ℕ)
      → IfOk (if finalizes then finalize_of rows caller block stamp number next token else read_of rows caller block stamp number next token) CallShows
  five_has true caller block stamp number next token = finalize_has caller block stamp number next token
  five_has false caller block stamp number next token = read_has caller block stamp number next token

  going_on_has : (verb block stamp : List ℕ) → IfOk (going_on verb block stamp) CallShows
  going_on_has verb block stamp = then_has CallShows (place_words block stamp) _ (λ at. by at.block at.stamp (same verb (codes "decide")))
    where
      by : (b s : ℕ) (decides : Bool) → CallShows (if decides then Decide b s else Commit b s)
      by b s true = tt
      by b s false = tt

  led_has : (asker : _) (verb block stamp : List ℕ) → IfOk (led_of asker verb block stamp) CallShows
  led_has asker verb block stamp = by (is_that asker.node (node_of asker.caller))
    where
      by : (own : Bool) → IfOk (if own then going_on verb block stamp else Err BadLine) CallShows
      by true = going_on_has verb block stamp
      by false = tt

  call_has : (asker : _) (verb : List ℕ) (words : List (List ℕ)) → IfOk (data_call_of rows asker verb words) CallShows
  call_has asker verb [] = tt
  call_has asker verb (a ∷ []) = tt
  call_has asker verb (a ∷ b ∷ []) = led_has asker verb a b
  call_has asker verb (a ∷ b ∷ c ∷ []) = tt
  call_has asker verb (a ∷ b ∷ c ∷ d ∷ []) = begin_has asker.caller a b c d
  call_has asker verb (a ∷ b ∷ c ∷ d ∷ e ∷ []) = five_has _ asker.caller a b c d e
  call_has asker verb (a ∷ b ∷ c ∷ d ∷ e ∷ f ∷ []) = packet_has asker.caller a b c d e f
  call_has asker verb (a ∷ b ∷ c ∷ d ∷ e ∷ f ∷ g ∷ words) = tt

  -- ---- events

  asked_has : (asker : _) (verb : List ℕ) (words : List (List ℕ)) → IfOk (call_event rows asker verb words) (PresentsOf rows)
  asked_has asker verb words = then_uses (PresentsOf rows) CallShows (data_call_of rows asker verb words) _ (call_has asker verb words) (λ call h. h)

  data_has : (is : Bool) (moment caller node verb : List ℕ) (words : List (List ℕ))
      → IfOk (if is then (node_asker_of moment caller node >>= (λ asker. call_event rows asker verb words)) else Err BadLine) (PresentsOf rows)
  data_has true moment caller node verb words = then_has (PresentsOf rows) (node_asker_of moment caller node) _ (λ asker. asked_has asker verb words)
  data_has false moment caller node verb words = tt

  node_has : (moment caller node : List ℕ) (words : List (List ℕ)) → IfOk (node_event rows moment caller node words) (PresentsOf rows)
  node_has moment caller node [] = tt
  node_has moment caller node (verb ∷ words) = data_has (is_call verb (length words)) moment caller node verb words

  delivery_has : (moment : List ℕ) (words : List (List ℕ)) → IfOk (delivery_event moment words) (PresentsOf rows)
  delivery_has moment [] = tt
  delivery_has moment (number ∷ []) = then_has (PresentsOf rows) (moment_word moment) _ (λ m. then_has (PresentsOf rows) (number_word number) _ (λ k. tt))
  delivery_has moment (number ∷ another ∷ words) = tt

  line_has : (node delivers : Bool) (moment caller verb : List ℕ) (words : List (List ℕ)) (request : Result Event IllFormed) → IfOk request (PresentsOf rows)
      → IfOk (if node then node_event rows moment caller verb words else if delivers then delivery_event moment words else request) (PresentsOf rows)
  line_has true delivers moment caller verb words request h = node_has moment caller verb words
  line_has false true moment caller verb words request h = delivery_has moment words
  line_has false false moment caller verb words request h = h

  event_has : (words : List (List ℕ)) → IfOk (event_of rows words) (PresentsOf rows)
  event_has [] = tt
  event_has (a ∷ []) = tt
  event_has (a ∷ b ∷ []) = tt
  event_has (moment ∷ caller ∷ verb ∷ words) =
      line_has (names_node verb) (is_delivery caller verb) moment caller verb words _ (then_has (PresentsOf rows) (request_of (moment ∷ caller ∷ verb ∷ words)) _ (λ request. tt))

-- ---- lines

opening_stays : (opening : ClusterOpening) (events : List Event) → (after opening events).opening ≡ opening.name
opening_stays opening [] = refl
opening_stays opening (event ∷ earlier) = opening_stays opening earlier

abbrev Granted : State → Type 0
Granted state = AllPresentGranted state.past.opening state.past.events

answer_granted : (state : State) (said : Result Event IllFormed) → IfOk said (PresentsOf (ledger_after state.past)) → Granted state → Granted (after_answer state (line_answered state.past said))
answer_granted state (Err fault) has granted = granted
answer_granted state (Ok event) has granted = (
  subst (λ (opening : name.Opening). PresentsOf (ledger_of opening (state_after state.past).entries) event) (sym (opening_stays state.past.opening state.past.events)) has,
  granted,
)

line_granted : (state : State) (line : List ℕ) → Granted state → Granted (after_line state line)
line_granted state line granted = by (is_skipped (without_return line))
  where
    by : (skipped : Bool) → Granted (if skipped then record state { number = state.number + 1 } else after_answer state (line_answered state.past (event_in state.past (without_return line))))
    by true = granted
    by false = answer_granted state (event_in state.past (without_return line)) (event_has (ledger_after state.past) (words_of (without_return line))) granted

lines_granted : (state : State) (lines : List (List ℕ)) → Granted state → Granted (fold after_line state lines)
lines_granted state [] granted = granted
lines_granted state (line ∷ lines) granted = lines_granted (after_line state line) lines (line_granted state line granted)

pub forge_nothing : ScriptsForgeNothing
forge_nothing lines =
    let state : State = fold after_line no_lines lines in
    nothing_is_forged state.past.opening state.past.events (lines_granted no_lines lines tt)
