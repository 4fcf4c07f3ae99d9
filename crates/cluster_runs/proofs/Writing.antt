-- What was written of the lines of a history.
use Rattle.std.proofs.Common.{◌≡◌, ◌≤◌, ℕ, zero, suc, ◌+◌, ◌-◌, min, List, [], ◌∷◌, ◌++◌, take, drop, length, reverse, Option, Some, None, Result, Ok, Err, refl, sym, ap, ◌∙◌, arith, append_assoc, subst}
use Rattle.std.specs.Prelude.{IfSome, OnOk, OnErr}
use Rattle.std.specs.Io.KnownBytes.{Appends, Keeps}
use Rattle.std.proofs.Math.Seq.{take-add}
use Rattle.std.proofs.lemmas.List.{take_all, take_min, take-take, take-append-drop, length-take, length-drop, length-reverse}
use Rattle.std.proofs.lemmas.List.Concat.{flat_map-append}
use Rattle.history.specs.declared.entry.HistoryEntry.{HistoryEntry}
use Rattle.script_runs.specs.Channel.{AppendsFront}
use Rattle.script_runs.proofs.Known.{Appends-trans}
use Rattle.script_runs.proofs.Endings.{Front, front_written, appends_none}
use Rattle.audit_text.specs.AuditText.{entry_line, audit_text}
use Rattle.cluster_runs.specs.Audit.{AppendsFirst, history_of_script, audit_of}
use Rattle.cluster_runs.specs.Recorded.{AreFirstOf}

moved : (old new : Option (List ℕ)) (a b : List ℕ) → a ≡ b → Appends old new a → Appends old new b
moved old new a b e h = subst (λ text. Appends old new text) e h

-- ---- a batch of entries behind those that are done

next_batch : (entries : List HistoryEntry) (done size : ℕ) → take (length (take size (drop done entries))) (drop done entries) ≡ take size (drop done entries)
next_batch entries done size = ap (λ n. take n (drop done entries)) (length-take size (drop done entries)) ∙ take_min size (drop done entries)

-- the entries up to the end of the batch
up_to : (entries batch : List HistoryEntry) (done : ℕ) → batch ≡ take 256 (drop done entries) → take (done + length batch) entries ≡ take done entries ++ batch
up_to entries batch done is =
    take-add done (length batch) entries
    ∙ ap (λ rest. take done entries ++ rest) (ap (λ b. take (length b) (drop done entries)) is ∙ next_batch entries done 256 ∙ sym is)

text_up_to : (entries batch : List HistoryEntry) (done : ℕ) → batch ≡ take 256 (drop done entries) → audit_text (take done entries) ++ audit_text batch ≡ audit_text (take (done + length batch) entries)
text_up_to entries batch done is = sym (ap audit_text (up_to entries batch done is) ∙ flat_map-append entry_line (take done entries) batch)

pub batch_length : (entries batch : List HistoryEntry) (done : ℕ) → batch ≡ take 256 (drop done entries) → length batch ≡ min 256 (length entries - done)
batch_length entries batch done is = ap length is ∙ length-take 256 (drop done entries) ∙ ap (λ n. min 256 n) (length-drop done entries)

pub batch_written : (old now new : Option (List ℕ)) (entries batch : List HistoryEntry) (done : ℕ) → batch ≡ take 256 (drop done entries)
    → Appends old now (audit_text (take done entries)) → Appends now new (audit_text batch) → Appends old new (audit_text (take (done + length batch) entries))
batch_written old now new entries batch done is before written =
    moved old new _ _ (text_up_to entries batch done is) (Appends-trans old now new (audit_text (take done entries)) (audit_text batch) before written)

-- nothing of it was written

kept : (old now new : Option (List ℕ)) (text : List ℕ) → Appends old now text → Keeps now new → Appends old new text
kept None now new text p q = tt
kept (Some x) None new text p q = absurd p
kept (Some x) (Some y) None text p q = absurd q
kept (Some x) (Some y) (Some z) text p q = q ∙ p

pub none_of_batch : (old now new : Option (List ℕ)) (entries : List HistoryEntry) (done count : ℕ) → done ≤ length entries → Appends old now (audit_text (take done entries)) → (count ≡ done) × Keeps now new → AppendsFirst count old new entries
none_of_batch old now new entries done count within before (same, keeps) =
    subst (λ n. AppendsFirst n old new entries) (sym same) (record { within = within; written = kept old now new (audit_text (take done entries)) before keeps })

-- a front of it was written

take_past : (xs ys : List ℕ) (n : ℕ) → take (length xs + n) (xs ++ ys) ≡ xs ++ take n ys
take_past [] ys n = let none : 0 + n ≡ n = omega arith in ap (λ k. take k ys) none
take_past (x ∷ xs) ys n =
    let one_less : suc (length xs) + n ≡ suc (length xs + n) = omega arith in
    ap (λ k. take k (x ∷ (xs ++ ys))) one_less ∙ ap (λ l. x ∷ l) (take_past xs ys n)

front_of_whole : (entries : List HistoryEntry) (count : ℕ) → Front (audit_text (take count entries)) (audit_text entries)
front_of_whole entries count =
    record { more = audit_text (drop count entries); is = sym (ap audit_text (take-append-drop count entries)) ∙ flat_map-append entry_line (take count entries) (drop count entries) }

pub front_of_batch : (old now new : Option (List ℕ)) (entries batch : List HistoryEntry) (done : ℕ) → batch ≡ take 256 (drop done entries)
    → Appends old now (audit_text (take done entries)) → AppendsFront now new (audit_text batch) → AppendsFront old new (audit_text entries)
front_of_batch old now new entries batch done is before (n, written) =
    let front : List ℕ = audit_text (take done entries) in
    let both : AppendsFront old new (front ++ audit_text batch) =
    (length front + n, moved old new _ _ (sym (take_past front (audit_text batch) n)) (Appends-trans old now new front (take n (audit_text batch)) before written)) in
    front_written old new (audit_text (take (done + length batch) entries)) (audit_text entries) (front_of_whole entries (done + length batch))
    (subst (λ text. AppendsFront old new text) (text_up_to entries batch done is) both)

-- ---- the entries of a script that was not run to its end

pub first_of_history : (old new : Option (List ℕ)) (history entries : List HistoryEntry) (count : ℕ) → AreFirstOf history entries → AppendsFirst count old new entries → AppendsFirst count old new history
first_of_history old new history entries count first written =
    record {
      within = omega (arith, written.within, first.within);
      written = moved old new _ _ (ap audit_text (ap (take count) first.are ∙ take-take count (length entries) history written.within)) written.written;
    }

pub front_of_history : (old new : Option (List ℕ)) (history entries : List HistoryEntry) → AreFirstOf history entries → AppendsFront old new (audit_text entries) → AppendsFront old new (audit_text history)
front_of_history old new history entries first written =
    front_written old new (audit_text (take (length entries) history)) (audit_text history) (front_of_whole history (length entries)) (subst (λ es. AppendsFront old new (audit_text es)) first.are written)

pub all_are_first : (old new : Option (List ℕ)) (entries : List HistoryEntry) → Appends old new (audit_text entries) → AppendsFirst (length entries) old new entries
all_are_first old new entries written = record { within = omega arith; written = moved old new _ _ (ap audit_text (sym (take_all (length entries) entries (omega arith)))) written }

-- ---- where the script is known

pub known_first : (known old new : Option (List ℕ)) (script : List ℕ) (count : ℕ) → IfSome known (λ input. script ≡ input) → AppendsFirst count old new (history_of_script script) → IfSome known (λ input. AppendsFirst count old new (history_of_script input))
known_first None old new script count h written = tt
known_first (Some input) old new script count h written = subst (λ input. AppendsFirst count old new (history_of_script input)) h written

pub known_front : (known old new : Option (List ℕ)) (script : List ℕ) → IfSome known (λ input. script ≡ input) → AppendsFront old new (audit_of script) → IfSome known (λ input. AppendsFront old new (audit_of input))
known_front None old new script h written = tt
known_front (Some input) old new script h written = subst (λ input. AppendsFront old new (audit_of input)) h written

pub known_none : (known old : Option (List ℕ)) (count : ℕ) → count ≡ 0 → IfSome known (λ input. AppendsFirst count old old (history_of_script input))
known_none None old count e = tt
known_none (Some input) old count e = subst (λ n. AppendsFirst n old old (history_of_script input)) (sym e) (record { within = omega arith; written = appends_none old })
