-- What is kept of events stays, since a history only grows at its end; and one event more is kept.
use Rattle.std.proofs.Common.{◌≡◌, ℕ, ◌+◌, ◌-◌, ◌≤◌, ◌<◌, List, [], ◌∷◌, ◌++◌, length, take, drop, reverse, refl, sym, ap, ◌∙◌, subst, arith}
use Rattle.std.specs.List.{AllByRecursion}
use Rattle.std.proofs.lemmas.List.{length-append, length-drop, length-reverse, reverse-append, append_assoc, append-nil, map-append, take_all, take-append-le, drop-append-le}
use Rattle.std.proofs.lemmas.List.Concat.{flat_map-append}
use Rattle.history.specs.declared.entry.HistoryEntry.{HistoryEntry}
use Rattle.cluster_trace.specs.declared.event.Event.{Event}
use Rattle.cluster_trace.specs.declared.event.Event.TheVariants.{Name}
use Rattle.cluster_trace.proofs.Each.{each_append, each_more}
use Rattle.cluster_parts.specs.Kept.{IsWithin, AreWithin, entries_between, asked_for, events_of, events_kept, IsOneMore}
use Rattle.cluster_parts.specs.declared.kept.KeptEvents.{KeptEvents}
use Rattle.cluster_parts.specs.declared.kept.KeptEvents.TheVariants.{Asked, Refused, Delivered, Called}

module _ {X : Type 0} where
  each_front : (P : X → Type 0) (xs ys : List X) → AllByRecursion P (xs ++ ys) → AllByRecursion P xs
  each_front P [] ys p = tt
  each_front P (x ∷ xs) ys p = (p.0, each_front P xs ys p.1)

  each_back : (P : X → Type 0) (xs ys : List X) → AllByRecursion P (xs ++ ys) → AllByRecursion P ys
  each_back P [] ys p = p
  each_back P (x ∷ xs) ys p = each_back P xs ys p.1

-- ---- entries of a history that grows

between_stay : (history more : List HistoryEntry) (first last : ℕ) → first ≤ last → last < length history → entries_between (history ++ more) first last ≡ entries_between history first last
between_stay history more first last up within =
    ap (take (last + 1 - first)) (drop-append-le first history more (omega (arith, up, within)))
    ∙ take-append-le (last + 1 - first) (drop first history) more (omega (arith, up, within, length-drop first history))

between_grow : (history : List HistoryEntry) (entry : HistoryEntry) (first last : ℕ) → first ≤ last → length history ≡ last + 1
    → entries_between (history ++ entry ∷ []) first (last + 1) ≡ entries_between history first last ++ entry ∷ []
between_grow history entry first last up long =
    ap (take (last + 1 + 1 - first)) (drop-append-le first history (entry ∷ []) (omega (arith, up, long)))
    ∙ take_all (last + 1 + 1 - first) (drop first history ++ entry ∷ []) (omega (arith, up, long, length-drop first history, length-append (drop first history) (entry ∷ [])))
    ∙ ap (λ own. own ++ entry ∷ []) (sym (take_all (last + 1 - first) (drop first history) (omega (arith, up, long, length-drop first history))))

drop_whole : (history : List HistoryEntry) (entry : HistoryEntry) → drop (length history) (history ++ entry ∷ []) ≡ entry ∷ []
drop_whole [] entry = refl
drop_whole (own ∷ history) entry = drop_whole history entry

between_new : (history : List HistoryEntry) (entry : HistoryEntry) (index : ℕ) → index ≡ length history → entries_between (history ++ entry ∷ []) index index ≡ entry ∷ []
between_new history entry index long =
    ap (λ at. take (index + 1 - index) (drop at (history ++ entry ∷ []))) long
    ∙ ap (take (index + 1 - index)) (drop_whole history entry)
    ∙ take_all (index + 1 - index) (entry ∷ []) (omega arith)

-- ---- what is kept

module _ (history more : List HistoryEntry) where
  of_stays : (kept : KeptEvents) → IsWithin history kept → events_of (history ++ more) kept ≡ events_of history kept
  of_stays (Asked first last) within = ap asked_for (between_stay history more first last within.0 within.1)
  of_stays (Refused request) within = refl
  of_stays (Delivered number now) within = refl
  of_stays (Called node now call) within = refl

  within_stays : (kept : KeptEvents) → IsWithin history kept → IsWithin (history ++ more) kept
  within_stays (Asked first last) within = (within.0, omega (arith, length-append history more, within.1))
  within_stays (Refused request) within = tt
  within_stays (Delivered number now) within = tt
  within_stays (Called node now call) within = tt

  kept_stay : (kept : List KeptEvents) → AreWithin history kept → events_kept (history ++ more) kept ≡ events_kept history kept
  kept_stay [] within = refl
  kept_stay (own ∷ kept) within =
      ap (λ (events : List Event). events ++ events_kept (history ++ more) kept) (of_stays own within.0)
      ∙ ap (λ (events : List Event). events_of history own ++ events) (kept_stay kept within.1)

  all_within : (kept : List KeptEvents) (own : KeptEvents) → AreWithin history kept → IsWithin (history ++ more) own → AreWithin (history ++ more) (kept ++ own ∷ [])
  all_within kept own within new = each_append (IsWithin (history ++ more)) kept (own ∷ []) (each_more (IsWithin history) (IsWithin (history ++ more)) within_stays kept within) (new, tt)

  -- one is kept behind the others
  pub one_more : (kept : List KeptEvents) (own : KeptEvents) (event : Event) → AreWithin history kept → IsWithin (history ++ more) own → events_of (history ++ more) own ≡ event ∷ []
      → IsOneMore history kept event (history ++ more) (kept ++ own ∷ [])
  one_more kept own event within new is = record {
    within = all_within kept own within new;
    is =
        flat_map-append (events_of (history ++ more)) kept (own ∷ [])
        ∙ ap (λ (events : List Event). events ++ (events_of (history ++ more) own ++ [])) (kept_stay kept within)
        ∙ ap (λ (events : List Event). events_kept history kept ++ (events ++ [])) is;
  }

regroup : (front own : List Event) (event : Event) (all : List Event) → all ≡ front ++ (own ++ []) → front ++ ((own ++ event ∷ []) ++ []) ≡ all ++ event ∷ []
regroup front own event all is =
    ap (λ (events : List Event). front ++ events) (append-nil (own ++ event ∷ []))
    ∙ sym (append_assoc front own (event ∷ []))
    ∙ ap (λ (events : List Event). (front ++ events) ++ event ∷ []) (sym (append-nil own))
    ∙ ap (λ (events : List Event). events ++ event ∷ []) (sym is)

-- the last ones kept were made by the newest entries, and one more by the next
run_more : (history : List HistoryEntry) (entry : HistoryEntry) (front : List KeptEvents) (first last : ℕ) → AreWithin history (front ++ Asked first last ∷ []) → length history ≡ last + 1
    → IsOneMore history (front ++ Asked first last ∷ []) (Name entry.request) (history ++ entry ∷ []) (front ++ Asked first (last + 1) ∷ [])
run_more history entry front first last within long =
    let before : AreWithin history front = each_front (IsWithin history) front (Asked first last ∷ []) within in
    let up : first ≤ last = (each_back (IsWithin history) front (Asked first last ∷ []) within).0.0 in
    let longer : last + 1 < length (history ++ entry ∷ []) = omega (arith, long, length-append history (entry ∷ [])) in
    let asked : asked_for (entries_between (history ++ entry ∷ []) first (last + 1)) ≡ asked_for (entries_between history first last) ++ Name entry.request ∷ [] =
    ap asked_for (between_grow history entry first last up long) ∙ map-append (λ (own : HistoryEntry). Name own.request) (entries_between history first last) (entry ∷ []) in
    record {
      within = all_within history (entry ∷ []) front (Asked first (last + 1)) before (omega (arith, up), longer);
      is =
          flat_map-append (events_of (history ++ entry ∷ [])) front (Asked first (last + 1) ∷ [])
          ∙ ap (λ (events : List Event). events ++ (asked_for (entries_between (history ++ entry ∷ []) first (last + 1)) ++ [])) (kept_stay history (entry ∷ []) front before)
          ∙ ap (λ (events : List Event). events_kept history front ++ (events ++ [])) asked
          ∙ regroup (events_kept history front) (asked_for (entries_between history first last)) (Name entry.request) (events_kept history (front ++ Asked first last ∷ [])) (flat_map-append (events_of history) front (Asked first last ∷ []));
    }

-- a first one is made by the newest entry
new_run : (history : List HistoryEntry) (entry : HistoryEntry) (kept : List KeptEvents) (index : ℕ) → AreWithin history kept → index ≡ length history
    → IsOneMore history kept (Name entry.request) (history ++ entry ∷ []) (kept ++ Asked index index ∷ [])
new_run history entry kept index within long =
    one_more history (entry ∷ []) kept (Asked index index) (Name entry.request) within
    (omega arith, omega (arith, long, length-append history (entry ∷ [])))
    (ap asked_for (between_new history entry index long))

-- ---- by the newest entry

grown : (earlier : List HistoryEntry) (entry : HistoryEntry) → reverse (entry ∷ earlier) ≡ reverse earlier ++ entry ∷ []
grown earlier entry = reverse-append (entry ∷ []) earlier

pub kept_alone : (earlier : List HistoryEntry) (entry : HistoryEntry) (kept : List KeptEvents) (index : ℕ) → index ≡ length earlier → AreWithin (reverse earlier) kept
    → IsOneMore (reverse earlier) kept (Name entry.request) (reverse (entry ∷ earlier)) (kept ++ Asked index index ∷ [])
kept_alone earlier entry kept index long within =
    subst (λ (history : List HistoryEntry). IsOneMore (reverse earlier) kept (Name entry.request) history (kept ++ Asked index index ∷ [])) (sym (grown earlier entry))
    (new_run (reverse earlier) entry kept index within (long ∙ sym (length-reverse earlier)))

pub kept_behind : (earlier : List HistoryEntry) (entry : HistoryEntry) (front : List KeptEvents) (first last index : ℕ) → index ≡ length earlier → index ≡ last + 1
    → AreWithin (reverse earlier) (front ++ Asked first last ∷ [])
    → IsOneMore (reverse earlier) (front ++ Asked first last ∷ []) (Name entry.request) (reverse (entry ∷ earlier)) (front ++ Asked first index ∷ [])
kept_behind earlier entry front first last index long next within =
    subst (λ (history : List HistoryEntry). IsOneMore (reverse earlier) (front ++ Asked first last ∷ []) (Name entry.request) history (front ++ Asked first index ∷ [])) (sym (grown earlier entry))
    (subst (λ (at : ℕ). IsOneMore (reverse earlier) (front ++ Asked first last ∷ []) (Name entry.request) (reverse earlier ++ entry ∷ []) (front ++ Asked first at ∷ [])) (sym next)
    (run_more (reverse earlier) entry front first last within (length-reverse earlier ∙ sym long ∙ next)))
