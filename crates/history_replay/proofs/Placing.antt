-- Entries and receipts by their places.
use Rattle.std.proofs.Common.{◌≡◌, ℕ, ◌-◌, ◌+◌, ◌<◌, ◌∙◌, List, zero, suc, get_or, Option, Some, None, true, false, sym, ap, subst, arith, slice_get}
use Rattle.std.specs.Option.{option_map_or, is_some}
use Rattle.std.proofs.lemmas.Option.{get_or_from_slice_get}
use Rattle.history.specs.declared.entry.HistoryEntry.{HistoryEntry}
use Rattle.history.specs.declared.entry.Answer.{Answer}
use Rattle.history_replay.specs.declared.pair.Pair.{Pair}
use Rattle.history_replay.specs.Agreement.{IsPlaced, entry_at_place, bound_of}
use Rattle.history_replay.specs.Placing.{PlacedAt, PassPlaced}

pub at_place : (history : List HistoryEntry) (place : ℕ) → 0 < place → slice_get history (place - 1) ≡ entry_at_place history place
at_place history zero less = absurd (none less)
  where
    none : 0 < 0 → ⊥
    none h = omega arith
at_place history (suc before) less = let e : suc before - 1 ≡ before = omega arith in ap (slice_get history) e

pub bound_next : (begun : ℕ) (answers : List Answer) (i : ℕ) (answer : Answer) → slice_get answers i ≡ Some answer → answer.place ≡ bound_of begun answers (i + 1)
bound_next begun answers i answer at =
    let e : suc i ≡ i + 1 = omega arith in
    sym (ap (λ (found : Option Answer). option_map_or (λ a. a.place) found begun) at) ∙ ap (bound_of begun answers) e

pub placed_here : (begun : ℕ) (history : List HistoryEntry) (pass : ℕ) (answers : List Answer) (i bound : ℕ) (item : Answer)
    → item ≡ get_or answers i item → bound ≡ bound_of begun answers i → IsPlaced history bound pass i item → PlacedAt begun history pass answers i
placed_here begun history pass answers i bound item is b here answer at =
    subst (λ (x : Answer). IsPlaced history (bound_of begun answers i) pass i x) (is ∙ get_or_from_slice_get answers i answer item at)
    (subst (λ (n : ℕ). IsPlaced history n pass i item) b here)

-- nothing is found in a pass
pub passed : (begun : ℕ) (history : List HistoryEntry) (pass : ℕ) (answers : List Answer) (found : Option Pair) → PassPlaced begun history pass answers found → is_some found ≡ false
    → (index : ℕ) → PlacedAt begun history pass answers index
passed begun history pass answers None says none = says
passed begun history pass answers (Some pair) says none = absurd (apart none)
  where
    apart : true ≡ false → ⊥
    apart e = cc
