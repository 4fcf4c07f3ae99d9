-- Looks that are listed.
use Rattle.std.proofs.Common.{◌≡◌, ℕ, ◌+◌, ◌<◌, ◌∙◌, List, length, get_or, Some, true, subst, slice_get}
use Rattle.std.proofs.lemmas.Option.{get_or_from_slice_get}
use Rattle.hdfs_types.specs.Request.{is_look}
use Rattle.history.specs.declared.entry.Answer.{Answer}
use Rattle.history_replay.specs.declared.pair.Pair.{Pair}
use Rattle.history_replay.specs.Looking.{lists, KeepsLooks, HasLook, HasLooks}
use Rattle.history_replay.proofs.Stepping.{below_step}

-- what was listed stays so
pub look_stays : (old new : List (List Pair)) (pass : ℕ) (answers : List Answer) (index : ℕ) → length new ≡ length old → KeepsLooks old new → HasLook old pass answers index → HasLook new pass answers index
look_stays old new pass answers index len kept before answer at look within =
    kept answer.place pass index (before answer at look (subst (λ (m : ℕ). answer.place < m) len within))

pub looks_step : (old new : List (List Pair)) (pass : ℕ) (answers : List Answer) (i : ℕ) (item : Answer) → item ≡ get_or answers i item → length new ≡ length old → KeepsLooks old new
    → (is_look item.request.op ≡ true → item.place < length old → lists new item.place pass i ≡ true)
    → ((index : ℕ) → index < i → HasLook old pass answers index) → (index : ℕ) → index < i + 1 → HasLook new pass answers index
looks_step old new pass answers i item is len kept listed before =
    below_step (HasLook new pass answers) i (λ index less. look_stays old new pass answers index len kept (before index less))
    (λ answer at look within.
    subst (λ (x : Answer). is_look x.request.op ≡ true → x.place < length old → lists new x.place pass i ≡ true) (is ∙ get_or_from_slice_get answers i answer item at) listed look
    (subst (λ (m : ℕ). answer.place < m) len within))

pub passes_step : (old new : List (List Pair)) (passes : List (List Answer)) (i : ℕ) (item own : List Answer) → own ≡ item → item ≡ get_or passes i item → length new ≡ length old → KeepsLooks old new
    → HasLooks new i own
    → ((pass : ℕ) → pass < i → (answers : List Answer) → slice_get passes pass ≡ Some answers → HasLooks old pass answers)
    → (pass : ℕ) → pass < i + 1 → (answers : List Answer) → slice_get passes pass ≡ Some answers → HasLooks new pass answers
passes_step old new passes i item own lent is len kept has before =
    below_step (λ (pass : ℕ). (answers : List Answer) → slice_get passes pass ≡ Some answers → HasLooks new pass answers) i
    (λ pass less answers there index. look_stays old new pass answers index len kept (before pass less answers there index))
    (λ answers there index. subst (λ (xs : List Answer). HasLook new i xs index) (lent ∙ (is ∙ get_or_from_slice_get passes i answers item there)) (has index))
