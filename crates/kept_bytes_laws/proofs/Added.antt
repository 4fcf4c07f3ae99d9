-- A block is added once, and its targets are told then.
use Rattle.std.proofs.Common.{◌≡◌, ℕ, ◌<◌, ◌≤◌, true, ◌⊎◌, inl, inr, List, [], ◌∷◌, ◌++◌, sym, ap, ◌∙◌, arith}
use Rattle.std.specs.List.{AllByRecursion}
use Rattle.block_records.specs.Numbers.{has_number}
use Rattle.known_blocks.specs.Known.{KnownBlocks}
use Rattle.block_answers.specs.LocatedBlocks.{AddedBlock}
use Rattle.history.specs.Config as name
use Rattle.history.specs.LegalHistory.{IsLegal, now_at}
use Rattle.history.specs.State.{rows_of, users_of, blocks_of, facts_of}
use Rattle.history.specs.declared.entry.HistoryEntry.{HistoryEntry}
use Rattle.block_laws.specs.Laws.{blocks_given_by, new_blocks}
use Rattle.block_laws.proofs.Histories.{stands}
use Rattle.block_laws.proofs.Steps.{Gives, Turned, turned}
use Rattle.cluster_trace.specs.Provenance.{IsIn}
use Rattle.cluster_trace.proofs.Each.{each_append, each_more, each_in, in_append}

-- ---- lists

pub in_both : {X : Type 0} (x : X) (xs ys : List X) → IsIn x (xs ++ ys) → IsIn x xs ⊎ IsIn x ys
in_both x [] ys i = inr i
in_both x (y ∷ xs) ys (inl e) = inl (inl e)
in_both {X} x (y ∷ xs) ys (inr i) = by (in_both x xs ys i)
  where
    by : IsIn x xs ⊎ IsIn x ys → IsIn x (y ∷ xs) ⊎ IsIn x ys
    by (inl a) = inl (inr a)
    by (inr b) = inr b

pub in_behind : {X : Type 0} (x : X) (xs ys : List X) → IsIn x ys → IsIn x (xs ++ ys)
in_behind x [] ys i = i
in_behind x (y ∷ xs) ys i = inr (in_behind x xs ys i)

-- ---- ids

newly : (before later : KnownBlocks) (new : List AddedBlock) (one : AddedBlock) → Gives before later new → IsIn one new → one.block ≡ before.next_block
newly before later [] one gives i = absurd i
newly before later (own ∷ []) one gives (inl e) = ap (λ (a : AddedBlock). a.block) e ∙ gives.0
newly before later (own ∷ []) one gives (inr i) = absurd i
newly before later (own ∷ other ∷ more) one gives i = absurd gives

same_new : (before later : KnownBlocks) (new : List AddedBlock) (one other : AddedBlock) → Gives before later new → IsIn one new → IsIn other new → one ≡ other
same_new before later [] one other gives i j = absurd i
same_new before later (own ∷ []) one other gives (inl e) (inl f) = e ∙ sym f
same_new before later (own ∷ []) one other gives (inr i) j = absurd i
same_new before later (own ∷ []) one other gives (inl e) (inr j) = absurd j
same_new before later (own ∷ also ∷ more) one other gives i j = absurd gives

new_below : (before later : KnownBlocks) (new : List AddedBlock) → Gives before later new → AllByRecursion (λ (one : AddedBlock). one.block < later.next_block) new
new_below before later [] gives = tt
new_below before later (own ∷ []) gives = (omega (arith, gives.0, gives.1), tt)
new_below before later (own ∷ other ∷ more) gives = absurd gives

module _ (opening : name.Opening) where
  abbrev known_behind : List HistoryEntry → KnownBlocks
  known_behind entries = (blocks_of opening entries).known

  pub turns_behind : (entry : HistoryEntry) (earlier : List HistoryEntry) → IsLegal opening (entry ∷ earlier)
      → Turned (known_behind earlier) (known_behind (entry ∷ earlier)) (rows_of opening (entry ∷ earlier)) (blocks_given_by entry.verdict)
  turns_behind entry earlier legal =
      turned (facts_of opening earlier (now_at earlier entry.request)) (rows_of opening earlier) (users_of earlier) entry.request.caller entry.request.op (stands opening earlier legal.2) entry.verdict legal.1

  all_below : (entries : List HistoryEntry) → IsLegal opening entries → AllByRecursion (λ (one : AddedBlock). one.block < (known_behind entries).next_block) (new_blocks entries)
  all_below [] legal = tt
  all_below (entry ∷ earlier) legal =
      let turn = turns_behind entry earlier legal in
      each_append (λ (one : AddedBlock). one.block < (known_behind (entry ∷ earlier)).next_block) (new_blocks earlier) (blocks_given_by entry.verdict)
      (each_more (λ (one : AddedBlock). one.block < (known_behind earlier).next_block) (λ (one : AddedBlock). one.block < (known_behind (entry ∷ earlier)).next_block)
      (λ one h. lower one.block (known_behind earlier).next_block (known_behind (entry ∷ earlier)).next_block h turn.kept.next_block) (new_blocks earlier) (all_below earlier legal.2))
      (new_below (known_behind earlier) (known_behind (entry ∷ earlier)) (blocks_given_by entry.verdict) turn.gives)
    where
      lower : (a b c : ℕ) → a < b → b ≤ c → a < c
      lower a b c h k = omega (arith, h, k)

  pub one_added : (entries : List HistoryEntry) (own other : AddedBlock) → IsLegal opening entries → IsIn own (new_blocks entries) → IsIn other (new_blocks entries) → own.block ≡ other.block → own ≡ other
  one_added [] own other legal i j same = absurd i
  one_added (entry ∷ earlier) own other legal i j same =
      by (λ a b. one_added earlier own other legal.2 a b same) (in_both own (new_blocks earlier) (blocks_given_by entry.verdict) i) (in_both other (new_blocks earlier) (blocks_given_by entry.verdict) j)
    where
      before : KnownBlocks
      before = known_behind earlier

      later : KnownBlocks
      later = known_behind (entry ∷ earlier)

      gives : Gives before later (blocks_given_by entry.verdict)
      gives = (turns_behind entry earlier legal).gives

      old_new : (a b next : ℕ) → a < next → b ≡ next → a ≡ b → ⊥
      old_new a b next h k e = absurd (omega (arith, h, k, e))

      below : (one : AddedBlock) → IsIn one (new_blocks earlier) → one.block < before.next_block
      below one h = each_in (λ (a : AddedBlock). a.block < before.next_block) (new_blocks earlier) one (all_below earlier legal.2) h

      by : (IsIn own (new_blocks earlier) → IsIn other (new_blocks earlier) → own ≡ other) → IsIn own (new_blocks earlier) ⊎ IsIn own (blocks_given_by entry.verdict)
          → IsIn other (new_blocks earlier) ⊎ IsIn other (blocks_given_by entry.verdict) → own ≡ other
      by before_too (inl a) (inl b) = before_too a b
      by before_too (inl a) (inr b) = absurd (old_new own.block other.block before.next_block (below own a) (newly before later (blocks_given_by entry.verdict) other gives b) same)
      by before_too (inr a) (inl b) = absurd (old_new other.block own.block before.next_block (below other b) (newly before later (blocks_given_by entry.verdict) own gives a) (sym same))
      by before_too (inr a) (inr b) = same_new before later (blocks_given_by entry.verdict) own other gives a b

-- ---- targets

-- a writer was told that the node is to hold the block
pub record IsTarget (entries : List HistoryEntry) (block node : ℕ) : Type 0 where
  pub new : AddedBlock
  pub added : IsIn new (new_blocks entries)
  pub of : new.block ≡ block
  pub target : has_number node new.targets ≡ true

abbrev pub AreTargets : List HistoryEntry → ℕ → List ℕ → Type 0
AreTargets entries block nodes = (node : ℕ) → has_number node nodes ≡ true → IsTarget entries block node

pub target_still : (entry : HistoryEntry) (earlier : List HistoryEntry) (block node : ℕ) → IsTarget earlier block node → IsTarget (entry ∷ earlier) block node
target_still entry earlier block node is =
    record { new = is.new; added = in_append is.new (new_blocks earlier) (blocks_given_by entry.verdict) is.added; of = is.of; target = is.target }
