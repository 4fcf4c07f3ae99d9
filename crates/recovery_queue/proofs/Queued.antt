-- The recoveries that wait, and the index of them, behind a change of the queue.
use Rattle.std.proofs.Common.{◌≡◌, ℕ, Bool, true, false, ◌||◌, not, List, [], ◌∷◌, filter, Option, Some, None, refl, sym, ap, ◌∙◌, cond}
use Rattle.std.proofs.lemmas.Map.Entries.{lookup-filter-values, option_filter}
use Rattle.std.proofs.lemmas.Map.Keys.{IsDistinct-from_sorted, sorted_head, sorted_tail}
use Rattle.std.specs.Cmp.{eq_by_cmp_equiv, nat_cmp_total, nat_cmp_is}
use Rattle.std.specs.List.{AllByRecursion, list_any}
use Rattle.std.specs.List.Sorted.{IsStrictlySortedBy}
use Rattle.std.specs.Map.{keys_of}
use Rattle.std.specs.Option.{is_some}
use Rattle.std.specs.Ordering.{is_eq, nat_cmp}
use Rattle.std.specs.declared.cmp.Ordering.TheVariants.{Less, Equal}
use Rattle.block_records.specs.Numbers.{is_number, entry_at}
use Rattle.block_records.proofs.Ascending.{same_ascending, kept_ascending}
use Rattle.block_records.proofs.Numbers.{number_is}
use Rattle.block_index.specs.Relation.{relates, blocks_at}
use Rattle.block_index.proofs.Indexing.{Puts, Relates, indexed, step, start}
use Rattle.recovery_queue.specs.Queue.{leads, led_by, without_led_by, without_recovery, without_each, is_led, IsQueueIndexed}

-- ---- numbers

never : false ≡ true → ⊥
never e = cc

itself : (n : ℕ) → is_number n n ≡ true
itself n = ap is_eq (sym (nat_cmp_is n n Equal refl))

here_alone : (b : Bool) → cond b true false ≡ b
here_alone true = refl
here_alone false = refl

here_too : (b : Bool) → cond b true b ≡ b
here_too true = refl
here_too false = refl

nowhere : (b : Bool) → cond b false b ≡ false
nowhere true = refl
nowhere false = refl

-- ---- one block

module _ (old new : List (ℕ × ℕ)) (index : List (ℕ × List ℕ)) (block : ℕ) (law : IsQueueIndexed old index) where
  was : (found : Option ℕ) → entry_at block old ≡ found → (n b : ℕ) → relates index n b ≡ cond (is_number block b) (is_led n found) (relates index n b)
  was found is n b = start is_led old index block law n b ∙ ap (λ (o : Option ℕ). cond (is_number block b) (is_led n o) (relates index n b)) is

  -- a block that didn't wait waits for a primary
  pub put_new : (after : List (ℕ × List ℕ)) (primary : ℕ) → Puts block (Some primary) old new → Relates true block (is_number primary) index after → entry_at block old ≡ None → IsQueueIndexed new after
  put_new after primary put change none =
      indexed is_led old new index after block (Some primary) law put
      (step true block (is_number primary) (λ n. false) (is_number primary) index index after (was None none) change (λ n. here_alone (is_number primary n)))

  -- it waited for this primary already
  pub put_same : (after : List (ℕ × List ℕ)) (primary : ℕ) → Puts block (Some primary) old new → Relates true block (is_number primary) index after → entry_at block old ≡ Some primary → IsQueueIndexed new after
  put_same after primary put change some =
      indexed is_led old new index after block (Some primary) law put
      (step true block (is_number primary) (is_number primary) (is_number primary) index index after (was (Some primary) some) change (λ n. here_too (is_number primary n)))

  -- it waited for another
  pub put_over : (mid after : List (ℕ × List ℕ)) (primary older : ℕ) → Puts block (Some primary) old new → Relates true block (is_number primary) index mid → Relates false block (is_number older) mid after
      → entry_at block old ≡ Some older → (older ≡ primary → ⊥) → IsQueueIndexed new after
  put_over mid after primary older put on off some other =
      indexed is_led old new index after block (Some primary) law put
      (step false block (is_number older) (λ n. cond (is_number primary n) true (is_number older n)) (is_number primary) index mid after
      (step true block (is_number primary) (is_number older) (λ n. cond (is_number primary n) true (is_number older n)) index index mid (was (Some older) some) on (λ n. refl)) off
      (λ n. by n (is_number older n) refl (is_number primary n) refl))
    where
      by : (n : ℕ) (x : Bool) → is_number older n ≡ x → (y : Bool) → is_number primary n ≡ y → cond x false (cond y true x) ≡ y
      by n true p true q = absurd (other (number_is older n p ∙ sym (number_is primary n q)))
      by n true p false q = refl
      by n false p true q = refl
      by n false p false q = refl

  -- a block that didn't wait doesn't again
  pub put_undone : (mid after : List (ℕ × List ℕ)) (primary : ℕ) → Relates true block (is_number primary) index mid → Relates false block (is_number primary) mid after → entry_at block old ≡ None → IsQueueIndexed old after
  put_undone mid after primary on off none =
      indexed is_led old old index after block None law (λ q. same q (is_number block q) refl)
      (step false block (is_number primary) (is_number primary) (λ n. false) index mid after
      (step true block (is_number primary) (λ n. false) (is_number primary) index index mid (was None none) on (λ n. here_alone (is_number primary n))) off (λ n. nowhere (is_number primary n)))
    where
      same : (q : ℕ) (x : Bool) → is_number block q ≡ x → entry_at q old ≡ cond x None (entry_at q old)
      same q true at = ap (λ n. entry_at n old) (sym (number_is block q at)) ∙ none
      same q false at = refl

  -- a block waits no more
  pub forgotten_one : (after : List (ℕ × List ℕ)) (primary : ℕ) → Puts block None old new → Relates false block (is_number primary) index after → entry_at block old ≡ Some primary → IsQueueIndexed new after
  forgotten_one after primary put change some =
      indexed is_led old new index after block None law put
      (step false block (is_number primary) (is_number primary) (λ n. false) index index after (was (Some primary) some) change (λ n. nowhere (is_number primary n)))

  pub forgotten_none : Puts block None old new → entry_at block old ≡ None → IsQueueIndexed new index
  forgotten_none put none = indexed is_led old new index index block None law put (was None none)

-- ---- all blocks of a primary

has_entry : {X : Type 0} (q : ℕ) (table : List (ℕ × X)) → list_any (is_number q) (keys_of table) ≡ is_some (entry_at q table)
has_entry q [] = refl
has_entry {X} q (entry ∷ table) = by (is_number q entry.0) (has_entry q table)
  where
    by : (b : Bool) → list_any (is_number q) (keys_of table) ≡ is_some (entry_at q table) → (b || list_any (is_number q) (keys_of table)) ≡ is_some (cond b (Some entry.1) (entry_at q table))
    by true rest = refl
    by false rest = rest

led : (node : ℕ) (found : Option ℕ) → is_some (option_filter (λ primary. is_number primary node) found) ≡ is_led node found
led node None = refl
led node (Some primary) = by (is_number primary node)
  where
    by : (b : Bool) → is_some (cond b (Some primary) None) ≡ b
    by true = refl
    by false = refl

-- the index has them, in order
pub led_blocks : (queue : List (ℕ × ℕ)) (index : List (ℕ × List ℕ)) (node : ℕ) → IsQueueIndexed queue index → IsStrictlySortedBy nat_cmp (keys_of queue) → IsStrictlySortedBy nat_cmp (blocks_at index node) → blocks_at index node ≡ led_by node queue
led_blocks queue index node law up own =
    same_ascending (blocks_at index node) (led_by node queue) own (kept_ascending (leads node) queue up)
    (λ q. law node q ∙ sym (has_entry q (filter (leads node) queue)
    ∙ (ap is_some (lookup-filter-values (eq_by_cmp_equiv nat_cmp_total) (λ primary. is_number primary node) q queue (IsDistinct-from_sorted nat_cmp (keys_of queue) up))
    ∙ led node (entry_at q queue))))

-- what is left of the index where they are told
pub told_indexed : (queue : List (ℕ × ℕ)) (index after : List (ℕ × List ℕ)) (node : ℕ) → IsQueueIndexed queue index → IsStrictlySortedBy nat_cmp (keys_of queue)
    → ((n b : ℕ) → relates after n b ≡ cond (is_number node n) false (relates index n b)) → IsQueueIndexed (without_led_by queue node) after
told_indexed queue index after node law up cleared n b =
    cleared n b
    ∙ (ap (cond (is_number node n) false) (law n b)
    ∙ (by (entry_at b queue)
    ∙ ap (is_led n) (sym (lookup-filter-values (eq_by_cmp_equiv nat_cmp_total) (λ primary. not (is_number primary node)) b queue (IsDistinct-from_sorted nat_cmp (keys_of queue) up)))))
  where
    none : (x : Bool) → cond x false false ≡ false
    none true = refl
    none false = refl

    some : (primary : ℕ) (x : Bool) → is_number primary node ≡ x → (y : Bool) → is_number node n ≡ y → cond y false (is_number primary n) ≡ is_led n (cond (not x) (Some primary) None)
    some primary true p true q = refl
    some primary true p false q = ap (λ m. is_number m n) (number_is primary node p) ∙ q
    some primary false p true q = sym (ap (is_number primary) (sym (number_is node n q)) ∙ p)
    some primary false p false q = refl

    by : (found : Option ℕ) → cond (is_number node n) false (is_led n found) ≡ is_led n (option_filter (λ primary. not (is_number primary node)) found)
    by None = none (is_number node n)
    by (Some primary) = some primary (is_number primary node) refl (is_number node n) refl

-- ---- without them

level : (x y : ℕ) → is_number x y ≡ true → nat_cmp y x ≡ Equal
level x y h = sym (nat_cmp_is y x Equal (sym (number_is x y h)))

later_stays : (entry : ℕ × ℕ) (queue : List (ℕ × ℕ)) (gone : List ℕ) → AllByRecursion (λ block. nat_cmp entry.0 block ≡ Less) gone → without_each (entry ∷ queue) gone ≡ entry ∷ without_each queue gone
later_stays entry queue [] h = refl
later_stays entry queue (block ∷ gone) h =
    ap (λ b. without_each (cond b queue (entry ∷ without_recovery queue block)) gone) (apart (is_number block entry.0) refl) ∙ later_stays entry (without_recovery queue block) gone h.1
  where
    differ : Less ≡ Equal → ⊥
    differ e = cc

    apart : (b : Bool) → is_number block entry.0 ≡ b → is_number block entry.0 ≡ false
    apart true at = absurd (differ (sym h.0 ∙ level block entry.0 at))
    apart false at = at

kept_all : (P : ℕ → Type 0) (test : ℕ × ℕ → Bool) (queue : List (ℕ × ℕ)) → AllByRecursion P (keys_of queue) → AllByRecursion P (keys_of (filter test queue))
kept_all P test [] h = tt
kept_all P test (entry ∷ queue) h = by (test entry) (kept_all P test queue h.1)
  where
    by : (b : Bool) → AllByRecursion P (keys_of (filter test queue)) → AllByRecursion P (keys_of (cond b (entry ∷ filter test queue) (filter test queue)))
    by true rest = (h.0, rest)
    by false rest = rest

pub taken_out : (node : ℕ) (queue : List (ℕ × ℕ)) → IsStrictlySortedBy nat_cmp (keys_of queue) → without_each queue (led_by node queue) ≡ without_led_by queue node
taken_out node [] up = refl
taken_out node (entry ∷ queue) up = by (leads node entry) (taken_out node queue (sorted_tail nat_cmp entry.0 (keys_of queue) up))
  where
    gone : List ℕ
    gone = led_by node queue

    others : AllByRecursion (λ block. nat_cmp entry.0 block ≡ Less) gone
    others = kept_all (λ block. nat_cmp entry.0 block ≡ Less) (leads node) queue (sorted_head nat_cmp entry.0 (keys_of queue) up)

    by : (b : Bool) → without_each queue gone ≡ without_led_by queue node → without_each (entry ∷ queue) (keys_of (cond b (entry ∷ filter (leads node) queue) (filter (leads node) queue))) ≡ cond (not b) (entry ∷ without_led_by queue node) (without_led_by queue node)
    by true rest = ap (λ b. without_each (cond b queue (entry ∷ without_recovery queue entry.0)) gone) (itself entry.0) ∙ rest
    by false rest = later_stays entry queue gone others ∙ ap (λ l. entry ∷ l) rest
