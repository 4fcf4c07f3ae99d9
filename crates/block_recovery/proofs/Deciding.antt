-- What a decision keeps of the answers.
use Rattle.std.proofs.Common.{◌≡◌, ◌≤◌, ℕ, min, Bool, true, false, ◌||◌, List, [], ◌∷◌, map, filter, fold, Option, Some, None, unwrap_or, refl, sym, ap, ◌∙◌, cond, subst, arith, nat_le, true≢false}
use Rattle.std.proofs.lemmas.Bool.{leb-true}
use Rattle.std.proofs.lemmas.Map.Entries.{lookup-filter-values, option_filter}
use Rattle.std.proofs.lemmas.Map.Keys.{IsDistinct-from_sorted, sorted_head, sorted_tail}
use Rattle.std.specs.Cmp.{eq_by_cmp_equiv, nat_cmp_total}
use Rattle.std.specs.List.{AllByRecursion, list_any}
use Rattle.std.specs.Map.{keys_of, values_of}
use Rattle.std.specs.Option.{is_some}
use Rattle.std.specs.Ordering.{nat_cmp}
use Rattle.block_records.specs.Numbers.{is_number, has_number, entry_at}
use Rattle.block_records.proofs.Ascending.{lacks_lower}
use Rattle.block_records.proofs.Numbers.{number_is}
use Rattle.block_records.proofs.Reporting.{number_eq}
use Rattle.block_recovery.specs.Decision.{least_of, finalized_of, suits, suiting_nodes, decision_by}
use Rattle.block_recovery.specs.Laws.{AreByNode}
use Rattle.block_recovery.specs.declared.answer.Answer.{Answer}
use Rattle.block_recovery.specs.declared.decision.Decision.{Decision}
use Rattle.block_recovery.proofs.Tables.{itself, has_entry}

none_some : {X : Type 0} {A : Type 0} (x : X) → None ≡ Some x → A
none_some x e = cc

-- ---- the lengths that were answered

pub lengths_of : (answers : List (ℕ × Answer)) → map (λ own. own.1.length) answers ≡ map (λ own. own.length) (values_of answers)
lengths_of [] = refl
lengths_of (own ∷ answers) = ap (λ lengths. own.1.length ∷ lengths) (lengths_of answers)

pub finalized_lengths_of : (answers : List (ℕ × Answer)) → map (λ own. own.1.length) (filter (λ own. own.1.finalized) answers) ≡ map (λ own. own.length) (finalized_of (values_of answers))
finalized_lengths_of [] = refl
finalized_lengths_of (own ∷ answers) = by own.1.finalized (finalized_lengths_of answers)
  where
    by : (b : Bool) → map (λ own. own.1.length) (filter (λ own. own.1.finalized) answers) ≡ map (λ own. own.length) (finalized_of (values_of answers))
        → map (λ own. own.1.length) (cond b (own ∷ filter (λ own. own.1.finalized) answers) (filter (λ own. own.1.finalized) answers)) ≡ map (λ own. own.length) (cond b (own.1 ∷ finalized_of (values_of answers)) (finalized_of (values_of answers)))
    by true rest = ap (λ lengths. own.1.length ∷ lengths) rest
    by false rest = rest

-- ---- the least of some numbers

not_below : (bytes a : ℕ) (xs : List ℕ) → bytes ≤ a → AllByRecursion (λ x. bytes ≤ x) xs → bytes ≤ fold min a xs
not_below bytes a [] le h = le
not_below bytes a (x ∷ xs) le h = let first : bytes ≤ x = h.0 in not_below bytes (min a x) xs (omega (arith, le, first)) h.1

low : (a : ℕ) (xs : List ℕ) → fold min a xs ≤ a
low a [] = omega arith
low a (x ∷ xs) = let rest : fold min (min a x) xs ≤ min a x = low (min a x) xs in omega (arith, rest)

lows : (m a : ℕ) (xs : List ℕ) → fold min a xs ≡ m → AllByRecursion (λ x. m ≤ x) xs
lows m a [] is = tt
lows m a (x ∷ xs) is = (first, lows m (min a x) xs is)
  where
    first : m ≤ x
    first = let rest : fold min (min a x) xs ≤ min a x = low (min a x) xs in omega (arith, rest, is)

-- ---- the least of some replicas

lengths : (P : ℕ → Type 0) (owns : List Answer) → AllByRecursion (λ own. P own.length) owns → AllByRecursion P (map (λ own. own.length) owns)
lengths P [] h = tt
lengths P (own ∷ owns) h = (h.0, lengths P owns h.1)

replicas : (P : ℕ → Type 0) (owns : List Answer) → AllByRecursion P (map (λ own. own.length) owns) → AllByRecursion (λ own. P own.length) owns
replicas P [] h = tt
replicas P (own ∷ owns) h = (h.0, replicas P owns h.1)

least_not_below : (bytes m : ℕ) (owns : List Answer) → AllByRecursion (λ own. bytes ≤ own.length) owns → least_of owns ≡ Some m → bytes ≤ m
least_not_below bytes m [] h is = none_some m is
least_not_below bytes m (own ∷ owns) h is =
    subst (λ n. bytes ≤ n) (ap (λ o. unwrap_or o 0) is) (not_below bytes own.length (map (λ own. own.length) owns) h.0 (lengths (λ n. bytes ≤ n) owns h.1))

least_low : (m : ℕ) (owns : List Answer) → least_of owns ≡ Some m → AllByRecursion (λ own. m ≤ own.length) owns
least_low m [] is = none_some m is
least_low m (own ∷ owns) is = (first, replicas (λ n. m ≤ n) owns (lows m own.length (map (λ own. own.length) owns) same))
  where
    same : fold min own.length (map (λ (own : Answer). own.length) owns) ≡ m
    same = ap (λ o. unwrap_or o 0) is

    first : m ≤ own.length
    first = let rest : fold min own.length (map (λ (own : Answer). own.length) owns) ≤ own.length = low own.length (map (λ own. own.length) owns) in omega (arith, rest, same)

-- ---- what holds of each answer

all_kept : (P : Answer → Type 0) (p : Answer → Bool) (owns : List Answer) → AllByRecursion P owns → AllByRecursion P (filter p owns)
all_kept P p [] h = tt
all_kept P p (own ∷ owns) h = by (p own) (all_kept P p owns h.1)
  where
    by : (b : Bool) → AllByRecursion P (filter p owns) → AllByRecursion P (cond b (own ∷ filter p owns) (filter p owns))
    by true rest = (h.0, rest)
    by false rest = rest

all_from : (P : Answer → Type 0) (answers : List (ℕ × Answer)) → AreByNode answers → ((node : ℕ) (own : Answer) → entry_at node answers ≡ Some own → P own) → AllByRecursion P (values_of answers)
all_from P [] up h = tt
all_from P (e ∷ es) up h = (
  h e.0 e.1 (ap (λ b. cond b (Some e.1) (entry_at e.0 es)) (itself e.0)),
  all_from P es (sorted_tail nat_cmp e.0 (keys_of es) up) (λ node own found. h node own (ap (λ b. cond b (Some e.1) (entry_at node es)) (other node (ap is_some found)) ∙ found)),
)
  where
    other : (node : ℕ) → is_some (entry_at node es) ≡ true → is_number node e.0 ≡ false
    other node has = by (is_number node e.0) refl
      where
        by : (b : Bool) → is_number node e.0 ≡ b → b ≡ false
        by true at = absurd (true≢false (sym has ∙ (sym (has_entry node es) ∙ (ap (λ n. list_any (is_number n) (keys_of es)) (number_is node e.0 at) ∙ lacks_lower e.0 (keys_of es) (sorted_head nat_cmp e.0 (keys_of es) up)))))
        by false at = refl

at_one : (P : Answer → Type 0) (answers : List (ℕ × Answer)) (node : ℕ) (own : Answer) → AllByRecursion P (values_of answers) → entry_at node answers ≡ Some own → P own
at_one P [] node own h found = none_some own found
at_one P (e ∷ es) node own h found = by (is_number node e.0) found (at_one P es node own h.1)
  where
    by : (b : Bool) → cond b (Some e.1) (entry_at node es) ≡ Some own → (entry_at node es ≡ Some own → P own) → P own
    by true found rest = subst P (ap (λ o. unwrap_or o e.1) found) h.0
    by false found rest = rest found

at_kept : (P : Answer → Type 0) (p : Answer → Bool) (answers : List (ℕ × Answer)) (node : ℕ) (own : Answer) → AllByRecursion P (filter p (values_of answers)) → entry_at node answers ≡ Some own → p own ≡ true → P own
at_kept P p [] node own h found is = none_some own found
at_kept P p (e ∷ es) node own h found is = by (p e.1) refl (is_number node e.0) h found (λ h found. at_kept P p es node own h found is)
  where
    by : (b : Bool) → p e.1 ≡ b → (d : Bool) → AllByRecursion P (cond b (e.1 ∷ filter p (values_of es)) (filter p (values_of es))) → cond d (Some e.1) (entry_at node es) ≡ Some own
        → (AllByRecursion P (filter p (values_of es)) → entry_at node es ≡ Some own → P own) → P own
    by true at true h found rest = subst P (ap (λ o. unwrap_or o e.1) found) h.0
    by true at false h found rest = rest h.1 found
    by false at true h found rest = absurd (true≢false (sym is ∙ (ap p (sym (ap (λ o. unwrap_or o e.1) found)) ∙ at)))
    by false at false h found rest = rest h found

-- ---- who takes part

has_node : {X : Type 0} (n : ℕ) (table : List (ℕ × X)) → has_number n (keys_of table) ≡ is_some (entry_at n table)
has_node n [] = refl
has_node {X} n (entry ∷ table) = ap (λ x. x || has_number n (keys_of table)) (sym (number_eq n entry.0)) ∙ by (is_number n entry.0) (has_node n table)
  where
    by : (x : Bool) → has_number n (keys_of table) ≡ is_some (entry_at n table) → (x || has_number n (keys_of table)) ≡ is_some (cond x (Some entry.1) (entry_at n table))
    by true rest = refl
    by false rest = rest

takes_part_where : (length node : ℕ) (answers : List (ℕ × Answer)) → AreByNode answers → has_number node (suiting_nodes length answers) ≡ is_some (option_filter (suits length) (entry_at node answers))
takes_part_where length node answers up =
    has_node node (filter (λ own. suits length own.1) answers)
    ∙ ap is_some (lookup-filter-values (eq_by_cmp_equiv nat_cmp_total) (suits length) node answers (IsDistinct-from_sorted nat_cmp (keys_of answers) up))

module _ (answers : List (ℕ × Answer)) (node : ℕ) (up : AreByNode answers) where
  abbrev pub Holds : Decision → Type 0
  Holds decision = (own : Answer) × (entry_at node answers ≡ Some own) × (decision.length ≤ own.length)

  suited : (m : ℕ) → AllByRecursion (λ own. m ≤ own.length) (finalized_of (values_of answers)) → (found : Option Answer) → entry_at node answers ≡ found → is_some (option_filter (suits m) found) ≡ true
      → (own : Answer) × (entry_at node answers ≡ Some own) × (m ≤ own.length)
  suited m least None is has = absurd (true≢false (sym has))
  suited m least (Some own) is has = (own, is, by own.finalized refl (nat_le m own.length) refl has)
    where
      by : (b : Bool) → own.finalized ≡ b → (d : Bool) → nat_le m own.length ≡ d → is_some (cond (b || d) (Some own) None) ≡ true → m ≤ own.length
      by true finalized d le has = at_kept (λ own. m ≤ own.length) (λ own. own.finalized) answers node own least is finalized
      by false finalized true le has = leb-true m own.length le
      by false finalized false le has = absurd (true≢false (sym has))

  pub holds : (some all : Option ℕ) → least_of (finalized_of (values_of answers)) ≡ some → least_of (values_of answers) ≡ all → (decision : Decision) → decision_by answers some all ≡ Some decision
      → has_number node decision.nodes ≡ true → Holds decision
  holds (Some m) all some_is all_is decision is has =
      subst (λ (d : Decision). has_number node d.nodes ≡ true → Holds d) (ap (λ o. unwrap_or o decision) is)
      (λ has. suited m (least_low m (finalized_of (values_of answers)) some_is) (entry_at node answers) refl (sym (takes_part_where m node answers up) ∙ has)) has
  holds None (Some m) some_is all_is decision is has =
      subst (λ (d : Decision). has_number node d.nodes ≡ true → Holds d) (ap (λ o. unwrap_or o decision) is)
      (λ has. by (entry_at node answers) refl (sym (has_node node answers) ∙ has)) has
    where
      by : (found : Option Answer) → entry_at node answers ≡ found → is_some found ≡ true → (own : Answer) × (entry_at node answers ≡ Some own) × (m ≤ own.length)
      by None found has = absurd (true≢false (sym has))
      by (Some own) found has = (own, found, at_one (λ own. m ≤ own.length) answers node own (least_low m (values_of answers) all_is) found)
  holds None None some_is all_is decision is has = none_some decision is

  pub finalized_take_part : (some all : Option ℕ) → (decision : Decision) → decision_by answers some all ≡ Some decision → (own : Answer) → entry_at node answers ≡ Some own → own.finalized ≡ true
      → has_number node decision.nodes ≡ true
  finalized_take_part (Some m) all decision is own found finalized =
      subst (λ (d : Decision). has_number node d.nodes ≡ true) (ap (λ o. unwrap_or o decision) is)
      (takes_part_where m node answers up ∙ (ap (λ o. is_some (option_filter (suits m) o)) found ∙ ap (λ b. is_some (cond (b || nat_le m own.length) (Some own) None)) finalized))
  finalized_take_part None (Some m) decision is own found finalized =
      subst (λ (d : Decision). has_number node d.nodes ≡ true) (ap (λ o. unwrap_or o decision) is) (has_node node answers ∙ ap is_some found)
  finalized_take_part None None decision is own found finalized = none_some decision is

pub none_lost : (answers : List (ℕ × Answer)) (bytes : ℕ) → AllByRecursion (λ own. bytes ≤ own.length) (values_of answers)
    → (some all : Option ℕ) → least_of (finalized_of (values_of answers)) ≡ some → least_of (values_of answers) ≡ all → (decision : Decision) → decision_by answers some all ≡ Some decision → bytes ≤ decision.length
none_lost answers bytes h (Some m) all some_is all_is decision is =
    subst (λ (d : Decision). bytes ≤ d.length) (ap (λ o. unwrap_or o decision) is)
    (least_not_below bytes m (finalized_of (values_of answers)) (all_kept (λ own. bytes ≤ own.length) (λ own. own.finalized) (values_of answers) h) some_is)
none_lost answers bytes h None (Some m) some_is all_is decision is =
    subst (λ (d : Decision). bytes ≤ d.length) (ap (λ o. unwrap_or o decision) is) (least_not_below bytes m (values_of answers) h all_is)
none_lost answers bytes h None None some_is all_is decision is = none_some decision is

pub lost_by_none : (answers : List (ℕ × Answer)) (bytes : ℕ) → AreByNode answers → ((node : ℕ) (own : Answer) → entry_at node answers ≡ Some own → bytes ≤ own.length) → AllByRecursion (λ own. bytes ≤ own.length) (values_of answers)
lost_by_none answers bytes up h = all_from (λ own. bytes ≤ own.length) answers up h
