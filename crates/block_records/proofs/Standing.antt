-- A table of nodes by ascending ids in a vector: what a search finds, and what an edit at that place does.
use Rattle.std.proofs.Common.{◌≡◌, ℕ, zero, suc, ◌<◌, ◌≤◌, Bool, true, false, ◌||◌, cond, ◌++◌, is_some, List, [], ◌∷◌, length, get_or, set, Option, Some, None, Result, Ok, Err, IfOk, IfErr, OnOk, OnErr, is_ok, refl, sym, ap, ◌∙◌, subst, arith}
use Rattle.std.specs.List.{insert, remove, AllByRecursion}
use Rattle.std.specs.List.Sorted.{IsSearchInRange, IsBinarySearchResult, IsNonDecreasingBy, IsStrictlySortedBy}
use Rattle.std.specs.BTreeMap.{insert_entry}
use Rattle.std.specs.Cmp.{nat_cmp_total, tied_itself}
use Rattle.std.specs.Map.{keys_of, remove_entry}
use Rattle.std.specs.Ordering.{is_eq, nat_cmp, ordering_index, ordering_reverse, match_ordering}
use Rattle.std.specs.declared.cmp.Ordering.{Ordering}
use Rattle.std.specs.declared.cmp.Ordering.TheVariants.{Less, Equal, Greater}
use Rattle.std.proofs.lemmas.Bool.Decides.{nat_tests}
use Rattle.std.proofs.lemmas.Map.Keys.{sorted_head, sorted_tail, below_from_sorted}
use Rattle.block_records.specs.Numbers.{is_number, entry_at}
use Rattle.block_records.specs.Places.{IsPlace, IsGap}
use Rattle.block_records.proofs.Numbers.{number_is}

abbrev pub IsOrdered : {X : Type 0} → List (ℕ × X) → Type 0
IsOrdered table = IsStrictlySortedBy nat_cmp (keys_of table)

greater_behind : (x y : ℕ) → nat_cmp y x ≡ Less → nat_cmp x y ≡ Greater
greater_behind x y less = nat_cmp_total.antisymm x y ∙ ap ordering_reverse less

less_behind : (x y : ℕ) → nat_cmp y x ≡ Greater → nat_cmp x y ≡ Less
less_behind x y greater = nat_cmp_total.antisymm x y ∙ ap ordering_reverse greater

equal_behind : (x y : ℕ) → nat_cmp y x ≡ Equal → nat_cmp x y ≡ Equal
equal_behind x y equal = nat_cmp_total.antisymm x y ∙ ap ordering_reverse equal

above_too : (node low : ℕ) (keys : List ℕ) → nat_cmp node low ≡ Less → AllByRecursion (λ y. nat_cmp low y ≡ Less) keys → AllByRecursion (λ y. nat_cmp node y ≡ Less) keys
above_too node low [] less above = tt
above_too node low (key ∷ keys) less above = (nat_cmp_total.trans node low key less above.0, above_too node low keys less above.1)

greater_equal : {A : Type 0} → Greater ≡ Equal → A
greater_equal e = cc

false_true : {A : Type 0} → false ≡ true → A
false_true e = cc

either_way : (a b : ℕ) → is_number a b ≡ is_number b a
either_way a b = ap is_eq (nat_cmp_total.antisymm a b) ∙ by (nat_cmp b a)
  where
    by : (o : Ordering) → is_eq (ordering_reverse o) ≡ is_eq o
    by Less = refl
    by Equal = refl
    by Greater = refl

-- ---- what a search finds

module _ {X : Type 0} where
  -- all behind an entry are above it
  above_at : (low : ℕ) (table : List (ℕ × X)) (at : ℕ) (d : ℕ × X) → AllByRecursion (λ y. nat_cmp low y ≡ Less) (keys_of table) → at < length table → nat_cmp low (get_or table at d).0 ≡ Less
  above_at low [] at d above short = absurd (omega arith)
  above_at low (entry ∷ table) zero d above short = above.0
  above_at low (entry ∷ table) (suc at) d above short = above_at low table at d above.1 (omega (arith, short))

  placed : (node : ℕ) (table : List (ℕ × X)) (at : ℕ) → IsOrdered table → at < length table → ((d : ℕ × X) → nat_cmp (get_or table at d).0 node ≡ Equal) → IsPlace node table at
  placed node [] at up short same = absurd (omega (arith, short))
  placed node (entry ∷ table) zero up short same = equal_behind node entry.0 (same entry)
  placed node (entry ∷ table) (suc at) up short same =
      let within : at < length table = omega (arith, short) in
      let key : (get_or table at entry).0 ≡ node = number_is (get_or table at entry).0 node (ap is_eq (same entry)) in (
        greater_behind node entry.0 (subst (λ n. nat_cmp entry.0 n ≡ Less) key (above_at entry.0 table at entry (sorted_head nat_cmp entry.0 (keys_of table) up) within)),
        placed node table at (sorted_tail nat_cmp entry.0 (keys_of table) up) within same,
      )

  parted : (node : ℕ) (table : List (ℕ × X)) (at : ℕ) → at ≤ length table → ((k : ℕ) (d : ℕ × X) → k < at → nat_cmp (get_or table k d).0 node ≡ Less)
      → ((k : ℕ) (d : ℕ × X) → at ≤ k → k < length table → nat_cmp (get_or table k d).0 node ≡ Greater) → IsGap node table at
  parted node [] zero within lower higher = tt
  parted node [] (suc at) within lower higher = absurd (omega (arith, within))
  parted node (entry ∷ table) zero within lower higher = less_behind node entry.0 (higher 0 entry (omega arith) (omega arith))
  parted node (entry ∷ table) (suc at) within lower higher = (
    greater_behind node entry.0 (lower 0 entry (omega arith)),
    parted node table at (omega (arith, within)) (λ k d before. lower (suc k) d (omega (arith, before))) (λ k d behind short. higher (suc k) d (omega (arith, behind)) (omega (arith, short))),
  )

  keyed : (table : List (ℕ × X)) (at : ℕ) (d : ℕ × X) → get_or (keys_of table) at d.0 ≡ (get_or table at d).0
  keyed [] at d = refl
  keyed (entry ∷ table) zero d = refl
  keyed (entry ∷ table) (suc at) d = keyed table at d

  count_keys : (table : List (ℕ × X)) → length (keys_of table) ≡ length table
  count_keys [] = refl
  count_keys (entry ∷ table) = ap suc (count_keys table)

  rising : (node : ℕ) (table : List (ℕ × X)) → IsOrdered table → IsNonDecreasingBy (λ entry. ordering_index (nat_cmp entry.0 node)) table
  rising node table up i j d le short =
      let below : i < j → (get_or table i d).0 < (get_or table j d).0 = λ lt. subst (λ n. (get_or table i d).0 < n) (keyed table j d) (subst (λ n. n < get_or (keys_of table) j d.0) (keyed table i d) (below_from_sorted (keys_of table) i j d.0 up lt (omega (arith, short, count_keys table)))) in
      let keys_rise : (get_or table i d).0 ≤ (get_or table j d).0 = grind (arith, below, λ (same : i ≡ j). ap (λ k. (get_or table k d).0) same) in
      grind (arith, nat_tests)

  pub searched : (node : ℕ) (table : List (ℕ × X)) (found : Result ℕ ℕ) → IsOrdered table → IsSearchInRange found (length table) → IsBinarySearchResult (λ entry. nat_cmp entry.0 node) table found
      → record { there : IfOk found (IsPlace node table); absent : IfErr found (IsGap node table) }
  searched node table (Ok at) up within same = record { there = placed node table at up within same; absent = tt }
  searched node table (Err at) up within sides =
      let both = sides (rising node table up) in
      record { there = tt; absent = parted node table at within (λ k d before. both.0 k d (omega arith) before) (λ k d behind short. both.1 k d behind short) }

  -- ---- what is looked up

  pub entry_there : (node : ℕ) (table : List (ℕ × X)) (at : ℕ) (d : ℕ × X) → IsPlace node table at → entry_at node table ≡ Some (get_or table at d).1
  entry_there node [] at d there = absurd there
  entry_there node (entry ∷ table) zero d there = ap (λ o. cond (is_eq o) (Some entry.1) (entry_at node table)) there
  entry_there node (entry ∷ table) (suc at) d there = ap (λ o. cond (is_eq o) (Some entry.1) (entry_at node table)) there.0 ∙ entry_there node table at d there.1

  none_below : (node : ℕ) (table : List (ℕ × X)) → AllByRecursion (λ y. nat_cmp node y ≡ Less) (keys_of table) → entry_at node table ≡ None
  none_below node [] above = refl
  none_below node (entry ∷ table) above = ap (λ o. cond (is_eq o) (Some entry.1) (entry_at node table)) above.0 ∙ none_below node table above.1

  above_gap : (node : ℕ) (entry : ℕ × X) (table : List (ℕ × X)) → IsOrdered (entry ∷ table) → nat_cmp node entry.0 ≡ Less → AllByRecursion (λ y. nat_cmp node y ≡ Less) (keys_of (entry ∷ table))
  above_gap node entry table up less = (less, above_too node entry.0 (keys_of table) less (sorted_head nat_cmp entry.0 (keys_of table) up))

  pub entry_absent : (node : ℕ) (table : List (ℕ × X)) (at : ℕ) → IsOrdered table → IsGap node table at → entry_at node table ≡ None
  entry_absent node [] at up gap = refl
  entry_absent node (entry ∷ table) zero up gap = none_below node (entry ∷ table) (above_gap node entry table up gap)
  entry_absent node (entry ∷ table) (suc at) up gap =
      ap (λ o. cond (is_eq o) (Some entry.1) (entry_at node table)) gap.0 ∙ entry_absent node table at (sorted_tail nat_cmp entry.0 (keys_of table) up) gap.1

  pub is_known : (node : ℕ) (table : List (ℕ × X)) (found : Result ℕ ℕ) → IsOrdered table → IfOk found (IsPlace node table) → IfErr found (IsGap node table) → is_ok found ≡ is_some (entry_at node table)
  is_known node [] (Ok at) up there gap = absurd there
  is_known node (entry ∷ table) (Ok at) up there gap = sym (ap is_some (entry_there node (entry ∷ table) at entry there))
  is_known node table (Err at) up there gap = sym (ap is_some (entry_absent node table at up gap))

  -- ---- what an edit does

  pub set_there : (node : ℕ) (value : X) (table : List (ℕ × X)) (at : ℕ) → IsPlace node table at → set table at (node, value) ≡ insert_entry nat_cmp table node value
  set_there node value [] at there = absurd there
  set_there node value (entry ∷ table) zero there =
      ap (λ n. (n, value) ∷ table) (number_is node entry.0 (ap is_eq there))
      ∙ sym (ap (λ o. match_ordering o ((node, value) ∷ entry ∷ table) ((entry.0, value) ∷ table) (entry ∷ insert_entry nat_cmp table node value)) there)
  set_there node value (entry ∷ table) (suc at) there =
      ap (λ left. entry ∷ left) (set_there node value table at there.1)
      ∙ sym (ap (λ o. match_ordering o ((node, value) ∷ entry ∷ table) ((entry.0, value) ∷ table) (entry ∷ insert_entry nat_cmp table node value)) there.0)

  pub inserted_in_gap : (node : ℕ) (value : X) (table : List (ℕ × X)) (at : ℕ) → IsGap node table at → insert table at (node, value) ≡ insert_entry nat_cmp table node value
  inserted_in_gap node value [] zero gap = refl
  inserted_in_gap node value [] (suc at) gap = absurd gap
  inserted_in_gap node value (entry ∷ table) zero gap =
      sym (ap (λ o. match_ordering o ((node, value) ∷ entry ∷ table) ((entry.0, value) ∷ table) (entry ∷ insert_entry nat_cmp table node value)) gap)
  inserted_in_gap node value (entry ∷ table) (suc at) gap =
      ap (λ left. entry ∷ left) (inserted_in_gap node value table at gap.1)
      ∙ sym (ap (λ o. match_ordering o ((node, value) ∷ entry ∷ table) ((entry.0, value) ∷ table) (entry ∷ insert_entry nat_cmp table node value)) gap.0)

  pub removed_there : (node : ℕ) (table : List (ℕ × X)) (at : ℕ) → IsPlace node table at → remove table at ≡ remove_entry (is_number node) table
  removed_there node [] at there = absurd there
  removed_there node (entry ∷ table) zero there = sym (ap (λ o. cond (is_eq o) table (entry ∷ remove_entry (is_number node) table)) there)
  removed_there node (entry ∷ table) (suc at) there =
      ap (λ left. entry ∷ left) (removed_there node table at there.1) ∙ sym (ap (λ o. cond (is_eq o) table (entry ∷ remove_entry (is_number node) table)) there.0)

  unremoved_below : (node : ℕ) (table : List (ℕ × X)) → AllByRecursion (λ y. nat_cmp node y ≡ Less) (keys_of table) → remove_entry (is_number node) table ≡ table
  unremoved_below node [] above = refl
  unremoved_below node (entry ∷ table) above =
      ap (λ o. cond (is_eq o) table (entry ∷ remove_entry (is_number node) table)) above.0 ∙ ap (λ left. entry ∷ left) (unremoved_below node table above.1)

  pub removed_absent : (node : ℕ) (table : List (ℕ × X)) (at : ℕ) → IsOrdered table → IsGap node table at → remove_entry (is_number node) table ≡ table
  removed_absent node [] at up gap = refl
  removed_absent node (entry ∷ table) zero up gap = unremoved_below node (entry ∷ table) (above_gap node entry table up gap)
  removed_absent node (entry ∷ table) (suc at) up gap =
      ap (λ o. cond (is_eq o) table (entry ∷ remove_entry (is_number node) table)) gap.0
      ∙ ap (λ left. entry ∷ left) (removed_absent node table at (sorted_tail nat_cmp entry.0 (keys_of table) up) gap.1)

  -- ---- the order stays

  inserted_above : (low node : ℕ) (value : X) (table : List (ℕ × X)) → nat_cmp low node ≡ Less → AllByRecursion (λ y. nat_cmp low y ≡ Less) (keys_of table)
      → AllByRecursion (λ y. nat_cmp low y ≡ Less) (keys_of (insert_entry nat_cmp table node value))
  inserted_above low node value [] less above = (less, tt)
  inserted_above low node value (entry ∷ table) less above = by (nat_cmp node entry.0) (inserted_above low node value table less above.1)
    where
      by : (o : Ordering) → AllByRecursion (λ y. nat_cmp low y ≡ Less) (keys_of (insert_entry nat_cmp table node value))
          → AllByRecursion (λ y. nat_cmp low y ≡ Less) (keys_of (match_ordering o ((node, value) ∷ entry ∷ table) ((entry.0, value) ∷ table) (entry ∷ insert_entry nat_cmp table node value)))
      by Less rest = (less, above)
      by Equal rest = above
      by Greater rest = (above.0, rest)

  pub inserted_ordered : (node : ℕ) (value : X) (table : List (ℕ × X)) → IsOrdered table → IsOrdered (insert_entry nat_cmp table node value)
  unfolding IsStrictlySortedBy
  inserted_ordered node value [] up = (tt, tt)
  inserted_ordered node value (entry ∷ table) up = by (nat_cmp node entry.0) refl (inserted_ordered node value table (sorted_tail nat_cmp entry.0 (keys_of table) up))
    where
      by : (o : Ordering) → nat_cmp node entry.0 ≡ o → IsOrdered (insert_entry nat_cmp table node value)
          → IsOrdered (match_ordering o ((node, value) ∷ entry ∷ table) ((entry.0, value) ∷ table) (entry ∷ insert_entry nat_cmp table node value))
      by Less is rest = (above_gap node entry table up is, up)
      by Equal is rest = up
      by Greater is rest = (inserted_above entry.0 node value table (less_behind entry.0 node is) (sorted_head nat_cmp entry.0 (keys_of table) up), rest)

  pub ordered_either_way : {A E : Type 0} (r : Result A E) (node : ℕ) (value : X) (table new : List (ℕ × X)) → IsOrdered table
      → OnOk r (new ≡ insert_entry nat_cmp table node value) → OnErr r (new ≡ table) → IsOrdered new
  ordered_either_way (Ok a) node value table new up ok err = subst (λ (left : List (ℕ × X)). IsOrdered left) (sym ok) (inserted_ordered node value table up)
  ordered_either_way (Err e) node value table new up ok err = subst (λ (left : List (ℕ × X)). IsOrdered left) (sym err) up

  removed_above : (low node : ℕ) (table : List (ℕ × X)) → AllByRecursion (λ y. nat_cmp low y ≡ Less) (keys_of table) → AllByRecursion (λ y. nat_cmp low y ≡ Less) (keys_of (remove_entry (is_number node) table))
  removed_above low node [] above = tt
  removed_above low node (entry ∷ table) above = by (is_number node entry.0) (removed_above low node table above.1)
    where
      by : (b : Bool) → AllByRecursion (λ y. nat_cmp low y ≡ Less) (keys_of (remove_entry (is_number node) table))
          → AllByRecursion (λ y. nat_cmp low y ≡ Less) (keys_of (cond b table (entry ∷ remove_entry (is_number node) table)))
      by true rest = above.1
      by false rest = (above.0, rest)

  pub removed_ordered : (node : ℕ) (table : List (ℕ × X)) → IsOrdered table → IsOrdered (remove_entry (is_number node) table)
  unfolding IsStrictlySortedBy
  removed_ordered node [] up = tt
  removed_ordered node (entry ∷ table) up = by (is_number node entry.0) (removed_ordered node table (sorted_tail nat_cmp entry.0 (keys_of table) up))
    where
      by : (b : Bool) → IsOrdered (remove_entry (is_number node) table) → IsOrdered (cond b table (entry ∷ remove_entry (is_number node) table))
      by true rest = sorted_tail nat_cmp entry.0 (keys_of table) up
      by false rest = (removed_above entry.0 node table (sorted_head nat_cmp entry.0 (keys_of table) up), rest)

  -- ---- what is looked up behind an edit

  pub behind : (node : ℕ) (value : X) (q : ℕ) (table : List (ℕ × X)) → entry_at q (insert_entry nat_cmp table node value) ≡ cond (is_number q node) (Some value) (entry_at q table)
  behind node value q [] = refl
  behind node value q (e ∷ es) = by (nat_cmp node e.0) refl (behind node value q es)
    where
      same : (b : Bool) → cond b (Some value) (entry_at q es) ≡ cond b (Some value) (cond b (Some e.1) (entry_at q es))
      same true = refl
      same false = refl

      apart : (b : Bool) → is_number q e.0 ≡ b → (d : Bool) → is_number q node ≡ d → nat_cmp node e.0 ≡ Greater
          → cond b (Some e.1) (cond d (Some value) (entry_at q es)) ≡ cond d (Some value) (cond b (Some e.1) (entry_at q es))
      apart true at true to greater = greater_equal (sym greater ∙ ap (nat_cmp node) (sym (number_is q e.0 at) ∙ number_is q node to) ∙ tied_itself nat_cmp_total node)
      apart true at false to greater = refl
      apart false at d to greater = refl

      by : (o : Ordering) → nat_cmp node e.0 ≡ o → entry_at q (insert_entry nat_cmp es node value) ≡ cond (is_number q node) (Some value) (entry_at q es)
          → entry_at q (match_ordering o ((node, value) ∷ e ∷ es) ((e.0, value) ∷ es) (e ∷ insert_entry nat_cmp es node value)) ≡ cond (is_number q node) (Some value) (cond (is_number q e.0) (Some e.1) (entry_at q es))
      by Less is rest = refl
      by Equal is rest = same (is_number q e.0) ∙ ap (λ n. cond (is_number q n) (Some value) (cond (is_number q e.0) (Some e.1) (entry_at q es))) (sym (number_is node e.0 (ap is_eq is)))
      by Greater is rest = ap (cond (is_number q e.0) (Some e.1)) rest ∙ apart (is_number q e.0) refl (is_number q node) refl is

  pub entry_behind : (node : ℕ) (value : X) (q : ℕ) (table : List (ℕ × X)) → entry_at q (insert_entry nat_cmp table node value) ≡ cond (is_number node q) (Some value) (entry_at q table)
  entry_behind node value q table = behind node value q table ∙ ap (λ b. cond b (Some value) (entry_at q table)) (either_way q node)

  pub entries_behind : {A E : Type 0} (r : Result A E) (node : ℕ) (value : X) (table new : List (ℕ × X)) → OnOk r (new ≡ insert_entry nat_cmp table node value)
      → OnOk r ((q : ℕ) → entry_at q new ≡ cond (is_number node q) (Some value) (entry_at q table))
  entries_behind (Ok a) node value table new ok = λ q. ap (entry_at q) ok ∙ entry_behind node value q table
  entries_behind (Err e) node value table new ok = tt

  pub entry_left : (node q : ℕ) (table : List (ℕ × X)) → IsOrdered table → entry_at q (remove_entry (is_number node) table) ≡ cond (is_number node q) None (entry_at q table)
  entry_left node q [] up = by (is_number node q)
    where
      by : (b : Bool) → ◌≡◌ {A = Option X} None (cond b None None)
      by true = refl
      by false = refl
  entry_left node q (e ∷ es) up = by (is_number node e.0) refl (is_number node q) refl (entry_left node q es (sorted_tail nat_cmp e.0 (keys_of es) up))
    where
      by : (b : Bool) → is_number node e.0 ≡ b → (d : Bool) → is_number node q ≡ d → entry_at q (remove_entry (is_number node) es) ≡ cond d None (entry_at q es)
          → entry_at q (cond b es (e ∷ remove_entry (is_number node) es)) ≡ cond d None (cond (is_number q e.0) (Some e.1) (entry_at q es))
      by true at true to rest =
          let e_is : e.0 ≡ q = sym (number_is node e.0 at) ∙ number_is node q to in
          subst (λ n. entry_at n es ≡ None) e_is (none_below e.0 es (sorted_head nat_cmp e.0 (keys_of es) up))
      by true at false to rest = apart (is_number q e.0) refl
        where
          apart : (c : Bool) → is_number q e.0 ≡ c → entry_at q es ≡ cond c (Some e.1) (entry_at q es)
          apart true is = false_true (sym to ∙ ap (is_number node) (number_is q e.0 is) ∙ at)
          apart false is = refl
      by false at true to rest = apart (is_number q e.0) refl ∙ rest
        where
          apart : (c : Bool) → is_number q e.0 ≡ c → cond c (Some e.1) (entry_at q (remove_entry (is_number node) es)) ≡ entry_at q (remove_entry (is_number node) es)
          apart true is = false_true (sym at ∙ ap (is_number node) (sym (number_is q e.0 is)) ∙ to)
          apart false is = refl
      by false at false to rest = ap (cond (is_number q e.0) (Some e.1)) rest

  -- ---- a table without its last entry

  entry_before : (q : ℕ) (last : ℕ × X) (table : List (ℕ × X)) → is_some (entry_at q (table ++ last ∷ [])) ≡ (is_number q last.0 || is_some (entry_at q table))
  entry_before q last [] = by (is_number q last.0)
    where
      by : (b : Bool) → is_some (cond b (Some last.1) None) ≡ (b || false)
      by true = refl
      by false = refl
  entry_before q last (entry ∷ table) = by (is_number q entry.0) (is_number q last.0) (entry_before q last table)
    where
      by : (b d : Bool) → is_some (entry_at q (table ++ last ∷ [])) ≡ (d || is_some (entry_at q table)) → is_some (cond b (Some entry.1) (entry_at q (table ++ last ∷ []))) ≡ (d || is_some (cond b (Some entry.1) (entry_at q table)))
      by true true rest = refl
      by true false rest = refl
      by false d rest = rest

  pub entry_before_last : (q : ℕ) (last : ℕ × X) (table : List (ℕ × X)) → is_some (entry_at q (table ++ last ∷ [])) ≡ (is_number last.0 q || is_some (entry_at q table))
  entry_before_last q last table = entry_before q last table ∙ ap (λ b. b || is_some (entry_at q table)) (either_way q last.0)

  front_below : (low : ℕ) (last : ℕ × X) (table : List (ℕ × X)) → AllByRecursion (λ y. nat_cmp low y ≡ Less) (keys_of (table ++ last ∷ [])) → AllByRecursion (λ y. nat_cmp low y ≡ Less) (keys_of table)
  front_below low last [] above = tt
  front_below low last (entry ∷ table) above = (above.0, front_below low last table above.1)

  pub front_ordered : (last : ℕ × X) (table : List (ℕ × X)) → IsOrdered (table ++ last ∷ []) → IsOrdered table
  unfolding IsStrictlySortedBy
  front_ordered last [] up = tt
  front_ordered last (entry ∷ table) up =
      (front_below entry.0 last table (sorted_head nat_cmp entry.0 (keys_of (table ++ last ∷ [])) up), front_ordered last table (sorted_tail nat_cmp entry.0 (keys_of (table ++ last ∷ [])) up))

pub none_ordered : (X : Type 0) → IsOrdered {X = X} []
unfolding IsStrictlySortedBy
none_ordered X = tt

pub single_ordered : (report : ℕ × ℕ) → IsOrdered (report ∷ [])
unfolding IsStrictlySortedBy
single_ordered report = (tt, tt)
