-- The entry that decides: the owner's, a named user's, one of a group's, or that of all others; and what it grants.
use Rattle.std.proofs.Common.{◌≡◌, ℕ, Bool, true, false, ◌&&◌, ◌||◌, List, [], ◌∷◌, ◌++◌, map, cond, Option, Some, None, refl, sym, ap, ◌∙◌, arith}
use Rattle.std.specs.Prelude.{filter, unwrap_or}
use Rattle.std.specs.Int.RustNames.{bit_and}
use Rattle.std.specs.List.{find, list_any, slice_get}
use Rattle.std.specs.Option.{option_map, option_map_or, option_or}
use Rattle.std.proofs.lemmas.Bool.{eq-eqb, eqb-true}
use Rattle.std.proofs.lemmas.Nat.{and_assoc, and_comm, and_le_r}
use Rattle.hdfs_values.specs.Groups.{has_group}
use Rattle.permission_bits.specs.Rights.{covers}
use Rattle.permission_bits.specs.declared.rights.Rights.{Rights}
use Rattle.permission_specs.specs.declared.entry.Entry.{Entry}
use Rattle.permission_specs.specs.declared.entry.EntryKind.TheVariants.{User, Group, Other}
use Rattle.permission_specs.specs.declared.entry.Scope.TheVariants.{Access}
use Rattle.acl_entries.specs.declared.entry_list.NamedEntry.{NamedEntry}
use Rattle.acl_entries.specs.Acl.{base_entry, named_entry}
use Rattle.acl_entries.specs.JudgedEntry.{Chosen, judged_by, judged_by_groups, group_entries, best_judgement, effective_rights}
use Rattle.namespace_rows.proofs.Tests.{both, and}
use Rattle.permission_laws.specs.Judging.{Question, judgement_of, is_owner, has_name, entries_of_groups, is_in_group_of, is_group_member, has_need, mask_has_need, IsJudgedBy, IsFirst, HasNoUserEntry, group_has_need, IsJudgedByGroups}

-- ---- rights behind a mask

covers_right : (a b n : ℕ) → covers (bit_and a b) n ≡ true → covers b n ≡ true
covers_right a b n h =
    let within : bit_and (bit_and a b) n ≡ n = eqb-true _ _ h in
    let has : bit_and b n ≡ n = omega (arith, within, and_assoc n a b, and_le_r a (bit_and b n), and_le_r b n) in
    eq-eqb (bit_and b n) n has

covers_left : (a b n : ℕ) → covers (bit_and a b) n ≡ true → covers a n ≡ true
covers_left a b n h = covers_right b a n (ap (λ m. covers m n) (and_comm b a) ∙ h)

covers_both : (a b n : ℕ) → covers a n ≡ true → covers b n ≡ true → covers (bit_and a b) n ≡ true
covers_both a b n h k =
    eq-eqb (bit_and (bit_and a b) n) n
    (and_assoc n a b ∙ ap (bit_and a) (eqb-true (bit_and b n) n k) ∙ eqb-true (bit_and a n) n h)

alike : (p q : Bool) → (p ≡ true → q ≡ true) → (q ≡ true → p ≡ true) → p ≡ q
alike true true h k = refl
alike true false h k = sym (h refl)
alike false true h k = k refl
alike false false h k = refl

and_true : (b : Bool) → b ≡ (b && true)
and_true true = refl
and_true false = refl

behind_mask : (asked : Question) (granted : Rights) (mask : Option Rights)
    → covers (effective_rights mask granted).0 asked.need.0 ≡ (has_need asked granted && mask_has_need asked mask)
behind_mask asked granted None = and_true (covers granted.0 asked.need.0)
behind_mask asked granted (Some mask) =
    alike (covers (bit_and granted.0 mask.0) asked.need.0) (covers granted.0 asked.need.0 && covers mask.0 asked.need.0)
    (λ h. and _ _ (covers_left granted.0 mask.0 asked.need.0 h) (covers_right granted.0 mask.0 asked.need.0 h))
    (λ h. let parts = both (covers granted.0 asked.need.0) (covers mask.0 asked.need.0) h in covers_both granted.0 mask.0 asked.need.0 parts.0 parts.1)

judged_is : (asked : Question) (entry : Entry) (mask : Option Rights) → judgement_of asked ≡ judged_by entry mask asked.need → IsJudgedBy asked entry mask
judged_is asked entry mask e = record {
  decides = ap (λ j. j.entry) e;
  filters = ap (λ j. j.mask) e;
  grants = ap (λ j. j.granted) e ∙ behind_mask asked entry.rights mask;
}

-- ---- the first of a list that passes a test

module _ {X : Type 0} (test : X → Bool) where
  found_behind : (before behind : List X) (x : X) → list_any test before ≡ false → test x ≡ true → find test (before ++ x ∷ behind) ≡ Some x
  found_behind [] behind x h k = ap (λ b. cond b (Some x) (find test behind)) k
  found_behind (y ∷ ys) behind x h k = by (test y) h (λ g. found_behind ys behind x g k)
    where
      by : (b : Bool) → (b || list_any test ys) ≡ false → (list_any test ys ≡ false → find test (ys ++ x ∷ behind) ≡ Some x)
          → cond b (Some y) (find test (ys ++ x ∷ behind)) ≡ Some x
      by true g others = cc
      by false g others = others g

  first_found : (xs : List X) (x : X) → IsFirst test xs x → find test xs ≡ Some x
  first_found xs x first = ap (find test) first.stands ∙ found_behind first.before first.behind x first.none_before first.passes

  none_found : (xs : List X) → list_any test xs ≡ false → find test xs ≡ None
  none_found [] h = refl
  none_found (x ∷ xs) h = by (test x) h (none_found xs)
    where
      by : (b : Bool) → (b || list_any test xs) ≡ false → (list_any test xs ≡ false → find test xs ≡ None) → cond b (Some x) (find test xs) ≡ None
      by true k others = cc
      by false k others = others k

  none_passes : (xs : List X) → find test xs ≡ None → list_any test xs ≡ false
  none_passes [] h = refl
  none_passes (x ∷ xs) h = by (test x) h (none_passes xs)
    where
      by : (b : Bool) → cond b (Some x) (find test xs) ≡ None → (find test xs ≡ None → list_any test xs ≡ false) → (b || list_any test xs) ≡ false
      by true k others = cc
      by false k others = others k

  none_left : (xs : List X) → list_any test xs ≡ false → filter test xs ≡ []
  none_left [] h = refl
  none_left (x ∷ xs) h = by (test x) h (none_left xs)
    where
      by : (b : Bool) → (b || list_any test xs) ≡ false → (list_any test xs ≡ false → filter test xs ≡ []) → cond b (x ∷ filter test xs) (filter test xs) ≡ []
      by true k others = cc
      by false k others = others k

  -- what is found has what all have that pass
  found_has : (has : X → Bool) (xs : List X) (x : X) → find test xs ≡ Some x → ((y : X) → test y ≡ true → has y ≡ true) → has x ≡ true
  found_has has [] x h all = cc
  found_has has (y ∷ ys) x h all = by (test y) refl h (λ g. found_has has ys x g all)
    where
      by : (b : Bool) → test y ≡ b → cond b (Some y) (find test ys) ≡ Some x → (find test ys ≡ Some x → has x ≡ true) → has x ≡ true
      by true e k others = ap (λ o. option_map_or has o true) (sym k) ∙ all y e
      by false e k others = others k

  -- and so passes
  found_passes : (xs : List X) (x : X) → find test xs ≡ Some x → test x ≡ true
  found_passes xs x h = found_has test xs x h (λ y e. e)

  some_passes : (xs : List X) (x : X) → find test xs ≡ Some x → list_any test xs ≡ true
  some_passes [] x h = cc
  some_passes (y ∷ ys) x h = by (test y) h (some_passes ys x)
    where
      by : (b : Bool) → cond b (Some y) (find test ys) ≡ Some x → (find test ys ≡ Some x → list_any test ys ≡ true) → (b || list_any test ys) ≡ true
      by true k others = refl
      by false k others = others k

-- where nothing passes a test, what another finds doesn't
not_found : {X : Type 0} (p q : X → Bool) (xs : List X) (x : X) → find p xs ≡ None → find q xs ≡ Some x → p x ≡ false
not_found p q [] x none found = cc
not_found p q (y ∷ ys) x none found = by (p y) (q y) refl none found (not_found p q ys x)
  where
    by : (b c : Bool) → p y ≡ b → cond b (Some y) (find p ys) ≡ None → cond c (Some y) (find q ys) ≡ Some x
        → (find p ys ≡ None → find q ys ≡ Some x → p x ≡ false) → p x ≡ false
    by true c e k g others = cc
    by false true e k g others = ap (λ o. option_map_or p o false) (sym g) ∙ e
    by false false e k g others = others k g

same_found : {X : Type 0} (p q : X → Bool) (xs : List X) → ((x : X) → p x ≡ q x) → find p xs ≡ find q xs
same_found p q [] alike = refl
same_found p q (x ∷ xs) alike = ap (λ b. cond b (Some x) (find p xs)) (alike x) ∙ ap (λ o. cond (q x) (Some x) o) (same_found p q xs alike)

-- a mark that all have or none
marked : {X : Type 0} (p q : X → Bool) (mark : Bool) (xs : List X) → list_any (λ x. p x && (q x && mark)) xs ≡ (list_any (λ x. p x && q x) xs && mark)
marked p q mark [] = refl
marked p q mark (x ∷ xs) = ap (λ b. (p x && (q x && mark)) || b) (marked p q mark xs) ∙ by (p x) (q x) mark (list_any (λ y. p y && q y) xs)
  where
    by : (a b c d : Bool) → ((a && (b && c)) || (d && c)) ≡ (((a && b) || d) && c)
    by true true true d = refl
    by true true false true = refl
    by true true false false = refl
    by true false c d = refl
    by false b c d = refl

same_any : {X : Type 0} (p q : X → Bool) (xs : List X) → ((x : X) → p x ≡ q x) → list_any p xs ≡ list_any q xs
same_any p q [] alike = refl
same_any p q (x ∷ xs) alike = ap (λ b. b || list_any p xs) (alike x) ∙ ap (λ b. q x || b) (same_any p q xs alike)

-- ---- the best judgement of the entries that match

module _ {X : Type 0} (matches : X → Bool) (judge : X → Chosen) where
  abbrev grants : X → Bool
  grants x = matches x && (judge x).granted

  abbrev judged : List X → List Chosen
  judged xs = map judge (filter matches xs)

  granting : (xs : List X) → find (λ j. j.granted) (judged xs) ≡ option_map judge (find grants xs)
  granting [] = refl
  granting (x ∷ xs) = by (matches x) (judge x).granted refl refl (granting xs)
    where
      by : (b d : Bool) → matches x ≡ b → (judge x).granted ≡ d → find (λ j. j.granted) (judged xs) ≡ option_map judge (find grants xs)
          → find (λ j. j.granted) (map judge (cond b (x ∷ filter matches xs) (filter matches xs))) ≡ option_map judge (cond (b && d) (Some x) (find grants xs))
      by true true h k others = rw k refl
      by true false h k others = rw k others
      by false d h k others = others

  matching : (xs : List X) → slice_get (judged xs) 0 ≡ option_map judge (find matches xs)
  matching [] = refl
  matching (x ∷ xs) = by (matches x) (matching xs)
    where
      by : (b : Bool) → slice_get (judged xs) 0 ≡ option_map judge (find matches xs)
          → slice_get (map judge (cond b (x ∷ filter matches xs) (filter matches xs))) 0 ≡ option_map judge (cond b (Some x) (find matches xs))
      by true others = refl
      by false others = others

  best : (xs : List X) → best_judgement (judged xs) ≡ option_or (option_map judge (find grants xs)) (option_map judge (find matches xs))
  best xs = ap (λ o. option_or o (slice_get (judged xs) 0)) (granting xs) ∙ ap (option_or (option_map judge (find grants xs))) (matching xs)

-- ---- whose entry it is

module _ (asked : Question) where
  abbrev others : Chosen
  others = judged_by (base_entry Access Other asked.acl.access.other) None asked.need

  abbrev judge : Entry → Chosen
  judge entry = judged_by entry asked.acl.access.mask asked.need

  abbrev by_groups : Chosen
  by_groups = judged_by_groups asked.group asked.acl.access asked.groups asked.need

  abbrev by_user : Option NamedEntry → Chosen
  by_user entry = option_map_or (λ own. judge (named_entry Access User own)) entry by_groups

  abbrev by_owner : Bool → Chosen
  by_owner owns = cond owns (judged_by (base_entry Access User asked.acl.access.user) None asked.need) (by_user (find (has_name asked) asked.acl.access.users))

  of_owner : is_owner asked ≡ true → judgement_of asked ≡ judged_by (base_entry Access User asked.acl.access.user) None asked.need
  of_owner h = ap by_owner h

  of_named : (entry : NamedEntry) → is_owner asked ≡ false → find (has_name asked) asked.acl.access.users ≡ Some entry → judgement_of asked ≡ judge (named_entry Access User entry)
  of_named entry h found = ap by_owner h ∙ ap by_user found

  named_filtered : (named : List NamedEntry) → map (named_entry Access Group) (filter (λ entry. has_group asked.groups entry.name) named) ≡ filter (is_in_group_of asked) (map (named_entry Access Group) named)
  named_filtered [] = refl
  named_filtered (entry ∷ named) = by (has_group asked.groups entry.name) (named_filtered named)
    where
      by : (b : Bool) → map (named_entry Access Group) (filter (λ own. has_group asked.groups own.name) named) ≡ filter (is_in_group_of asked) (map (named_entry Access Group) named)
          → map (named_entry Access Group) (cond b (entry ∷ filter (λ own. has_group asked.groups own.name) named) (filter (λ own. has_group asked.groups own.name) named))
          ≡ cond b (named_entry Access Group entry ∷ filter (is_in_group_of asked) (map (named_entry Access Group) named)) (filter (is_in_group_of asked) (map (named_entry Access Group) named))
      by true rest = ap (λ es. named_entry Access Group entry ∷ es) rest
      by false rest = rest

  filtered : group_entries asked.group asked.acl.access asked.groups ≡ filter (is_in_group_of asked) (entries_of_groups asked)
  filtered = ap (λ es. cond (has_group asked.groups asked.group) (own ∷ []) [] ++ es) (named_filtered asked.acl.access.groups)
      ∙ by (has_group asked.groups asked.group) (filter (is_in_group_of asked) (map (named_entry Access Group) asked.acl.access.groups))
    where
      own : Entry
      own = base_entry Access Group asked.acl.access.group

      by : (b : Bool) (es : List Entry) → (cond b (own ∷ []) [] ++ es) ≡ cond b (own ∷ es) es
      by true es = refl
      by false es = refl

  module _ (none : HasNoUserEntry asked) where
    of_groups : judgement_of asked ≡ unwrap_or (best_judgement (map judge (filter (is_in_group_of asked) (entries_of_groups asked)))) others
    of_groups =
        ap by_owner none.no_owner ∙ ap by_user (none_found (has_name asked) asked.acl.access.users none.no_named_user)
        ∙ ap (λ es. unwrap_or (best_judgement (map judge es)) others) filtered

    of_others : is_group_member asked ≡ false → judgement_of asked ≡ others
    of_others h = of_groups ∙ ap (λ es. unwrap_or (best_judgement (map judge es)) others) (none_left (is_in_group_of asked) (entries_of_groups asked) h)

    of_best : judgement_of asked ≡ unwrap_or (option_or (option_map judge (find (grants (is_in_group_of asked) judge) (entries_of_groups asked))) (option_map judge (find (is_in_group_of asked) (entries_of_groups asked)))) others
    of_best = of_groups ∙ ap (λ o. unwrap_or o others) (best (is_in_group_of asked) judge (entries_of_groups asked))

    of_granting : (entry : Entry) → find (grants (is_in_group_of asked) judge) (entries_of_groups asked) ≡ Some entry → judgement_of asked ≡ judge entry
    of_granting entry found = of_best ∙ ap (λ o. unwrap_or (option_or (option_map judge o) (option_map judge (find (is_in_group_of asked) (entries_of_groups asked)))) others) found

    of_matching : (entry : Entry) → find (grants (is_in_group_of asked) judge) (entries_of_groups asked) ≡ None → find (is_in_group_of asked) (entries_of_groups asked) ≡ Some entry
        → judgement_of asked ≡ judge entry
    of_matching entry lost found =
        of_best ∙ ap (λ o. unwrap_or (option_or (option_map judge o) (option_map judge (find (is_in_group_of asked) (entries_of_groups asked)))) others) lost
        ∙ ap (λ o. unwrap_or (option_map judge o) others) found

-- ---- the laws

pub owners_unmasked : (asked : Question) → is_owner asked ≡ true → IsJudgedBy asked (base_entry Access User asked.acl.access.user) None
owners_unmasked asked h = judged_is asked (base_entry Access User asked.acl.access.user) None (of_owner asked h)

pub named_before_groups : (asked : Question) (entry : NamedEntry) → is_owner asked ≡ false → IsFirst (has_name asked) asked.acl.access.users entry
    → IsJudgedBy asked (named_entry Access User entry) asked.acl.access.mask
named_before_groups asked entry h first =
    judged_is asked (named_entry Access User entry) asked.acl.access.mask (of_named asked entry h (first_found (has_name asked) asked.acl.access.users entry first))

pub others_unmasked : (asked : Question) → HasNoUserEntry asked → is_group_member asked ≡ false → IsJudgedBy asked (base_entry Access Other asked.acl.access.other) None
others_unmasked asked none h = judged_is asked (base_entry Access Other asked.acl.access.other) None (of_others asked none h)

module _ (asked : Question) where
  abbrev mask : Option Rights
  mask = asked.acl.access.mask

  abbrev entry_grants : Entry → Bool
  entry_grants = grants (is_in_group_of asked) (judge asked)

  grants_apart : (entry : Entry) → entry_grants entry ≡ (is_in_group_of asked entry && (has_need asked entry.rights && mask_has_need asked mask))
  grants_apart entry = ap (λ b. is_in_group_of asked entry && b) (behind_mask asked entry.rights mask)

  some_grants : list_any entry_grants (entries_of_groups asked) ≡ (list_any (group_has_need asked) (entries_of_groups asked) && mask_has_need asked mask)
  some_grants =
      same_any entry_grants (λ entry. is_in_group_of asked entry && (has_need asked entry.rights && mask_has_need asked mask)) (entries_of_groups asked) grants_apart
      ∙ marked (is_in_group_of asked) (λ entry. has_need asked entry.rights) (mask_has_need asked mask) (entries_of_groups asked)

  kind_of_named : (test : Entry → Bool) (named : List NamedEntry) (entry : Entry) → find test (map (named_entry Access Group) named) ≡ Some entry → entry.kind ≡ Group
  kind_of_named test [] entry h = cc
  kind_of_named test (own ∷ named) entry h = by (test (named_entry Access Group own)) h (kind_of_named test named entry)
    where
      by : (b : Bool) → cond b (Some (named_entry Access Group own)) (find test (map (named_entry Access Group) named)) ≡ Some entry
          → (find test (map (named_entry Access Group) named) ≡ Some entry → entry.kind ≡ Group) → entry.kind ≡ Group
      by true k rest = ap (λ o. option_map_or (λ e. e.kind) o Group) (sym k)
      by false k rest = rest k

  kind_of_found : (test : Entry → Bool) (entry : Entry) → find test (entries_of_groups asked) ≡ Some entry → entry.kind ≡ Group
  kind_of_found test entry h = by (test (base_entry Access Group asked.acl.access.group)) h
    where
      by : (b : Bool) → cond b (Some (base_entry Access Group asked.acl.access.group)) (find test (map (named_entry Access Group) asked.acl.access.groups)) ≡ Some entry → entry.kind ≡ Group
      by true k = ap (λ o. option_map_or (λ e. e.kind) o Group) (sym k)
      by false k = kind_of_named test asked.acl.access.groups entry k

  module _ (none : HasNoUserEntry asked) where
    by_entry_of_group : (entry : Entry) → entry.kind ≡ Group → judgement_of asked ≡ judge asked entry → (judge asked entry).granted ≡ list_any entry_grants (entries_of_groups asked) → IsJudgedByGroups asked
    by_entry_of_group entry kind e granted = record {
      decides = ap (λ j. j.entry.kind) e ∙ kind;
      filters = ap (λ j. j.mask) e;
      grants = ap (λ j. j.granted) e ∙ granted ∙ some_grants;
    }

    pub members_are_not_others : is_group_member asked ≡ true → IsJudgedByGroups asked
    members_are_not_others member = by (find entry_grants (entries_of_groups asked)) (find (is_in_group_of asked) (entries_of_groups asked)) refl refl
      where
        differ : true ≡ false → ⊥
        differ e = cc

        not_granting : (a b : Bool) → a ≡ true → (a && b) ≡ false → b ≡ false
        not_granting true b h k = k
        not_granting false b h k = cc

        by : (granting matching : Option Entry) → find entry_grants (entries_of_groups asked) ≡ granting → find (is_in_group_of asked) (entries_of_groups asked) ≡ matching → IsJudgedByGroups asked
        by (Some entry) matching found h =
            by_entry_of_group entry (kind_of_found entry_grants entry found) (of_granting asked none entry found)
            ((both (is_in_group_of asked entry) (judge asked entry).granted (found_passes entry_grants (entries_of_groups asked) entry found)).1
            ∙ sym (some_passes entry_grants (entries_of_groups asked) entry found))
        by None (Some entry) lost found =
            by_entry_of_group entry (kind_of_found (is_in_group_of asked) entry found) (of_matching asked none entry lost found)
            (not_granting (is_in_group_of asked entry) (judge asked entry).granted (found_passes (is_in_group_of asked) (entries_of_groups asked) entry found)
            (not_found entry_grants (is_in_group_of asked) (entries_of_groups asked) entry lost found)
            ∙ sym (none_passes entry_grants (entries_of_groups asked) lost))
        by None None lost found = absurd (differ (sym member ∙ none_passes (is_in_group_of asked) (entries_of_groups asked) found))

    pub first_grants : (entry : Entry) → mask_has_need asked mask ≡ true → IsFirst (group_has_need asked) (entries_of_groups asked) entry → IsJudgedBy asked entry mask
    first_grants entry masked first =
        judged_is asked entry mask
        (of_granting asked none entry
        (same_found entry_grants (group_has_need asked) (entries_of_groups asked)
        (λ own. grants_apart own ∙ ap (λ b. is_in_group_of asked own && (has_need asked own.rights && b)) masked ∙ ap (λ b. is_in_group_of asked own && b) (sym (and_true (has_need asked own.rights))))
        ∙ first_found (group_has_need asked) (entries_of_groups asked) entry first))

    pub first_denies : (entry : Entry) → (judgement_of asked).granted ≡ false → IsFirst (is_in_group_of asked) (entries_of_groups asked) entry → IsJudgedBy asked entry mask
    first_denies entry denied first = judged_is asked entry mask (by (find entry_grants (entries_of_groups asked)) refl)
      where
        differ : true ≡ false → ⊥
        differ e = cc

        by : (granting : Option Entry) → find entry_grants (entries_of_groups asked) ≡ granting → judgement_of asked ≡ judge asked entry
        by None lost = of_matching asked none entry lost (first_found (is_in_group_of asked) (entries_of_groups asked) entry first)
        by (Some other) found =
            absurd (differ (sym (both (is_in_group_of asked other) (judge asked other).granted (found_passes entry_grants (entries_of_groups asked) other found)).1
            ∙ sym (ap (λ j. j.granted) (of_granting asked none other found)) ∙ denied))

  pub nothing_else : (judgement_of asked).entry.kind ≡ Other → HasNoUserEntry asked × (is_group_member asked ≡ false)
  nothing_else h = owner (is_owner asked) refl
    where
      no_user : User ≡ Other → ⊥
      no_user e = cc

      no_group : Group ≡ Other → ⊥
      no_group e = cc

      member : (none : HasNoUserEntry asked) (b : Bool) → is_group_member asked ≡ b → HasNoUserEntry asked × (is_group_member asked ≡ false)
      member none true e = absurd (no_group (sym (members_are_not_others none e).decides ∙ h))
      member none false e = (none, e)

      named : is_owner asked ≡ false → (o : Option NamedEntry) → find (has_name asked) asked.acl.access.users ≡ o → HasNoUserEntry asked × (is_group_member asked ≡ false)
      named plain (Some entry) found = absurd (no_user (sym (ap (λ j. j.entry.kind) (of_named asked entry plain found)) ∙ h))
      named plain None lost = member (record { no_owner = plain; no_named_user = none_passes (has_name asked) asked.acl.access.users lost }) (is_group_member asked) refl

      owner : (b : Bool) → is_owner asked ≡ b → HasNoUserEntry asked × (is_group_member asked ≡ false)
      owner true e = absurd (no_user (sym (ap (λ j. j.entry.kind) (of_owner asked e)) ∙ h))
      owner false e = named e (find (has_name asked) asked.acl.access.users) refl
