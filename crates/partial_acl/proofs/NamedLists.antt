-- Lists of named entries in the order of their names: what is put in and taken away.
use Rattle.std.proofs.Common.{◌≡◌, ℕ, ◌+◌, ◌<◌, ◌≤◌, Bool, true, false, ◌&&◌, ◌||◌, List, [], ◌∷◌, ◌++◌, length, drop, cond, Option, Some, None, refl, sym, ap, subst, ◌∙◌, Ordering, Less, Equal, Greater, is_eq, arith, one-add, set, add-one, get_or, append_assoc, drop-cons}
use Rattle.std.specs.Prelude.{filter, insert}
use Rattle.std.specs.List.{list_any, prefix_len, slice_get, filter_map, cons_option}
use Rattle.std.specs.Option.{option_map_or, option_map}
use Rattle.std.specs.Ordering.{is_gt, is_lt, ordering_reverse}
use Rattle.std.proofs.lemmas.Cmp.{nat_list_cmp_total}
use Rattle.std.proofs.lemmas.Option.{slice_get_within}
use Rattle.hdfs_values.specs.Text.{same, text_cmp}
use Rattle.hdfs_values.proofs.Texts.{same_is}
use Rattle.permission_specs.specs.declared.entry.Entry.{Entry}
use Rattle.permission_specs.specs.declared.entry.EntryKind.{EntryKind}
use Rattle.permission_specs.specs.declared.entry.Scope.{Scope}
use Rattle.acl_entries.specs.declared.entry_list.NamedEntry.{NamedEntry}
use Rattle.acl_entries.specs.Acl.{ascend, grant_rights, are_rights}
use Rattle.partial_acl.specs.AclChange.{with_entry, with_each, is_entry_for, with_name, named_in, rights_granted}
use Rattle.partial_acl.proofs.Tests.{both, and}

-- ---- where an entry is put

abbrev pub place_in : List ℕ → List NamedEntry → ℕ
place_in name entries = prefix_len (λ entry. is_gt (text_cmp name entry.name)) entries

abbrev pub is_at : List ℕ → Option NamedEntry → Bool
is_at name there = option_map_or (λ entry. same name entry.name) there false

pub place_within : (name : List ℕ) (entries : List NamedEntry) → place_in name entries ≤ length entries
place_within name [] = omega arith
place_within name (e ∷ es) = by (is_gt (text_cmp name e.name)) (place_within name es)
  where
    by : (b : Bool) → place_in name es ≤ length es → cond b (1 + place_in name es) 0 ≤ length (e ∷ es)
    by true h = omega arith
    by false h = omega arith

pub replaced : (new : NamedEntry) (entries : List NamedEntry) → is_at new.name (slice_get entries (place_in new.name entries)) ≡ true
    → set entries (place_in new.name entries) new ≡ with_entry new entries
replaced new [] h = cc
replaced new (e ∷ es) h = by (text_cmp new.name e.name) refl h (λ k. replaced new es k)
  where
    by : (o : Ordering) → text_cmp new.name e.name ≡ o → is_at new.name (slice_get (e ∷ es) (cond (is_gt o) (1 + place_in new.name es) 0)) ≡ true
        → (is_at new.name (slice_get es (place_in new.name es)) ≡ true → set es (place_in new.name es) new ≡ with_entry new es)
        → set (e ∷ es) (cond (is_gt o) (1 + place_in new.name es) 0) new ≡ cond (is_eq o) (new ∷ es) (cond (is_lt o) (new ∷ e ∷ es) (e ∷ with_entry new es))
    by Less k there others = cc (ap is_eq k)
    by Equal k there others = refl
    by Greater k there others = subst (λ (n : ℕ). set (e ∷ es) n new ≡ e ∷ with_entry new es) (sym (one-add (place_in new.name es)))
        (ap (λ l. e ∷ l) (others (subst (λ (n : ℕ). is_at new.name (slice_get (e ∷ es) n) ≡ true) (one-add (place_in new.name es)) there)))

pub inserted : (new : NamedEntry) (entries : List NamedEntry) → is_at new.name (slice_get entries (place_in new.name entries)) ≡ false
    → insert entries (place_in new.name entries) new ≡ with_entry new entries
inserted new [] h = refl
inserted new (e ∷ es) h = by (text_cmp new.name e.name) refl h (λ k. inserted new es k)
  where
    by : (o : Ordering) → text_cmp new.name e.name ≡ o → is_at new.name (slice_get (e ∷ es) (cond (is_gt o) (1 + place_in new.name es) 0)) ≡ false
        → (is_at new.name (slice_get es (place_in new.name es)) ≡ false → insert es (place_in new.name es) new ≡ with_entry new es)
        → insert (e ∷ es) (cond (is_gt o) (1 + place_in new.name es) 0) new ≡ cond (is_eq o) (new ∷ es) (cond (is_lt o) (new ∷ e ∷ es) (e ∷ with_entry new es))
    by Less k there others = refl
    by Equal k there others = cc (ap is_eq k)
    by Greater k there others = subst (λ (n : ℕ). insert (e ∷ es) n new ≡ e ∷ with_entry new es) (sym (one-add (place_in new.name es)))
        (ap (λ l. e ∷ l) (others (subst (λ (n : ℕ). is_at new.name (slice_get (e ∷ es) n) ≡ false) (one-add (place_in new.name es)) there)))

pub replaced_at : (new : NamedEntry) (entries : List NamedEntry) (place : ℕ) → place ≡ place_in new.name entries → is_at new.name (slice_get entries place) ≡ true
    → set entries place new ≡ with_entry new entries
replaced_at new entries place is h = ap (λ n. set entries n new) is ∙ replaced new entries (subst (λ (n : ℕ). is_at new.name (slice_get entries n) ≡ true) is h)

pub inserted_at : (new : NamedEntry) (entries : List NamedEntry) (place : ℕ) → place ≡ place_in new.name entries → is_at new.name (slice_get entries place) ≡ false
    → insert entries place new ≡ with_entry new entries
inserted_at new entries place is h = ap (λ n. insert entries n new) is ∙ inserted new entries (subst (λ (n : ℕ). is_at new.name (slice_get entries n) ≡ false) is h)

pub is_at_within : (name : List ℕ) (entries : List NamedEntry) (place : ℕ) → is_at name (slice_get entries place) ≡ true → place < length entries
is_at_within name entries place h = by (slice_get entries place) refl h
  where
    by : (there : Option NamedEntry) → slice_get entries place ≡ there → is_at name there ≡ true → place < length entries
    by None is k = cc
    by (Some entry) is k = slice_get_within entries place entry is

-- ---- nothing that is put in makes a list shorter

pub put_grows : (new : NamedEntry) (entries : List NamedEntry) → length entries ≤ length (with_entry new entries)
put_grows new [] = omega arith
put_grows new (e ∷ es) = by (same new.name e.name) (is_lt (text_cmp new.name e.name)) (put_grows new es)
  where
    by : (a b : Bool) → length es ≤ length (with_entry new es) → length (e ∷ es) ≤ length (cond a (new ∷ es) (cond b (new ∷ e ∷ es) (e ∷ with_entry new es)))
    by true b h = omega arith
    by false true h = omega arith
    by false false h = omega arith

pub with_each_grows : (entries others : List NamedEntry) → length entries ≤ length (with_each entries others)
with_each_grows entries [] = omega arith
with_each_grows entries (o ∷ os) = omega (arith, put_grows o entries, with_each_grows (with_entry o entries) os)

-- ---- the names still ascend

pub ascend_tail : (e : NamedEntry) (es : List NamedEntry) → ascend (e ∷ es) ≡ true → ascend es ≡ true
ascend_tail e [] h = refl
ascend_tail e (f ∷ es) h = (both (is_lt (text_cmp e.name f.name)) (ascend (f ∷ es)) h).1

-- only the name of the first entry matters
ascend_alike : (e f : NamedEntry) (es : List NamedEntry) → e.name ≡ f.name → ascend (e ∷ es) ≡ true → ascend (f ∷ es) ≡ true
ascend_alike e f [] h k = refl
ascend_alike e f (g ∷ es) h k = subst (λ (name : List ℕ). (is_lt (text_cmp name g.name) && ascend (g ∷ es)) ≡ true) h k

pub less_is : (o : Ordering) → is_lt o ≡ true → o ≡ Less
less_is Less h = refl
less_is Equal h = cc
less_is Greater h = cc

less_back : (a b : List ℕ) → text_cmp a b ≡ Greater → is_lt (text_cmp b a) ≡ true
less_back a b h = ap is_lt (nat_list_cmp_total.antisymm b a ∙ ap ordering_reverse h)

pub less_through : (a b c : List ℕ) → is_lt (text_cmp a b) ≡ true → is_lt (text_cmp b c) ≡ true → is_lt (text_cmp a c) ≡ true
less_through a b c h k = ap is_lt (nat_list_cmp_total.trans a b c (less_is _ h) (less_is _ k))

-- behind an entry that stands before the new one
put_behind : (new e : NamedEntry) (es : List NamedEntry) → is_lt (text_cmp e.name new.name) ≡ true → ascend (e ∷ es) ≡ true → ascend (e ∷ with_entry new es) ≡ true
put_behind new e [] low h = and _ _ low refl
put_behind new e (f ∷ es) low h =
    let parts = both (is_lt (text_cmp e.name f.name)) (ascend (f ∷ es)) h in
    by (text_cmp new.name f.name) refl parts.0 parts.1 (λ k. put_behind new f es k parts.1)
  where
    by : (o : Ordering) → text_cmp new.name f.name ≡ o → is_lt (text_cmp e.name f.name) ≡ true → ascend (f ∷ es) ≡ true → (is_lt (text_cmp f.name new.name) ≡ true → ascend (f ∷ with_entry new es) ≡ true)
        → ascend (e ∷ cond (is_eq o) (new ∷ es) (cond (is_lt o) (new ∷ f ∷ es) (f ∷ with_entry new es))) ≡ true
    by Less k first others behind = and _ _ low (and _ _ (ap is_lt k) others)
    by Equal k first others behind = and _ _ low (ascend_alike f new es (sym (same_is new.name f.name (ap is_eq k))) others)
    by Greater k first others behind = and _ _ first (behind (less_back new.name f.name k))

pub put_ascends : (new : NamedEntry) (entries : List NamedEntry) → ascend entries ≡ true → ascend (with_entry new entries) ≡ true
put_ascends new [] h = refl
put_ascends new (e ∷ es) h = by (text_cmp new.name e.name) refl
  where
    by : (o : Ordering) → text_cmp new.name e.name ≡ o → ascend (cond (is_eq o) (new ∷ es) (cond (is_lt o) (new ∷ e ∷ es) (e ∷ with_entry new es))) ≡ true
    by Less k = and _ _ (ap is_lt k) h
    by Equal k = ascend_alike e new es (sym (same_is new.name e.name (ap is_eq k))) h
    by Greater k = put_behind new e es (less_back new.name e.name k) h

pub with_each_ascends : (entries others : List NamedEntry) → ascend entries ≡ true → ascend (with_each entries others) ≡ true
with_each_ascends entries [] h = h
with_each_ascends entries (o ∷ os) h = with_each_ascends (with_entry o entries) os (put_ascends o entries h)

-- without the second entry
pub ascend_past : (e f : NamedEntry) (es : List NamedEntry) → ascend (e ∷ f ∷ es) ≡ true → ascend (e ∷ es) ≡ true
ascend_past e f [] h = refl
ascend_past e f (g ∷ es) h =
    let parts = both (is_lt (text_cmp e.name f.name)) (ascend (f ∷ g ∷ es)) h in
    let others = both (is_lt (text_cmp f.name g.name)) (ascend (g ∷ es)) parts.1 in
    and _ _ (less_through e.name f.name g.name parts.0 others.0) others.1

filter_behind : (p : NamedEntry → Bool) (e : NamedEntry) (es : List NamedEntry) → ascend (e ∷ es) ≡ true → ascend (e ∷ filter p es) ≡ true
filter_behind p e [] h = refl
filter_behind p e (f ∷ es) h =
    let parts = both (is_lt (text_cmp e.name f.name)) (ascend (f ∷ es)) h in
    by (p f) (and _ _ parts.0 (filter_behind p f es parts.1)) (filter_behind p e es (ascend_past e f es h))
  where
    by : (b : Bool) → ascend (e ∷ f ∷ filter p es) ≡ true → ascend (e ∷ filter p es) ≡ true → ascend (e ∷ cond b (f ∷ filter p es) (filter p es)) ≡ true
    by true kept past = kept
    by false kept past = past

pub filter_ascends : (p : NamedEntry → Bool) (entries : List NamedEntry) → ascend entries ≡ true → ascend (filter p entries) ≡ true
filter_ascends p [] h = refl
filter_ascends p (e ∷ es) h = by (p e) (filter_behind p e es h) (filter_ascends p es (ascend_tail e es h))
  where
    by : (b : Bool) → ascend (e ∷ filter p es) ≡ true → ascend (filter p es) ≡ true → ascend (cond b (e ∷ filter p es) (filter p es)) ≡ true
    by true kept past = kept
    by false kept past = past

-- ---- the rights still have three bits

put_grants : (new : NamedEntry) (entries : List NamedEntry) → are_rights new.rights ≡ true → grant_rights entries ≡ true → grant_rights (with_entry new entries) ≡ true
put_grants new [] good h = and _ _ good refl
put_grants new (e ∷ es) good h =
    let parts = both (are_rights e.rights) (grant_rights es) h in by (same new.name e.name) (is_lt (text_cmp new.name e.name)) parts.0 parts.1 (put_grants new es good parts.1)
  where
    by : (a b : Bool) → are_rights e.rights ≡ true → grant_rights es ≡ true → grant_rights (with_entry new es) ≡ true
        → grant_rights (cond a (new ∷ es) (cond b (new ∷ e ∷ es) (e ∷ with_entry new es))) ≡ true
    by true b first others put_in = and _ _ good others
    by false true first others put_in = and _ _ good (and _ _ first others)
    by false false first others put_in = and _ _ first put_in

pub with_each_grants : (entries others : List NamedEntry) → grant_rights others ≡ true → grant_rights entries ≡ true → grant_rights (with_each entries others) ≡ true
with_each_grants entries [] good h = h
with_each_grants entries (o ∷ os) good h =
    let parts = both (are_rights o.rights) (grant_rights os) good in with_each_grants (with_entry o entries) os parts.1 (put_grants o entries parts.0 h)

-- ---- one entry more, as at a step of a loop

cons_at : {X : Type 0} (xs : List X) (i : ℕ) (x : X) → i < length xs → x ≡ get_or xs i x → drop i xs ≡ x ∷ drop (i + 1) xs
cons_at xs i x within is = drop-cons xs i x within ∙ rw (← is, add-one) refl

module _ (p : NamedEntry → Bool) (xs left all : List NamedEntry) (i : ℕ) (e : NamedEntry) (within : i < length xs) (is : e ≡ get_or xs i e) (before : left ++ filter p (drop i xs) ≡ all) where
  now : left ++ cond (p e) (e ∷ filter p (drop (i + 1) xs)) (filter p (drop (i + 1) xs)) ≡ all
  now = subst (λ (ys : List NamedEntry). left ++ filter p ys ≡ all) (cons_at xs i e within is) before

  pub taken : p e ≡ true → (left ++ e ∷ []) ++ filter p (drop (i + 1) xs) ≡ all
  taken h = append_assoc left (e ∷ []) (filter p (drop (i + 1) xs)) ∙ subst (λ (b : Bool). left ++ cond b (e ∷ filter p (drop (i + 1) xs)) (filter p (drop (i + 1) xs)) ≡ all) h now

  pub passed : p e ≡ false → left ++ filter p (drop (i + 1) xs) ≡ all
  passed h = subst (λ (b : Bool). left ++ cond b (e ∷ filter p (drop (i + 1) xs)) (filter p (drop (i + 1) xs)) ≡ all) h now

-- the entries for names of a spec, one entry of the spec after another
named_one : (scope : Scope) (kind : EntryKind) (e : Entry) (es : List Entry) (entries : List NamedEntry)
    → with_each entries (named_in scope kind (e ∷ es)) ≡ with_each (with_each entries (named_in scope kind (e ∷ []))) (named_in scope kind es)
named_one scope kind e es entries = by (is_entry_for scope kind e) (with_name e)
  where
    by : (b : Bool) (named : Option NamedEntry) → with_each entries (filter_map with_name (cond b (e ∷ filter (is_entry_for scope kind) es) (filter (is_entry_for scope kind) es)))
        ≡ with_each (with_each entries (filter_map with_name (cond b (e ∷ []) []))) (named_in scope kind es)
    by false named = refl
    by true named = named_too (with_name e)
      where
        named_too : (named : Option NamedEntry) → with_each entries (cons_option named (filter_map with_name (filter (is_entry_for scope kind) es)))
            ≡ with_each (with_each entries (cons_option named [])) (named_in scope kind es)
        named_too None = refl
        named_too (Some new) = refl

pub put_more : (scope : Scope) (kind : EntryKind) (spec : List Entry) (i : ℕ) (e : Entry) (entries : List NamedEntry) → i < length spec → e ≡ get_or spec i e
    → with_each (with_each entries (named_in scope kind (e ∷ []))) (named_in scope kind (drop (i + 1) spec)) ≡ with_each entries (named_in scope kind (drop i spec))
put_more scope kind spec i e entries within is =
    sym (named_one scope kind e (drop (i + 1) spec) entries) ∙ ap (λ es. with_each entries (named_in scope kind es)) (sym (cons_at spec i e within is))

pub too_many : (entries others all : List NamedEntry) → 32 < length entries → with_each entries others ≡ all → 32 < length all
too_many entries others all many is = omega (arith, with_each_grows entries others, ap length is)

-- an entry of a name, among those that a spec has for names
pub names_one : (scope : Scope) (kind : EntryKind) (name : List ℕ) (spec : List Entry)
    → list_any (λ e. is_entry_for scope kind e && option_map_or (λ own. same own name) e.name false) spec ≡ list_any (λ other. same other.name name) (named_in scope kind spec)
names_one scope kind name [] = refl
names_one scope kind name (e ∷ es) = by (is_entry_for scope kind e) (names_one scope kind name es)
  where
    named : (own : Option (List ℕ)) → list_any (λ e. is_entry_for scope kind e && option_map_or (λ own. same own name) e.name false) es ≡ list_any (λ other. same other.name name) (named_in scope kind es)
        → (option_map_or (λ own. same own name) own false || list_any (λ e. is_entry_for scope kind e && option_map_or (λ own. same own name) e.name false) es)
        ≡ list_any (λ other. same other.name name) (cons_option (option_map (λ own. record { name = own; rights = rights_granted e }) own) (named_in scope kind es))
    named None others = others
    named (Some own) others = ap (λ b. same own name || b) others

    by : (b : Bool) → list_any (λ e. is_entry_for scope kind e && option_map_or (λ own. same own name) e.name false) es ≡ list_any (λ other. same other.name name) (named_in scope kind es)
        → ((b && option_map_or (λ own. same own name) e.name false) || list_any (λ e. is_entry_for scope kind e && option_map_or (λ own. same own name) e.name false) es)
        ≡ list_any (λ other. same other.name name) (filter_map with_name (cond b (e ∷ filter (is_entry_for scope kind) es) (filter (is_entry_for scope kind) es)))
    by true others = named e.name others
    by false others = others
