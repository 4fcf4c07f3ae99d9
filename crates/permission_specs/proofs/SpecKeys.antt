-- The keys of a spec's entries, and how the code orders them.
use Rattle.std.proofs.Common.{◌≡◌, ℕ, ◌+◌, ◌<◌, Bool, true, false, not, List, [], ◌∷◌, ◌++◌, ◌&&◌, ◌||◌, length, take, drop, get_or, Option, Some, None, Bor, cond, refl, sym, ap, subst, ◌∙◌, arith}
use Rattle.std.proofs.lemmas.List.{take_more, take-append-drop}
use Rattle.std.proofs.lemmas.List.Folds.{list_any-append}
use Rattle.std.specs.BTreeMap.{is_at}
use Rattle.std.specs.Cmp.{tied_then}
use Rattle.std.specs.List.{list_any}
use Rattle.std.specs.Ordering.{is_eq, ordering_then}
use Rattle.std.specs.Option.{option_cmp, option_copied, option_eq}
use Rattle.std.specs.declared.cmp.Ordering.{Ordering}
use Rattle.hdfs_values.specs.Text.{same, text_cmp}
use Rattle.permission_specs.specs.Spec.{same_scope, same_kind, same_key, has_duplicate}
use Rattle.hdfs_values.proofs.Texts.{same_symm}
use Rattle.permission_bits.specs.Rights.{rights}
use Rattle.permission_specs.specs.declared.entry.Scope.{Scope}
use Rattle.permission_specs.specs.declared.entry.Scope.TheVariants.{Access, Default}
use Rattle.permission_specs.specs.declared.entry.EntryKind.{EntryKind}
use Rattle.permission_specs.specs.declared.entry.EntryKind.TheVariants.{User, Group, Mask, Other}
use Rattle.permission_specs.specs.declared.entry.Entry.{Entry}
use Rattle.permission_specs.specs.declared.spec.Key.{Key}
use Rattle.permission_specs.specs.contracts.spec.KeyOrd.TheImpl as order
use Rattle.permission_specs.specs.contracts.entry.ScopeOrd.TheImpl as scope_order
use Rattle.permission_specs.specs.contracts.entry.EntryKindOrd.TheImpl as kind_order

abbrev pub key_cmp : Key → Key → Ordering
key_cmp = (order.cmp-value).it

scope_tied : (a b : Scope) → is_eq ((scope_order.cmp-value).it a b) ≡ same_scope a b
scope_tied Access Access = refl
scope_tied Access Default = refl
scope_tied Default Access = refl
scope_tied Default Default = refl

kind_tied : (a b : EntryKind) → is_eq ((kind_order.cmp-value).it a b) ≡ same_kind a b
kind_tied User User = refl
kind_tied User Group = refl
kind_tied User Mask = refl
kind_tied User Other = refl
kind_tied Group User = refl
kind_tied Group Group = refl
kind_tied Group Mask = refl
kind_tied Group Other = refl
kind_tied Mask User = refl
kind_tied Mask Group = refl
kind_tied Mask Mask = refl
kind_tied Mask Other = refl
kind_tied Other User = refl
kind_tied Other Group = refl
kind_tied Other Mask = refl
kind_tied Other Other = refl

name_tied : (a b : Option (Bor (List ℕ))) → is_eq (option_cmp (λ x y. text_cmp x.now y.now) a b) ≡ option_eq same (option_copied a) (option_copied b)
name_tied None None = refl
name_tied None (Some y) = refl
name_tied (Some x) None = refl
name_tied (Some x) (Some y) = refl

-- the entry of a key
abbrev pub with_key : Key → Entry
with_key key = record { scope = key.scope; kind = key.kind; name = option_copied key.name; rights = rights 0 }

all_tied : (s k n : Ordering) (p q r : Bool) → is_eq s ≡ p → is_eq k ≡ q → is_eq n ≡ r → is_eq (ordering_then s (ordering_then k n)) ≡ (p && (q && r))
all_tied s k n p q r hs hk hn =
    sym (tied_then s (ordering_then k n)) ∙ ap (λ b. is_eq s && b) (sym (tied_then k n)) ∙ rw (hs, hk, hn) refl

pub key_tied : (a b : Key) → is_at (key_cmp a) b ≡ same_key (with_key a) (with_key b)
key_tied a b = all_tied _ _ _ _ _ _ (scope_tied a.scope b.scope) (kind_tied a.kind b.kind) (name_tied a.name b.name)

-- ── same_key is an equivalence, and a repeated key of a list is one of a front, or of a front and what comes next ──

pub same_scope_symm : (a b : Scope) → same_scope a b ≡ same_scope b a
same_scope_symm Access Access = refl
same_scope_symm Access Default = refl
same_scope_symm Default Access = refl
same_scope_symm Default Default = refl

same_kind_symm : (a b : EntryKind) → same_kind a b ≡ same_kind b a
same_kind_symm User User = refl
same_kind_symm User Group = refl
same_kind_symm User Mask = refl
same_kind_symm User Other = refl
same_kind_symm Group User = refl
same_kind_symm Group Group = refl
same_kind_symm Group Mask = refl
same_kind_symm Group Other = refl
same_kind_symm Mask User = refl
same_kind_symm Mask Group = refl
same_kind_symm Mask Mask = refl
same_kind_symm Mask Other = refl
same_kind_symm Other User = refl
same_kind_symm Other Group = refl
same_kind_symm Other Mask = refl
same_kind_symm Other Other = refl

same_name_symm : (a b : Option (List ℕ)) → option_eq same a b ≡ option_eq same b a
same_name_symm None None = refl
same_name_symm None (Some y) = refl
same_name_symm (Some x) None = refl
same_name_symm (Some x) (Some y) = same_symm x y

pub same_key_symm : (a b : Entry) → same_key a b ≡ same_key b a
same_key_symm a b = rw (same_scope_symm a.scope b.scope, same_kind_symm a.kind b.kind, same_name_symm a.name b.name) refl

or_swapped : (a b c : Bool) → (a || (b || c)) ≡ (b || (a || c))
or_swapped true true c = refl
or_swapped true false c = refl
or_swapped false b c = refl

any_more : (test : Entry → Bool) (xs : List Entry) (y : Entry) → list_any test (xs ++ y ∷ []) ≡ (test y || list_any test xs)
any_more test [] y = refl
any_more test (x ∷ xs) y = ap (λ b. test x || b) (any_more test xs y) ∙ or_swapped (test x) (test y) (list_any test xs)

-- the next entry repeats a key where an entry before it has its key
pub duplicate_more : (xs : List Entry) (y : Entry) → has_duplicate (xs ++ y ∷ []) ≡ (list_any (same_key y) xs || has_duplicate xs)
duplicate_more [] y = refl
duplicate_more (x ∷ xs) y =
    ap (λ b. b || has_duplicate (xs ++ y ∷ [])) (any_more (same_key x) xs y)
    ∙ ap (λ b. (same_key x y || list_any (same_key x) xs) || b) (duplicate_more xs y)
    ∙ rw (same_key_symm x y) (grouped (same_key y x) (list_any (same_key x) xs) (list_any (same_key y) xs) (has_duplicate xs))
  where
    grouped : (a b c d : Bool) → ((a || b) || (c || d)) ≡ ((a || c) || (b || d))
    grouped true b c d = refl
    grouped false true true d = refl
    grouped false true false d = refl
    grouped false false c d = refl

-- and a list that goes on from there repeats one as well
pub duplicate_stays : (xs ys : List Entry) → has_duplicate xs ≡ true → has_duplicate (xs ++ ys) ≡ true
duplicate_stays [] ys h = cc
duplicate_stays (x ∷ xs) ys h =
    rw (list_any-append (same_key x) xs ys) (joined (list_any (same_key x) xs) (list_any (same_key x) ys) (has_duplicate xs) (has_duplicate (xs ++ ys)) h (duplicate_stays xs ys))
  where
    joined : (a b c d : Bool) → (a || c) ≡ true → (c ≡ true → d ≡ true) → ((a || b) || d) ≡ true
    joined true b c d h f = refl
    joined false true c d h f = refl
    joined false false c d h f = f h

-- ── the step of the loop ──

cond_or : (a b : Bool) → cond a true b ≡ (a || b)
cond_or true b = refl
cond_or false b = refl

abbrev pub bare : Entry → Entry
bare entry = record { scope = entry.scope; kind = entry.kind; name = entry.name; rights = rights 0 }

-- the key of an entry
pub known : (key : Key) (entry : Entry) → key.scope ≡ entry.scope → key.kind ≡ entry.kind → option_copied key.name ≡ entry.name → with_key key ≡ bare entry
known key entry scope kind name = cc

module _ (es : List Entry) (i : ℕ) (e : Entry) (key : Key) (lt : i < length es) (is : e ≡ get_or es i e) (with : with_key key ≡ bare e) where
  step : take (i + 1) es ≡ take i es ++ e ∷ []
  step = take_more es i e lt ∙ ap (λ x. take i es ++ x ∷ []) (sym is)

  -- what is seen after one more entry
  pub seen_more : (q : Key) (old new : Bool) → new ≡ cond (is_at (key_cmp key) q) true old → old ≡ list_any (same_key (with_key q)) (take i es)
      → new ≡ list_any (same_key (with_key q)) (take (i + 1) es)
  seen_more q old new updated before =
      updated ∙ ap (λ b. cond b true old) (key_tied key q ∙ same_key_symm (with_key key) (with_key q) ∙ ap (same_key (with_key q)) with)
      ∙ ap (λ b. cond (same_key (with_key q) e) true b) before ∙ cond_or (same_key (with_key q) e) (list_any (same_key (with_key q)) (take i es)) ∙ sym (ap (list_any (same_key (with_key q))) step ∙ any_more (same_key (with_key q)) (take i es) e)

  found : (seen : Bool) → seen ≡ list_any (same_key (with_key key)) (take i es) → has_duplicate (take (i + 1) es) ≡ (seen || has_duplicate (take i es))
  found seen before = ap has_duplicate step ∙ duplicate_more (take i es) e ∙ ap (λ b. b || has_duplicate (take i es)) (sym (before ∙ ap (λ x. list_any (same_key x) (take i es)) with))

  -- a key that isn't seen before repeats none
  pub new_more : (seen : Bool) → seen ≡ list_any (same_key (with_key key)) (take i es) → true ≡ not seen → has_duplicate (take i es) ≡ false → has_duplicate (take (i + 1) es) ≡ false
  new_more true before h none = cc
  new_more false before h none = found false before ∙ none

  -- a key that is seen before is repeated
  pub repeated : (seen : Bool) → seen ≡ list_any (same_key (with_key key)) (take i es) → false ≡ not seen → true ≡ has_duplicate es
  repeated false before h = cc
  repeated true before h = sym (subst (λ xs. has_duplicate xs ≡ true) (take-append-drop (i + 1) es) (duplicate_stays (take (i + 1) es) (drop (i + 1) es) (found true before)))

pub one_alone : (entries : List Entry) → length entries < 2 → false ≡ has_duplicate entries
one_alone [] few = refl
one_alone (entry ∷ []) few = refl
one_alone (entry ∷ other ∷ entries) few = absurd (omega arith)
