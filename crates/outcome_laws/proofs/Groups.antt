-- Which groups users have behind an operation that gives somebody groups.
use Rattle.std.proofs.Common.{◌≡◌, ℕ, Bool, true, false, List, [], ◌∷◌, Option, Some, None, is_some, refl, sym, ap, ◌∙◌, subst, cond}
use Rattle.std.specs.BTreeMap.{insert_entry}
use Rattle.std.specs.Map.{lookup, set_value}
use Rattle.std.specs.Ordering.{is_eq, match_ordering}
use Rattle.std.specs.declared.cmp.Ordering.{Ordering}
use Rattle.std.specs.declared.cmp.Ordering.TheVariants.{Less, Equal, Greater}
use Rattle.hdfs_values.specs.Text.{same, text_cmp}
use Rattle.hdfs_values.proofs.Texts.{same_self, same_is}
use Rattle.refusals.specs.declared.refusal.Refusal.TheVariants.{NotFound}
use Rattle.hdfs_types.specs.declared.op.Op.{Op}
use Rattle.hdfs_types.specs.declared.op.Op.TheVariants as op
use Rattle.principals.specs.Users.{Users, is_known}
use Rattle.flat_rows.specs.Facts.{Facts}
use Rattle.flat_rows.specs.Outcome.{step, first_refusal, users_after}
use Rattle.flat_rows.specs.Verdicts.{is_done}
use Rattle.permission_laws.proofs.Endings.{ended}
use Rattle.namespace_rows.specs.declared.row.Row.{Row}
use Rattle.outcome_laws.specs.Laws.{given_groups, asked_checking}

abbrev Known : Type 0
Known = List (List ℕ × List (List ℕ))

module _ (user : List ℕ) (groups : List (List ℕ)) where
  set_own : (known : Known) → is_some (lookup (same user) known) ≡ true → lookup (same user) (set_value (same user) known groups) ≡ Some groups
  set_own [] h = cc
  set_own (e ∷ es) h = by (same user e.0) refl h (set_own es)
    where
      by : (b : Bool) → same user e.0 ≡ b → is_some (cond b (Some e.1) (lookup (same user) es)) ≡ true
          → (is_some (lookup (same user) es) ≡ true → lookup (same user) (set_value (same user) es groups) ≡ Some groups)
          → lookup (same user) (cond b ((e.0, groups) ∷ es) (e ∷ set_value (same user) es groups)) ≡ Some groups
      by true t k rest = ap (λ b. cond b (Some groups) (lookup (same user) es)) t
      by false t k rest = ap (λ b. cond b (Some e.1) (lookup (same user) (set_value (same user) es groups))) t ∙ rest k

  added_own : (known : Known) → lookup (same user) (insert_entry text_cmp known user groups) ≡ Some groups
  added_own [] = ap (λ b. cond b (Some groups) None) (same_self user)
  added_own (e ∷ es) = by (text_cmp user e.0) refl (added_own es)
    where
      by : (o : Ordering) → text_cmp user e.0 ≡ o → lookup (same user) (insert_entry text_cmp es user groups) ≡ Some groups
          → lookup (same user) (match_ordering o ((user, groups) ∷ e ∷ es) ((e.0, groups) ∷ es) (e ∷ insert_entry text_cmp es user groups)) ≡ Some groups
      by Less is rest = ap (λ b. cond b (Some groups) (lookup (same user) (e ∷ es))) (same_self user)
      by Equal is rest = ap (λ o. cond (is_eq o) (Some groups) (lookup (same user) es)) is
      by Greater is rest = ap (λ o. cond (is_eq o) (Some e.1) (lookup (same user) (insert_entry text_cmp es user groups))) is ∙ rest

  module _ (other : List ℕ) (apart : same other user ≡ false) where
    set_others : (known : Known) → lookup (same other) (set_value (same user) known groups) ≡ lookup (same other) known
    set_others [] = refl
    set_others (e ∷ es) = by (same user e.0) refl (set_others es)
      where
        by : (b : Bool) → same user e.0 ≡ b → lookup (same other) (set_value (same user) es groups) ≡ lookup (same other) es
            → lookup (same other) (cond b ((e.0, groups) ∷ es) (e ∷ set_value (same user) es groups)) ≡ cond (same other e.0) (Some e.1) (lookup (same other) es)
        by true t rest =
            let no : same other e.0 ≡ false = ap (same other) (sym (same_is user e.0 t)) ∙ apart in
            ap (λ b. cond b (Some groups) (lookup (same other) es)) no ∙ sym (ap (λ b. cond b (Some e.1) (lookup (same other) es)) no)
        by false t rest = ap (cond (same other e.0) (Some e.1)) rest

    added_others : (known : Known) → lookup (same other) (insert_entry text_cmp known user groups) ≡ lookup (same other) known
    added_others [] = ap (λ b. cond b (Some groups) None) apart
    added_others (e ∷ es) = by (text_cmp user e.0) refl (added_others es)
      where
        by : (o : Ordering) → text_cmp user e.0 ≡ o → lookup (same other) (insert_entry text_cmp es user groups) ≡ lookup (same other) es
            → lookup (same other) (match_ordering o ((user, groups) ∷ e ∷ es) ((e.0, groups) ∷ es) (e ∷ insert_entry text_cmp es user groups)) ≡ cond (same other e.0) (Some e.1) (lookup (same other) es)
        by Less is rest = ap (λ b. cond b (Some groups) (lookup (same other) (e ∷ es))) apart
        by Equal is rest =
            let no : same other e.0 ≡ false = ap (same other) (sym (same_is user e.0 (ap is_eq is))) ∙ apart in
            ap (λ b. cond b (Some groups) (lookup (same other) es)) no ∙ sym (ap (λ b. cond b (Some e.1) (lookup (same other) es)) no)
        by Greater is rest = ap (cond (same other e.0) (Some e.1)) rest

-- who isn't refused to be given groups was known
old_is_known : (c : Bool) → cond c None (Some NotFound) ≡ None → c ≡ true
old_is_known true h = refl
old_is_known false h = cc

module _ (user : List ℕ) (groups : List (List ℕ)) where
  abbrev Given : Type 0
  Given = List ℕ × List (List ℕ)

  same_pair : {p q : Given} → Some p ≡ Some q → p ≡ q
  same_pair e = cc

  owner_is : {one : List ℕ} {some : List (List ℕ)} → ◌≡◌ {A = Option Given} (Some (one, some)) (Some (user, groups)) → one ≡ user
  owner_is e = ap (λ (p : Given). p.0) (same_pair e)

  groups_are : {one : List ℕ} {some : List (List ℕ)} → ◌≡◌ {A = Option Given} (Some (one, some)) (Some (user, groups)) → some ≡ groups
  groups_are e = ap (λ (p : Given). p.1) (same_pair e)

  pub given : (facts : Facts) (caller : List ℕ) (rows : List Row) (users : Users) (what : Op) → first_refusal facts caller what rows users ≡ None → given_groups what ≡ Some (user, groups)
      → lookup (same user) (users_after what users).known ≡ Some groups
  given facts caller rows users (op.AddUser one some) free is =
      ap (λ name. lookup (same name) (users_after (op.AddUser one some) users).known) (sym (owner_is is))
      ∙ added_own one some users.known ∙ ap Some (groups_are is)
  given facts caller rows users (op.SetGroups one some) free is =
      ap (λ name. lookup (same name) (users_after (op.SetGroups one some) users).known) (sym (owner_is is))
      ∙ set_own one some users.known (old_is_known (is_known users one) free) ∙ ap Some (groups_are is)
  given facts caller rows users _ free is = cc

  pub others_keep : (users : Users) (what : Op) (other : List ℕ) → given_groups what ≡ Some (user, groups) → same other user ≡ false
      → lookup (same other) (users_after what users).known ≡ lookup (same other) users.known
  others_keep users (op.AddUser one some) other is apart = added_others one some other (ap (same other) (owner_is is) ∙ apart) users.known
  others_keep users (op.SetGroups one some) other is apart = set_others one some other (ap (same other) (owner_is is) ∙ apart) users.known
  others_keep users _ other is apart = cc

pub super_names_stay : (users : Users) (what : Op) → ((users_after what users).superuser ≡ users.superuser) × ((users_after what users).supergroup ≡ users.supergroup)
super_names_stay users (op.AddUser one some) = (refl, refl)
super_names_stay users (op.SetGroups one some) = (refl, refl)
super_names_stay users (op.SetChecking on) = (refl, refl)
super_names_stay users _ = (refl, refl)

same_checking : {a b : Bool} → Some a ≡ Some b → a ≡ b
same_checking e = cc

pub checking_asked : (users : Users) (what : Op) (on : Bool) → asked_checking what ≡ Some on → (users_after what users).checking ≡ on
checking_asked users (op.SetChecking own) on h = same_checking h
checking_asked users _ on h = cc

pub checking_unasked : (users : Users) (what : Op) → asked_checking what ≡ None → (users_after what users).checking ≡ users.checking
checking_unasked users (op.AddUser one some) h = refl
checking_unasked users (op.SetGroups one some) h = refl
checking_unasked users (op.SetChecking own) h = cc
checking_unasked users _ h = refl

-- what the users of the operation and the users as they were have alike, those after the attempt have
pub users_either_way : (facts : Facts) (rows : List Row) (users : Users) (caller : List ℕ) (what : Op) (P : Users → Type 0) → P users → P (users_after what users) → P (step facts rows users caller what).users
users_either_way facts rows users caller what P as_before as_done = by (is_done (step facts rows users caller what).verdict) refl
  where
    by : (b : Bool) → is_done (step facts rows users caller what).verdict ≡ b → P (step facts rows users caller what).users
    by true e = subst P (sym ((ended facts rows users caller what).users_left e)) as_done
    by false e = subst P (sym ((ended facts rows users caller what).same_users e)) as_before
