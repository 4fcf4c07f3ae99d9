-- What follows where no need fails, need by need.
use Rattle.std.proofs.Common.{◌≡◌, ℕ, Bool, true, false, ◌&&◌, ◌||◌, not, List, [], ◌∷◌, ◌++◌, Option, Some, None, map, take, length, refl, sym, ap, ◌∙◌, cond}
use Rattle.std.specs.Prelude.{filter}
use Rattle.std.specs.List.{list_all, flat_map}
use Rattle.std.specs.Option.{option_or, option_and_then}
use Rattle.hdfs_values.specs.Text.{same}
use Rattle.hdfs_values.proofs.Texts.{same_is}
use Rattle.file_paths.specs.Path.{parent_of}
use Rattle.file_paths.specs.PathOrder.{same_path}
use Rattle.principals.specs.Users.{Caller}
use Rattle.namespace_rows.specs.declared.row.Row.{Row}
use Rattle.namespace_rows.specs.First.{first_answer}
use Rattle.namespace_rows.specs.Namespace.{is_child}
use Rattle.namespace_rows.specs.Rows.{is_directory, row_at, if_directory, directory_of, owner_above}
use Rattle.namespace_rows.proofs.Tests.{both, and}
use Rattle.namespace_rows.proofs.PathOrders.{same_path_is}
use Rattle.required_rights.specs.declared.need.Need.{Need}
use Rattle.required_rights.specs.RequiredRights.{Demand}
use Rattle.flat_rows.specs.Denial.{Denial, need_decided, denial_at}
use Rattle.flat_rows.specs.Decision.{Ask, ask_at, asks_of, denial_of, denial_among}
use Rattle.flat_rows.proofs.Firsts.{first_passes, first_found}

pub or_none : {X : Type 0} (a b : Option X) → option_or a b ≡ None → (a ≡ None) × (b ≡ None)
or_none None b h = (refl, h)
or_none (Some x) b h = cc

-- ---- rows that stand at a path

pub path_of_row : (path : List (List ℕ)) (rows : List Row) (row : Row) → row_at path rows ≡ Some row → path ≡ row.path
path_of_row path rows row at = same_path_is path row.path (first_found (λ r. same_path path r.path) rows row at)

where_filtered : (p q : Row → Bool) (rows : List Row) → list_all p (filter q rows) ≡ true → list_all (λ row. not (q row) || p row) rows ≡ true
where_filtered p q [] h = refl
where_filtered p q (row ∷ rows) h = by (q row) h (where_filtered p q rows)
  where
    by : (b : Bool) → list_all p (cond b (row ∷ filter q rows) (filter q rows)) ≡ true → (list_all p (filter q rows) ≡ true → list_all (λ r. not (q r) || p r) rows ≡ true) → ((not b || p row) && list_all (λ r. not (q r) || p r) rows) ≡ true
    by true k rest = let parts = both (p row) (list_all p (filter q rows)) k in and _ _ parts.0 (rest parts.1)
    by false k rest = rest k

-- what all rows that pass a filter have, a row at a path that passes it has
pub of_standing : (p q : Row → Bool) (path : List (List ℕ)) (rows : List Row) (row : Row) → list_all p (filter q rows) ≡ true → row_at path rows ≡ Some row → q row ≡ true → p row ≡ true
of_standing p q path rows row h at passes =
    ap (λ b. not b || p row) (sym passes) ∙ first_passes (λ r. same_path path r.path) (λ r. not (q r) || p r) rows row (where_filtered p q rows h) at

-- ---- the directory right above a path

front_of_child : (n : List ℕ) (ns a : List (List ℕ)) → is_child (n ∷ ns) a ≡ true → take (length ns) (n ∷ ns) ≡ a
front_of_child n [] [] h = refl
front_of_child n (m ∷ ms) [] h = cc
front_of_child n [] (o ∷ os) h = absurd (differ (both (same n o) false h).1)
  where
    differ : false ≡ true → ⊥
    differ e = cc
front_of_child n (m ∷ ms) (o ∷ os) h =
    let parts = both (same n o) (is_child (m ∷ ms) os) h in
    ap (λ t. t ∷ take (length ms) (m ∷ ms)) (same_is n o parts.0) ∙ ap (λ t. o ∷ t) (front_of_child m ms os parts.1)

parent_of_child : (path above : List (List ℕ)) → is_child path above ≡ true → parent_of path ≡ Some above
parent_of_child [] above h = cc
parent_of_child (n ∷ ns) above h = ap (λ t. Some t) (front_of_child n ns above h)

pub directory_holds : (rows : List Row) (path : List (List ℕ)) (directory : Row) → row_at directory.path rows ≡ Some directory → is_directory directory ≡ true → is_child path directory.path ≡ true
    → directory_of path rows ≡ Some directory
directory_holds rows path directory stands kind child =
    ap (λ p. if_directory (option_and_then (λ above. row_at above rows) p)) (parent_of_child path directory.path child)
    ∙ ap if_directory stands
    ∙ ap (λ b. cond b (Some directory) None) kind

-- ---- needs

module _ (caller : Caller) where
  none_append : (xs ys : List Ask) → first_answer (denial_of caller) (xs ++ ys) ≡ None → (first_answer (denial_of caller) xs ≡ None) × (first_answer (denial_of caller) ys ≡ None)
  none_append [] ys h = (refl, h)
  none_append (x ∷ xs) ys h =
      let parts = or_none (denial_of caller x) (first_answer (denial_of caller) (xs ++ ys)) h in
      let rest = none_append xs ys parts.1 in
      (ap (λ o. option_or o (first_answer (denial_of caller) xs)) parts.0 ∙ rest.0, rest.1)

  -- the first of some demands, and the others
  pub first_met : (rows : List Row) (demand : Demand) (demands : List Demand) → denial_among rows caller (demand ∷ demands) ≡ None
      → (first_answer (denial_of caller) (asks_of rows demand) ≡ None) × (denial_among rows caller demands ≡ None)
  first_met rows demand demands h = none_append (asks_of rows demand) (flat_map (asks_of rows) demands) h

  abbrev pub meets : Need → List ℕ → Row → Bool
  meets need above row = (need_decided need row above caller.name caller.groups).granted

  module _ (plain : caller.is_superuser ≡ false) where
    abbrev denied_there : Ask → Denial
    denied_there ask = record { need = ask.need; by = (need_decided ask.need ask.row ask.above caller.name caller.groups).by; row = ask.row; caller = caller.name; groups = caller.groups }

    pub met : (ask : Ask) → denial_of caller ask ≡ None → meets ask.need ask.above ask.row ≡ true
    met ask h = by (meets ask.need ask.above ask.row) (ap (λ s. cond s None (denial_at ask.need ask.row ask.above caller.name caller.groups)) (sym plain) ∙ h)
      where
        by : (b : Bool) → cond b None (Some (denied_there ask)) ≡ None → b ≡ true
        by true k = refl
        by false k = cc

    pub each_met : (rows : List Row) (need : Need) (some : List Row) → first_answer (denial_of caller) (map (ask_at rows need) some) ≡ None → list_all (λ row. meets need (owner_above row rows) row) some ≡ true
    each_met rows need [] h = refl
    each_met rows need (row ∷ some) h =
        let parts = or_none (denial_of caller (ask_at rows need row)) (first_answer (denial_of caller) (map (ask_at rows need) some)) h in
        and _ _ (met (ask_at rows need row) parts.0) (each_met rows need some parts.1)

    -- a need of the one component that has a role
    pub one_met : (rows : List Row) (need : Need) (row : Row) → first_answer (denial_of caller) (map (ask_at rows need) (row ∷ [])) ≡ None → meets need (owner_above row rows) row ≡ true
    one_met rows need row h = met (ask_at rows need row) (or_none (denial_of caller (ask_at rows need row)) None h).0
