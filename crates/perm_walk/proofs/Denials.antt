-- The denial of rights is the one at the first component that is closed.
use Rattle.std.proofs.Common.{◌≡◌, ℕ, Bool, true, false, ◌&&◌, List, [], ◌∷◌, ◌++◌, map, cond, Option, Some, None, refl, sym, ap, ◌∙◌}
use Rattle.std.specs.Prelude.{not, unwrap_or}
use Rattle.std.specs.List.{filter, flat_map}
use Rattle.std.specs.Option.{option_and_then, option_map, option_or, option_to_list}
use Rattle.permission_bits.specs.declared.rights.Rights as bits
use Rattle.principals.specs.Users.{Caller}
use Rattle.namespace_rows.specs.declared.row.Row.{Row}
use Rattle.required_rights.specs.declared.need.Need.{Need}
use Rattle.required_rights.specs.declared.need.Need.TheVariants.{Rights, Sticky, Owner, Member, Superuser, Node}
use Rattle.file_paths.specs.Path.{is_path, is_prefix}
use Rattle.file_paths.specs.PathOrder.{same_path}
use Rattle.namespace_rows.specs.First.{first, first_answer}
use Rattle.required_rights.specs.declared.demand.Role.{Role}
use Rattle.required_rights.specs.declared.demand.Role.TheVariants.{Final}
use Rattle.namespace_rows.specs.Rows.{is_directory, directories_above, directories_beneath, directory_of, owner_above, row_at}
use Rattle.namespace_rows.specs.Judgement.{judgement}
use Rattle.flat_rows.specs.Denial.{Denial, denial_at}
use Rattle.required_rights.specs.RequiredRights.{Demand}
use Rattle.flat_rows.specs.Decision.{Ask, ask_at, asks_of, condition_holds, denial_of}
use Rattle.required_rights.specs.Demands.{IsDemand, suits_role}
use Rattle.namespace_rows.proofs.PathOrders.{same_path_is}
use Rattle.namespace_rows.proofs.Tests.{both}
use Rattle.perm_walk.specs.declared.reach.Reach.{Reach}
use Rattle.perm_walk.specs.Closed.{denies, first_closed}
use Rattle.perm_walk.specs.Reached.{IsReach}
use Rattle.perm_walk.specs.Walked.{IsTraversal}

module _ (caller : Caller) (plain : caller.is_superuser ≡ false) (asked : bits.Rights) (all : List Row) where
  -- the denial at a row; the owner above isn't asked for rights
  abbrev denied : Row → Option Denial
  denied row = denial_at (Rights asked) row [] caller.name caller.groups

  abbrev asks : List Row → List Ask
  asks rows = map (ask_at all (Rights asked)) rows

  one : (row : Row) → denial_of caller (ask_at all (Rights asked) row) ≡ denied row
  one row = ap (λ b. cond b None (denied row)) plain

  met : (row : Row) → (judgement row caller.name caller.groups asked).granted ≡ true → denied row ≡ None
  met row h = rw h refl

  first_denied : (rows : List Row) → first_answer (denial_of caller) (asks rows) ≡ option_and_then denied (first_closed asked caller rows)
  first_denied [] = refl
  first_denied (row ∷ rows) = ap (λ d. option_or d (first_answer (denial_of caller) (asks rows))) (one row) ∙ by (judgement row caller.name caller.groups asked).granted refl (first_denied rows)
    where
      by : (granted : Bool) → (judgement row caller.name caller.groups asked).granted ≡ granted → first_answer (denial_of caller) (asks rows) ≡ option_and_then denied (first_closed asked caller rows)
          → option_or (denied row) (first_answer (denial_of caller) (asks rows)) ≡ option_and_then denied (first (cond (not granted) (row ∷ filter (denies asked caller) rows) (filter (denies asked caller) rows)))
      by true h rest = ap (λ d. option_or d (first_answer (denial_of caller) (asks rows))) (met row h) ∙ rest
      by false h rest = rw h refl

  module _ (need : Need) (is : need ≡ Rights asked) (rows : List Row) (found : Option Row) (read : found ≡ first_closed asked caller rows) where
    same : option_and_then denied found ≡ first_answer (denial_of caller) (map (ask_at all need) rows)
    same = ap (option_and_then denied) read ∙ sym (first_denied rows) ∙ ap (λ n. first_answer (denial_of caller) (map (ask_at all n) rows)) (sym is)

    pub denied_there : (row : Row) (above : List ℕ) → found ≡ Some row → denial_at need row above caller.name caller.groups ≡ first_answer (denial_of caller) (map (ask_at all need) rows)
    denied_there row above there = ap (λ n. denial_at n row above caller.name caller.groups) is ∙ ap (option_and_then denied) (sym there) ∙ same

    pub denied_nowhere : found ≡ None → None ≡ first_answer (denial_of caller) (map (ask_at all need) rows)
    denied_nowhere nothing = ap (option_and_then denied) (sym nothing) ∙ same

-- what has a path has it as its own
own_path : (path : List (List ℕ)) (rows : List Row) (row : Row) → row_at path rows ≡ Some row → path ≡ row.path
own_path path [] row h = cc
own_path path (other ∷ rows) row h = by (same_path path other.path) refl h (own_path path rows row)
  where
    by : (b : Bool) → same_path path other.path ≡ b → first (cond b (other ∷ filter (λ r. same_path path r.path) rows) (filter (λ r. same_path path r.path) rows)) ≡ Some row → (row_at path rows ≡ Some row → path ≡ row.path) → path ≡ row.path
    by true e k others = same_path_is path other.path e ∙ cc
    by false e k others = others k

or_none : {Y : Type 0} (o : Option Y) → option_or o None ≡ o
or_none None = refl
or_none (Some y) = refl

-- a need of what has the path
module _ (caller : Caller) (plain : caller.is_superuser ≡ false) (path : List (List ℕ)) (rows : List Row) (need : Need) (reach : Reach) (leads : IsReach path rows reach) where
  abbrev pub denied_at : Row → Option Denial
  denied_at row = denial_at need row (unwrap_or (option_map (λ (above : Row). above.owner) reach.parent) row.owner) caller.name caller.groups

  at_row : (row : Row) → row_at path rows ≡ Some row → denied_at row ≡ first_answer (denial_of caller) (map (ask_at rows need) (row ∷ []))
  at_row row h =
      ap (λ o. denial_at need row (unwrap_or (option_map (λ (above : Row). above.owner) o) row.owner) caller.name caller.groups) (leads.parent ∙ ap (λ q. directory_of q rows) (own_path path rows row h))
      ∙ sym (ap (λ b. cond b None (denial_at need row (owner_above row rows) caller.name caller.groups)) plain) ∙ sym (or_none (denial_of caller (ask_at rows need row)))

  at_found : (found : Option Row) → row_at path rows ≡ found → option_and_then denied_at found ≡ first_answer (denial_of caller) (map (ask_at rows need) (option_to_list found))
  at_found None h = refl
  at_found (Some row) h = at_row row h

  pub denied_final : option_and_then denied_at reach.at ≡ first_answer (denial_of caller) (map (ask_at rows need) (option_to_list (row_at path rows)))
  denied_final = ap (option_and_then denied_at) leads.at ∙ at_found (row_at path rows) refl

-- a need other than rights is of what has the path
final_role : (need : Need) (role : Role) → suits_role need role ≡ true → ((asked : bits.Rights) → need ≡ Rights asked → ⊥) → role ≡ Final
final_role (Rights asked) role suits other = absurd (other asked refl)
final_role Sticky Final suits other = refl
final_role Sticky _ suits other = cc
final_role Owner Final suits other = refl
final_role Owner _ suits other = cc
final_role (Member group) Final suits other = refl
final_role (Member group) _ suits other = cc
final_role Superuser Final suits other = refl
final_role Superuser _ suits other = cc
final_role Node Final suits other = refl
final_role Node _ suits other = cc

pub is_of_final : (demand : Demand) → IsDemand demand → ((asked : bits.Rights) → demand.need ≡ Rights asked → ⊥) → demand.role ≡ Final
is_of_final demand is other = final_role demand.need demand.role (both (is_path demand.path) (suits_role demand.need demand.role) is).1 other

pub asks_of_final : (demand : Demand) (rows : List Row) → demand.role ≡ Final → condition_holds demand.condition demand.path rows ≡ true
    → asks_of rows demand ≡ map (ask_at rows demand.need) (option_to_list (row_at demand.path rows))
asks_of_final demand rows role held = rw (held, role) refl

-- what a need of traversal asks
asks_on_the_way : (asked : bits.Rights) (demand : Demand) (path : List (List ℕ)) (rows : List Row) → IsTraversal asked demand → demand.path ≡ path → asks_of rows demand ≡ map (ask_at rows (Rights asked)) (directories_above path rows)
asks_on_the_way asked demand path rows is on = rw (is.condition, is.role, is.need, on) refl

module _ (caller : Caller) (plain : caller.is_superuser ≡ false) (asked : bits.Rights) (demand : Demand) (path : List (List ℕ)) (rows : List Row) (is : IsTraversal asked demand) (on : demand.path ≡ path) where
  asked_there : first_answer (denial_of caller) (map (ask_at rows (Rights asked)) (directories_above path rows)) ≡ first_answer (denial_of caller) (asks_of rows demand)
  asked_there = ap (first_answer (denial_of caller)) (sym (asks_on_the_way asked demand path rows is on))

  pub traversal_granted : first_closed asked caller (directories_above path rows) ≡ None → None ≡ first_answer (denial_of caller) (asks_of rows demand)
  traversal_granted nothing = denied_nowhere caller plain asked rows (Rights asked) refl (directories_above path rows) None (sym nothing) refl ∙ asked_there

  pub traversal_denied : (row : Row) (above : List ℕ) → first_closed asked caller (directories_above path rows) ≡ Some row → denial_at demand.need row above caller.name caller.groups ≡ first_answer (denial_of caller) (asks_of rows demand)
  traversal_denied row above there =
      ap (λ n. denial_at n row above caller.name caller.groups) is.need ∙ denied_there caller plain asked rows (Rights asked) refl (directories_above path rows) (Some row) (sym there) row above refl ∙ asked_there

-- an answer of two, or else another
or_assoc : {Y : Type 0} (a b c : Option Y) → option_or a (option_or b c) ≡ option_or (option_or a b) c
or_assoc (Some y) b c = refl
or_assoc None b c = refl

first_of_two : {X Y : Type 0} (f : X → Option Y) (xs ys : List X) → first_answer f (xs ++ ys) ≡ option_or (first_answer f xs) (first_answer f ys)
first_of_two f [] ys = refl
first_of_two f (x ∷ xs) ys = ap (option_or (f x)) (first_of_two f xs ys) ∙ or_assoc (f x) (first_answer f xs) (first_answer f ys)

-- the first answer of lists in a row is that of the first list that has one
pub first_of_all : {X Y Z : Type 0} (f : Y → Option Z) (g : X → List Y) (xs : List X) → first_answer (λ x. first_answer f (g x)) xs ≡ first_answer f (flat_map g xs)
first_of_all f g [] = refl
first_of_all f g (x ∷ xs) = ap (option_or (first_answer f (g x))) (first_of_all f g xs) ∙ sym (first_of_two f (g x) (flat_map g xs))

-- a superuser meets every need
pub superuser_meets : (caller : Caller) → caller.is_superuser ≡ true → (asks : List Ask) → None ≡ first_answer (denial_of caller) asks
superuser_meets caller super [] = refl
superuser_meets caller super (ask ∷ asks) =
    superuser_meets caller super asks ∙ ap (λ b. option_or (cond b None (denial_at ask.need ask.row ask.above caller.name caller.groups)) (first_answer (denial_of caller) asks)) (sym super)

-- two tests behind one, or one behind two
pub two_passes : (p q r : Row → Bool) (rows : List Row) → filter (λ row. p row && q row) (filter r rows) ≡ filter q (filter (λ row. r row && p row) rows)
two_passes p q r [] = refl
two_passes p q r (row ∷ rows) = by (r row) (p row) refl refl (two_passes p q r rows)
  where
    by : (a b : Bool) → r row ≡ a → p row ≡ b → filter (λ row. p row && q row) (filter r rows) ≡ filter q (filter (λ row. r row && p row) rows)
        → filter (λ row. p row && q row) (cond (r row) (row ∷ filter r rows) (filter r rows)) ≡ filter q (cond (r row && p row) (row ∷ filter (λ row. r row && p row) rows) (filter (λ row. r row && p row) rows))
    by true true e f rest = rw (e, f) (ap (λ l. cond (q row) (row ∷ l) l) rest)
    by true false e f rest = rw (e, f) rest
    by false b e f rest = rw e rest

-- the first closed directory of a sub-tree
pub closed_first : (caller : Caller) (asked : bits.Rights) (path : List (List ℕ)) (all : List Row)
    → first (filter (λ row. is_directory row && denies asked caller row) (filter (λ row. is_prefix path row.path) all)) ≡ first_closed asked caller (directories_beneath path all)
closed_first caller asked path all = ap first (two_passes is_directory (denies asked caller) (λ row. is_prefix path row.path) all)
