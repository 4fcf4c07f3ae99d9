-- Where rows are judged in their order: what denies, and that all before it are met.
use Rattle.std.proofs.Common.{◌≡◌, Bool, true, false, ◌||◌, not, List, [], ◌∷◌, ◌++◌, Option, Some, None, map, refl, sym, ap, subst, ◌∙◌, cond}
use Rattle.std.specs.Prelude.{filter}
use Rattle.std.specs.List.{list_all}
use Rattle.std.specs.Option.{option_or}
use Rattle.std.specs.Ordering.{is_lt, is_eq, ordering_reverse}
use Rattle.std.specs.Cmp.{tied_itself}
use Rattle.file_paths.specs.PathOrder.{path_cmp, same_path, paths_total}
use Rattle.principals.specs.Users.{Caller}
use Rattle.namespace_rows.specs.declared.row.Row.{Row}
use Rattle.namespace_rows.specs.First.{first, first_answer}
use Rattle.namespace_rows.specs.Rows.{row_at, owner_above}
use Rattle.namespace_rows.specs.Namespace.{is_ascending, is_before_all}
use Rattle.namespace_rows.proofs.Tests.{both, and, or_left, or_right, all_imp}
use Rattle.namespace_rows.proofs.PathOrders.{less_is}
use Rattle.required_rights.specs.declared.need.Need.{Need}
use Rattle.flat_rows.specs.Denial.{Denial, denial_at, need_decided}
use Rattle.flat_rows.specs.Decision.{Ask, ask_at, denial_of}
use Rattle.flat_rows.proofs.Changes.{same_self}
use Rattle.permission_laws.proofs.Deciding.{meets, met}

-- ---- each row stands at its path

abbrev pub Each : (Row → Type 0) → List Row → Type 0
Each P [] = Unit {0}
Each P (row ∷ rows) = P row × Each P rows

abbrev pub stands : List Row → Row → Type 0
stands rows row = row_at row.path rows ≡ Some row

pub each_filtered : (P : Row → Type 0) (q : Row → Bool) (rows : List Row) → Each P rows → Each P (filter q rows)
each_filtered P q [] e = tt
each_filtered P q (row ∷ rows) e = by (q row) (each_filtered P q rows e.1)
  where
    by : (b : Bool) → Each P (filter q rows) → Each P (cond b (row ∷ filter q rows) (filter q rows))
    by true rest = (e.0, rest)
    by false rest = rest

later_apart : (row other : Row) → is_lt (path_cmp row.path other.path) ≡ true → same_path other.path row.path ≡ false
later_apart row other low = ap is_eq (paths_total.antisymm other.path row.path ∙ ap ordering_reverse (less_is _ low))

each_behind : (row : Row) (all some : List Row) → is_before_all row some ≡ true → Each (stands all) some → Each (stands (row ∷ all)) some
each_behind row all [] low e = tt
each_behind row all (other ∷ some) low e =
    let lows = both (is_lt (path_cmp row.path other.path)) (is_before_all row some) low in (
      ap (λ b. first (cond b (row ∷ filter (λ r. same_path other.path r.path) all) (filter (λ r. same_path other.path r.path) all))) (later_apart row other lows.0) ∙ e.0,
      each_behind row all some lows.1 e.1,
    )

pub each_stands : (rows : List Row) → is_ascending rows ≡ true → Each (stands rows) rows
each_stands [] up = tt
each_stands (row ∷ rows) up =
    let ups = both (is_before_all row rows) (is_ascending rows) up in (
      ap (λ b. first (cond b (row ∷ filter (λ r. same_path row.path r.path) rows) (filter (λ r. same_path row.path r.path) rows))) (same_self row.path),
      each_behind row rows rows ups.0 (each_stands rows ups.1),
    )

-- ---- denials

module _ (caller : Caller) where
  abbrev pub found_in : List Ask → Option Denial
  found_in asks = first_answer (denial_of caller) asks

  -- what a denial of one need says
  pub record DeniedAt (ask : Ask) (denial : Denial) : Type 0 where
    pub plain : caller.is_superuser ≡ false
    pub row : denial.row ≡ ask.row
    pub need : denial.need ≡ ask.need
    pub fails : meets caller ask.need ask.above ask.row ≡ false

  one : (x y : Denial) → Some x ≡ Some y → x ≡ y
  one x y e = cc

  abbrev denied_there : Ask → Denial
  denied_there ask = record { need = ask.need; by = (need_decided ask.need ask.row ask.above caller.name caller.groups).by; row = ask.row; caller = caller.name; groups = caller.groups }

  pub denied_at : (ask : Ask) (denial : Denial) → denial_of caller ask ≡ Some denial → DeniedAt ask denial
  denied_at ask denial h = by_super caller.is_superuser refl h
    where
      by_granted : (b : Bool) → caller.is_superuser ≡ false → meets caller ask.need ask.above ask.row ≡ b → cond b None (Some (denied_there ask)) ≡ Some denial → DeniedAt ask denial
      by_granted true e g k = cc
      by_granted false e g k = let is = one (denied_there ask) denial k in record { plain = e; row = ap (λ (d : Denial). d.row) (sym is); need = ap (λ (d : Denial). d.need) (sym is); fails = g }

      by_super : (s : Bool) → caller.is_superuser ≡ s → cond s None (denial_at ask.need ask.row ask.above caller.name caller.groups) ≡ Some denial → DeniedAt ask denial
      by_super true e k = cc
      by_super false e k = by_granted (meets caller ask.need ask.above ask.row) e refl k

  -- of what is asked in front, and then behind
  pub record Parted (front behind : List Ask) (denial : Denial) (o : Option Denial) : Type 0 where
    pub in_front : (d : Denial) → o ≡ Some d → d ≡ denial
    pub behind_it : o ≡ None → found_in behind ≡ Some denial

  pub parted : (front behind : List Ask) (denial : Denial) → found_in (front ++ behind) ≡ Some denial → Parted front behind denial (found_in front)
  parted [] behind denial h = record { in_front = λ d e. cc; behind_it = λ e. h }
  parted (ask ∷ front) behind denial h = by (denial_of caller ask) h (λ k. parted front behind denial k)
    where
      by : (o : Option Denial) → option_or o (found_in (front ++ behind)) ≡ Some denial → (found_in (front ++ behind) ≡ Some denial → Parted front behind denial (found_in front)) → Parted (ask ∷ front) behind denial (option_or o (found_in front))
      by None k rest = let r = rest k in record { in_front = r.in_front; behind_it = r.behind_it }
      by (Some x) k rest = record { in_front = λ d e. one d denial (sym e ∙ k); behind_it = λ e. cc }

  pub found_front : (front behind : List Ask) (denial : Denial) → found_in front ≡ Some denial → found_in (front ++ behind) ≡ Some denial
  found_front [] behind denial h = cc
  found_front (ask ∷ front) behind denial h = by (denial_of caller ask) h (found_front front behind denial)
    where
      by : (o : Option Denial) → option_or o (found_in front) ≡ Some denial → (found_in front ≡ Some denial → found_in (front ++ behind) ≡ Some denial) → option_or o (found_in (front ++ behind)) ≡ Some denial
      by None k rest = rest k
      by (Some x) k rest = k

  pub found_behind : (front behind : List Ask) → found_in front ≡ None → found_in (front ++ behind) ≡ found_in behind
  found_behind [] behind h = refl
  found_behind (ask ∷ front) behind h = by (denial_of caller ask) h (found_behind front behind)
    where
      by : (o : Option Denial) → option_or o (found_in front) ≡ None → (found_in front ≡ None → found_in (front ++ behind) ≡ found_in behind) → option_or o (found_in (front ++ behind)) ≡ found_in behind
      by None k rest = rest k
      by (Some x) k rest = cc

  -- ---- a need of ascending rows

  module _ (rows : List Row) (need : Need) where
    abbrev pub grants : Row → Bool
    grants row = meets caller need (owner_above row rows) row

    abbrev pub passed : Row → Row → Bool
    passed stop row = not (is_lt (path_cmp row.path stop.path)) || grants row

    pub record Stops (some : List Row) (denial : Denial) : Type 0 where
      pub plain : caller.is_superuser ≡ false
      pub need_is : denial.need ≡ need
      pub fails : grants denial.row ≡ false
      pub among : (q : Row → Bool) → list_all q some ≡ true → q denial.row ≡ true
      pub there : Each (stands rows) some → stands rows denial.row
      pub before : list_all (passed denial.row) some ≡ true

    not_before_itself : (row : Row) → passed row row ≡ true
    not_before_itself row = or_left _ _ (ap (λ o. not (is_lt o)) (tied_itself paths_total row.path))

    behind_passed : (row : Row) (some : List Row) → is_before_all row some ≡ true → list_all (passed row) some ≡ true
    behind_passed row some low =
        all_imp (λ other. is_lt (path_cmp row.path other.path)) (passed row)
        (λ other l. or_left _ _ (ap (λ o. not (is_lt o)) (paths_total.antisymm other.path row.path ∙ ap ordering_reverse (less_is _ l)))) some low

    pub stops : (some : List Row) → is_ascending some ≡ true → (denial : Denial) → found_in (map (ask_at rows need) some) ≡ Some denial → Stops some denial
    stops [] up denial h = cc
    stops (row ∷ some) up denial h =
        let ups = both (is_before_all row some) (is_ascending some) up in
        by (denial_of caller (ask_at rows need row)) refl h (behind_passed row some ups.0) (stops some ups.1 denial)
      where
        by : (o : Option Denial) → denial_of caller (ask_at rows need row) ≡ o → option_or o (found_in (map (ask_at rows need) some)) ≡ Some denial → list_all (passed row) some ≡ true
            → (found_in (map (ask_at rows need) some) ≡ Some denial → Stops some denial) → Stops (row ∷ some) denial
        by None e k later rest =
            let s = rest k in
            record {
              plain = s.plain;
              need_is = s.need_is;
              fails = s.fails;
              among = λ q t. s.among q (both (q row) (list_all q some) t).1;
              there = λ t. s.there t.1;
              before = and _ _ (or_right (not (is_lt (path_cmp row.path denial.row.path))) _ (met caller s.plain (ask_at rows need row) e)) s.before;
            }
        by (Some d) e k later rest =
            let at = denied_at (ask_at rows need row) denial (e ∙ k) in
            record {
              plain = at.plain;
              need_is = at.need;
              fails = ap grants at.row ∙ at.fails;
              among = λ q t. ap q at.row ∙ (both (q row) (list_all q some) t).0;
              there = λ t. subst (stands rows) (sym at.row) t.0;
              before = ap (λ r. list_all (passed r) (row ∷ some)) at.row ∙ and _ _ (not_before_itself row) later;
            }

    -- any rows
    pub denied_among : (q : Row → Bool) (some : List Row) (denial : Denial) → found_in (map (ask_at rows need) some) ≡ Some denial → list_all q some ≡ true → q denial.row ≡ true
    denied_among q [] denial h k = cc
    denied_among q (row ∷ some) denial h k =
        let ks = both (q row) (list_all q some) k in
        by (denial_of caller (ask_at rows need row)) refl h ks.0 (λ e. denied_among q some denial e ks.1)
      where
        by : (o : Option Denial) → denial_of caller (ask_at rows need row) ≡ o → option_or o (found_in (map (ask_at rows need) some)) ≡ Some denial → q row ≡ true
            → (found_in (map (ask_at rows need) some) ≡ Some denial → q denial.row ≡ true) → q denial.row ≡ true
        by None e k here rest = rest k
        by (Some d) e k here rest = ap q (denied_at (ask_at rows need row) denial (e ∙ k)).row ∙ here
