-- A stand-in is put at a path, a branch is taken out from another, and fills the stand-in: it has been moved.
use Rattle.std.proofs.Common.{◌≡◌, ℕ, Ordering, Less, Equal, Greater, Bool, true, false, ◌&&◌, not, List, [], ◌∷◌, ◌++◌, map, cond, Option, Some, None, refl, sym, ap, ◌∙◌, subst}
use Rattle.std.proofs.lemmas.Bool.{false≢true}
use Rattle.std.proofs.lemmas.List.{append-nil}
use Rattle.std.proofs.lemmas.List.Elements.{filter-append}
use Rattle.std.proofs.Math.Seq.{drop-append_seam}
use Rattle.std.specs.List.{filter}
use Rattle.std.specs.Ordering.{is_lt, is_gt, is_eq, ordering_then}
use Rattle.hdfs_values.specs.Text.{same, text_cmp}
use Rattle.file_paths.specs.Path.{is_prefix}
use Rattle.file_paths.specs.PathOrder.{path_cmp}
use Rattle.hdfs_values.proofs.Texts.{same_is, same_symm}
use Rattle.namespace_rows.specs.declared.row.Row.{Row}
use Rattle.namespace_rows.specs.First.{first}
use Rattle.namespace_rows.specs.Rows.{is_before, is_beyond, is_none, is_missing, rows_replaced}
use Rattle.namespace_rows.specs.Changes.{rows_under, without, moved_row, with_rows_moved}
use Rattle.namespace_rows.proofs.Tests.{both}
use Rattle.namespace_rows.proofs.PathOrders.{tied_starts, starts_upto}
use Rattle.flat_rows.proofs.Moves.{front_at, front_inside}
use Rattle.inode_nodes.specs.Node.{Node, rows, rows_or, row_of, row_placed, with_rows}
use Rattle.inode_nodes.specs.Part.{IsWhole}
use Rattle.inode_nodes.specs.Change.{branch_grafted}
use Rattle.inode_nodes.proofs.Filters.{inside, outside, standing, pick}
use Rattle.inode_nodes.proofs.Wholes.{filter_within, standing_inside}

-- two filters, one behind the other

two : (p q : Row → Bool) (a b : Bool) (r : Row) → p r ≡ a → q r ≡ b → (xs ys : List Row) → filter p xs ≡ filter q ys → filter p (cond b (r ∷ xs) xs) ≡ filter q (cond a (r ∷ ys) ys)
two p q true true r e f xs ys h = rw (e, f) (ap (λ t. r ∷ t) h)
two p q true false r e f xs ys h = rw f h
two p q false true r e f xs ys h = rw e h
two p q false false r e f xs ys h = h

pub filter_swap : (p q : Row → Bool) (rs : List Row) → filter p (filter q rs) ≡ filter q (filter p rs)
filter_swap p q [] = refl
filter_swap p q (r ∷ rs) = two p q (p r) (q r) r refl refl (filter q rs) (filter p rs) (filter_swap p q rs)

-- a filter that passes all that another does, or none
pub filter_const : (p q : Row → Bool) (c : Bool) → ((r : Row) → q r ≡ true → p r ≡ c) → (rs : List Row) → filter p (filter q rs) ≡ pick c (filter q rs)
filter_const p q c h [] = by c
  where
    by : (c : Bool) → [] ≡ pick c []
    by true = refl
    by false = refl
filter_const p q c h (r ∷ rs) = by (q r) c (h r) (filter_const p q c h rs)
  where
    by : (b c : Bool) → (b ≡ true → p r ≡ c) → filter p (filter q rs) ≡ pick c (filter q rs) → filter p (cond b (r ∷ filter q rs) (filter q rs)) ≡ pick c (cond b (r ∷ filter q rs) (filter q rs))
    by true true k e = rw (k refl) (ap (λ t. r ∷ t) e)
    by true false k e = rw (k refl) e
    by false c k e = e

none_of : (p : Row → Bool) (f : Row → Row) → ((r : Row) → p (f r) ≡ false) → (rs : List Row) → filter p (map f rs) ≡ []
none_of p f h [] = refl
none_of p f h (r ∷ rs) = rw (h r) (none_of p f h rs)

not_both : (o : Ordering) (b : Bool) → (is_lt o && b) ≡ true → is_gt o ≡ false
not_both Less b h = refl
not_both Equal b h = cc
not_both Greater b h = cc

both_not : (o : Ordering) (b : Bool) → is_gt o ≡ true → (is_lt o && b) ≡ false
both_not Less b h = cc
both_not Equal b h = cc
both_not Greater b h = refl

and_false : (a : Bool) → (a && false) ≡ false
and_false true = refl
and_false false = refl

-- the stand-in hides nothing beside it

module _ (to : List (List ℕ)) (s : Node) (rs : List Row) where
  abbrev block : List Row
  block = map (row_placed to) (rows s)

  first_part : filter (is_before to) (branch_grafted to s rs) ≡ filter (is_before to) rs
  first_part =
      filter-append (is_before to) (filter (is_before to) rs) (block ++ filter (is_beyond to) rs)
      ∙ ap (λ t. t ++ filter (is_before to) (block ++ filter (is_beyond to) rs)) (filter_const (is_before to) (is_before to) true (λ r h. h) rs)
      ∙ ap (λ t. filter (is_before to) rs ++ t) (filter-append (is_before to) block (filter (is_beyond to) rs)
      ∙ ap (λ t. t ++ filter (is_before to) (filter (is_beyond to) rs)) (none_of (is_before to) (row_placed to) (λ r. starts_upto to (to ++ r.path) (front_inside to r.path)) (rows s))
      ∙ filter_const (is_before to) (is_beyond to) false (λ r h. not_both (path_cmp to r.path) (not (is_prefix to r.path)) h) rs)
      ∙ append-nil (filter (is_before to) rs)

  last_part : filter (is_beyond to) (branch_grafted to s rs) ≡ filter (is_beyond to) rs
  last_part =
      filter-append (is_beyond to) (filter (is_before to) rs) (block ++ filter (is_beyond to) rs)
      ∙ ap (λ t. t ++ filter (is_beyond to) (block ++ filter (is_beyond to) rs)) (filter_const (is_beyond to) (is_before to) false (λ r h. both_not (path_cmp to r.path) (not (is_prefix to r.path)) h) rs)
      ∙ filter-append (is_beyond to) block (filter (is_beyond to) rs)
      ∙ ap (λ t. t ++ filter (is_beyond to) (filter (is_beyond to) rs)) (none_of (is_beyond to) (row_placed to) (λ r. rw (front_inside to r.path) (and_false (is_lt (path_cmp to (to ++ r.path))))) (rows s))
      ∙ filter_const (is_beyond to) (is_beyond to) true (λ r h. h) rs

filled : (to from : List (List ℕ)) (s b : Node) (rs : List Row) → branch_grafted to b (without from (branch_grafted to s rs)) ≡ branch_grafted to b (without from rs)
filled to from s b rs =
    let one : filter (is_before to) (without from (branch_grafted to s rs)) ≡ filter (is_before to) (without from rs) =
    filter_swap (is_before to) (outside from) (branch_grafted to s rs) ∙ ap (filter (outside from)) (first_part to s rs) ∙ filter_swap (outside from) (is_before to) rs in
    let other : filter (is_beyond to) (without from (branch_grafted to s rs)) ≡ filter (is_beyond to) (without from rs) =
    filter_swap (is_beyond to) (outside from) (branch_grafted to s rs) ∙ ap (filter (outside from)) (last_part to s rs) ∙ filter_swap (outside from) (is_beyond to) rs in
    ap (λ t. t ++ (map (row_placed to) (rows b) ++ filter (is_beyond to) (without from (branch_grafted to s rs)))) one ∙ ap (λ t. filter (is_before to) (without from rs) ++ (map (row_placed to) (rows b) ++ t)) other

-- paths of which neither is beneath the other

tied : (o : Ordering) → is_eq o ≡ true → o ≡ Equal
tied Less h = cc
tied Equal h = refl
tied Greater h = cc

module _ (f t : List ℕ) where
  same_other : text_cmp t f ≡ Equal → same f t ≡ true
  same_other e = same_symm f t ∙ ap is_eq e

side_cmp : (to from p : List (List ℕ)) → is_prefix to from ≡ false → is_prefix from to ≡ false → is_prefix from p ≡ true → path_cmp to p ≡ path_cmp to from
side_cmp [] from p a b h = cc
side_cmp (t ∷ ts) [] p a b h = cc
side_cmp (t ∷ ts) (f ∷ fs) [] a b h = cc
side_cmp (t ∷ ts) (f ∷ fs) (q ∷ qs) a b h =
    let parts = both (same f q) (is_prefix fs qs) h in
    ap (λ x. ordering_then (text_cmp t x) (path_cmp ts qs)) (sym (same_is f q parts.0)) ∙ by (text_cmp t f) refl a b (λ c d. side_cmp ts fs qs c d parts.1)
  where
    by : (o : Ordering) → text_cmp t f ≡ o → (is_eq o && is_prefix ts fs) ≡ false → (same f t && is_prefix fs ts) ≡ false → (is_prefix ts fs ≡ false → is_prefix fs ts ≡ false → path_cmp ts qs ≡ path_cmp ts fs)
        → ordering_then (text_cmp t f) (path_cmp ts qs) ≡ ordering_then (text_cmp t f) (path_cmp ts fs)
    by Less e c d rest = rw e refl
    by Equal e c d rest = rw e (rest c (ap (λ x. x && is_prefix fs ts) (sym (same_other f t e)) ∙ d))
    by Greater e c d rest = rw e refl

side_outside : (to from p : List (List ℕ)) → is_prefix to from ≡ false → is_prefix from to ≡ false → is_prefix from p ≡ true → is_prefix to p ≡ false
side_outside [] from p a b h = cc
side_outside (t ∷ ts) [] p a b h = cc
side_outside (t ∷ ts) (f ∷ fs) [] a b h = refl
side_outside (t ∷ ts) (f ∷ fs) (q ∷ qs) a b h =
    let parts = both (same f q) (is_prefix fs qs) h in
    ap (λ x. same t x && is_prefix ts qs) (sym (same_is f q parts.0)) ∙ by (text_cmp t f) refl a b (λ c d. side_outside ts fs qs c d parts.1)
  where
    by : (o : Ordering) → text_cmp t f ≡ o → (is_eq o && is_prefix ts fs) ≡ false → (same f t && is_prefix fs ts) ≡ false → (is_prefix ts fs ≡ false → is_prefix fs ts ≡ false → is_prefix ts qs ≡ false) → (is_eq (text_cmp t f) && is_prefix ts qs) ≡ false
    by Less e c d rest = rw e refl
    by Equal e c d rest = rw e (rest c (ap (λ x. x && is_prefix fs ts) (sym (same_other f t e)) ∙ d))
    by Greater e c d rest = rw e refl

-- what stands beside a stand-in without rows beneath it
module _ (to from : List (List ℕ)) (apart : is_prefix to from ≡ false) (beside : is_prefix from to ≡ false) (s : Node) (leaf : s.beneath ≡ []) (rs : List Row) where
  stand_in : filter (inside from) (map (row_placed to) (rows s)) ≡ []
  stand_in = ap (λ l. filter (inside from) (row_placed to (row_of [] s.top) ∷ map (row_placed to) l)) leaf ∙ rw (append-nil to, beside) refl

  below : filter (inside from) (filter (is_before to) rs) ≡ pick (is_gt (path_cmp to from)) (rows_under from rs)
  below = filter_swap (inside from) (is_before to) rs ∙ filter_const (is_before to) (inside from) (is_gt (path_cmp to from)) (λ r h. ap is_gt (side_cmp to from r.path apart beside h)) rs

  above : filter (inside from) (filter (is_beyond to) rs) ≡ pick (is_lt (path_cmp to from) && true) (rows_under from rs)
  above =
      filter_swap (inside from) (is_beyond to) rs
      ∙ filter_const (is_beyond to) (inside from) (is_lt (path_cmp to from) && true) (λ r h. rw (side_cmp to from r.path apart beside h, side_outside to from r.path apart beside h) refl) rs

  either : (o : Ordering) → path_cmp to from ≡ o → (xs : List Row) → pick (is_gt o) xs ++ ([] ++ pick (is_lt o && true) xs) ≡ xs
  either Less e xs = refl
  either Equal e xs = absurd (false≢true (sym apart ∙ tied_starts to from e))
  either Greater e xs = append-nil xs

  pub under_stand_in : rows_under from (branch_grafted to s rs) ≡ rows_under from rs
  under_stand_in =
      filter-append (inside from) (filter (is_before to) rs) (map (row_placed to) (rows s) ++ filter (is_beyond to) rs)
      ∙ ap (λ l. filter (inside from) (filter (is_before to) rs) ++ l) (filter-append (inside from) (map (row_placed to) (rows s)) (filter (is_beyond to) rs))
      ∙ rw (below, stand_in, above) (either (path_cmp to from) refl (rows_under from rs))

-- the stand-in is still there

kept_row : (p : Row → Bool) (r : Row) (rs : List Row) → p r ≡ true → filter p (r ∷ rs) ≡ r ∷ filter p rs
kept_row p r rs h = rw h refl

not_standing : (to : List (List ℕ)) (r : Row) → is_before to r ≡ true → standing to r ≡ false
not_standing to r h = by (path_cmp to r.path) h
  where
    by : (o : Ordering) → is_gt o ≡ true → is_eq o ≡ false
    by Less k = refl
    by Equal k = cc
    by Greater k = refl

pub there_after : (to from : List (List ℕ)) (s : Node) (rs : List Row) → is_prefix from to ≡ false → is_missing to (without from (branch_grafted to s rs)) ≡ false
there_after to from s rs beside =
    let top : Row = row_placed to (row_of [] s.top) in
    let more : List Row = map (row_placed to) s.beneath ++ filter (is_beyond to) rs in
    let one : filter (standing to) (branch_grafted to s rs) ≡ top ∷ filter (standing to) more =
    filter-append (standing to) (filter (is_before to) rs) (top ∷ more)
    ∙ ap (λ t. t ++ filter (standing to) (top ∷ more)) (filter_const (standing to) (is_before to) false (not_standing to) rs)
    ∙ kept_row (standing to) top more (front_at to []) in
    ap (λ l. is_none (first l))
    (filter_swap (standing to) (outside from) (branch_grafted to s rs) ∙ ap (filter (outside from)) one ∙ kept_row (outside from) top (filter (standing to) more) (ap (λ p. not (is_prefix from p)) (append-nil to) ∙ ap not beside))

-- the whole

pub moved_placed : (from to : List (List ℕ)) (xs : List Row) → map (moved_row from to) (map (row_placed from) xs) ≡ map (row_placed to) xs
moved_placed from to [] = refl
moved_placed from to (r ∷ rs) =
    ap (λ p. record r { path = to ++ p } ∷ map (moved_row from to) (map (row_placed from) rs)) (drop-append_seam from r.path) ∙ ap (λ t. row_placed to r ∷ t) (moved_placed from to rs)

moved_top : (f : List ℕ) (fs above : List (List ℕ)) (name : List ℕ) (b : Node) → row_of [] b.top ∷ with_rows_moved (f ∷ fs) (above ++ name ∷ []) b.beneath ≡ with_rows_moved (f ∷ fs) (above ++ name ∷ []) (rows b)
moved_top f fs [] name b = refl
moved_top f fs (n ∷ ns) name b = refl

pub moved_rows : (f : List ℕ) (fs above : List (List ℕ)) (name : List ℕ) (b b1 b2 b3 s part : Node) (o : Option Node) → is_prefix (above ++ name ∷ []) (f ∷ fs) ≡ false → is_prefix (f ∷ fs) (above ++ name ∷ []) ≡ false → s.beneath ≡ []
    → b1 ≡ with_rows b (branch_grafted (above ++ name ∷ []) s b.beneath) → IsWhole (f ∷ fs) b1.beneath o → o ≡ Some part → b2 ≡ with_rows b1 (without (f ∷ fs) b1.beneath) → b3 ≡ with_rows b2 (branch_grafted (above ++ name ∷ []) part b2.beneath)
    → rows b3 ≡ with_rows_moved (f ∷ fs) (above ++ name ∷ []) (rows b)
moved_rows f fs above name b b1 b2 b3 s part o apart beside leaf put whole some taken fill =
    let from : List (List ℕ) = f ∷ fs in
    let to : List (List ℕ) = above ++ name ∷ [] in
    let under : map (row_placed from) (rows part) ≡ rows_under from b.beneath =
    sym (subst (λ x. rows_under from b1.beneath ≡ map (row_placed from) (rows_or x)) some whole) ∙ ap (λ x. rows_under from x.beneath) put ∙ under_stand_in to from apart beside s leaf b.beneath in
    let same_block : map (row_placed to) (rows part) ≡ map (moved_row from to) (rows_under from b.beneath) = sym (moved_placed from to (rows part)) ∙ ap (map (moved_row from to)) under in
    let two_calls : b2 ≡ with_rows b (without from (branch_grafted to s b.beneath)) = taken ∙ ap (λ x. with_rows x (without from x.beneath)) put in
    ap rows fill ∙ ap (λ x. rows (with_rows x (branch_grafted to part x.beneath))) two_calls ∙ ap (λ l. row_of [] b.top ∷ l) (filled to from s part b.beneath ∙ ap (λ l. rows_replaced to l (without from b.beneath)) same_block) ∙ moved_top f fs above name b

pub taken_some : (f : List ℕ) (fs above : List (List ℕ)) (name : List ℕ) (b b1 s : Node) (o : Option Node) → is_prefix (above ++ name ∷ []) (f ∷ fs) ≡ false → is_prefix (f ∷ fs) (above ++ name ∷ []) ≡ false → s.beneath ≡ []
    → b1 ≡ with_rows b (branch_grafted (above ++ name ∷ []) s b.beneath) → IsWhole (f ∷ fs) b1.beneath o → o ≡ None → is_missing (f ∷ fs) (rows b) ≡ false → ⊥
taken_some f fs above name b b1 s o apart beside leaf put whole none there =
    let from : List (List ℕ) = f ∷ fs in
    let under : rows_under from b.beneath ≡ [] =
    sym (under_stand_in (above ++ name ∷ []) from apart beside s leaf b.beneath) ∙ sym (ap (λ x. rows_under from x.beneath) put) ∙ subst (λ x. rows_under from b1.beneath ≡ map (row_placed from) (rows_or x)) none whole in
    false≢true (sym there ∙ ap (λ l. is_none (first l)) (sym (filter_within (standing from) (inside from) (standing_inside from) b.beneath) ∙ ap (filter (standing from)) under))

pub fill_there : (f : List ℕ) (fs above : List (List ℕ)) (name : List ℕ) (b b1 b2 s : Node) → is_prefix (f ∷ fs) (above ++ name ∷ []) ≡ false → b1 ≡ with_rows b (branch_grafted (above ++ name ∷ []) s b.beneath) → b2 ≡ with_rows b1 (without (f ∷ fs) b1.beneath)
    → is_missing (above ++ name ∷ []) b2.beneath ≡ false
fill_there f fs above name b b1 b2 s beside put taken =
    ap (λ x. is_missing (above ++ name ∷ []) x.beneath) (taken ∙ ap (λ x. with_rows x (without (f ∷ fs) x.beneath)) put) ∙ there_after (above ++ name ∷ []) (f ∷ fs) s b.beneath beside
