-- Marks that wait until they are put in order: which of all marks pass a test that tells no two equal marks apart.
use Rattle.std.proofs.Common.{◌≡◌, ℕ, ◌==◌, Bool, true, false, not, List, [], ◌∷◌, ◌++◌, append-nil, append_assoc, filter, refl, sym, ap, ◌∙◌, cond, subst}
use Rattle.std.proofs.lemmas.List.Kept.{IsStrictlySortedBy-filter}
use Rattle.std.proofs.lemmas.Map.Keys.{sorted_head, sorted_tail}
use Rattle.std.specs.Cmp.{IsTotalOrder, nat_cmp_total, on_total, then_total}
use Rattle.std.specs.List.{AllByRecursion}
use Rattle.std.specs.List.Sorted.{IsStrictlySortedBy}
use Rattle.std.specs.Ordering.{nat_cmp, ordering_then, ordering_reverse, is_eq, match_ordering}
use Rattle.std.specs.declared.cmp.Ordering.{Ordering}
use Rattle.std.specs.declared.cmp.Ordering.TheVariants.{Less, Equal, Greater}
use Rattle.block_records.specs.Marks.{mark_cmp, is_for, marks_for, marks_but, with_mark, with_marks}
use Rattle.block_records.specs.declared.mark.Mark.{Mark}
use Rattle.block_records.proofs.Numbers.{number_is}

marks_total : IsTotalOrder mark_cmp
marks_total =
    then_total (on_total (λ (mark : Mark). mark.node) nat_cmp_total) (then_total (on_total (λ (mark : Mark). mark.block) nat_cmp_total) (on_total (λ (mark : Mark). mark.stamp) nat_cmp_total))

abbrev AreBehind : Mark → List Mark → Type 0
AreBehind mark marks = AllByRecursion (λ later. mark_cmp mark later ≡ Less) marks

-- ---- one mark more

behind_all : (mark first : Mark) (marks : List Mark) → mark_cmp mark first ≡ Less → AreBehind first marks → AreBehind mark marks
behind_all mark first [] less behind = tt
behind_all mark first (later ∷ marks) less behind = (marks_total.trans mark first later less behind.0, behind_all mark first marks less behind.1)

behind_kept : (p : Mark → Bool) (mark : Mark) (marks : List Mark) → AreBehind mark marks → AreBehind mark (filter p marks)
behind_kept p mark [] behind = tt
behind_kept p mark (later ∷ marks) behind = by (p later) (behind_kept p mark marks behind.1)
  where
    by : (b : Bool) → AreBehind mark (filter p marks) → AreBehind mark (cond b (later ∷ filter p marks) (filter p marks))
    by true rest = (behind.0, rest)
    by false rest = rest

put_first : (mark : Mark) (marks : List Mark) → AreBehind mark marks → with_mark marks mark ≡ mark ∷ marks
put_first mark [] behind = refl
put_first mark (later ∷ marks) behind = ap (λ o. match_ordering o (mark ∷ later ∷ marks) (later ∷ marks) (later ∷ with_mark marks mark)) behind.0

module _ (p : Mark → Bool) (alike : (mark other : Mark) → mark_cmp mark other ≡ Equal → p mark ≡ p other) where
  -- a mark that passes comes to those that do
  kept_more : (mark : Mark) (marks : List Mark) → p mark ≡ true → IsStrictlySortedBy mark_cmp marks → filter p (with_mark marks mark) ≡ with_mark (filter p marks) mark
  kept_more mark [] passes sorted = ap (λ b. cond b (mark ∷ []) []) passes
  kept_more mark (first ∷ marks) passes sorted =
      by (mark_cmp mark first) refl (p first) refl (kept_more mark marks passes (sorted_tail mark_cmp first marks sorted))
    where
      rest : List Mark
      rest = filter p marks

      by : (o : Ordering) → mark_cmp mark first ≡ o → (b : Bool) → p first ≡ b → filter p (with_mark marks mark) ≡ with_mark rest mark
          → filter p (match_ordering o (mark ∷ first ∷ marks) (first ∷ marks) (first ∷ with_mark marks mark)) ≡ with_mark (cond b (first ∷ rest) rest) mark
      by Less less b at more =
          let behind : AreBehind mark (first ∷ marks) = (less, behind_all mark first marks less (sorted_head mark_cmp first marks sorted)) in
          ap (λ t. cond t (mark ∷ filter p (first ∷ marks)) (filter p (first ∷ marks))) passes
          ∙ (sym (put_first mark (filter p (first ∷ marks)) (behind_kept p mark (first ∷ marks) behind))
          ∙ ap (λ t. with_mark (cond t (first ∷ rest) rest) mark) at)
      by Equal same true at more =
          ap (λ t. cond t (first ∷ rest) rest) at ∙ sym (ap (λ o. match_ordering o (mark ∷ first ∷ rest) (first ∷ rest) (first ∷ with_mark rest mark)) same)
      by Equal same false at more = let no : true ≡ false = sym passes ∙ (alike mark first same ∙ at) in cc
      by Greater more_than true at more =
          ap (λ t. cond t (first ∷ filter p (with_mark marks mark)) (filter p (with_mark marks mark))) at
          ∙ (ap (λ l. first ∷ l) more ∙ sym (ap (λ o. match_ordering o (mark ∷ first ∷ rest) (first ∷ rest) (first ∷ with_mark rest mark)) more_than))
      by Greater more_than false at more = ap (λ t. cond t (first ∷ filter p (with_mark marks mark)) (filter p (with_mark marks mark))) at ∙ more

  -- one that doesn't pass changes nothing of them
  kept_same : (mark : Mark) (marks : List Mark) → p mark ≡ false → filter p (with_mark marks mark) ≡ filter p marks
  kept_same mark [] fails = ap (λ b. cond b (mark ∷ []) []) fails
  kept_same mark (first ∷ marks) fails = by (mark_cmp mark first) (kept_same mark marks fails)
    where
      by : (o : Ordering) → filter p (with_mark marks mark) ≡ filter p marks → filter p (match_ordering o (mark ∷ first ∷ marks) (first ∷ marks) (first ∷ with_mark marks mark)) ≡ filter p (first ∷ marks)
      by Less rest = ap (λ b. cond b (mark ∷ filter p (first ∷ marks)) (filter p (first ∷ marks))) fails
      by Equal rest = refl
      by Greater rest = ap (λ l. cond (p first) (first ∷ l) l) rest

-- ---- marks in their order

flipped : (mark other : Mark) → mark_cmp mark other ≡ Greater → mark_cmp other mark ≡ Less
flipped mark other greater = by (mark_cmp other mark) refl
  where
    by : (o : Ordering) → mark_cmp other mark ≡ o → o ≡ Less
    by Less is = refl
    by Equal is = let e : Greater ≡ Equal = sym greater ∙ (marks_total.antisymm mark other ∙ ap (λ o. ordering_reverse o) is) in cc
    by Greater is = let e : Greater ≡ Less = sym greater ∙ (marks_total.antisymm mark other ∙ ap (λ o. ordering_reverse o) is) in cc

behind_with : (first mark : Mark) (marks : List Mark) → mark_cmp first mark ≡ Less → AreBehind first marks → AreBehind first (with_mark marks mark)
behind_with first mark [] less behind = (less, tt)
behind_with first mark (later ∷ marks) less behind = by (mark_cmp mark later) (behind_with first mark marks less behind.1)
  where
    by : (o : Ordering) → AreBehind first (with_mark marks mark) → AreBehind first (match_ordering o (mark ∷ later ∷ marks) (later ∷ marks) (later ∷ with_mark marks mark))
    by Less rest = (less, behind)
    by Equal rest = behind
    by Greater rest = (behind.0, rest)

still_sorted : (mark : Mark) (marks : List Mark) → IsStrictlySortedBy mark_cmp marks → IsStrictlySortedBy mark_cmp (with_mark marks mark)
unfolding IsStrictlySortedBy
still_sorted mark [] sorted = (tt, tt)
still_sorted mark (first ∷ marks) sorted = by (mark_cmp mark first) refl (still_sorted mark marks (sorted_tail mark_cmp first marks sorted))
  where
    head : AreBehind first marks
    head = sorted_head mark_cmp first marks sorted

    by : (o : Ordering) → mark_cmp mark first ≡ o → IsStrictlySortedBy mark_cmp (with_mark marks mark)
        → IsStrictlySortedBy mark_cmp (match_ordering o (mark ∷ first ∷ marks) (first ∷ marks) (first ∷ with_mark marks mark))
    by Less less rest = ((less, behind_all mark first marks less head), sorted)
    by Equal same rest = sorted
    by Greater more rest = (behind_with first mark marks (flipped mark first more) head, rest)

-- ---- many marks

module _ (p : Mark → Bool) (alike : (mark other : Mark) → mark_cmp mark other ≡ Equal → p mark ≡ p other) where
  pub kept_with : (latest marks : List Mark) → IsStrictlySortedBy mark_cmp marks → with_marks (filter p marks) (filter p latest) ≡ filter p (with_marks marks latest)
  kept_with [] marks sorted = refl
  kept_with (mark ∷ latest) marks sorted = by (p mark) refl (kept_with latest (with_mark marks mark) (still_sorted mark marks sorted))
    where
      by : (b : Bool) → p mark ≡ b → with_marks (filter p (with_mark marks mark)) (filter p latest) ≡ filter p (with_marks (with_mark marks mark) latest)
          → with_marks (filter p marks) (cond b (mark ∷ filter p latest) (filter p latest)) ≡ filter p (with_marks (with_mark marks mark) latest)
      by true passes rest = ap (λ l. with_marks l (filter p latest)) (sym (kept_more p alike mark marks passes sorted)) ∙ rest
      by false fails rest = ap (λ l. with_marks l (filter p latest)) (sym (kept_same p alike mark marks fails)) ∙ rest

-- marks in their order, put in one by one, are themselves
put_last : (marks rest : List Mark) (mark : Mark) → IsStrictlySortedBy mark_cmp (marks ++ (mark ∷ rest)) → with_mark marks mark ≡ marks ++ (mark ∷ [])
put_last [] rest mark sorted = refl
put_last (first ∷ marks) rest mark sorted =
    ap (λ o. match_ordering o (mark ∷ first ∷ marks) (first ∷ marks) (first ∷ with_mark marks mark)) (above (within marks (sorted_head mark_cmp first (marks ++ (mark ∷ rest)) sorted)))
    ∙ ap (λ l. first ∷ l) (put_last marks rest mark (sorted_tail mark_cmp first (marks ++ (mark ∷ rest)) sorted))
  where
    within : (some : List Mark) → AreBehind first (some ++ (mark ∷ rest)) → mark_cmp first mark ≡ Less
    within [] behind = behind.0
    within (other ∷ some) behind = within some behind.1

    above : mark_cmp first mark ≡ Less → mark_cmp mark first ≡ Greater
    above less = marks_total.antisymm mark first ∙ ap (λ o. ordering_reverse o) less

rebuilt_behind : (rest marks : List Mark) → IsStrictlySortedBy mark_cmp (marks ++ rest) → with_marks marks rest ≡ marks ++ rest
rebuilt_behind [] marks sorted = sym (append-nil marks)
rebuilt_behind (mark ∷ rest) marks sorted =
    ap (λ l. with_marks l rest) (put_last marks rest mark sorted)
    ∙ (rebuilt_behind rest (marks ++ (mark ∷ [])) (subst (IsStrictlySortedBy mark_cmp) (sym (append_assoc marks (mark ∷ []) rest)) sorted)
    ∙ append_assoc marks (mark ∷ []) rest)

rebuilt : (marks : List Mark) → IsStrictlySortedBy mark_cmp marks → with_marks [] marks ≡ marks
rebuilt marks sorted = rebuilt_behind marks [] sorted

-- ---- the marks of a node

nodes_alike : (node : ℕ) (mark other : Mark) → mark_cmp mark other ≡ Equal → is_for node mark ≡ is_for node other
nodes_alike node mark other same = ap (λ n. n == node) (number_is mark.node other.node (by (nat_cmp mark.node other.node) (ordering_then (nat_cmp mark.block other.block) (nat_cmp mark.stamp other.stamp)) same))
  where
    by : (o rest : Ordering) → ordering_then o rest ≡ Equal → is_eq o ≡ true
    by Less rest e = cc
    by Equal rest e = refl
    by Greater rest e = cc

pub all_for : (node : ℕ) (marks latest own : List Mark) → IsStrictlySortedBy mark_cmp marks → own ≡ with_marks [] (marks_for node marks)
    → with_marks own (marks_for node latest) ≡ marks_for node (with_marks marks latest)
all_for node marks latest own sorted is =
    ap (λ l. with_marks l (marks_for node latest)) (is ∙ rebuilt (marks_for node marks) (IsStrictlySortedBy-filter mark_cmp (is_for node) marks sorted))
    ∙ kept_with (is_for node) (nodes_alike node) latest marks sorted

pub all_but : (node : ℕ) (marks latest : List Mark) → IsStrictlySortedBy mark_cmp marks → with_marks (marks_but node marks) (marks_but node latest) ≡ marks_but node (with_marks marks latest)
all_but node marks latest sorted = kept_with (λ mark. not (is_for node mark)) (λ mark other same. ap not (nodes_alike node mark other same)) latest marks sorted
