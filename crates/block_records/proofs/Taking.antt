-- The marks of a node among all marks, which are in their order.
use Rattle.std.proofs.Common.{◌≡◌, ◌≢◌, ℕ, ◌==◌, ◌<◌, ◌≤◌, Bool, true, false, ◌&&◌, not, List, [], ◌∷◌, filter, refl, sym, ap, ◌∙◌, cond, arith}
use Rattle.std.proofs.lemmas.Bool.{eqb-true}
use Rattle.std.proofs.lemmas.Map.Keys.{sorted_head, sorted_tail}
use Rattle.std.specs.BTreeMap.{is_at}
use Rattle.std.specs.BTreeMap.Range.{range_contains}
use Rattle.std.specs.Cmp.{ranks, nat_cmp_is}
use Rattle.std.specs.List.{AllByRecursion}
use Rattle.std.specs.List.Sorted.{IsStrictlySortedBy}
use Rattle.std.specs.Ordering.{nat_cmp, ordering_then, is_eq, is_le, MatchOrdering}
use Rattle.std.specs.declared.cmp.Ordering.{Ordering}
use Rattle.std.specs.declared.cmp.Ordering.TheVariants.{Less, Equal, Greater}
use Rattle.std.specs.declared.ops.Bound.TheVariants.{Included, Unbounded}
use Rattle.block_records.specs.Marks.{mark_cmp, is_for, marks_for, marks_but, without_mark, without_marks}
use Rattle.block_records.specs.declared.mark.Mark.{Mark}
use Rattle.block_records.proofs.Numbers.{number_is}

-- ---- numbers

apart : (a b : ℕ) → (a ≢ b) → (a == b) ≡ false
apart a b other = by (a == b) refl
  where
    by : (t : Bool) → (a == b) ≡ t → t ≡ false
    by true e = absurd (other (eqb-true a b e))
    by false e = refl

level : (x y : ℕ) → x ≡ y → nat_cmp x y ≡ Equal
level x y e = sym (nat_cmp_is x y Equal e)

zero_first : (x k : ℕ) (o : Ordering) → x ≡ 0 → is_le o ≡ true → is_le (ordering_then (nat_cmp x k) o) ≡ true
zero_first x k o zero h = by (nat_cmp x k) (ranks x k)
  where
    by : (r : Ordering) → MatchOrdering r (x < k) (x ≡ k) (k < x) → is_le (ordering_then r o) ≡ true
    by Less l = refl
    by Equal l = h
    by Greater l = let q : k < x = l in absurd (omega (arith, q, zero))

zero_last : (x k : ℕ) → x ≡ 0 → is_le (nat_cmp x k) ≡ true
zero_last x k zero = by (nat_cmp x k) (ranks x k)
  where
    by : (r : Ordering) → MatchOrdering r (x < k) (x ≡ k) (k < x) → is_le r ≡ true
    by Less l = refl
    by Equal l = refl
    by Greater l = let q : k < x = l in absurd (omega (arith, q, zero))

-- what isn't below in its order isn't below in its first part
first_part : (x y : ℕ) (o : Ordering) → is_le (ordering_then (nat_cmp x y) o) ≡ true → x ≤ y
first_part x y o h = by (nat_cmp x y) (ranks x y) h
  where
    by : (r : Ordering) → MatchOrdering r (x < y) (x ≡ y) (y < x) → is_le (ordering_then r o) ≡ true → x ≤ y
    by Less l e = let q : x < y = l in omega (arith, q)
    by Equal l e = let q : x ≡ y = l in omega (arith, q)
    by Greater l e = cc

-- ---- marks in their order

each : {P Q : Mark → Type 0} → ((mark : Mark) → P mark → Q mark) → (marks : List Mark) → AllByRecursion P marks → AllByRecursion Q marks
each f [] h = tt
each f (mark ∷ marks) h = (f mark h.0, each f marks h.1)

none_for : (node : ℕ) (marks : List Mark) → AllByRecursion (λ mark. node < mark.node) marks → marks_for node marks ≡ []
none_for node [] above = refl
none_for node (mark ∷ marks) above =
    let less : node < mark.node = above.0 in
    ap (λ b. cond b (mark ∷ marks_for node marks) (marks_for node marks)) (apart mark.node node (λ e. omega (arith, less, e))) ∙ none_for node marks above.1

-- behind a mark of a later node there is none of this one
pub none_behind : (node : ℕ) (mark : Mark) (marks : List Mark) → IsStrictlySortedBy mark_cmp (mark ∷ marks) → node ≤ mark.node → (mark.node ≢ node) → marks_for node (mark ∷ marks) ≡ []
none_behind node mark marks sorted from other =
    let less : node < mark.node = by_cases in
    none_for node (mark ∷ marks) (less, each (λ later is. over less later is) marks (sorted_head mark_cmp mark marks sorted))
  where
    by_cases : node < mark.node
    by_cases = omega (arith, from, other)

    over : node < mark.node → (later : Mark) → mark_cmp mark later ≡ Less → node < later.node
    over less later is =
        let part : mark.node ≤ later.node = first_part mark.node later.node _ (ap is_le is) in
        omega (arith, less, part)

module _ (node : ℕ) (first : Mark) (at : first.node ≡ node) (block : first.block ≡ 0) (stamp : first.stamp ≡ 0) where
  abbrev pub starts : Mark → Bool
  starts mark = range_contains mark_cmp (Included first) Unbounded mark

  begins : (mark : Mark) → is_for node mark ≡ true → starts mark ≡ true
  begins mark is =
      let rest : Ordering = ordering_then (nat_cmp first.block mark.block) (nat_cmp first.stamp mark.stamp) in
      let low : is_le rest ≡ true = zero_first first.block mark.block (nat_cmp first.stamp mark.stamp) block (zero_last first.stamp mark.stamp stamp) in
      let same : first.node ≡ mark.node = at ∙ sym (eqb-true mark.node node is) in
      ap (λ b. b && true) (ap (λ o. is_le (ordering_then o rest)) (level first.node mark.node same) ∙ low)

  not_before : (mark : Mark) → starts mark ≡ true → node ≤ mark.node
  not_before mark is =
      let part : first.node ≤ mark.node = first_part first.node mark.node (ordering_then (nat_cmp first.block mark.block) (nat_cmp first.stamp mark.stamp)) (front (is_le (mark_cmp first mark)) is) in
      omega (arith, part, at)
    where
      front : (b : Bool) → (b && true) ≡ true → b ≡ true
      front true e = refl
      front false e = cc

  pub from_first : (marks : List Mark) → marks_for node (filter starts marks) ≡ marks_for node marks
  from_first [] = refl
  from_first (mark ∷ marks) = by (starts mark) refl (is_for node mark) refl (from_first marks)
    where
      rest : List Mark
      rest = filter starts marks

      by : (s : Bool) → starts mark ≡ s → (b : Bool) → is_for node mark ≡ b → marks_for node rest ≡ marks_for node marks
          → marks_for node (cond s (mark ∷ rest) rest) ≡ cond b (mark ∷ marks_for node marks) (marks_for node marks)
      by true p true q e = ap (λ c. cond c (mark ∷ marks_for node rest) (marks_for node rest)) q ∙ ap (λ l. mark ∷ l) e
      by true p false q e = ap (λ c. cond c (mark ∷ marks_for node rest) (marks_for node rest)) q ∙ e
      by false p true q e = absurd (never (sym p ∙ begins mark q))
        where
          never : false ≡ true → ⊥
          never n = cc
      by false p false q e = e

  pub all_from : (marks : List Mark) → AllByRecursion (λ mark. node ≤ mark.node) (filter starts marks)
  all_from [] = tt
  all_from (mark ∷ marks) = by (starts mark) refl (all_from marks)
    where
      by : (s : Bool) → starts mark ≡ s → AllByRecursion (λ later. node ≤ later.node) (filter starts marks) → AllByRecursion (λ later. node ≤ later.node) (cond s (mark ∷ filter starts marks) (filter starts marks))
      by true p rest = (not_before mark p, rest)
      by false p rest = rest

-- ---- without them

both_equal : (a b : Ordering) → is_eq (ordering_then a b) ≡ true → (is_eq a ≡ true) × (is_eq b ≡ true)
both_equal Less b h = cc
both_equal Equal b h = (refl, h)
both_equal Greater b h = cc

leveled : (mark other : Mark) → mark.node ≡ other.node → mark.block ≡ other.block → mark.stamp ≡ other.stamp → mark_cmp mark other ≡ Equal
leveled mark other n b s =
    ap (λ o. ordering_then o (ordering_then (nat_cmp mark.block other.block) (nat_cmp mark.stamp other.stamp))) (level mark.node other.node n)
    ∙ ap (λ o. ordering_then o (nat_cmp mark.stamp other.stamp)) (level mark.block other.block b)
    ∙ level mark.stamp other.stamp s

itself : (mark : Mark) → is_at (mark_cmp mark) mark ≡ true
itself mark = ap is_eq (leveled mark mark refl refl refl)

not_first : (mark later : Mark) → mark_cmp mark later ≡ Less → is_at (mark_cmp later) mark ≡ false
not_first mark later less = by (is_at (mark_cmp later) mark) refl
  where
    never : Less ≡ Equal → ⊥
    never e = cc

    by : (t : Bool) → is_at (mark_cmp later) mark ≡ t → t ≡ false
    by true e =
        let parts = both_equal (nat_cmp later.node mark.node) (ordering_then (nat_cmp later.block mark.block) (nat_cmp later.stamp mark.stamp)) e in
        let more = both_equal (nat_cmp later.block mark.block) (nat_cmp later.stamp mark.stamp) parts.1 in
        absurd (never (sym less ∙ leveled mark later (sym (number_is later.node mark.node parts.0)) (sym (number_is later.block mark.block more.0)) (sym (number_is later.stamp mark.stamp more.1))))
    by false e = refl

kept_all : (P : Mark → Type 0) (test : Mark → Bool) (marks : List Mark) → AllByRecursion P marks → AllByRecursion P (filter test marks)
kept_all P test [] h = tt
kept_all P test (mark ∷ marks) h = by (test mark) (kept_all P test marks h.1)
  where
    by : (b : Bool) → AllByRecursion P (filter test marks) → AllByRecursion P (cond b (mark ∷ filter test marks) (filter test marks))
    by true rest = (h.0, rest)
    by false rest = rest

-- a later mark isn't the first
later_stays : (mark : Mark) (marks gone : List Mark) → AllByRecursion (λ later. is_at (mark_cmp later) mark ≡ false) gone → without_marks (mark ∷ marks) gone ≡ mark ∷ without_marks marks gone
later_stays mark marks [] h = refl
later_stays mark marks (later ∷ gone) h =
    ap (λ b. without_marks (cond b marks (mark ∷ without_mark marks later)) gone) h.0 ∙ later_stays mark (without_mark marks later) gone h.1

-- without the marks of a node, those of all others are left
pub taken_out : (node : ℕ) (marks : List Mark) → IsStrictlySortedBy mark_cmp marks → without_marks marks (marks_for node marks) ≡ marks_but node marks
taken_out node [] sorted = refl
taken_out node (mark ∷ marks) sorted = by (is_for node mark) (taken_out node marks (sorted_tail mark_cmp mark marks sorted))
  where
    gone : List Mark
    gone = marks_for node marks

    others : AllByRecursion (λ later. is_at (mark_cmp later) mark ≡ false) gone
    others = kept_all (λ later. is_at (mark_cmp later) mark ≡ false) (is_for node) marks (each (λ later less. not_first mark later less) marks (sorted_head mark_cmp mark marks sorted))

    by : (b : Bool) → without_marks marks gone ≡ marks_but node marks → without_marks (mark ∷ marks) (cond b (mark ∷ gone) gone) ≡ cond (not b) (mark ∷ marks_but node marks) (marks_but node marks)
    by true rest = ap (λ b. without_marks (cond b marks (mark ∷ without_mark marks mark)) gone) (itself mark) ∙ rest
    by false rest = later_stays mark marks gone others ∙ ap (λ l. mark ∷ l) rest
