-- The order of paths beside prefixes: what stands before a path, what is_prefix with it, and what stands beyond.
use Rattle.std.proofs.Common.{◌≡◌, ℕ, true, false, ◌&&◌, List, [], ◌∷◌, refl, sym, ap, ◌∙◌, Ordering, Less, Equal, Greater, is_eq}
use Rattle.std.specs.Cmp.{IsTotalOrder}
use Rattle.std.specs.Ordering.{is_gt, is_lt, ordering_reverse, ordering_then}
use Rattle.std.proofs.lemmas.Cmp.{nat_list_cmp_total}
use Rattle.hdfs_values.specs.Text.{text_cmp, same}
use Rattle.file_paths.specs.Path.{is_prefix}
use Rattle.file_paths.specs.PathOrder.{path_cmp, same_path, paths_total}
use Rattle.hdfs_values.proofs.Texts.{same_is}
use Rattle.namespace_rows.specs.Namespace.{is_child}
use Rattle.namespace_rows.proofs.Tests.{both, and, and_false}

equal_is : (o : Ordering) → is_eq o ≡ true → o ≡ Equal
equal_is Less h = cc
equal_is Equal h = refl
equal_is Greater h = cc

pub less_is : (o : Ordering) → is_lt o ≡ true → o ≡ Less
less_is Less h = refl
less_is Equal h = cc
less_is Greater h = cc

pub greater_is : (o : Ordering) → is_gt o ≡ true → o ≡ Greater
greater_is Less h = cc
greater_is Equal h = cc
greater_is Greater h = refl

pub starts_upto : (p b : List (List ℕ)) → is_prefix p b ≡ true → is_gt (path_cmp p b) ≡ false
starts_upto [] [] h = refl
starts_upto [] (m ∷ ms) h = refl
starts_upto (n ∷ ns) [] h = cc
starts_upto (n ∷ ns) (m ∷ ms) h =
    let parts = both (same n m) (is_prefix ns ms) h in
    let tied : text_cmp n m ≡ Equal = equal_is (text_cmp n m) parts.0 in
    ap (λ o. is_gt (ordering_then o (path_cmp ns ms))) tied ∙ starts_upto ns ms parts.1

pub tied_starts : (p b : List (List ℕ)) → path_cmp p b ≡ Equal → is_prefix p b ≡ true
tied_starts [] b h = refl
tied_starts (n ∷ ns) [] h = cc
tied_starts (n ∷ ns) (m ∷ ms) h = by_head (text_cmp n m) refl h (tied_starts ns ms)
  where
    by_head : (o : Ordering) → text_cmp n m ≡ o → ordering_then o (path_cmp ns ms) ≡ Equal → (path_cmp ns ms ≡ Equal → is_prefix ns ms ≡ true) → is_prefix (n ∷ ns) (m ∷ ms) ≡ true
    by_head Less e k rest = cc
    by_head Equal e k rest = and _ _ (ap is_eq e) (rest k)
    by_head Greater e k rest = cc

-- a lesser one, and then one that isn't less
pub less_upto : {K : Type 0} {R : K → K → Ordering} → IsTotalOrder R → (x y z : K) → R x y ≡ Less → is_gt (R y z) ≡ false → R x z ≡ Less
less_upto {K} {R} total x y z low upto = by_step (R y z) refl upto
  where
    by_step : (o : Ordering) → R y z ≡ o → is_gt o ≡ false → R x z ≡ Less
    by_step Less e k = total.trans x y z low e
    by_step Equal e k = total.antisymm x z ∙ ap ordering_reverse (sym (total.congr y z x e)) ∙ sym (total.antisymm x y) ∙ low
    by_step Greater e k = cc

pub greater_back : (p q : List (List ℕ)) → path_cmp p q ≡ Greater → path_cmp q p ≡ Less
greater_back p q h = paths_total.antisymm q p ∙ ap ordering_reverse h

-- what stands beyond a path stands behind all that is_prefix with it
pub beyond_starts : (p y b : List (List ℕ)) → path_cmp p y ≡ Less → is_prefix p y ≡ false → is_prefix p b ≡ true → path_cmp b y ≡ Less
beyond_starts [] y b low apart h = cc
beyond_starts (n ∷ ns) [] b low apart h = cc
beyond_starts (n ∷ ns) (k ∷ ks) [] low apart h = cc
beyond_starts (n ∷ ns) (k ∷ ks) (m ∷ ms) low apart h = by_head (text_cmp n k) refl low apart (beyond_starts ns ks ms)
  where
    parts : (same n m ≡ true) × (is_prefix ns ms ≡ true)
    parts = both (same n m) (is_prefix ns ms) h

    moved : text_cmp n k ≡ text_cmp m k
    moved = nat_list_cmp_total.congr n m k (equal_is (text_cmp n m) parts.0)

    by_head : (o : Ordering) → text_cmp n k ≡ o → ordering_then o (path_cmp ns ks) ≡ Less → (is_eq o && is_prefix ns ks) ≡ false
        → (path_cmp ns ks ≡ Less → is_prefix ns ks ≡ false → is_prefix ns ms ≡ true → path_cmp ms ks ≡ Less) → ordering_then (text_cmp m k) (path_cmp ms ks) ≡ Less
    by_head Less e l a rest = ap (λ o. ordering_then o (path_cmp ms ks)) (sym moved ∙ e)
    by_head Equal e l a rest = ap (λ o. ordering_then o (path_cmp ms ks)) (sym moved ∙ e) ∙ rest l a parts.1
    by_head Greater e l a rest = cc

-- what the parent is_prefix with, its child is_prefix with
pub child_starts : (r a p : List (List ℕ)) → is_child r a ≡ true → is_prefix p a ≡ true → is_prefix p r ≡ true
child_starts r a [] c s = refl
child_starts r [] (q ∷ qs) c s = cc
child_starts [] (m ∷ ms) (q ∷ qs) c s = cc
child_starts (n ∷ ns) (m ∷ ms) (q ∷ qs) c s =
    let cs = both (same n m) (is_child ns ms) c in
    let ss = both (same q m) (is_prefix qs ms) s in
    and _ _ (ap (same q) (same_is n m cs.0) ∙ ss.0) (child_starts ns ms qs cs.1 ss.1)

pub child_apart : (p a : List (List ℕ)) → is_child p a ≡ true → is_prefix p a ≡ false
child_apart [] a c = cc
child_apart (n ∷ ns) [] c = refl
child_apart (n ∷ ns) (m ∷ ms) c =
    let cs = both (same n m) (is_child ns ms) c in
    ap (λ b. same n m && b) (child_apart ns ms cs.1) ∙ and_false (same n m)

pub same_path_is : (p q : List (List ℕ)) → same_path p q ≡ true → p ≡ q
same_path_is [] [] h = refl
same_path_is [] (m ∷ ms) h = cc
same_path_is (n ∷ ns) [] h = cc
same_path_is (n ∷ ns) (m ∷ ms) h = by_head (text_cmp n m) refl h (same_path_is ns ms)
  where
    joined : n ≡ m → ns ≡ ms → (n ∷ ns) ≡ (m ∷ ms)
    joined e f = cc

    by_head : (o : Ordering) → text_cmp n m ≡ o → is_eq (ordering_then o (path_cmp ns ms)) ≡ true → (is_eq (path_cmp ns ms) ≡ true → ns ≡ ms) → (n ∷ ns) ≡ (m ∷ ms)
    by_head Less e k rest = cc
    by_head Equal e k rest = joined (same_is n m (ap is_eq e)) (rest k)
    by_head Greater e k rest = cc
