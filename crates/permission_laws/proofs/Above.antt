-- Paths above others.
use Rattle.std.proofs.Common.{◌≡◌, ℕ, zero, suc, true, ◌&&◌, ◌||◌, List, [], ◌∷◌, take, refl, sym, ap, ◌∙◌, Less}
use Rattle.std.specs.Ordering.{ordering_then}
use Rattle.hdfs_values.specs.Text.{same, text_cmp}
use Rattle.hdfs_values.proofs.Texts.{same_is, same_self}
use Rattle.file_paths.specs.Path.{is_prefix, is_beneath}
use Rattle.file_paths.specs.PathOrder.{path_cmp}
use Rattle.namespace_rows.proofs.Tests.{both, and}
use Rattle.flat_rows.proofs.Moves.{front_itself}

pub above_less : (p a : List (List ℕ)) → is_beneath p a ≡ true → path_cmp a p ≡ Less
above_less [] a h = cc
above_less (n ∷ ns) [] h = refl
above_less (n ∷ ns) (m ∷ ms) h =
    let hs = both (same n m) (is_beneath ns ms) h in
    ap (λ o. ordering_then o (path_cmp ms ns)) (ap (text_cmp m) (same_is n m hs.0) ∙ front_itself m) ∙ above_less ns ms hs.1

pub above_above : (p q r : List (List ℕ)) → is_beneath p q ≡ true → is_beneath q r ≡ true → is_beneath p r ≡ true
above_above [] q r h k = cc
above_above (n ∷ ns) [] r h k = cc
above_above (n ∷ ns) (m ∷ ms) [] h k = refl
above_above (n ∷ ns) (m ∷ ms) (o ∷ os) h k =
    let hs = both (same n m) (is_beneath ns ms) h in
    let ks = both (same m o) (is_beneath ms os) k in
    and _ _ (ap (λ t. same t o) (same_is n m hs.0) ∙ ks.0) (above_above ns ms os hs.1 ks.1)

-- above what is at or above a path
pub above_front : (p q r : List (List ℕ)) → is_prefix q p ≡ true → is_beneath q r ≡ true → is_beneath p r ≡ true
above_front p [] r h k = cc
above_front [] (m ∷ ms) r h k = cc
above_front (n ∷ ns) (m ∷ ms) [] h k = refl
above_front (n ∷ ns) (m ∷ ms) (o ∷ os) h k =
    let hs = both (same m n) (is_prefix ms ns) h in
    let ks = both (same m o) (is_beneath ms os) k in
    and _ _ (ap (λ t. same t o) (sym (same_is m n hs.0)) ∙ ks.0) (above_front ns ms os hs.1 ks.1)

-- of two paths above one, either is at or above the other, or beneath it
pub comparable : (p a b : List (List ℕ)) → is_beneath p a ≡ true → is_beneath p b ≡ true → (is_prefix a b || is_beneath a b) ≡ true
comparable [] a b h k = cc
comparable (n ∷ ns) [] b h k = refl
comparable (n ∷ ns) (m ∷ ms) [] h k = refl
comparable (n ∷ ns) (m ∷ ms) (o ∷ os) h k =
    let hs = both (same n m) (is_beneath ns ms) h in
    let ks = both (same n o) (is_beneath ns os) k in
    let one : same m o ≡ true = ap (λ t. same t o) (sym (same_is n m hs.0)) ∙ ks.0 in
    ap (λ s. (s && is_prefix ms os) || (s && is_beneath ms os)) one ∙ comparable ns ms os hs.1 ks.1

pub front_comparable : (p e d : List (List ℕ)) → is_prefix p e ≡ true → is_beneath e d ≡ true → (is_prefix p d || is_beneath p d) ≡ true
front_comparable [] e d h k = refl
front_comparable (n ∷ ns) [] d h k = cc
front_comparable (n ∷ ns) (m ∷ ms) [] h k = refl
front_comparable (n ∷ ns) (m ∷ ms) (o ∷ os) h k =
    let hs = both (same n m) (is_prefix ns ms) h in
    let ks = both (same m o) (is_beneath ms os) k in
    let one : same n o ≡ true = ap (λ t. same t o) (same_is n m hs.0) ∙ ks.0 in
    ap (λ s. (s && is_prefix ns os) || (s && is_beneath ns os)) one ∙ front_comparable ns ms os hs.1 ks.1

pub above_is_front : (p a : List (List ℕ)) → is_beneath p a ≡ true → is_prefix a p ≡ true
above_is_front [] a h = cc
above_is_front (n ∷ ns) [] h = refl
above_is_front (n ∷ ns) (m ∷ ms) h =
    let hs = both (same n m) (is_beneath ns ms) h in
    and _ _ (ap (λ t. same m t) (same_is n m hs.0) ∙ same_self m) (above_is_front ns ms hs.1)

pub take_is_front : (k : ℕ) (p : List (List ℕ)) → is_prefix (take k p) p ≡ true
take_is_front zero p = refl
take_is_front (suc k) [] = refl
take_is_front (suc k) (n ∷ ns) = and _ _ (same_self n) (take_is_front k ns)
