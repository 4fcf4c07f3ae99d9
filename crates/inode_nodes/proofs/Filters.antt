-- A filter over a directory's rows, name by name.
use Rattle.std.proofs.Common.{◌≡◌, ℕ, Ordering, Less, Equal, Greater, Bool, true, false, not, List, [], ◌∷◌, ◌++◌, map, cond, refl, sym, ap, ◌∙◌}
use Rattle.std.proofs.lemmas.Cmp.{nat_list_cmp_total}
use Rattle.std.proofs.lemmas.List.Elements.{filter-append}
use Rattle.std.specs.Cmp.{tied_itself}
use Rattle.std.specs.List.{filter}
use Rattle.file_paths.specs.Path.{is_prefix}
use Rattle.file_paths.specs.PathOrder.{same_path}
use Rattle.namespace_rows.specs.declared.row.Row.{Row}
use Rattle.namespace_rows.specs.Rows.{is_before, is_beyond}
use Rattle.inode_nodes.specs.Node.{Node, flatten, rows, under}
use Rattle.inode_nodes.specs.Part.{Splits}
use Rattle.inode_nodes.proofs.Split.{R, Side}

abbrev pub Entries : Type 0
Entries = List (List ℕ × Node)

pub append_rows : (a b c : List Row) → (a ++ b) ++ c ≡ a ++ (b ++ c)
append_rows [] b c = refl
append_rows (x ∷ a) b c = ap (λ t. x ∷ t) (append_rows a b c)

pub flatten-append : (a b : Entries) → flatten (a ++ b) ≡ flatten a ++ flatten b
flatten-append [] b = refl
flatten-append (e ∷ a) b = ap (λ t. map (under e.0) (rows e.1) ++ t) (flatten-append a b) ∙ sym (append_rows (map (under e.0) (rows e.1)) (flatten a) (flatten b))

pub filter-map : (p q : Row → Bool) (f : Row → Row) → ((r : Row) → p (f r) ≡ q r) → (rs : List Row) → filter p (map f rs) ≡ map f (filter q rs)
filter-map p q f h [] = refl
filter-map p q f h (r ∷ rs) = rw (h r) (by (q r) (filter-map p q f h rs))
  where
    by : (b : Bool) → filter p (map f rs) ≡ map f (filter q rs) → cond b (f r ∷ filter p (map f rs)) (filter p (map f rs)) ≡ map f (cond b (r ∷ filter q rs) (filter q rs))
    by true e = ap (λ t. f r ∷ t) e
    by false e = e

abbrev pub pick : Bool → List Row → List Row
pick true rs = rs
pick false rs = []

-- entries on one side of a name pass together, or fail
module _ (p : Row → Bool) where
  map_picked : (b : Bool) (f : Row → Row) → ((r : Row) → p (f r) ≡ b) → (rs : List Row) → filter p (map f rs) ≡ pick b (map f rs)
  map_picked true f h [] = refl
  map_picked true f h (r ∷ rs) = rw (h r) (ap (λ t. f r ∷ t) (map_picked true f h rs))
  map_picked false f h [] = refl
  map_picked false f h (r ∷ rs) = rw (h r) (map_picked false f h rs)

  both_picked : (b : Bool) (x y : List Row) → pick b x ++ pick b y ≡ pick b (x ++ y)
  both_picked true x y = refl
  both_picked false x y = refl

  none_picked : (b : Bool) → [] ≡ pick b []
  none_picked true = refl
  none_picked false = refl

  side_picked : (b : Bool) (o : Ordering) (n : List ℕ) → ((m : List ℕ) (r : Row) → R n m ≡ o → p (under m r) ≡ b) → (es : Entries) → Side o n es → filter p (flatten es) ≡ pick b (flatten es)
  side_picked b o n h [] s = none_picked b
  side_picked b o n h (e ∷ es) s =
      filter-append p (map (under e.0) (rows e.1)) (flatten es)
      ∙ rw (map_picked b (under e.0) (λ r. h e.0 r s.0) (rows e.1), side_picked b o n h es s.1) (both_picked b (map (under e.0) (rows e.1)) (flatten es))

pub filter-flatten : (p q : Row → Bool) (n : List ℕ) (low high : Bool) → Splits p q n low high → (es fs : Entries) (b : Node) → Side Greater n es → Side Less n fs
    → filter p (flatten (es ++ ((n, b) ∷ fs))) ≡ pick low (flatten es) ++ (map (under n) (filter q (rows b)) ++ pick high (flatten fs))
filter-flatten p q n low high h es fs b s t =
    ap (filter p) (flatten-append es ((n, b) ∷ fs)) ∙ filter-append p (flatten es) (map (under n) (rows b) ++ flatten fs)
    ∙ rw (side_picked p low Greater n h.lows es s) (ap (λ l. pick low (flatten es) ++ l) (filter-append p (map (under n) (rows b)) (flatten fs) ∙ rw (side_picked p high Less n h.highs fs t, filter-map p q (under n) h.here (rows b)) refl))

pub filter-missing : (p q : Row → Bool) (n : List ℕ) (low high : Bool) → Splits p q n low high → (es fs : Entries) → Side Greater n es → Side Less n fs
    → filter p (flatten (es ++ fs)) ≡ pick low (flatten es) ++ pick high (flatten fs)
filter-missing p q n low high h es fs s t =
    ap (filter p) (flatten-append es fs) ∙ filter-append p (flatten es) (flatten fs) ∙ rw (side_picked p low Greater n h.lows es s, side_picked p high Less n h.highs fs t) refl

-- the tests on a path

pub self : (n : List ℕ) → R n n ≡ Equal
self n = tied_itself nat_list_cmp_total n

pub before-splits : (n : List ℕ) (ns : List (List ℕ)) → Splits (is_before (n ∷ ns)) (is_before ns) n true false
before-splits n ns = record { lows = λ m r h. rw h refl; highs = λ m r h. rw h refl; here = λ r. rw (self n) refl }

pub beyond-splits : (n : List ℕ) (ns : List (List ℕ)) → Splits (is_beyond (n ∷ ns)) (is_beyond ns) n false true
beyond-splits n ns = record { lows = λ m r h. rw h refl; highs = λ m r h. rw h refl; here = λ r. rw (self n) refl }

-- the row is at or beneath the path
abbrev pub inside : List (List ℕ) → Row → Bool
inside path row = is_prefix path row.path

pub inside-splits : (n : List ℕ) (ns : List (List ℕ)) → Splits (inside (n ∷ ns)) (inside ns) n false false
inside-splits n ns = record { lows = λ m r h. rw h refl; highs = λ m r h. rw h refl; here = λ r. rw (self n) refl }

abbrev pub outside : List (List ℕ) → Row → Bool
outside path row = not (is_prefix path row.path)

pub outside-splits : (n : List ℕ) (ns : List (List ℕ)) → Splits (outside (n ∷ ns)) (outside ns) n true true
outside-splits n ns = record { lows = λ m r h. rw h refl; highs = λ m r h. rw h refl; here = λ r. rw (self n) refl }

abbrev pub standing : List (List ℕ) → Row → Bool
standing path row = same_path path row.path

pub standing-splits : (n : List ℕ) (ns : List (List ℕ)) → Splits (standing (n ∷ ns)) (standing ns) n false false
standing-splits n ns = record { lows = λ m r h. rw h refl; highs = λ m r h. rw h refl; here = λ r. rw (self n) refl }
