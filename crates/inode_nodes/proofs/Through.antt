-- What a call on a child says of its directory.
use Rattle.std.proofs.Common.{◌≡◌, ℕ, Bool, true, false, ◌&&◌, ◌||◌, IsTrue, length, arith, List, [], ◌∷◌, ◌++◌, map, cond, Option, Some, None, Result, Ok, Err, IfOk, OnOk, OnErr, refl, sym, ap, ◌∙◌, subst}
use Rattle.std.specs.List.{filter, list_any}
use Rattle.std.specs.Map.{lookup, set_value, remove_entry}
use Rattle.std.proofs.lemmas.Bool.{false≢true}
use Rattle.std.specs.BTreeMap.{BTreeMap, insert_entry}
use Rattle.std.proofs.lemmas.List.{map-append}
use Rattle.file_paths.specs.PathOrder.{same_path}
use Rattle.std.proofs.lemmas.Map.Steps.{set_value_same}
use Rattle.std.specs.Option.{option_copied_mut}
use Rattle.std.specs.Borrow.{MutBor}
use Rattle.namespace_rows.specs.declared.file_row.FileRow.{FileRow}
use Rattle.namespace_rows.specs.declared.row.Row.{Row}
use Rattle.namespace_rows.specs.First.{first}
use Rattle.namespace_rows.specs.Rows.{is_directory, is_none, is_missing}
use Rattle.namespace_rows.specs.Namespace.{is_child, has_parent}
use Rattle.namespace_rows.specs.declared.row.Change.{Change}
use Rattle.namespace_rows.specs.Changes.{without, with_change, row_rewritten}
use Rattle.inode_nodes.specs.Kept.{branch_of, rows_in, IsSorted}
use Rattle.inode_nodes.specs.declared.node.Held.{Held}
use Rattle.inode_nodes.specs.declared.node.Held.TheVariants.{File, Directory}
use Rattle.inode_nodes.specs.declared.node.Node.TheInside.{Inside}
use Rattle.inode_nodes.specs.Node.{Node, Top, flatten, rows, rows_or, row_of, top_of, under, with_rows}
use Rattle.inode_nodes.specs.Part.{Splits, IsPart, IsWhole}
use Rattle.inode_nodes.specs.Change.{branch_grafted, holds_parent}
use Rattle.inode_nodes.proofs.Split.{R, at}
use Rattle.inode_nodes.proofs.Filters.{Entries, self, standing, standing-splits}
use Rattle.inode_nodes.proofs.Parts.{part-lookup, whole_at, whole_itself}
use Rattle.inode_nodes.proofs.Levels.{IsLevel, Sorted, set_entry, missing_entry, grafted-level, grafted_top, put_entry, cut_entry, without-level, IsPathless, rewritten_by, rewritten-level, rewritten-kept}

pub on_ok : {T E : Type 0} {P Q : Type 0} (r : Result T E) → (P → Q) → OnOk r P → OnOk r Q
on_ok (Ok x) f h = f h
on_ok (Err e) f h = h

pub if_ok : {T E : Type 0} {P Q : T → Type 0} (r : Result T E) → ((x : T) → P x → Q x) → IfOk r P → IfOk r Q
if_ok (Ok x) f h = f x h
if_ok (Err e) f h = h

pub on_err : {T E : Type 0} {P Q : Type 0} (r : Result T E) → (P → Q) → OnErr r P → OnErr r Q
on_err (Ok x) f h = h
on_err (Err e) f h = f h

pub found_mut : {X : Type 0} (r : Option (MutBor X)) (x : MutBor X) (o : Option X) → r ≡ Some x → option_copied_mut r ≡ o → o ≡ Some x.now
found_mut r x o is value = sym value ∙ ap option_copied_mut is

pub missed_mut : {X : Type 0} (r : Option (MutBor X)) (o : Option X) → r ≡ None → option_copied_mut r ≡ o → o ≡ None
missed_mut r o is value = sym value ∙ ap option_copied_mut is

pub no_names : (names : List (List ℕ)) → length names ≡ 0 → names ≡ []
no_names [] h = refl
no_names (n ∷ ns) h = absurd (omega (arith, h))

pub held_sorted : (h : Held) (m : BTreeMap (List ℕ) Node) → h ≡ Directory m → IsSorted h → Sorted m.entries
held_sorted h m is s = subst IsSorted is s

-- a child that was given back as it was
pub same_through : (n : List ℕ) (b c : Node) (es fs : Entries) → lookup (at n) es ≡ Some b → c ≡ b → fs ≡ set_value (at n) es c → flatten fs ≡ flatten es
same_through n b c es fs found same written = ap flatten (written ∙ ap (set_value (at n) es) same ∙ set_value_same (at n) es b found)

-- a child that was changed at a longer path
pub level_through : (f g : List Row → List Row) (n : List ℕ) → IsLevel n f g → ((t : Top) (rs : List Row) → g (row_of [] t ∷ rs) ≡ row_of [] t ∷ g rs) → (b c : Node) (es fs : Entries) → Sorted es → lookup (at n) es ≡ Some b
    → c ≡ with_rows b (g b.beneath) → fs ≡ set_value (at n) es c → flatten fs ≡ f (flatten es)
level_through f g n d top b c es fs sorted found changed written =
    ap flatten written ∙ set_entry f g n d es b c sorted found (ap rows changed ∙ sym (top b.top b.beneath))

-- tests that some row passes

abbrev some_row : List Row → Bool
some_row [] = false
some_row (row ∷ rows) = true

any_some : (p : Row → Bool) (rs : List Row) → list_any p rs ≡ some_row (filter p rs)
any_some p [] = refl
any_some p (r ∷ rs) = by (p r) (any_some p rs)
  where
    by : (b : Bool) → list_any p rs ≡ some_row (filter p rs) → (b || list_any p rs) ≡ some_row (cond b (r ∷ filter p rs) (filter p rs))
    by true e = refl
    by false e = e

some_map : (f : Row → Row) (rs : List Row) → some_row (map f rs) ≡ some_row rs
some_map f [] = refl
some_map f (r ∷ rs) = refl

pub any_part : (p q : Row → Bool) (n : List ℕ) (rs : List Row) (o : Option Node) → Splits p q n false false → IsPart n rs o → list_any p rs ≡ list_any q (rows_or o)
any_part p q n rs o splits part = any_some p rs ∙ ap some_row (part.seen p q splits) ∙ some_map (under n) (filter q (rows_or o)) ∙ sym (any_some q (rows_or o))

-- the directory that holds the path
abbrev pub holding : List (List ℕ) → Row → Bool
holding path row = is_child path row.path && is_directory row

pub holding-splits : (n m : List ℕ) (ms : List (List ℕ)) → Splits (holding (n ∷ m ∷ ms)) (holding (m ∷ ms)) n false false
holding-splits n m ms = record { lows = λ o r h. rw h refl; highs = λ o r h. rw h refl; here = λ r. rw (self n) refl }

-- putting

pub parent_held : (above : List (List ℕ)) (name : List ℕ) (b : Node) → IsTrue (has_parent (above ++ name ∷ []) (rows b)) → IsTrue (holds_parent above name b.beneath)
parent_held [] name b h = refl
parent_held (n ∷ []) name b h = h
parent_held (n ∷ m ∷ ms) name b h = h

pub held_parent : (above : List (List ℕ)) (name : List ℕ) (i : Inside) (m : BTreeMap (List ℕ) Node) (b : Node) → branch_of i ≡ b → i.held ≡ Directory m → IsTrue (has_parent (above ++ name ∷ []) (rows b))
    → IsTrue (holds_parent above name (flatten m.entries))
held_parent above name i m b seen is h =
    subst (λ x. IsTrue (holds_parent above name (rows_in x))) is (subst (λ x. IsTrue (holds_parent above name x.beneath)) (sym seen) (parent_held above name b h))

pub file_holds_none : (above : List (List ℕ)) (name : List ℕ) (i : Inside) (place : ℕ) (b : Node) → branch_of i ≡ b → i.held ≡ File place → IsTrue (has_parent (above ++ name ∷ []) (rows b)) → ⊥
file_holds_none above name i place b seen is h = go above (subst (λ x. IsTrue (has_parent (above ++ name ∷ []) (rows (branch_of (record i { held = x }))))) is (subst (λ x. IsTrue (has_parent (above ++ name ∷ []) (rows x))) (sym seen) h))
  where
    go : (above : List (List ℕ)) → IsTrue (has_parent (above ++ name ∷ []) (rows (branch_of (record i { held = File place })))) → ⊥
    go [] k = false≢true k
    go (n ∷ []) k = false≢true k
    go (n ∷ m ∷ ms) k = false≢true k

parent_at : (n : List ℕ) (ns : List (List ℕ)) (name : List ℕ) (es : Entries) (o : Option Node) → Sorted es → lookup (at n) es ≡ o → holds_parent (n ∷ ns) name (flatten es) ≡ has_parent (ns ++ name ∷ []) (rows_or o)
parent_at n [] name es o sorted found = any_part (holding (n ∷ name ∷ [])) (holding (name ∷ [])) n (flatten es) o (holding-splits n name []) (subst (IsPart n (flatten es)) found (part-lookup n es sorted))
parent_at n (m ∷ ms) name es o sorted found =
    any_part (holding (n ∷ m ∷ (ms ++ name ∷ []))) (holding (m ∷ (ms ++ name ∷ []))) n (flatten es) o (holding-splits n m (ms ++ name ∷ [])) (subst (IsPart n (flatten es)) found (part-lookup n es sorted))

pub child_holds : (n : List ℕ) (ns names : List (List ℕ)) (name : List ℕ) (es : Entries) (o : Option Node) → Sorted es → names ≡ n ∷ ns → lookup (at n) es ≡ o → IsTrue (holds_parent names name (flatten es)) → IsTrue (has_parent (ns ++ name ∷ []) (rows_or o))
child_holds n ns names name es o sorted is found h = subst IsTrue (parent_at n ns name es o sorted found) (subst (λ xs. IsTrue (holds_parent xs name (flatten es))) is h)

pub none_holds : (n : List ℕ) (ns names : List (List ℕ)) (name : List ℕ) (es : Entries) → Sorted es → names ≡ n ∷ ns → lookup (at n) es ≡ None → IsTrue (holds_parent names name (flatten es)) → ⊥
none_holds n ns names name es sorted is found h = false≢true (child_holds n ns names name es None sorted is found h)

-- what has a path

none_map : (f : Row → Row) (rs : List Row) → is_none (first (map f rs)) ≡ is_none (first rs)
none_map f [] = refl
none_map f (r ∷ rs) = refl

pub missing_at : (n : List ℕ) (ns : List (List ℕ)) (es : Entries) (o : Option Node) → Sorted es → lookup (at n) es ≡ o → is_missing (n ∷ ns) (flatten es) ≡ is_missing ns (rows_or o)
missing_at n ns es o sorted found =
    ap (λ l. is_none (first l)) ((part-lookup n es sorted).seen (standing (n ∷ ns)) (standing ns) (standing-splits n ns)) ∙ none_map (under n) (filter (standing ns) (rows_or (lookup (at n) es))) ∙ ap (λ x. is_missing ns (rows_or x)) found

pub held_there : (path : List (List ℕ)) (i : Inside) (m : BTreeMap (List ℕ) Node) (b : Node) → branch_of i ≡ b → i.held ≡ Directory m → is_missing path b.beneath ≡ false → is_missing path (flatten m.entries) ≡ false
held_there path i m b seen is h = subst (λ x. is_missing path (rows_in x) ≡ false) is (subst (λ x. is_missing path x.beneath ≡ false) (sym seen) h)

pub there_within : (ns : List (List ℕ)) (name : List ℕ) (b : Node) → is_missing (ns ++ name ∷ []) (rows b) ≡ false → is_missing (ns ++ name ∷ []) b.beneath ≡ false
there_within [] name b h = h
there_within (m ∷ ms) name b h = h

pub there_beneath : (n : List ℕ) (ns names : List (List ℕ)) (name : List ℕ) (es : Entries) (b : Node) → Sorted es → names ≡ n ∷ ns → lookup (at n) es ≡ Some b → is_missing (names ++ name ∷ []) (flatten es) ≡ false
    → is_missing (ns ++ name ∷ []) b.beneath ≡ false
there_beneath n ns names name es b sorted is found h =
    there_within ns name b (sym (missing_at n (ns ++ name ∷ []) es (Some b) sorted found) ∙ ap (λ xs. is_missing (xs ++ name ∷ []) (flatten es)) (sym is) ∙ h)

pub not_beneath : (n : List ℕ) (ns names : List (List ℕ)) (name : List ℕ) (es : Entries) → Sorted es → names ≡ n ∷ ns → lookup (at n) es ≡ None → is_missing (names ++ name ∷ []) (flatten es) ≡ false → ⊥
not_beneath n ns names name es sorted is found h = false≢true (sym h ∙ ap (λ xs. is_missing (xs ++ name ∷ []) (flatten es)) is ∙ missing_at n (ns ++ name ∷ []) es None sorted found)

pub not_here : (names : List (List ℕ)) (name : List ℕ) (es : Entries) → Sorted es → names ≡ [] → lookup (at name) es ≡ None → is_missing (names ++ name ∷ []) (flatten es) ≡ false → ⊥
not_here names name es sorted is found h = false≢true (sym h ∙ ap (λ xs. is_missing (xs ++ name ∷ []) (flatten es)) is ∙ missing_at name [] es None sorted found)

pub put_top : (above : List (List ℕ)) (name : List ℕ) (new : Node) (t : Top) (rs : List Row) → branch_grafted (above ++ name ∷ []) new (row_of [] t ∷ rs) ≡ row_of [] t ∷ branch_grafted (above ++ name ∷ []) new rs
put_top [] name new t rs = refl
put_top (n ∷ ns) name new t rs = refl

pub put_through : (n : List ℕ) (ns names : List (List ℕ)) (name : List ℕ) (new b c : Node) (es fs : Entries) → Sorted es → names ≡ n ∷ ns → lookup (at n) es ≡ Some b → c ≡ with_rows b (branch_grafted (ns ++ name ∷ []) new b.beneath) → fs ≡ set_value (at n) es c
    → flatten fs ≡ branch_grafted (names ++ name ∷ []) new (flatten es)
put_through n ns names name new b c es fs sorted is found changed written =
    level_through (branch_grafted (n ∷ (ns ++ name ∷ [])) new) (branch_grafted (ns ++ name ∷ []) new) n (grafted-level n (ns ++ name ∷ []) new) (put_top ns name new) b c es fs sorted found changed written
    ∙ ap (λ xs. branch_grafted (xs ++ name ∷ []) new (flatten es)) (sym is)

pub put_here : (names : List (List ℕ)) (name : List ℕ) (new : Node) (es fs : Entries) → Sorted es → names ≡ [] → fs ≡ insert_entry R es name new → flatten fs ≡ branch_grafted (names ++ name ∷ []) new (flatten es)
put_here names name new es fs sorted is inserted = ap flatten inserted ∙ put_entry name es new sorted ∙ ap (λ xs. branch_grafted (xs ++ name ∷ []) new (flatten es)) (sym is)

pub fill_here : (names : List (List ℕ)) (name : List ℕ) (b c : Node) (es fs : Entries) → Sorted es → names ≡ [] → lookup (at name) es ≡ Some b → fs ≡ set_value (at name) es c → flatten fs ≡ branch_grafted (names ++ name ∷ []) c (flatten es)
fill_here names name b c es fs sorted is found written =
    ap flatten written ∙ set_entry (branch_grafted (name ∷ []) c) (branch_grafted [] c) name (grafted-level name [] c) es b c sorted found (grafted_top c (rows b)) ∙ ap (λ xs. branch_grafted (xs ++ name ∷ []) c (flatten es)) (sym is)

-- taking

pub take_here : (n : List ℕ) (names : List (List ℕ)) (es fs : Entries) → Sorted es → names ≡ [] → fs ≡ remove_entry (at n) es → flatten fs ≡ without (n ∷ names) (flatten es)
take_here n names es fs sorted is removed = ap flatten removed ∙ cut_entry n es sorted ∙ ap (λ xs. without (n ∷ xs) (flatten es)) (sym is)

pub take_through : (n m : List ℕ) (ms names : List (List ℕ)) (b c : Node) (es fs : Entries) → Sorted es → names ≡ m ∷ ms → lookup (at n) es ≡ Some b → c ≡ with_rows b (without (m ∷ ms) b.beneath) → fs ≡ set_value (at n) es c → flatten fs ≡ without (n ∷ names) (flatten es)
take_through n m ms names b c es fs sorted is found changed written =
    level_through (without (n ∷ m ∷ ms)) (without (m ∷ ms)) n (without-level n (m ∷ ms)) (λ t rs. refl) b c es fs sorted found changed written ∙ ap (λ xs. without (n ∷ xs) (flatten es)) (sym is)

pub taken_here : (n : List ℕ) (names : List (List ℕ)) (es : Entries) (o : Option Node) → Sorted es → names ≡ [] → lookup (at n) es ≡ o → IsWhole (n ∷ names) (flatten es) o
taken_here n names es o sorted is found = whole_at n names (flatten es) o o (subst (IsPart n (flatten es)) found (part-lookup n es sorted)) (whole_itself names o is)

pub taken_none : (n : List ℕ) (names : List (List ℕ)) (es : Entries) → Sorted es → lookup (at n) es ≡ None → IsWhole (n ∷ names) (flatten es) None
taken_none n names es sorted found = whole_at n names (flatten es) None None (subst (IsPart n (flatten es)) found (part-lookup n es sorted)) refl

pub taken_through : (n m : List ℕ) (ms names : List (List ℕ)) (es : Entries) (b : Node) (p : Option Node) → Sorted es → names ≡ m ∷ ms → lookup (at n) es ≡ Some b → IsWhole (m ∷ ms) b.beneath p → IsWhole (n ∷ names) (flatten es) p
taken_through n m ms names es b p sorted is found whole =
    subst (λ xs. IsWhole (n ∷ xs) (flatten es) p) (sym is) (whole_at n (m ∷ ms) (flatten es) (Some b) p (subst (IsPart n (flatten es)) found (part-lookup n es sorted)) whole)

-- rewriting

module _ (new : Row → Row) where
  untouched_row : (m : List ℕ) (rs : List Row) → rewritten_by new [] (map (under m) rs) ≡ map (under m) rs
  untouched_row m [] = refl
  untouched_row m (r ∷ rs) = ap (λ t. under m r ∷ t) (untouched_row m rs)

  untouched : (es : Entries) → rewritten_by new [] (flatten es) ≡ flatten es
  untouched [] = refl
  untouched (e ∷ es) =
      map-append (λ row. cond (same_path [] row.path) (new row) row) (map (under e.0) (rows e.1)) (flatten es)
      ∙ ap (λ l. l ++ rewritten_by new [] (flatten es)) (untouched_row e.0 (rows e.1)) ∙ ap (λ l. map (under e.0) (rows e.1) ++ l) (untouched es)

  untouched_in : (h : Held) → rewritten_by new [] (rows_in h) ≡ rows_in h
  untouched_in (File place) = refl
  untouched_in (Directory m) = untouched m.entries

  untouched_beneath : (i : Inside) (b : Node) → branch_of i ≡ b → rewritten_by new [] b.beneath ≡ b.beneath
  untouched_beneath i b seen = subst (λ x. rewritten_by new [] x.beneath ≡ x.beneath) seen (untouched_in i.held)

pub unchanged_beneath : (c : Change) (i : Inside) (b : Node) → branch_of i ≡ b → row_rewritten [] c b.beneath ≡ b.beneath
unchanged_beneath c = untouched_beneath (with_change c)

module _ (new : Row → Row) (pathless : IsPathless new) where
  pub rewrite_top : (names : List (List ℕ)) (b d : Node) → names ≡ [] → rewritten_by new [] b.beneath ≡ b.beneath → d ≡ record { top = top_of (new (row_of [] b.top)); beneath = b.beneath } → rows d ≡ rewritten_by new names (rows b)
  rewrite_top names b d none beneath given =
      ap rows given ∙ ap (λ l. row_of [] (top_of (new (row_of [] b.top))) ∷ l) (sym beneath) ∙ ap (λ r. r ∷ rewritten_by new [] b.beneath) (pathless.top b.top) ∙ ap (λ xs. rewritten_by new xs (rows b)) (sym none)

  pub rewrite_through : (n : List ℕ) (ns : List (List ℕ)) (b d : Node) (es fs : Entries) → Sorted es → lookup (at n) es ≡ Some b → rows d ≡ rewritten_by new ns (rows b) → fs ≡ set_value (at n) es d → flatten fs ≡ rewritten_by new (n ∷ ns) (flatten es)
  rewrite_through n ns b d es fs sorted found same written =
      ap flatten written ∙ set_entry (rewritten_by new (n ∷ ns)) (rewritten_by new ns) n (rewritten-level new pathless n ns) es b d sorted found same

  pub rewrite_none : (n : List ℕ) (ns : List (List ℕ)) (es : Entries) → Sorted es → lookup (at n) es ≡ None → flatten es ≡ rewritten_by new (n ∷ ns) (flatten es)
  rewrite_none n ns es sorted missing = missing_entry (rewritten_by new (n ∷ ns)) n (rewritten-kept new pathless n ns) es sorted missing
