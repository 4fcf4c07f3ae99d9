-- What is missing of a path, made in the directory that holds the first of its names.
use Rattle.std.proofs.Common.{◌≡◌, ℕ, Bool, true, false, ◌&&◌, not, length, drop, List, [], ◌∷◌, ◌++◌, map, Option, Some, None, refl, sym, ap, ◌∙◌, subst}
use Rattle.std.proofs.lemmas.Bool.{false≢true}
use Rattle.std.proofs.lemmas.List.{append-nil}
use Rattle.std.specs.List.{filter, last_or}
use Rattle.std.specs.Map.{lookup, set_value}
use Rattle.std.specs.BTreeMap.{insert_entry}
use Rattle.std.specs.Option.{option_map}
use Rattle.permission_bits.specs.Mode.{for_missing_parent}
use Rattle.file_paths.specs.Path.{is_beneath}
use Rattle.file_states.specs.declared.kind.ObjectKind.TheVariants.{Directory}
use Rattle.acl_entries.specs.Acl.{Acl}
use Rattle.default_acl.specs.Inheritance.{inherited_acl}
use Rattle.namespace_rows.specs.declared.file_row.FileRow.{FileRow}
use Rattle.namespace_rows.specs.declared.row.Row.{Row}
use Rattle.namespace_rows.specs.First.{first}
use Rattle.namespace_rows.specs.Rows.{is_directory, is_missing, file_above, ancestor, with_sub_tree, rows_replaced}
use Rattle.flat_rows.specs.Outcome.{mode_of_new, file_of_new, new_at, new_row, new_rows, with_new}
use Rattle.inode_nodes.specs.Node.{Node, Top, flatten, rows, row_of, under}
use Rattle.inode_nodes.specs.Part.{Splits, IsPart}
use Rattle.inode_nodes.specs.Change.{chain}
use Rattle.inode_nodes.proofs.Split.{R, at}
use Rattle.inode_nodes.proofs.Filters.{Entries, self, flatten-append}
use Rattle.inode_nodes.proofs.Parts.{part-lookup}
use Rattle.inode_nodes.proofs.Levels.{IsLevel, Sorted, set_entry, put_entry, replaced-level}
use Rattle.inode_nodes.proofs.Through.{missing_at}

part_of : (n : List ℕ) (es : Entries) (o : Option Node) → Sorted es → lookup (at n) es ≡ o → IsPart n (flatten es) o
part_of n es o sorted found = subst (IsPart n (flatten es)) found (part-lookup n es sorted)

-- what stands above a path

abbrev pub above : List (List ℕ) → Row → Bool
above path row = is_beneath path row.path

abbrev pub above_file : List (List ℕ) → Row → Bool
above_file path row = is_beneath path row.path && not (is_directory row)

pub above-splits : (n : List ℕ) (ns : List (List ℕ)) → Splits (above (n ∷ ns)) (above ns) n false false
above-splits n ns = record { lows = λ m r h. rw h refl; highs = λ m r h. rw h refl; here = λ r. rw (self n) refl }

pub above_file-splits : (n : List ℕ) (ns : List (List ℕ)) → Splits (above_file (n ∷ ns)) (above_file ns) n false false
above_file-splits n ns = record { lows = λ m r h. rw h refl; highs = λ m r h. rw h refl; here = λ r. rw (self n) refl }

none_first : (f : Row → Row) (rs : List Row) → first (map f rs) ≡ None → first rs ≡ None
none_first f [] h = refl
none_first f (r ∷ rs) h = cc

pub clear_beneath : (n : List ℕ) (ns : List (List ℕ)) (es : Entries) (b : Node) → Sorted es → lookup (at n) es ≡ Some b → file_above (n ∷ ns) (flatten es) ≡ None → file_above ns (rows b) ≡ None
clear_beneath n ns es b sorted found h = none_first (under n) (filter (above_file ns) (rows b)) (sym (ap first ((part_of n es (Some b) sorted found).seen (above_file (n ∷ ns)) (above_file ns) (above_file-splits n ns))) ∙ h)

pub missing_beneath : (n : List ℕ) (ns : List (List ℕ)) (es : Entries) (b : Node) → Sorted es → lookup (at n) es ≡ Some b → is_missing (n ∷ ns) (flatten es) ≡ true → is_missing ns (rows b) ≡ true
missing_beneath n ns es b sorted found h = sym (missing_at n ns es (Some b) sorted found) ∙ h

-- a directory that holds nothing of a name has no entry of it, and back
pub absent_first : (n : List ℕ) (es : Entries) → Sorted es → is_missing (n ∷ []) (flatten es) ≡ true → lookup (at n) es ≡ None
absent_first n es sorted missing = by (lookup (at n) es) refl
  where
    by : (o : Option Node) → lookup (at n) es ≡ o → lookup (at n) es ≡ None
    by None found = found
    by (Some b) found = absurd (false≢true (missing_beneath n [] es b sorted found missing))

pub missing_first : (n : List ℕ) (es : Entries) → Sorted es → lookup (at n) es ≡ None → is_missing (n ∷ []) (flatten es) ≡ true
missing_first n es sorted found = missing_at n [] es None sorted found

none_above : (rs : List Row) → filter (above []) rs ≡ []
none_above [] = refl
none_above (r ∷ rs) = none_above rs

last_map : (f : Row → Row) (r : Row) (rs : List Row) → last_or (Some (f r)) (map f rs) ≡ option_map f (last_or (Some r) rs)
last_map f r [] = refl
last_map f r (s ∷ rs) = last_map f s rs

ancestor_here : (n : List ℕ) (ns : List (List ℕ)) (t : Top) (es : Entries) → Sorted es → lookup (at n) es ≡ None → ancestor (n ∷ ns) (row_of [] t ∷ flatten es) ≡ Some (row_of [] t)
ancestor_here n ns t es sorted found = ap (last_or (Some (row_of [] t))) ((part_of n es None sorted found).seen (above (n ∷ ns)) (above ns) (above-splits n ns))

ancestor_beneath : (n k : List ℕ) (ks : List (List ℕ)) (t : Top) (es : Entries) (b : Node) → Sorted es → lookup (at n) es ≡ Some b → ancestor (n ∷ k ∷ ks) (row_of [] t ∷ flatten es) ≡ option_map (under n) (ancestor (k ∷ ks) (rows b))
ancestor_beneath n k ks t es b sorted found =
    ap (last_or (Some (row_of [] t))) ((part_of n es (Some b) sorted found).seen (above (n ∷ k ∷ ks)) (above (k ∷ ks)) (above-splits n (k ∷ ks))) ∙ last_map (under n) (row_of [] b.top) (filter (above (k ∷ ks)) b.beneath)

-- a block of rows that begins with its top

same-level : (n : List ℕ) → IsLevel n (λ rs. rs) (λ rs. rs)
same-level n = record {
  level = λ es fs b c s t is.
      flatten-append es ((n, b) ∷ fs) ∙ ap (λ l. flatten es ++ (map (under n) l ++ flatten fs)) (sym is) ∙ sym (flatten-append es ((n, c) ∷ fs));
  top = λ t rs. refl;
}

sub_tree-level : (n : List ℕ) (block : List Row) → IsLevel n (λ rs. with_sub_tree rs (map (under n) block)) (λ rs. with_sub_tree rs block)
sub_tree-level n [] = same-level n
sub_tree-level n (t ∷ ts) = replaced-level n t.path (t ∷ ts)

-- a directory that holds one branch
pub held_one : (t : Top) (n : List ℕ) (inner : Node) (es : Entries) → es ≡ (n, inner) ∷ [] → row_of [] t ∷ flatten es ≡ row_of [] t ∷ map (under n) (rows inner)
held_one t n inner es is = ap (λ (x : Entries). row_of [] t ∷ flatten x) is ∙ ap (λ l. row_of [] t ∷ l) (append-nil (map (under n) (rows inner)))

module _ (owner : List ℕ) (mode : ℕ) (file : Option FileRow) where
  under_new : (n : List ℕ) (a : Row) (names : List (List ℕ)) → map (under n) (new_rows a owner mode file names) ≡ new_rows (under n a) owner mode file names
  under_new n a [] = refl
  under_new n a (m ∷ ms) = ap (λ t. new_row (under n a) owner (mode_of_new mode ms) (file_of_new file ms) m ∷ t) (under_new n (new_row a owner (mode_of_new mode ms) (file_of_new file ms) m) ms)

  chain_under : (n : List ℕ) (ns : List (List ℕ)) (t : Top) → map (under n) (chain t.acl t.group owner mode file ns) ≡ new_rows (row_of [] t) owner mode file (n ∷ ns)
  chain_under n ns t = ap (λ x. new_row (row_of [] t) owner (mode_of_new mode ns) (file_of_new file ns) n ∷ x) (under_new n (new_at t.acl t.group owner (mode_of_new mode ns) (file_of_new file ns) []) ns)

  -- a directory of this list, as it is made
  abbrev made_with : Acl → List ℕ → Row
  made_with acl group = row_of [] (record { kind = Directory; owner = owner; group = group; acl = acl; file = None })

  pub chain_on : (parent acl : Acl) (group : List ℕ) (n : List ℕ) (ns names : List (List ℕ)) (inner : Node) → acl ≡ inherited_acl parent (for_missing_parent mode) Directory
      → names ≡ n ∷ ns → rows inner ≡ chain acl group owner mode file ns → made_with acl group ∷ map (under n) (rows inner) ≡ chain parent group owner mode file names
  chain_on parent acl group n ns names inner list is within =
      ap (λ x. made_with acl group ∷ x) (ap (map (under n)) within ∙ chain_under n ns (record { kind = Directory; owner = owner; group = group; acl = acl; file = None }))
      ∙ ap (λ l. made_with l group ∷ new_rows (made_with l group) owner mode file (n ∷ ns)) list ∙ ap (chain parent group owner mode file) (sym is)

  -- the rows with what is missing
  abbrev pub made : List (List ℕ) → List Row → List Row
  made path all = with_new path mode file owner (ancestor path all) all

  pub make_here : (n : List ℕ) (ns : List (List ℕ)) (t : Top) (c : Node) (es fs : Entries) → Sorted es → lookup (at n) es ≡ None → rows c ≡ chain t.acl t.group owner mode file ns → fs ≡ insert_entry R es n c
      → row_of [] t ∷ flatten fs ≡ made (n ∷ ns) (row_of [] t ∷ flatten es)
  make_here n ns t c es fs sorted found is inserted =
      ap (λ x. row_of [] t ∷ flatten x) inserted ∙ ap (λ x. row_of [] t ∷ x) (put_entry n es c sorted ∙ ap (λ block. rows_replaced (n ∷ []) block (flatten es)) (ap (map (under n)) is ∙ chain_under n ns t))
      ∙ ap (λ o. with_new (n ∷ ns) mode file owner o (row_of [] t ∷ flatten es)) (sym (ancestor_here n ns t es sorted found))

  make_beneath : (n k : List ℕ) (ks : List (List ℕ)) (t : Top) (b c : Node) (es fs : Entries) → Sorted es → lookup (at n) es ≡ Some b → rows c ≡ made (k ∷ ks) (rows b) → fs ≡ set_value (at n) es c
      → row_of [] t ∷ flatten fs ≡ made (n ∷ k ∷ ks) (row_of [] t ∷ flatten es)
  make_beneath n k ks t b c es fs sorted found is written =
      by (ancestor (k ∷ ks) (rows b)) is ∙ ap (λ o. with_new (n ∷ k ∷ ks) mode file owner o (row_of [] t ∷ flatten es)) (sym (ancestor_beneath n k ks t es b sorted found))
    where
      by : (o : Option Row) → rows c ≡ with_new (k ∷ ks) mode file owner o (rows b) → row_of [] t ∷ flatten fs ≡ with_new (n ∷ k ∷ ks) mode file owner (option_map (under n) o) (row_of [] t ∷ flatten es)
      by None e = ap (λ x. row_of [] t ∷ flatten x) written ∙ ap (λ x. row_of [] t ∷ x) (set_entry (λ rs. rs) (λ rs. rs) n (same-level n) es b c sorted found e)
      by (Some a) e =
          let block : List Row = new_rows a owner mode file (drop (length a.path) (k ∷ ks)) in
          ap (λ x. row_of [] t ∷ flatten x) written
          ∙ ap (λ x. row_of [] t ∷ x) (set_entry (λ rs. with_sub_tree rs (map (under n) block)) (λ rs. with_sub_tree rs block) n (sub_tree-level n block) es b c sorted found e)
          ∙ sym ((sub_tree-level n block).top t (flatten es)) ∙ ap (with_sub_tree (row_of [] t ∷ flatten es)) (under_new n a (drop (length a.path) (k ∷ ks)))

  pub make_through : (n : List ℕ) (ns : List (List ℕ)) (t : Top) (b c : Node) (es fs : Entries) → Sorted es → is_missing (n ∷ ns) (flatten es) ≡ true → lookup (at n) es ≡ Some b → rows c ≡ made ns (rows b) → fs ≡ set_value (at n) es c
      → row_of [] t ∷ flatten fs ≡ made (n ∷ ns) (row_of [] t ∷ flatten es)
  make_through n [] t b c es fs sorted missing found is written = absurd (false≢true (missing_beneath n [] es b sorted found missing))
  make_through n (k ∷ ks) t b c es fs sorted missing found is written = make_beneath n k ks t b c es fs sorted found is written
