-- What a child tells of its directory's rows, and a branch of the rows of the whole.
use Rattle.std.proofs.Common.{◌≡◌, ℕ, Less, Greater, false, List, [], ◌∷◌, ◌++◌, ◌+◌, ◌<◌, length, drop, get_or, map, Option, Some, None, refl, sym, ap, ◌∙◌, subst}
use Rattle.std.proofs.lemmas.List.{append-nil, drop_more}
use Rattle.std.specs.List.{filter}
use Rattle.std.specs.BTreeMap.{BTreeMap}
use Rattle.std.specs.List.Sorted.{IsStrictlySortedBy}
use Rattle.std.specs.Map.{keys_of, lookup}
use Rattle.namespace_rows.specs.declared.file_row.FileRow.{FileRow}
use Rattle.namespace_rows.specs.declared.row.Row.{Row}
use Rattle.namespace_rows.specs.Changes.{rows_under}
use Rattle.inode_nodes.specs.Kept.{branch_of, rows_in, IsSorted}
use Rattle.inode_nodes.specs.declared.node.Held.TheVariants.{File, Directory}
use Rattle.inode_nodes.specs.declared.node.Node.TheInside.{Inside}
use Rattle.inode_nodes.specs.Node.{Node, flatten, rows, rows_or, under, row_placed}
use Rattle.inode_nodes.specs.Part.{IsPart, IsWhole}
use Rattle.inode_nodes.proofs.Split.{R, Side, split, at, entry}
use Rattle.inode_nodes.proofs.Filters.{Entries, filter-flatten, filter-missing, inside, inside-splits}

by_found : (n : List ℕ) (found : Option Node) (es fs : Entries) → Side Greater n es → Side Less n fs → IsPart n (flatten (es ++ (entry n found ++ fs))) found
by_found n None es fs s t = record { seen = λ p q h. filter-missing p q n false false h es fs s t }
by_found n (Some b) es fs s t = record { seen = λ p q h. filter-flatten p q n false false h es fs b s t ∙ append-nil (map (under n) (filter q (rows b))) }

pub part-lookup : (n : List ℕ) (es : Entries) → IsStrictlySortedBy R (keys_of es) → IsPart n (flatten es) (lookup (at n) es)
part-lookup n es sorted =
    let s = split n es sorted in
    subst (λ x. IsPart n (flatten x) (lookup (at n) es)) (sym s.whole) (subst (λ o. IsPart n (flatten (s.before ++ (entry n s.found ++ s.after))) o) (sym s.found_is) (by_found n s.found s.before s.after s.low s.high))

pub held_parts : (n : List ℕ) (i : Inside) (m : BTreeMap (List ℕ) Node) (b : Node) (o : Option Node) → branch_of i ≡ b → i.held ≡ Directory m → IsSorted i.held → lookup (at n) m.entries ≡ o → IsPart n b.beneath o
held_parts n i m b o seen is sorted found =
    subst (λ x. IsPart n x.beneath o) seen (subst (λ h. IsPart n (rows_in h) o) (sym is) (subst (IsPart n (flatten m.entries)) found (part-lookup n m.entries (subst IsSorted is sorted))))

pub file_parts : (n : List ℕ) (i : Inside) (place : ℕ) (b : Node) → branch_of i ≡ b → i.held ≡ File place → IsPart n b.beneath None
file_parts n i place b seen is = subst (λ x. IsPart n x.beneath None) seen (subst (λ h. IsPart n (rows_in h) None) (sym is) (record { seen = λ p q h. refl }))

-- wholes

pub placed_under : (n : List ℕ) (ns : List (List ℕ)) (rs : List Row) → map (row_placed (n ∷ ns)) rs ≡ map (under n) (map (row_placed ns) rs)
placed_under n ns [] = refl
placed_under n ns (r ∷ rs) = ap (λ t. row_placed (n ∷ ns) r ∷ t) (placed_under n ns rs)

pub placed_top : (rs : List Row) → map (row_placed []) rs ≡ rs
placed_top [] = refl
placed_top (r ∷ rs) = ap (λ t. r ∷ t) (placed_top rs)

all_inside : (rs : List Row) → rows_under [] rs ≡ rs
all_inside [] = refl
all_inside (r ∷ rs) = ap (λ t. r ∷ t) (all_inside rs)

pub whole_itself : (names : List (List ℕ)) (o : Option Node) → names ≡ [] → IsWhole names (rows_or o) o
whole_itself names o none = subst (λ ns. IsWhole ns (rows_or o) o) (sym none) (all_inside (rows_or o) ∙ sym (placed_top (rows_or o)))

pub whole_at : (n : List ℕ) (ns : List (List ℕ)) (rs : List Row) (o p : Option Node) → IsPart n rs o → IsWhole ns (rows_or o) p → IsWhole (n ∷ ns) rs p
whole_at n ns rs o p part whole = part.seen (inside (n ∷ ns)) (inside ns) (inside-splits n ns) ∙ ap (map (under n)) whole ∙ sym (placed_under n ns (rows_or p))

-- a step of a descent along a path
pub whole_onward : (path : List (List ℕ)) (i : ℕ) (n : List ℕ) (b : Node) (o p : Option Node) → i < length path → n ≡ get_or path i n → IsPart n b.beneath o → IsWhole (drop (i + 1) path) (rows_or o) p → IsWhole (drop i path) (rows b) p
whole_onward path i n b o p h is part whole = subst (λ ns. IsWhole ns (rows b) p) (sym (drop_more path i n h ∙ ap (λ m. m ∷ drop (i + 1) path) (sym is))) (whole_at n (drop (i + 1) path) b.beneath o p part whole)
