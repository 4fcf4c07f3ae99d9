-- Traversal: the first directory above a path that is shut, one name further down.
use Rattle.std.proofs.Common.{◌≡◌, ℕ, ◌+◌, ◌<◌, Bool, true, false, ◌&&◌, List, [], ◌∷◌, ◌++◌, length, take, drop, get_or, map, cond, Option, Some, None, refl, sym, ap, ◌∙◌, subst}
use Rattle.std.specs.List.{filter}
use Rattle.std.proofs.lemmas.List.{append-nil}
use Rattle.file_paths.specs.Path.{is_beneath}
use Rattle.permission_bits.specs.declared.rights.Rights.{Rights}
use Rattle.principals.specs.Users.{Caller}
use Rattle.namespace_rows.specs.declared.row.Row.{Row}
use Rattle.namespace_rows.specs.First.{first}
use Rattle.namespace_rows.specs.Rows.{is_directory, directories_above}
use Rattle.inode_nodes.specs.Node.{Node, rows, row_of, under, row_placed}
use Rattle.inode_nodes.specs.Part.{Splits, IsPart}
use Rattle.inode_nodes.proofs.Filters.{self, filter-map}
use Rattle.inode_nodes.proofs.Parts.{placed_top}
use Rattle.perm_walk.specs.Closed.{is_shut, first_shut}
use Rattle.perm_walk.proofs.Descents.{placed_onward, rest_on, front_on}

-- the row is a directory above the path
abbrev pub directory_over : List (List ℕ) → Row → Bool
directory_over path row = is_beneath path row.path && is_directory row

pub directory_over-splits : (n : List ℕ) (ns : List (List ℕ)) → Splits (directory_over (n ∷ ns)) (directory_over ns) n false false
directory_over-splits n ns = record { lows = λ m r h. rw h refl; highs = λ m r h. rw h refl; here = λ r. rw (self n) refl }

none_over : (rs : List Row) → filter (directory_over []) rs ≡ []
none_over [] = refl
none_over (r ∷ rs) = none_over rs

-- where nothing is asked, nothing is shut
pub none_shut : (rows : List Row) (row : Row) → first (filter (λ r. false) rows) ≡ Some row → ⊥
none_shut [] row h = cc
none_shut (r ∷ rows) row h = none_shut rows row h

module _ (asked : Option Rights) (caller : Caller) where
  -- a path doesn't matter for it
  shut_under : (n : List ℕ) (row : Row) → is_shut asked caller (under n row) ≡ is_shut asked caller row
  shut_under n row = elim asked as (λ a. is_shut a caller (under n row) ≡ is_shut a caller row) [ None ↦ refl | Some a ↦ refl ]

  abbrev shut : List Row → List Row
  shut rs = filter (is_shut asked caller) rs

  -- the shut directories above a path, with its front passed
  abbrev pub Left : List (List ℕ) → List Row → List (List ℕ) → List (List ℕ) → Node → Type 0
  Left path all front rest b = shut (directories_above path all) ≡ map (row_placed front) (shut (filter (directory_over rest) (rows b)))

  pub left_none : (path : List (List ℕ)) (b : Node) → Left path (rows b) [] path b
  left_none path b = sym (placed_top (shut (filter (directory_over path) (rows b))))

  top_open : (d c : Bool) (t : Row) (rs : List Row) → is_shut asked caller t ≡ c → (d && c) ≡ false → shut (cond d (t ∷ rs) rs) ≡ shut rs
  top_open true true t rs e h = absurd (no h)
    where
      no : true ≡ false → ⊥
      no x = cc
  top_open true false t rs e h = rw e refl
  top_open false c t rs e h = refl

  module _ (path : List (List ℕ)) (all : List Row) (front : List (List ℕ)) (b : Node) where
    abbrev top : Row
    top = row_of [] b.top

    -- with an lets top, what is beneath
    passed_top : (n : List ℕ) (ns : List (List ℕ)) → (is_directory top && is_shut asked caller top) ≡ false → shut (filter (directory_over (n ∷ ns)) (rows b)) ≡ shut (filter (directory_over (n ∷ ns)) b.beneath)
    passed_top n ns lets = top_open (is_directory top) (is_shut asked caller top) top (filter (directory_over (n ∷ ns)) b.beneath) refl lets

    pub left_next : (n : List ℕ) (ns : List (List ℕ)) (c : Node) → Left path all front (n ∷ ns) b → (is_directory top && is_shut asked caller top) ≡ false → IsPart n b.beneath (Some c) → Left path all (front ++ n ∷ []) ns c
    left_next n ns c h lets part =
        h ∙ ap (map (row_placed front)) (passed_top n ns lets ∙ ap shut (part.seen (directory_over (n ∷ ns)) (directory_over ns) (directory_over-splits n ns))
        ∙ filter-map (is_shut asked caller) (is_shut asked caller) (under n) (shut_under n) (filter (directory_over ns) (rows c)))
        ∙ placed_onward front n (shut (filter (directory_over ns) (rows c)))

    pub none_left : (n : List ℕ) (ns : List (List ℕ)) → Left path all front (n ∷ ns) b → (is_directory top && is_shut asked caller top) ≡ false → IsPart n b.beneath None → None ≡ first_shut asked caller (directories_above path all)
    none_left n ns h lets part =
        sym (ap first (h ∙ ap (map (row_placed front)) (passed_top n ns lets ∙ ap shut (part.seen (directory_over (n ∷ ns)) (directory_over ns) (directory_over-splits n ns)))))

    pub left_end : Left path all front [] b → None ≡ first_shut asked caller (directories_above path all)
    left_end h = sym (ap first (h ∙ ap (λ l. map (row_placed front) (shut l)) (none_over (rows b))))

    first_top : (d c : Bool) (rs : List Row) → is_shut asked caller top ≡ c → (d && c) ≡ true → first (map (row_placed front) (shut (cond d (top ∷ rs) rs))) ≡ Some (row_placed front top)
    first_top true true rs e h = rw e refl
    first_top true false rs e h = cc
    first_top false c rs e h = cc

    pub left_shut : (n : List ℕ) (ns : List (List ℕ)) → Left path all front (n ∷ ns) b → (is_directory top && is_shut asked caller top) ≡ true → Some (row_of front b.top) ≡ first_shut asked caller (directories_above path all)
    left_shut n ns h closes =
        ap (λ q. Some (row_of q b.top)) (sym (append-nil front)) ∙ sym (first_top (is_directory top) (is_shut asked caller top) (filter (directory_over (n ∷ ns)) b.beneath) refl closes) ∙ sym (ap first h)

-- the same by the number of names passed
module _ (asked : Option Rights) (caller : Caller) (path : List (List ℕ)) (all : List Row) (i : ℕ) (b : Node) (n : List ℕ) (h : i < length path) (is : n ≡ get_or path i n) (left : Left asked caller path all (take i path) (drop i path) b) where
  abbrev at_name : Left asked caller path all (take i path) (n ∷ drop (i + 1) path) b
  at_name = subst (λ r. Left asked caller path all (take i path) r b) (rest_on path i n h is) left

  pub on_next : (c : Node) → (is_directory (row_of [] b.top) && is_shut asked caller (row_of [] b.top)) ≡ false → IsPart n b.beneath (Some c) → Left asked caller path all (take (i + 1) path) (drop (i + 1) path) c
  on_next c lets part =
      subst (λ f. Left asked caller path all f (drop (i + 1) path) c) (front_on path i n h is) (left_next asked caller path all (take i path) b n (drop (i + 1) path) c at_name lets part)

  pub on_none : (is_directory (row_of [] b.top) && is_shut asked caller (row_of [] b.top)) ≡ false → IsPart n b.beneath None → None ≡ first_shut asked caller (directories_above path all)
  on_none lets part = none_left asked caller path all (take i path) b n (drop (i + 1) path) at_name lets part

  pub on_shut : (is_directory (row_of [] b.top) && is_shut asked caller (row_of [] b.top)) ≡ true → Some (row_of (take i path) b.top) ≡ first_shut asked caller (directories_above path all)
  on_shut closes = left_shut asked caller path all (take i path) b n (drop (i + 1) path) at_name closes
