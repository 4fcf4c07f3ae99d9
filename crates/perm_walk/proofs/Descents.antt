-- What is left of a question about a path, one name further down.
use Rattle.std.proofs.Common.{◌≡◌, ℕ, suc, ◌+◌, ◌-◌, ◌<◌, Bool, true, false, ◌&&◌, List, [], ◌∷◌, ◌++◌, length, take, drop, get_or, map, cond, Option, Some, None, refl, sym, ap, ◌∙◌, subst, append_assoc, arith, length-append, length-drop}
use Rattle.std.specs.Prelude.{not, ◌==◌}
use Rattle.std.specs.List.{filter, last_or}
use Rattle.std.specs.Option.{option_and_then}
use Rattle.std.proofs.Math.Seq.{take-append-add}
use Rattle.std.proofs.lemmas.Bool.Decides.{nat_tests}
use Rattle.std.proofs.lemmas.List.{append-nil, drop_more, take_more}
use Rattle.file_paths.specs.Path.{is_beneath, parent_of}
use Rattle.file_states.specs.declared.kind.ObjectKind.TheVariants.{Directory}
use Rattle.namespace_rows.specs.declared.row.Row.{Row}
use Rattle.namespace_rows.specs.First.{first}
use Rattle.namespace_rows.specs.Rows.{is_directory, if_directory, row_at, directory_of, ancestor, file_above}
use Rattle.inode_nodes.specs.Node.{Node, Top, rows, row_of, under, row_placed}
use Rattle.inode_nodes.specs.Part.{Splits, IsPart}
use Rattle.inode_nodes.proofs.Filters.{self, standing, standing-splits}
use Rattle.inode_nodes.proofs.Parts.{placed_top}
use Rattle.perm_walk.specs.Reached.{if_file}

-- the row is above the path
abbrev pub over : List (List ℕ) → Row → Bool
over path row = is_beneath path row.path

pub over-splits : (n : List ℕ) (ns : List (List ℕ)) → Splits (over (n ∷ ns)) (over ns) n false false
over-splits n ns = record { lows = λ m r h. rw h refl; highs = λ m r h. rw h refl; here = λ r. rw (self n) refl }

-- the row is a file above the path
abbrev pub file_over : List (List ℕ) → Row → Bool
file_over path row = is_beneath path row.path && not (is_directory row)

pub file_over-splits : (n : List ℕ) (ns : List (List ℕ)) → Splits (file_over (n ∷ ns)) (file_over ns) n false false
file_over-splits n ns = record { lows = λ m r h. rw h refl; highs = λ m r h. rw h refl; here = λ r. rw (self n) refl }

pub placed_onward : (front : List (List ℕ)) (n : List ℕ) (rs : List Row) → map (row_placed front) (map (under n) rs) ≡ map (row_placed (front ++ n ∷ [])) rs
placed_onward front n [] = refl
placed_onward front n (r ∷ rs) = rw (← append_assoc front (n ∷ []) r.path) (ap (λ t. row_placed (front ++ n ∷ []) r ∷ t) (placed_onward front n rs))

-- the parent of a longer path
parent_of_longer : (front : List (List ℕ)) (n : List ℕ) (ns : List (List ℕ)) → parent_of (front ++ n ∷ ns) ≡ Some (front ++ take (length ns) (n ∷ ns))
parent_of_longer [] n ns = refl
parent_of_longer (m ∷ front) n ns =
    let more : length (front ++ n ∷ ns) ≡ suc (length front + length ns) = omega (arith, length-append front (n ∷ ns)) in
    ap (λ k. Some (take k (m ∷ (front ++ n ∷ ns)))) more ∙ ap (λ q. Some (m ∷ q)) (take-append-add front (n ∷ ns) (length ns))

-- what is known of the rows with the front of a path passed, the last component above included
pub record Passed (path : List (List ℕ)) (all : List Row) (front rest : List (List ℕ)) (b : Node) (above : Option Row) : Type 0 where
  pub stands : (names : List (List ℕ)) → filter (standing (front ++ names)) all ≡ map (row_placed front) (filter (standing names) (rows b))
  pub held : above ≡ directory_of front all
  pub at : filter (standing path) all ≡ map (row_placed front) (filter (standing rest) (rows b))
  pub over : last_or None (filter (over path) all) ≡ last_or above (map (row_placed front) (filter (over rest) (rows b)))
  pub file : filter (file_over path) all ≡ map (row_placed front) (filter (file_over rest) (rows b))

pub passed_none : (path : List (List ℕ)) (b : Node) → Passed path (rows b) [] path b None
passed_none path b = record {
  stands = λ names. sym (placed_top (filter (standing names) (rows b)));
  held = refl;
  at = sym (placed_top (filter (standing path) (rows b)));
  over = ap (last_or None) (sym (placed_top (filter (over path) (rows b))));
  file = sym (placed_top (filter (file_over path) (rows b)));
}

directory_top : (path : List (List ℕ)) (t : Top) → t.kind ≡ Directory → is_directory (row_of path t) ≡ true
directory_top path t h = rw h refl

-- what has the front
passed_here : (path : List (List ℕ)) (all : List Row) (front rest : List (List ℕ)) (b : Node) (above : Option Row) → Passed path all front rest b above → row_at front all ≡ Some (row_of front b.top)
passed_here path all front rest b above p =
    ap (λ q. first (filter (standing q) all)) (sym (append-nil front)) ∙ ap first (p.stands []) ∙ ap (λ q. Some (row_of q b.top)) (append-nil front)

pub passed_one : (path : List (List ℕ)) (all : List Row) (front : List (List ℕ)) (n : List ℕ) (ns : List (List ℕ)) (b c : Node) (above : Option Row)
    → Passed path all front (n ∷ ns) b above → IsPart n b.beneath (Some c) → b.top.kind ≡ Directory → Passed path all (front ++ n ∷ []) ns c (Some (row_of front b.top))
passed_one path all front n ns b c above p part dir = record {
  stands = λ names.
      ap (λ q. filter (standing q) all) (append_assoc front (n ∷ []) names) ∙ p.stands (n ∷ names)
      ∙ ap (map (row_placed front)) (part.seen (standing (n ∷ names)) (standing names) (standing-splits n names)) ∙ placed_onward front n (filter (standing names) (rows c));
  held =
      sym (ap (λ o. if_directory (option_and_then (λ row. row_at row all) o)) (parent_of_longer front n [] ∙ ap Some (append-nil front))
      ∙ ap if_directory (passed_here path all front (n ∷ ns) b above p) ∙ ap (λ d. cond d (Some (row_of front b.top)) None) (directory_top front b.top dir));
  at = p.at ∙ ap (map (row_placed front)) (part.seen (standing (n ∷ ns)) (standing ns) (standing-splits n ns)) ∙ placed_onward front n (filter (standing ns) (rows c));
  over =
      p.over ∙ ap (λ l. last_or above (row_placed front (row_of [] b.top) ∷ map (row_placed front) l)) (part.seen (over (n ∷ ns)) (over ns) (over-splits n ns))
      ∙ ap (λ l. last_or (Some (row_placed front (row_of [] b.top))) l) (placed_onward front n (filter (over ns) (rows c)))
      ∙ ap (λ q. last_or (Some (row_of q b.top)) (map (row_placed (front ++ n ∷ [])) (filter (over ns) (rows c)))) (append-nil front);
  file =
      p.file ∙ ap (λ d. map (row_placed front) (cond (not d) (row_of [] b.top ∷ filter (file_over (n ∷ ns)) b.beneath) (filter (file_over (n ∷ ns)) b.beneath))) (directory_top [] b.top dir)
      ∙ ap (map (row_placed front)) (part.seen (file_over (n ∷ ns)) (file_over ns) (file_over-splits n ns)) ∙ placed_onward front n (filter (file_over ns) (rows c));
}

abbrev pub is_nil : List (List ℕ) → Bool
is_nil [] = true
is_nil (n ∷ ns) = false

module _ (path : List (List ℕ)) (all : List Row) (front : List (List ℕ)) (b : Node) (above : Option Row) where
  -- where the path ends
  pub ends_at : Passed path all front [] b above → front ≡ path → Some (row_of path b.top) ≡ row_at path all
  ends_at p is = ap (λ q. Some (row_of q b.top)) (sym is ∙ sym (append-nil front)) ∙ sym (ap first p.at)

  nothing_over : (rs : List Row) → filter (over []) rs ≡ []
  nothing_over [] = refl
  nothing_over (r ∷ rs) = nothing_over rs

  no_file_over : (rs : List Row) → filter (file_over []) rs ≡ []
  no_file_over [] = refl
  no_file_over (r ∷ rs) = no_file_over rs

  pub ends_beneath : Passed path all front [] b above → above ≡ ancestor path all
  ends_beneath p = sym (p.over ∙ ap (λ l. last_or above (map (row_placed front) l)) (nothing_over (rows b)))

  pub ends_held : Passed path all front [] b above → front ≡ path → above ≡ directory_of path all
  ends_held p is = p.held ∙ ap (λ q. directory_of q all) is

  pub ends_clear : Passed path all front [] b above → None ≡ file_above path all
  ends_clear p = sym (ap first (p.file ∙ ap (map (row_placed front)) (no_file_over (rows b))))

  -- where nothing has the next name
  module _ (n : List ℕ) (ns : List (List ℕ)) (p : Passed path all front (n ∷ ns) b above) (part : IsPart n b.beneath None) where
    pub stops_missing : None ≡ row_at path all
    stops_missing = sym (ap first (p.at ∙ ap (map (row_placed front)) (part.seen (standing (n ∷ ns)) (standing ns) (standing-splits n ns))))

    nothing_there : (names : List (List ℕ)) → row_at (front ++ n ∷ names) all ≡ None
    nothing_there names = ap first (p.stands (n ∷ names) ∙ ap (map (row_placed front)) (part.seen (standing (n ∷ names)) (standing names) (standing-splits n names)))

    -- the last component is the directory that holds the path where this is the path's last name
    pub stops_held : (last : Bool) → last ≡ is_nil ns → front ++ n ∷ ns ≡ path → cond last (if_directory (Some (row_of front b.top))) None ≡ directory_of path all
    stops_held last is whole =
        ap (λ l. cond l (if_directory (Some (row_of front b.top))) None) is ∙ by ns
        ∙ ap (λ o. if_directory (option_and_then (λ row. row_at row all) o)) (sym (parent_of_longer front n ns) ∙ ap parent_of whole)
      where
        by : (names : List (List ℕ)) → cond (is_nil names) (if_directory (Some (row_of front b.top))) None ≡ if_directory (row_at (front ++ take (length names) (n ∷ names)) all)
        by [] = ap if_directory (sym (passed_here path all front (n ∷ ns) b above p) ∙ ap (λ q. row_at q all) (sym (append-nil front)))
        by (m ∷ names) = ap if_directory (sym (nothing_there (take (length names) (m ∷ names))))

    pub stops_beneath : Some (row_of front b.top) ≡ ancestor path all
    stops_beneath =
        sym (p.over ∙ ap (λ l. last_or above (row_placed front (row_of [] b.top) ∷ map (row_placed front) l)) (part.seen (over (n ∷ ns)) (over ns) (over-splits n ns)) ∙ ap (λ q. Some (row_of q b.top)) (append-nil front))

    by_kind : (d : Bool) → is_directory (row_of front b.top) ≡ d → first (map (row_placed front) (cond (not d) (row_of [] b.top ∷ []) [])) ≡ cond d None (Some (row_of front b.top))
    by_kind true e = refl
    by_kind false e = ap (λ q. Some (row_of q b.top)) (append-nil front)

    pub stops_at_file : if_file (row_of front b.top) ≡ file_above path all
    stops_at_file =
        sym (ap first p.file ∙ ap (λ l. first (map (row_placed front) (cond (not (is_directory (row_of [] b.top))) (row_of [] b.top ∷ l) l))) (part.seen (file_over (n ∷ ns)) (file_over ns) (file_over-splits n ns)) ∙ by_kind (is_directory (row_of front b.top)) refl)

-- the same by the number of names passed

pub rest_on : (path : List (List ℕ)) (i : ℕ) (n : List ℕ) → i < length path → n ≡ get_or path i n → drop i path ≡ n ∷ drop (i + 1) path
rest_on path i n h is = drop_more path i n h ∙ ap (λ m. m ∷ drop (i + 1) path) (sym is)

pub front_on : (path : List (List ℕ)) (i : ℕ) (n : List ℕ) → i < length path → n ≡ get_or path i n → take i path ++ n ∷ [] ≡ take (i + 1) path
front_on path i n h is = ap (λ m. take i path ++ m ∷ []) is ∙ sym (take_more path i n h)

one_left : (ns : List (List ℕ)) (k : ℕ) → k ≡ length ns + 1 → (k == 1) ≡ is_nil ns
one_left [] k h = grind (arith, nat_tests)
one_left (n ∷ ns) k h = grind (arith, nat_tests)

-- one name of the path is left
pub last_left : (path : List (List ℕ)) (i : ℕ) → i < length path → (length path - i == 1) ≡ is_nil (drop (i + 1) path)
last_left path i h = one_left (drop (i + 1) path) (length path - i) (omega (arith, length-drop (i + 1) path))

pub passed_next : (path : List (List ℕ)) (all : List Row) (i : ℕ) (n : List ℕ) (b c : Node) (above : Option Row) (last : Row) → i < length path → n ≡ get_or path i n
    → Passed path all (take i path) (drop i path) b above → IsPart n b.beneath (Some c) → b.top.kind ≡ Directory → last ≡ row_of (take i path) b.top
    → Passed path all (take (i + 1) path) (drop (i + 1) path) c (Some last)
passed_next path all i n b c above last h is p part dir top =
    subst (λ r. Passed path all (take (i + 1) path) (drop (i + 1) path) c (Some r)) (sym top)
    (subst (λ f. Passed path all f (drop (i + 1) path) c (Some (row_of (take i path) b.top))) (front_on path i n h is)
    (passed_one path all (take i path) n (drop (i + 1) path) b c above (subst (λ r. Passed path all (take i path) r b above) (rest_on path i n h is) p) part dir))
