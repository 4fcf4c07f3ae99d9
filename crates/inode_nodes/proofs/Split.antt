-- The entries of a map, taken apart at a key.
use Rattle.std.proofs.Common.{◌≡◌, ℕ, Ordering, Less, Equal, Greater, Bool, List, [], ◌∷◌, ◌++◌, Option, Some, None, IsSome, refl, sym, ap}
use Rattle.std.proofs.lemmas.Cmp.{nat_list_cmp_total}
use Rattle.std.proofs.lemmas.Bool.{false≢true}
use Rattle.std.proofs.lemmas.Map.Lookups.{exact_bytes}
use Rattle.std.specs.List.{AllByRecursion}
use Rattle.std.specs.List.Sorted.{IsStrictlySortedBy}
use Rattle.std.specs.Map.{keys_of, lookup, set_value, remove_entry}
use Rattle.std.specs.BTreeMap.{insert_entry, is_at}
use Rattle.hdfs_values.specs.Text.{text_cmp}

abbrev pub R : List ℕ → List ℕ → Ordering
R = text_cmp

abbrev pub at : List ℕ → List ℕ → Bool
at n k = is_at (R n) k

module _ {X : Type 0} where
  -- the key stands so to each of the entries' keys
  abbrev pub Side : Ordering → List ℕ → List (List ℕ × X) → Type 0
  Side o n [] = Unit {0}
  Side o n (e ∷ es) = (R n e.0 ≡ o) × Side o n es

  abbrev pub entry : List ℕ → Option X → List (List ℕ × X)
  entry n None = []
  entry n (Some v) = (n, v) ∷ []

  pub record Split (n : List ℕ) (es : List (List ℕ × X)) : Type 0 where
    pub before : List (List ℕ × X)
    pub found : Option X
    pub after : List (List ℕ × X)
    pub low : Side Greater n before
    pub high : Side Less n after
    pub whole : es ≡ before ++ (entry n found ++ after)
    pub found_is : lookup (at n) es ≡ found
    pub removed : remove_entry (at n) es ≡ before ++ after
    pub inserted : (w : X) → insert_entry R es n w ≡ before ++ ((n, w) ∷ after)
    pub written : (w : X) → IsSome found → set_value (at n) es w ≡ before ++ ((n, w) ∷ after)

  -- keys after a later key
  above_later : (n k : List ℕ) (es : List (List ℕ × X)) → R n k ≡ Less → AllByRecursion (λ y. R k y ≡ Less) (keys_of es) → Side Less n es
  above_later n k [] h all = tt
  above_later n k (e ∷ es) h all = (nat_list_cmp_total.trans n k e.0 h all.0, above_later n k es h all.1)

  above_same : (n : List ℕ) (es : List (List ℕ × X)) → AllByRecursion (λ y. R n y ≡ Less) (keys_of es) → Side Less n es
  above_same n [] all = tt
  above_same n (e ∷ es) all = (all.0, above_same n es all.1)

  above-lookup : (n : List ℕ) (es : List (List ℕ × X)) → Side Less n es → lookup (at n) es ≡ None
  above-lookup n [] h = refl
  above-lookup n (e ∷ es) h = rw h.0 (above-lookup n es h.1)

  above-removed : (n : List ℕ) (es : List (List ℕ × X)) → Side Less n es → remove_entry (at n) es ≡ es
  above-removed n [] h = refl
  above-removed n (e ∷ es) h = rw h.0 (ap (λ t. e ∷ t) (above-removed n es h.1))

  split_by : (o : Ordering) (n : List ℕ) (e : List ℕ × X) (es : List (List ℕ × X)) → R n e.0 ≡ o → AllByRecursion (λ y. R e.0 y ≡ Less) (keys_of es) → Split n es → Split n (e ∷ es)
  split_by Less n e es h all rest =
      let high : Side Less n (e ∷ es) = (h, above_later n e.0 es h all) in
      record {
        before = [];
        found = None;
        after = e ∷ es;
        low = tt;
        high = high;
        whole = refl;
        found_is = above-lookup n (e ∷ es) high;
        removed = above-removed n (e ∷ es) high;
        inserted = λ w. rw h refl;
        written = λ w some. absurd (false≢true some);
      }
  split_by Equal n e es h all rest =
      let key : n ≡ e.0 = exact_bytes n e.0 h in
      record {
        before = [];
        found = Some e.1;
        after = es;
        low = tt;
        high = above_same n es (rw key all);
        whole = rw key refl;
        found_is = rw h refl;
        removed = rw h refl;
        inserted = λ w. rw h (ap (λ k. (k, w) ∷ es) (sym key));
        written = λ w some. rw h (ap (λ k. (k, w) ∷ es) (sym key));
      }
  split_by Greater n e es h all rest = record {
    before = e ∷ rest.before;
    found = rest.found;
    after = rest.after;
    low = (h, rest.low);
    high = rest.high;
    whole = ap (λ t. e ∷ t) rest.whole;
    found_is = rw h rest.found_is;
    removed = rw h (ap (λ t. e ∷ t) rest.removed);
    inserted = λ w. rw h (ap (λ t. e ∷ t) (rest.inserted w));
    written = λ w some. rw h (ap (λ t. e ∷ t) (rest.written w some));
  }

  pub split : (n : List ℕ) (es : List (List ℕ × X)) → IsStrictlySortedBy R (keys_of es) → Split n es
  unfolding IsStrictlySortedBy
  split n [] sorted = record { before = []; found = None; after = []; low = tt; high = tt; whole = refl; found_is = refl; removed = refl; inserted = λ w. refl; written = λ w some. absurd (false≢true some) }
  split n (e ∷ es) sorted = split_by (R n e.0) n e es refl sorted.0 (split n es sorted.1)
