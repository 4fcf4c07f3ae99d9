-- Who leads.
use Rattle.std.proofs.Common.{◌≡◌, ℕ, ◌==◌, Bool, true, false, ◌&&◌, ◌||◌, not, nat_lt, List, [], ◌∷◌, filter, cond, Some, is_some, refl, sym, ap, ◌∙◌, arith}
use Rattle.std.specs.List.{find, list_any}
use Rattle.std.proofs.lemmas.Bool.{eqb-true, eq-eqb}
use Rattle.std.proofs.lemmas.Bool.Decides.{nat_tests}
use Rattle.heartbeats.specs.Live.{Heartbeats, is_heard_last, is_heard_later, is_live, last_heard}
use Rattle.placement_laws.specs.Laws.{LeadersAreLive, NobodyLiveWasHeardLater, SomebodyLeads, is_one_of}
use Rattle.placement_laws.proofs.Ahead.{in_filter, of_filter, or_there}

-- what is found passes, and is there
found : (p : ℕ → Bool) (xs : List ℕ) (node : ℕ) → find p xs ≡ Some node → (p node ≡ true) × (is_one_of node xs ≡ true)
found p [] node h = cc
found p (x ∷ xs) node h = by (p x) refl h (λ k. found p xs node k)
  where
    by : (b : Bool) → p x ≡ b → cond b (Some x) (find p xs) ≡ Some node → (find p xs ≡ Some node → (p node ≡ true) × (is_one_of node xs ≡ true)) → (p node ≡ true) × (((x == node) || is_one_of node xs) ≡ true)
    by true k is rest = let at : x ≡ node = cc in (ap p (sym at) ∙ k, ap (λ b. b || is_one_of node xs) (eq-eqb x node at))
    by false k is rest = let there = rest is in (there.0, or_there (x == node) (is_one_of node xs) there.1)

-- and something is, where something passes
finds : (p : ℕ → Bool) (xs : List ℕ) (node : ℕ) → p node ≡ true → is_one_of node xs ≡ true → is_some (find p xs) ≡ true
finds p [] node k h = cc
finds p (x ∷ xs) node k h = by (p x) (x == node) refl refl h (λ rest. finds p xs node k rest)
  where
    by : (b own : Bool) → p x ≡ b → (x == node) ≡ own → (own || is_one_of node xs) ≡ true → (is_one_of node xs ≡ true → is_some (find p xs) ≡ true) → is_some (cond b (Some x) (find p xs)) ≡ true
    by true own out is h rest = refl
    by false true out is h rest = let clash : p x ≡ true = ap p (eqb-true x node is) ∙ k in cc
    by false false out is h rest = rest h

-- nobody of a list passes
none_of : (p : ℕ → Bool) (xs : List ℕ) (node : ℕ) → list_any p xs ≡ false → is_one_of node xs ≡ true → p node ≡ false
none_of p [] node h k = cc
none_of p (x ∷ xs) node h k = by (p x) (x == node) refl refl h k (λ a b. none_of p xs node a b)
  where
    by : (b own : Bool) → p x ≡ b → (x == node) ≡ own → (b || list_any p xs) ≡ false → (own || is_one_of node xs) ≡ true → (list_any p xs ≡ false → is_one_of node xs ≡ true → p node ≡ false) → p node ≡ false
    by true own at is h k rest = cc
    by false true at is h k rest = ap p (sym (eqb-true x node is)) ∙ at
    by false false at is h k rest = rest h k

not_false : (b : Bool) → not b ≡ true → b ≡ false
not_false true h = cc
not_false false h = refl

module _ (nodes : Heartbeats) where
  later_through : (a b c : ℕ) → is_heard_later nodes a b ≡ true → is_heard_later nodes b c ≡ true → is_heard_later nodes a c ≡ true
  later_through a b c h k = grind (arith, nat_tests)

  not_itself : (a : ℕ) → is_heard_later nodes a a ≡ false
  not_itself a = grind (arith, nat_tests)

  -- nobody of a list is ahead of one of them
  record Last (some : List ℕ) : Type 0 where
    node : ℕ
    here : is_one_of node some ≡ true
    last : list_any (λ other. is_heard_later nodes other node) some ≡ false

  none_through : (a b : ℕ) (xs : List ℕ) → is_heard_later nodes a b ≡ true → list_any (λ other. is_heard_later nodes other b) xs ≡ false → list_any (λ other. is_heard_later nodes other a) xs ≡ false
  none_through a b [] h k = refl
  none_through a b (x ∷ xs) h k = by (is_heard_later nodes x a) (is_heard_later nodes x b) refl refl k (λ rest. none_through a b xs h rest)
    where
      by : (one other : Bool) → is_heard_later nodes x a ≡ one → is_heard_later nodes x b ≡ other → (other || list_any (λ o. is_heard_later nodes o b) xs) ≡ false
          → (list_any (λ o. is_heard_later nodes o b) xs ≡ false → list_any (λ o. is_heard_later nodes o a) xs ≡ false) → (one || list_any (λ o. is_heard_later nodes o a) xs) ≡ false
      by one true p q out rest = cc
      by true false p q out rest = let clash : is_heard_later nodes x b ≡ true = later_through x a b p h in cc
      by false false p q out rest = rest out

  last_of : (x : ℕ) (xs : List ℕ) → Last (x ∷ xs)
  last_of x [] = record { node = x; here = ap (λ b. b || false) (eq-eqb x x refl); last = ap (λ b. b || false) (not_itself x) }
  last_of x (y ∷ ys) = by (last_of y ys)
    where
      by : Last (y ∷ ys) → Last (x ∷ y ∷ ys)
      by best = choose (is_heard_later nodes x best.node) refl
        where
          choose : (b : Bool) → is_heard_later nodes x best.node ≡ b → Last (x ∷ y ∷ ys)
          choose true k = record {
            node = x;
            here = ap (λ b. b || is_one_of x (y ∷ ys)) (eq-eqb x x refl);
            last = ap (λ b. b || list_any (λ other. is_heard_later nodes other x) (y ∷ ys)) (not_itself x) ∙ none_through x best.node (y ∷ ys) k best.last;
          }
          choose false k = record {
            node = best.node;
            here = or_there (x == best.node) (is_one_of best.node (y ∷ ys)) best.here;
            last = ap (λ b. b || list_any (λ other. is_heard_later nodes other best.node) (y ∷ ys)) k ∙ best.last;
          }

  leads : (live : List ℕ) (other : ℕ) → is_one_of other live ≡ true → is_some (find (is_heard_last nodes live) live) ≡ true
  leads [] other h = cc
  leads (x ∷ xs) other h =
      let best = last_of x xs in
      finds (is_heard_last nodes (x ∷ xs)) (x ∷ xs) best.node (ap not best.last) best.here

  heard : (a b : ℕ) → is_heard_later nodes a b ≡ false → nat_lt (last_heard nodes b) (last_heard nodes a) ≡ false
  heard a b h = by (nat_lt (last_heard nodes b) (last_heard nodes a)) h
    where
      by : (c : Bool) → (c || ((last_heard nodes b == last_heard nodes a) && nat_lt a b)) ≡ false → c ≡ false
      by true k = cc
      by false k = refl

pub live_leads : LeadersAreLive
live_leads nodes now node some h =
    let at = found (is_heard_last nodes (filter (is_live nodes now) some)) (filter (is_live nodes now) some) node h in of_filter (is_live nodes now) node some at.1

pub heard_last : NobodyLiveWasHeardLater
heard_last nodes now node other some h here live =
    let at = found (is_heard_last nodes (filter (is_live nodes now) some)) (filter (is_live nodes now) some) node h in
    let ahead : is_heard_later nodes other node ≡ false =
    none_of (λ own. is_heard_later nodes own node) (filter (is_live nodes now) some) other (not_false (list_any (λ own. is_heard_later nodes own node) (filter (is_live nodes now) some)) at.0)
    (in_filter (is_live nodes now) other some live here) in
    heard nodes other node ahead

pub somebody_leads : SomebodyLeads
somebody_leads nodes now other some here live = leads nodes (filter (is_live nodes now) some) other (in_filter (is_live nodes now) other some live here)
