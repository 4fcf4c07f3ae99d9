-- Where there are no more nodes than are asked for, all of them are targets.
use Rattle.std.proofs.Common.{◌≡◌, ℕ, ◌+◌, ◌<◌, ◌≤◌, ◌==◌, Bool, true, false, ◌&&◌, ◌||◌, nat_lt, List, [], ◌∷◌, filter, length, refl, sym, ap, ◌∙◌, cond, arith}
use Rattle.std.proofs.lemmas.Bool.{lt-ltb, le-ltb}
use Rattle.std.proofs.lemmas.List.Sums.{count_by-le-length, sum_by-cons}
use Rattle.std.specs.List.{AllByRecursion, count_by}
use Rattle.block_placement.specs.Placement.{is_ahead, rank, targets}

each_also : (P Q : ℕ → Type 0) → ((x : ℕ) → P x → Q x) → (xs : List ℕ) → AllByRecursion P xs → AllByRecursion Q xs
each_also P Q then [] all = tt
each_also P Q then (x ∷ xs) all = (then x all.0, each_also P Q then xs all.1)

all_kept : (p : ℕ → Bool) (xs : List ℕ) → AllByRecursion (λ x. p x ≡ true) xs → xs ≡ filter p xs
all_kept p [] all = refl
all_kept p (x ∷ xs) all = ap (λ ys. x ∷ ys) (all_kept p xs all.1) ∙ sym (ap (λ b. cond b (x ∷ filter p xs) (filter p xs)) all.0)

module _ (load : ℕ → ℕ) where
  counted : (node first : ℕ) (nodes : List ℕ) → rank load (first ∷ nodes) node ≡ cond (is_ahead load first node) 1 0 + rank load nodes node
  counted node first nodes = sum_by-cons (λ other. cond (is_ahead load other node) 1 0) first nodes

  -- a node isn't ahead of itself
  not_ahead : (node : ℕ) → is_ahead load node node ≡ false
  not_ahead node = by (nat_lt (load node) (load node)) (load node == load node) (nat_lt node node) (le-ltb (load node) (load node) (omega arith)) (le-ltb node node (omega arith))
    where
      by : (a b c : Bool) → a ≡ false → c ≡ false → (a || (b && c)) ≡ false
      by a true c below same = ap (λ d. d || c) below ∙ same
      by a false c below same = ap (λ d. d || false) below

  at_most_one : (b : Bool) → cond b 1 0 ≤ 1
  at_most_one true = omega arith
  at_most_one false = omega arith

  -- so fewer nodes than there are stand ahead of each
  each_ranked : (nodes : List ℕ) → AllByRecursion (λ node. rank load nodes node < length nodes) nodes
  each_ranked [] = tt
  each_ranked (first ∷ nodes) = (
    omega (arith, counted first first nodes ∙ ap (λ b. cond b 1 0 + rank load nodes first) (not_ahead first), count_by-le-length (λ other. is_ahead load other first) nodes),
    each_also (λ node. rank load nodes node < length nodes) (λ node. rank load (first ∷ nodes) node < length (first ∷ nodes))
        (λ node few. omega (arith, few, counted node first nodes, at_most_one (is_ahead load first node))) nodes (each_ranked nodes),
  )

  pub all_targets : (count : ℕ) (nodes : List ℕ) → length nodes ≤ count → nodes ≡ targets load count nodes
  all_targets count nodes few =
      all_kept (λ node. nat_lt (rank load nodes node) count) nodes
      (each_also (λ node. rank load nodes node < length nodes) (λ node. nat_lt (rank load nodes node) count ≡ true)
      (λ node ranked. lt-ltb (rank load nodes node) count (omega (arith, few, ranked))) nodes (each_ranked nodes))
