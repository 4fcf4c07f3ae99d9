-- The best node that one pass over some nodes keeps is the live one that no other live one is ahead of.
use Rattle.std.proofs.Common.{◌≡◌, ℕ, ◌==◌, Bool, true, false, cond, not, ◌&&◌, ◌||◌, nat_lt, unwrap_or, List, [], ◌∷◌, ◌≤◌, length, drop, filter, Option, Some, None, refl, sym, ap, ◌∙◌, arith}
use Rattle.std.proofs.lemmas.Bool.Decides.{nat_tests}
use Rattle.std.proofs.lemmas.List.{drop_all}
use Rattle.std.specs.List.{list_any, find, fold}
use Rattle.std.specs.Option.{option_map}
use Rattle.block_records.specs.Numbers.{entry_at}
use Rattle.heartbeats.specs.Live.{Heartbeats, is_recent, is_live, last_heard, is_heard_later, is_heard_last, primary_of}
use Rattle.heartbeats.specs.Best.{ahead, better}

-- ---- one node more

-- a node that isn't live is passed over
pub passed_over : (nodes : Heartbeats) (now node : ℕ) (best : Option (ℕ × ℕ)) (last : ℕ) → entry_at node nodes.last ≡ Some last → is_recent nodes.dead now (Some last) ≡ false
    → best ≡ better nodes now best node
passed_over nodes now node best last there old =
    ap (λ live. cond live (ahead (node, last_heard nodes node) best) best) (sym old ∙ ap (is_recent nodes.dead now) (sym there))

pub counted : (nodes : Heartbeats) (now node : ℕ) (best : Option (ℕ × ℕ)) (last : ℕ) → entry_at node nodes.last ≡ Some last → is_recent nodes.dead now (Some last) ≡ true
    → ahead (node, last) best ≡ better nodes now best node
counted nodes now node best last there recent =
    ap (λ found. ahead (node, unwrap_or found 0) best) (sym there)
    ∙ ap (λ live. cond live (ahead (node, last_heard nodes node) best) best) (sym recent ∙ ap (is_recent nodes.dead now) (sym there))

-- ---- who is ahead of whom

-- a node of the first moment and id is ahead of one of the second
abbrev is_later : ℕ → ℕ → ℕ → ℕ → Bool
is_later heard node heard' node' = nat_lt heard' heard || ((heard' == heard) && nat_lt node node')

not_itself : (h n : ℕ) → is_later h n h n ≡ false
not_itself h n = grind (arith, nat_tests)

onwards : (h n h' n' h'' n'' : ℕ) → is_later h n h' n' ≡ true → is_later h' n' h'' n'' ≡ true → is_later h n h'' n'' ≡ true
onwards h n h' n' h'' n'' first second = grind (arith, nat_tests)

-- where a node isn't ahead of another, the other is ahead of all that it is ahead of
in_its_place : (h n h' n' h'' n'' : ℕ) → is_later h n h' n' ≡ false → is_later h n h'' n'' ≡ true → is_later h' n' h'' n'' ≡ true
in_its_place h n h' n' h'' n'' first second = grind (arith, nat_tests)

-- and what is ahead of the other is ahead of it
behind_both : (h n h' n' h'' n'' : ℕ) → is_later h n h' n' ≡ false → is_later h'' n'' h' n' ≡ true → is_later h'' n'' h n ≡ true
behind_both h n h' n' h'' n'' first second = grind (arith, nat_tests)

-- ---- tests of which one tells the other

absorbed : (a b c : Bool) → (a ≡ true → b ≡ true) → (a || (b || c)) ≡ (b || c)
absorbed true b c tells = ap (λ b. b || c) (sym (tells refl))
absorbed false b c tells = refl

absorbed_behind : (a b c : Bool) → (b ≡ true → a ≡ true) → (a || (b || c)) ≡ (a || c)
absorbed_behind true b c tells = refl
absorbed_behind false true c tells = sym (ap (λ a. a || c) (tells refl))
absorbed_behind false false c tells = refl

either : (a b : Bool) → b ≡ true → (a || b) ≡ true
either true b is = refl
either false b is = is

any_too : (p q : ℕ → Bool) → ((x : ℕ) → p x ≡ true → q x ≡ true) → (xs : List ℕ) → list_any p xs ≡ true → list_any q xs ≡ true
any_too p q tells [] some = some
any_too p q tells (x ∷ xs) some = by (p x) refl some (any_too p q tells xs)
  where
    by : (b : Bool) → p x ≡ b → (b || list_any p xs) ≡ true → (list_any p xs ≡ true → list_any q xs ≡ true) → (q x || list_any q xs) ≡ true
    by true is some rest = ap (λ b. b || list_any q xs) (tells x is)
    by false is some rest = either (q x) (list_any q xs) (rest some)

not_true : (b : Bool) → not b ≡ false → b ≡ true
not_true true is = refl
not_true false is = sym is

-- ---- all nodes

module _ (nodes : Heartbeats) (now : ℕ) where
  best_by : (best node : ℕ) (live : List ℕ) → is_heard_later nodes node best ≡ true
      → find (is_heard_last nodes (best ∷ node ∷ live)) (best ∷ node ∷ live) ≡ find (is_heard_last nodes (node ∷ live)) (node ∷ live)
  best_by best node live is =
      ap (λ b. cond (not b) (Some best) (find (is_heard_last nodes (best ∷ node ∷ live)) (node ∷ live)))
      (ap (λ b. b || (is_heard_later nodes node best || list_any (λ other. is_heard_later nodes other best) live)) (not_itself (last_heard nodes best) best)
      ∙ ap (λ b. b || list_any (λ other. is_heard_later nodes other best) live) is)
      ∙ ap (λ (p : ℕ → Bool). find p (node ∷ live)) (λ i other. ap not (same other) i)
    where
      same : (other : ℕ) → (is_heard_later nodes best other || (is_heard_later nodes node other || list_any (λ third. is_heard_later nodes third other) live))
          ≡ (is_heard_later nodes node other || list_any (λ third. is_heard_later nodes third other) live)
      same other = absorbed (is_heard_later nodes best other) (is_heard_later nodes node other) (list_any (λ third. is_heard_later nodes third other) live)
          (onwards (last_heard nodes node) node (last_heard nodes best) best (last_heard nodes other) other is)

  best_stays : (best node : ℕ) (live : List ℕ) → is_heard_later nodes node best ≡ false
      → find (is_heard_last nodes (best ∷ node ∷ live)) (best ∷ node ∷ live) ≡ find (is_heard_last nodes (best ∷ live)) (best ∷ live)
  best_stays best node live is = ap (λ (p : ℕ → Bool). find p (best ∷ node ∷ live)) (λ i other. ap not (same other) i) ∙ by (is_heard_last nodes (best ∷ live) best) refl
    where
      same : (other : ℕ) → (is_heard_later nodes best other || (is_heard_later nodes node other || list_any (λ third. is_heard_later nodes third other) live))
          ≡ (is_heard_later nodes best other || list_any (λ third. is_heard_later nodes third other) live)
      same other = absorbed_behind (is_heard_later nodes best other) (is_heard_later nodes node other) (list_any (λ third. is_heard_later nodes third other) live)
          (in_its_place (last_heard nodes node) node (last_heard nodes best) best (last_heard nodes other) other is)

      node_behind : is_heard_last nodes (best ∷ live) best ≡ false → is_heard_last nodes (best ∷ live) node ≡ false
      node_behind led = ap not (any_too (λ other. is_heard_later nodes other best) (λ other. is_heard_later nodes other node)
          (λ other. behind_both (last_heard nodes node) node (last_heard nodes best) best (last_heard nodes other) other is)
          (best ∷ live) (not_true (list_any (λ other. is_heard_later nodes other best) (best ∷ live)) led))

      by : (b : Bool) → is_heard_last nodes (best ∷ live) best ≡ b
          → cond b (Some best) (cond (is_heard_last nodes (best ∷ live) node) (Some node) (find (is_heard_last nodes (best ∷ live)) live)) ≡ cond b (Some best) (find (is_heard_last nodes (best ∷ live)) live)
      by true led = refl
      by false led = ap (λ b. cond b (Some node) (find (is_heard_last nodes (best ∷ live)) live)) (node_behind led)

  -- the node that leads, of a live node and those that follow it
  abbrev first_led : ℕ → List ℕ → Option ℕ
  first_led best live = find (is_heard_last nodes (best ∷ live)) (best ∷ live)

  abbrev led_behind : Option (ℕ × ℕ) → List ℕ → Option ℕ
  led_behind best some = option_map (λ (own : ℕ × ℕ). own.0) (fold (better nodes now) best some)

  best_of : (best : ℕ) (some : List ℕ) → led_behind (Some (best, last_heard nodes best)) some ≡ first_led best (filter (is_live nodes now) some)
  best_of best [] = sym (ap (λ b. cond (not (b || false)) (Some best) None) (not_itself (last_heard nodes best) best))
  best_of best (node ∷ some) = by (is_live nodes now node) (is_heard_later nodes node best) refl (best_of node some) (best_of best some)
    where
      by : (live later : Bool) → is_heard_later nodes node best ≡ later
          → led_behind (Some (node, last_heard nodes node)) some ≡ first_led node (filter (is_live nodes now) some)
          → led_behind (Some (best, last_heard nodes best)) some ≡ first_led best (filter (is_live nodes now) some)
          → led_behind (cond live (cond later (Some (node, last_heard nodes node)) (Some (best, last_heard nodes best))) (Some (best, last_heard nodes best))) some
          ≡ first_led best (cond live (node ∷ filter (is_live nodes now) some) (filter (is_live nodes now) some))
      by true true is with_node with_best = with_node ∙ sym (best_by best node (filter (is_live nodes now) some) is)
      by true false is with_node with_best = with_best ∙ sym (best_stays best node (filter (is_live nodes now) some) is)
      by false later is with_node with_best = with_best

  led : (some : List ℕ) → led_behind None some ≡ primary_of nodes now some
  led [] = refl
  led (node ∷ some) = by (is_live nodes now node) (led some)
    where
      by : (live : Bool) → led_behind None some ≡ primary_of nodes now some
          → led_behind (cond live (Some (node, last_heard nodes node)) None) some
          ≡ find (is_heard_last nodes (cond live (node ∷ filter (is_live nodes now) some) (filter (is_live nodes now) some)))
          (cond live (node ∷ filter (is_live nodes now) some) (filter (is_live nodes now) some))
      by true without = best_of node some
      by false without = without

  -- what the pass has kept behind the last of the nodes
  pub led_at_end : (some : List ℕ) (at : ℕ) (best : Option (ℕ × ℕ)) → length some ≤ at → fold (better nodes now) best (drop at some) ≡ fold (better nodes now) None some
      → option_map (λ (own : ℕ × ℕ). own.0) best ≡ primary_of nodes now some
  led_at_end some at best past kept = ap (λ rest. led_behind best rest) (sym (drop_all at some past)) ∙ (ap (option_map (λ (own : ℕ × ℕ). own.0)) kept ∙ led some)
