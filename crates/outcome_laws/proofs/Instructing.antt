-- What is left to be told of, once a DataNode was told.
use Rattle.std.proofs.Common.{◌≡◌, ℕ, ◌==◌, Bool, true, false, not, List, [], ◌∷◌, refl, sym, ap, ◌∙◌, cond, eq-eqb}
use Rattle.std.specs.Prelude.{filter}
use Rattle.std.specs.List.{filter_map}
use Rattle.std.specs.Map.{keys_of}
use Rattle.std.proofs.lemmas.Bool.{eqb-true}
use Rattle.block_records.proofs.Numbers.{number_is}
use Rattle.block_records.specs.Marks.{is_for, marks_for}
use Rattle.recovery_queue.specs.Queue.{leads, led_by}
use Rattle.block_changes.specs.Orders.{recovery_by}
use Rattle.known_blocks.specs.Known.{block_of}
use Rattle.block_map.specs.BlockFacts.{Blocks}
use Rattle.block_map.specs.BlockEffects.{instructions_for, with_heartbeat_answered}

apart_bits : true ≡ false → ⊥
apart_bits e = cc

module _ {X : Type 0} (p q : X → Bool) where
  -- of those that don't pass none passes
  none_left : (xs : List X) → filter p (filter (λ x. not (p x)) xs) ≡ []
  none_left [] = refl
  none_left (x ∷ xs) = by (p x) refl (none_left xs)
    where
      by : (b : Bool) → p x ≡ b → filter p (filter (λ x. not (p x)) xs) ≡ [] → filter p (cond (not b) (x ∷ filter (λ x. not (p x)) xs) (filter (λ x. not (p x)) xs)) ≡ []
      by true e rest = rest
      by false e rest = ap (λ c. cond c (x ∷ filter p (filter (λ x. not (p x)) xs)) (filter p (filter (λ x. not (p x)) xs))) e ∙ rest

  -- where all that passes one test passes another, that one takes nothing away
  all_left : ((x : X) → p x ≡ true → q x ≡ true) → (xs : List X) → filter p (filter q xs) ≡ filter p xs
  all_left h [] = refl
  all_left h (x ∷ xs) = by (q x) (p x) refl refl (all_left h xs)
    where
      by : (b c : Bool) → q x ≡ b → p x ≡ c → filter p (filter q xs) ≡ filter p xs → filter p (cond b (x ∷ filter q xs) (filter q xs)) ≡ cond c (x ∷ filter p xs) (filter p xs)
      by true true e g rest = ap (λ c. cond c (x ∷ filter p (filter q xs)) (filter p (filter q xs))) g ∙ ap (λ xs. x ∷ xs) rest
      by true false e g rest = ap (λ c. cond c (x ∷ filter p (filter q xs)) (filter p (filter q xs))) g ∙ rest
      by false true e g rest = absurd (apart_bits (sym (h x g) ∙ e))
      by false false e g rest = rest

apart : (own node other : ℕ) → (other == node) ≡ false → (own == other) ≡ true → not (own == node) ≡ true
apart own node other h e = ap not (ap (λ n. n == node) (eqb-true own other e) ∙ h)

pub told_once : (facts : Blocks) (node now later : ℕ)
    → ((instructions_for (with_heartbeat_answered facts node now) later node).removals ≡ []) × ((instructions_for (with_heartbeat_answered facts node now) later node).recoveries ≡ [])
told_once facts node now later = (
  none_left (is_for node) (is_for node) facts.marks,
  ap (λ entries. filter_map (λ block. recovery_by block (block_of (with_heartbeat_answered facts node now).known block)) (keys_of entries)) (none_left (leads node) (leads node) facts.queued),
)

pub others_stay : (facts : Blocks) (node other now : ℕ) → (other == node) ≡ false
    → (marks_for other (with_heartbeat_answered facts node now).marks ≡ marks_for other facts.marks) × (led_by other (with_heartbeat_answered facts node now).queued ≡ led_by other facts.queued)
others_stay facts node other now h = (
  all_left (is_for other) (λ mark. not (is_for node mark)) (λ mark e. apart mark.node node other h e) facts.marks,
  ap keys_of (all_left (leads other) (λ entry. not (leads node entry)) (λ entry e. by entry e) facts.queued),
)
  where
    by : (entry : ℕ × ℕ) → leads other entry ≡ true → not (leads node entry) ≡ true
    by entry e = by_node (leads node entry) refl
      where
        by_node : (b : Bool) → leads node entry ≡ b → not b ≡ true
        by_node true g = absurd (apart_bits (sym (eq-eqb other node (sym (number_is entry.1 other e) ∙ number_is entry.1 node g)) ∙ h))
        by_node false g = refl
