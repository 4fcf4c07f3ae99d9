-- Which copies a DataNode is told to make, and what is noted of that.
use Rattle.std.proofs.Common.{◌≡◌, ℕ, ◌-◌, ◌==◌, Bool, true, false, ◌&&◌, ◌||◌, not, nat_lt, List, [], ◌∷◌, map, slice_get, Option, Some, None, option_map, refl, sym, ap, ◌∙◌, subst, cond, eq-eqb}
use Rattle.std.specs.Prelude.{filter}
use Rattle.std.specs.List.{list_any, list_all, filter_map, find, cons_option}
use Rattle.std.specs.Option.{option_map_or}
use Rattle.std.specs.Map.{keys_of}
use Rattle.std.proofs.lemmas.Bool.{eqb-true}
use Rattle.block_records.specs.Numbers.{is_number, entry_at}
use Rattle.block_records.specs.declared.block_record.BlockRecord.{BlockRecord}
use Rattle.block_placement.specs.Placement.{rank, targets}
use Rattle.block_tables.specs.Kept.{load}
use Rattle.block_tables.specs.Changes.{with_record_changed, with_hand_out, with_hand_outs}
use Rattle.heartbeats.specs.Live.{is_live, live_nodes}
use Rattle.block_changes.specs.Copies.{may_hand_out, reports, lacking_nodes, is_short, is_the, copies_from, target_of, transfer_of}
use Rattle.block_changes.specs.declared.transfer.HandOut.{HandOut}
use Rattle.block_changes.specs.declared.transfer.Transfer.{Transfer}
use Rattle.block_map.specs.BlockFacts.{Blocks}
use Rattle.block_map.specs.BlockEffects.{with_node_heard, instructions_for}
use Rattle.block_effect_laws.proofs.Looking.{number_itself, changed_at}
use Rattle.namespace_rows.proofs.Tests.{and, both, or_left, or_right}
use Rattle.outcome_laws.specs.Laws.{is_to_copy}

-- ---- of lists

module _ {X : Type 0} (p q : X → Bool) where
  all_pass : (xs : List X) → list_all p (filter p xs) ≡ true
  all_pass [] = refl
  all_pass (x ∷ xs) = by (p x) refl (all_pass xs)
    where
      by : (b : Bool) → p x ≡ b → list_all p (filter p xs) ≡ true → list_all p (cond b (x ∷ filter p xs) (filter p xs)) ≡ true
      by true is rest = and _ _ is rest
      by false is rest = rest

  still_pass : (xs : List X) → list_all p xs ≡ true → list_all p (filter q xs) ≡ true
  still_pass [] h = refl
  still_pass (x ∷ xs) h = let hs = both _ _ h in by (q x) hs.0 (still_pass xs hs.1)
    where
      by : (b : Bool) → p x ≡ true → list_all p (filter q xs) ≡ true → list_all p (cond b (x ∷ filter q xs) (filter q xs)) ≡ true
      by true is rest = and _ _ is rest
      by false is rest = rest

first_passes : (p : ℕ → Bool) (xs : List ℕ) (x : ℕ) → list_all p xs ≡ true → slice_get xs 0 ≡ Some x → p x ≡ true
first_passes p [] x h is = cc
first_passes p (y ∷ xs) x h is = subst (λ z. p z ≡ true) (one is) (both _ _ h).0
  where
    one : Some y ≡ Some x → y ≡ x
    one e = cc

module _ {E C : Type 0} (f : E → Option C) (p : C → E → Bool) (each : (e : E) (c : C) → f e ≡ Some c → p c e ≡ true) where
  one_more : (e : E) (es : List E) (cs : List C) → list_all (λ c. list_any (p c) es) cs ≡ true → list_all (λ c. p c e || list_any (p c) es) cs ≡ true
  one_more e es [] h = refl
  one_more e es (c ∷ cs) h = let hs = both _ _ h in and _ _ (or_right (p c e) _ hs.0) (one_more e es cs hs.1)

  all_from : (es : List E) → list_all (λ c. list_any (p c) es) (filter_map f es) ≡ true
  all_from [] = refl
  all_from (e ∷ es) = by (f e) refl (one_more e es (filter_map f es) (all_from es))
    where
      by : (o : Option C) → f e ≡ o → list_all (λ c. p c e || list_any (p c) es) (filter_map f es) ≡ true → list_all (λ c. p c e || list_any (p c) es) (cons_option o (filter_map f es)) ≡ true
      by None is rest = rest
      by (Some c) is rest = and _ _ (or_left _ _ (each e c is)) rest

-- ---- copies that are told

reporter : (p : ℕ → Bool) (live : List ℕ) (node : ℕ) → is_the node (find p live) ≡ true → p node ≡ true
reporter p [] node h = cc
reporter p (x ∷ xs) node h = by (p x) refl h (reporter p xs node)
  where
    by : (b : Bool) → p x ≡ b → is_the node (cond b (Some x) (find p xs)) ≡ true → (is_the node (find p xs) ≡ true → p node ≡ true) → p node ≡ true
    by true is k rest = subst (λ y. p y ≡ true) (eqb-true x node k) is
    by false is k rest = rest k

same_wait : (retry now : ℕ) (last : Option ℕ) → may_hand_out retry now last ≡ option_map_or (λ moment. nat_lt retry (now - moment)) last true
same_wait retry now None = refl
same_wait retry now (Some last) = refl

module _ (facts : Blocks) (now node : ℕ) (loads : ℕ → ℕ) where
  abbrev at : HandOut
  at = record { live = live_nodes facts.nodes now; moment = now; retry = facts.retry }

  target_lacks : (own : BlockRecord) (target : ℕ) → target_of loads (live_nodes facts.nodes now) own ≡ Some target → (is_live facts.nodes now target ≡ true) × (not (reports own target) ≡ true)
  target_lacks own target is =
      let all : List ℕ = live_nodes facts.nodes now in
      let lacking : List ℕ = lacking_nodes own all in
      let few : ℕ → Bool = λ other. nat_lt (rank loads lacking other) 1 in
      let lacks : ℕ → Bool = λ other. not (reports own other) in
      let alive : ℕ → Bool = is_live facts.nodes now in (
        first_passes alive (targets loads 1 lacking) target (still_pass alive few lacking (still_pass alive lacks all (all_pass alive alive (keys_of facts.nodes.last)))) is,
        first_passes lacks (targets loads 1 lacking) target (still_pass lacks few lacking (all_pass lacks lacks all)) is,
      )

  told_is_needed : (entry : ℕ × BlockRecord) (copy : Transfer)
      → transfer_of loads at node entry.0 entry.1 ≡ Some copy → is_to_copy facts now node copy entry ≡ true
  told_is_needed entry copy told = by (copies_from (live_nodes facts.nodes now) node entry.1) (is_short at entry.1) refl refl told
    where
      made : ℕ → Transfer
      made target = record { block = entry.0; stamp = entry.1.stamp; target = target }

      by_target : (o : Option ℕ) → target_of loads (live_nodes facts.nodes now) entry.1 ≡ o → copies_from (live_nodes facts.nodes now) node entry.1 ≡ true
          → is_short at entry.1 ≡ true → option_map made o ≡ Some copy → is_to_copy facts now node copy entry ≡ true
      by_target None is copies short k = cc
      by_target (Some target) is copies short k =
          let committed = both _ _ short in
          let waited = both _ _ committed.1 in
          let lacks = target_lacks entry.1 target is in
          subst (λ c. is_to_copy facts now node c entry ≡ true) (one k)
          (and _ _ (eq-eqb entry.0 entry.0 refl)
          (and _ _ (eq-eqb entry.1.stamp entry.1.stamp refl)
          (and _ _ committed.0
          (and _ _ waited.1
          (and _ _ (sym (same_wait facts.retry now entry.1.handed_out) ∙ waited.0)
          (and _ _ (reporter (reports entry.1) (live_nodes facts.nodes now) node copies) (and _ _ lacks.0 lacks.1)))))))
        where
          one : Some (made target) ≡ Some copy → made target ≡ copy
          one e = cc

      by : (copies short : Bool) → copies_from (live_nodes facts.nodes now) node entry.1 ≡ copies → is_short at entry.1 ≡ short
          → (cond (copies && short) (option_map made (target_of loads (live_nodes facts.nodes now) entry.1)) None) ≡ Some copy → is_to_copy facts now node copy entry ≡ true
      by true true copies short k = by_target (target_of loads (live_nodes facts.nodes now) entry.1) refl copies short k
      by true false copies short k = cc
      by false short copies is k = cc

pub needed : (facts : Blocks) (node now : ℕ) → list_all (λ copy. list_any (is_to_copy (with_node_heard facts node now) now node copy) facts.known.blocks) (instructions_for facts now node).copies ≡ true
needed facts node now =
    all_from (λ entry. transfer_of (load facts.known.blocks) (record { live = live_nodes (with_node_heard facts node now).nodes now; moment = now; retry = facts.retry }) node entry.0 entry.1)
    (is_to_copy (with_node_heard facts node now) now node)
    (told_is_needed (with_node_heard facts node now) now node (load facts.known.blocks)) facts.known.blocks

-- ---- what is noted of them

module _ (now q : ℕ) where
  abbrev Noted : List (ℕ × BlockRecord) → Type 0
  Noted table = (later : BlockRecord) → entry_at q table ≡ Some later → later.handed_out ≡ Some now

  told_one : (block : ℕ) (table : List (ℕ × BlockRecord)) → is_number block q ≡ true → Noted (with_record_changed (with_hand_out now) block table)
  told_one block table is later there =
      by (entry_at block table) (sym (ap (λ b. cond b (option_map (with_hand_out now) (entry_at block table)) (entry_at q table)) is) ∙ sym (changed_at (with_hand_out now) block table q) ∙ there)
    where
      one : {r s : BlockRecord} → Some r ≡ Some s → r ≡ s
      one e = cc

      by : (o : Option BlockRecord) → option_map (with_hand_out now) o ≡ Some later → later.handed_out ≡ Some now
      by None k = cc
      by (Some own) k = ap (λ (r : BlockRecord). r.handed_out) (sym (one k))

  still_noted : (block : ℕ) (table : List (ℕ × BlockRecord)) → Noted table → Noted (with_record_changed (with_hand_out now) block table)
  still_noted block table noted later there = by (is_number block q) refl
    where
      by : (b : Bool) → is_number block q ≡ b → later.handed_out ≡ Some now
      by true is = told_one block table is later there
      by false is = noted later (sym (ap (λ b. cond b (option_map (with_hand_out now) (entry_at block table)) (entry_at q table)) is) ∙ sym (changed_at (with_hand_out now) block table q) ∙ there)

  all_noted : (blocks : List ℕ) (table : List (ℕ × BlockRecord)) → Noted table → Noted (with_hand_outs now table blocks)
  all_noted [] table noted = noted
  all_noted (block ∷ blocks) table noted = all_noted blocks (with_record_changed (with_hand_out now) block table) (still_noted block table noted)

  pub is_noted : (copies : List Transfer) (table : List (ℕ × BlockRecord)) → list_any (λ (copy : Transfer). copy.block == q) copies ≡ true
      → Noted (with_hand_outs now table (map (λ (copy : Transfer). copy.block) copies))
  is_noted [] table h = cc
  is_noted (copy ∷ copies) table h = by (copy.block == q) refl h (is_noted copies (with_record_changed (with_hand_out now) copy.block table))
    where
      by : (b : Bool) → (copy.block == q) ≡ b → (b || list_any (λ (other : Transfer). other.block == q) copies) ≡ true
          → (list_any (λ (other : Transfer). other.block == q) copies ≡ true → Noted (with_hand_outs now (with_record_changed (with_hand_out now) copy.block table) (map (λ (other : Transfer). other.block) copies)))
          → Noted (with_hand_outs now (with_record_changed (with_hand_out now) copy.block table) (map (λ (other : Transfer). other.block) copies))
      by true is k rest =
          all_noted (map (λ (other : Transfer). other.block) copies) (with_record_changed (with_hand_out now) copy.block table)
          (told_one copy.block table (ap (is_number copy.block) (sym (eqb-true copy.block q is)) ∙ number_itself copy.block))
      by false is k rest = rest k
