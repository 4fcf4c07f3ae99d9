-- The index of the blocks that each node holds, behind a change of one block's record.
use Rattle.std.proofs.Common.{◌≡◌, ℕ, Bool, true, false, not, ◌&&◌, ◌||◌, List, [], Option, Some, None, refl, sym, ap, ◌∙◌, cond}
use Rattle.std.specs.Option.{is_some}
use Rattle.block_records.specs.Numbers.{is_number, has_number, entry_at}
use Rattle.block_index.specs.Relation.{relates}
use Rattle.block_records.specs.Reports.{agreeing_reports, others_of, with_reports_of}
use Rattle.block_records.specs.Verdicts.{holds_by}
use Rattle.block_tables.specs.Changes.{with_recovered}
use Rattle.block_tables.specs.Kept.{IsIndexed}
use Rattle.block_tables.specs.Recovered.{AreRecovered, AreFresh, AreGone}
use Rattle.block_records.specs.declared.block_record.BlockRecord.{BlockRecord}
use Rattle.block_index.proofs.Indexing.{indexed}
use Rattle.block_records.proofs.Numbers.{number_is}
use Rattle.block_records.proofs.Reporting.{has_kept}

abbrev pub PutsRecord : ℕ → Option BlockRecord → List (ℕ × BlockRecord) → List (ℕ × BlockRecord) → Type 0
PutsRecord block own old new = (q : ℕ) → entry_at q new ≡ cond (is_number block q) own (entry_at q old)

-- of one block the nodes of a test are related, or are not, and all others as before
abbrev pub Relates : Bool → ℕ → (ℕ → Bool) → List (ℕ × List ℕ) → List (ℕ × List ℕ) → Type 0
Relates v block p old new = (n b : ℕ) → relates new n b ≡ cond (is_number block b && p n) v (relates old n b)

pub indexed_by : (v : Bool) (old new : List (ℕ × BlockRecord)) (index after : List (ℕ × List ℕ)) (block : ℕ) (own : Option BlockRecord) (p : ℕ → Bool)
    → IsIndexed old index → PutsRecord block own old new → Relates v block p index after
    → ((n : ℕ) → cond (p n) v (holds_by n (entry_at block old)) ≡ holds_by n own) → IsIndexed new after
indexed_by v old new index after block own p law put step says n b = step n b ∙ (by (is_number block b) refl ∙ ap (holds_by n) (sym (put b)))
  where
    by : (x : Bool) → is_number block b ≡ x → cond (x && p n) v (relates index n b) ≡ holds_by n (cond x own (entry_at b old))
    by false at = law n b
    by true at = ap (cond (p n) v) (law n b ∙ ap (λ q. holds_by n (entry_at q old)) (sym (number_is block b at))) ∙ says n

untouched : (v here : Bool) (b : Bool) → here ≡ cond (b && false) v here
untouched v here true = refl
untouched v here false = refl

-- the nodes that hold the block are the same
pub indexed_alike : (old new : List (ℕ × BlockRecord)) (index : List (ℕ × List ℕ)) (block : ℕ) (own : Option BlockRecord)
    → IsIndexed old index → PutsRecord block own old new → ((n : ℕ) → holds_by n (entry_at block old) ≡ holds_by n own) → IsIndexed new index
indexed_alike old new index block own law put says =
    indexed_by false old new index index block own (λ n. false) law put (λ n b. untouched false (relates index n b) (is_number block b)) says

pub indexed_same : (table : List (ℕ × BlockRecord)) (index after : List (ℕ × List ℕ)) → IsIndexed table index → ((n b : ℕ) → relates after n b ≡ relates index n b) → IsIndexed table after
indexed_same table index after law same n b = same n b ∙ law n b

-- related, and then not related again: as before, where no node of the test was related
pub undone : (index mid after : List (ℕ × List ℕ)) (block : ℕ) (p : ℕ → Bool) → Relates true block p index mid → Relates false block p mid after
    → ((n : ℕ) → p n ≡ true → relates index n block ≡ false) → (n b : ℕ) → relates after n b ≡ relates index n b
undone index mid after block p on off apart n b = off n b ∙ (ap (cond (is_number block b && p n) false) (on n b) ∙ by (is_number block b) refl (p n) refl)
  where
    by : (x : Bool) → is_number block b ≡ x → (y : Bool) → p n ≡ y → cond (x && y) false (cond (x && y) true (relates index n b)) ≡ relates index n b
    by false at y is = refl
    by true at false is = refl
    by true at true is = sym (apart n is) ∙ ap (relates index n) (number_is block b at)

-- related to what it was related to
pub related_again : (index after : List (ℕ × List ℕ)) (block : ℕ) (p : ℕ → Bool) → Relates true block p index after
    → ((n : ℕ) → p n ≡ true → relates index n block ≡ true) → (n b : ℕ) → relates after n b ≡ relates index n b
related_again index after block p on there n b = on n b ∙ by (is_number block b) refl (p n) refl
  where
    by : (x : Bool) → is_number block b ≡ x → (y : Bool) → p n ≡ y → cond (x && y) true (relates index n b) ≡ relates index n b
    by false at y is = refl
    by true at false is = refl
    by true at true is = sym (there n is) ∙ ap (relates index n) (number_is block b at)

-- ---- which nodes hold a block

expected_alone : (n : ℕ) (here : Bool) → cond here true false ≡ (here || false)
expected_alone n true = refl
expected_alone n false = refl

pub holds_new : (own : BlockRecord) → own.reports ≡ [] → (n : ℕ) → cond (has_number n own.expected) true false ≡ holds_by n (Some own)
holds_new own none n = expected_alone n (has_number n own.expected) ∙ ap (λ reports. has_number n own.expected || is_some (entry_at n reports)) (sym none)

more : (here there : Bool) (b : Bool) (bytes : ℕ) (found : Option ℕ) → there ≡ is_some found → cond b true (here || there) ≡ (here || is_some (cond b (Some bytes) found))
more true there true bytes found is = refl
more false there true bytes found is = refl
more here there false bytes found is = ap (λ x. here || x) is

-- a node more has reported
pub holds_more : (own new : BlockRecord) (node bytes : ℕ) → new.expected ≡ own.expected → ((q : ℕ) → entry_at q new.reports ≡ cond (is_number node q) (Some bytes) (entry_at q own.reports))
    → (n : ℕ) → cond (is_number node n) true (holds_by n (Some own)) ≡ holds_by n (Some new)
holds_more own new node bytes expected put n =
    more (has_number n own.expected) (is_some (entry_at n own.reports)) (is_number node n) bytes (entry_at n own.reports) refl
    ∙ (ap (λ found. has_number n own.expected || is_some found) (sym (put n)) ∙ ap (λ nodes. has_number n nodes || is_some (entry_at n new.reports)) (sym expected))

-- a node that holds the block has reported it again
pub holds_again : (own new : BlockRecord) (node bytes : ℕ) → new.expected ≡ own.expected → ((q : ℕ) → entry_at q new.reports ≡ cond (is_number node q) (Some bytes) (entry_at q own.reports))
    → holds_by node (Some own) ≡ true → (n : ℕ) → holds_by n (Some own) ≡ holds_by n (Some new)
holds_again own new node bytes expected put held n = by (is_number node n) refl ∙ holds_more own new node bytes expected put n
  where
    by : (x : Bool) → is_number node n ≡ x → holds_by n (Some own) ≡ cond x true (holds_by n (Some own))
    by false at = refl
    by true at = ap (λ q. holds_by q (Some own)) (sym (number_is node n at)) ∙ held

-- a node's report has ended that isn't to hold the block
pub holds_less : (own new : BlockRecord) (node : ℕ) → new.expected ≡ own.expected → ((q : ℕ) → entry_at q new.reports ≡ cond (is_number node q) None (entry_at q own.reports))
    → has_number node own.expected ≡ false → (n : ℕ) → cond (is_number node n) false (holds_by n (Some own)) ≡ holds_by n (Some new)
holds_less own new node expected gone none n =
    by (is_number node n) refl
    ∙ (ap (λ found. has_number n own.expected || is_some found) (sym (gone n)) ∙ ap (λ nodes. has_number n nodes || is_some (entry_at n new.reports)) (sym expected))
  where
    by : (x : Bool) → is_number node n ≡ x → cond x false (holds_by n (Some own)) ≡ (has_number n own.expected || is_some (cond x None (entry_at n own.reports)))
    by false at = refl
    by true at = sym (ap (λ here. here || false) (ap (λ q. has_number q own.expected) (sym (number_is node n at)) ∙ none))

-- a node's report has ended that is still to hold the block
pub holds_still : (own new : BlockRecord) (node : ℕ) → new.expected ≡ own.expected → ((q : ℕ) → entry_at q new.reports ≡ cond (is_number node q) None (entry_at q own.reports))
    → has_number node own.expected ≡ true → (n : ℕ) → holds_by n (Some own) ≡ holds_by n (Some new)
holds_still own new node expected gone some n =
    by (is_number node n) refl
    ∙ (ap (λ found. has_number n own.expected || is_some found) (sym (gone n)) ∙ ap (λ nodes. has_number n nodes || is_some (entry_at n new.reports)) (sym expected))
  where
    by : (x : Bool) → is_number node n ≡ x → holds_by n (Some own) ≡ (has_number n own.expected || is_some (cond x None (entry_at n own.reports)))
    by false at = refl
    by true at =
        let here : has_number n own.expected ≡ true = ap (λ q. has_number q own.expected) (sym (number_is node n at)) ∙ some in
        ap (λ x. x || is_some (entry_at n own.reports)) here ∙ sym (ap (λ x. x || false) here)

-- ---- a recovery

-- nobody reports a newer stamp
pub holds_expected : (own new : BlockRecord) → new.expected ≡ own.expected → new.reports ≡ []
    → (n : ℕ) → cond (is_some (entry_at n own.reports) && not (has_number n own.expected)) false (holds_by n (Some own)) ≡ holds_by n (Some new)
holds_expected own new expected none n =
    by (has_number n own.expected) (is_some (entry_at n own.reports))
    ∙ (ap (λ reports. has_number n own.expected || is_some (entry_at n reports)) (sym none) ∙ ap (λ nodes. has_number n nodes || is_some (entry_at n new.reports)) (sym expected))
  where
    by : (here there : Bool) → cond (there && not here) false (here || there) ≡ (here || false)
    by true true = refl
    by true false = refl
    by false true = refl
    by false false = refl

-- those that took part hold the block, and of the others those that reported the length
recovering : (e r x k : Bool) → cond ((e || r) && not (x || (r && k))) false (cond (not (e || r) && x) true (e || r)) ≡ (x || (x || (r && k)))
recovering true true true k = refl
recovering true true false true = refl
recovering true true false false = refl
recovering true false true k = refl
recovering true false false k = refl
recovering false true true k = refl
recovering false true false true = refl
recovering false true false false = refl
recovering false false true k = refl
recovering false false false k = refl

module _ (own : BlockRecord) (length : ℕ) (nodes fresh gone : List ℕ) (reports : List (ℕ × ℕ)) (told : AreRecovered own length nodes reports) (new : AreFresh own nodes fresh) (left : AreGone own reports gone) where
  is_fresh : (n : ℕ) → has_number n fresh ≡ (not (holds_by n (Some own)) && has_number n nodes)
  is_fresh n = ap (has_number n) new ∙ has_kept n (λ node. not (holds_by node (Some own))) nodes

  -- who is fresh didn't hold the block
  pub apart : (table : List (ℕ × BlockRecord)) (index : List (ℕ × List ℕ)) (block : ℕ) → IsIndexed table index → Some own ≡ entry_at block table
      → (n : ℕ) → has_number n fresh ≡ true → relates index n block ≡ false
  apart table index block law found n here = law n block ∙ (ap (holds_by n) (sym found) ∙ by (holds_by n (Some own)) (sym (is_fresh n) ∙ here))
    where
      by : (x : Bool) → (not x && has_number n nodes) ≡ true → x ≡ false
      by true h = sym h
      by false h = refl

  holds_recovered : (n : ℕ) → cond (has_number n gone) false (cond (has_number n fresh) true (holds_by n (Some own))) ≡ (has_number n nodes || is_some (entry_at n reports))
  holds_recovered n =
      ap (λ x. cond x false (cond (has_number n fresh) true (holds_by n (Some own)))) (left n)
      ∙ (ap (λ x. cond (holds_by n (Some own) && not (is_some (entry_at n reports))) false (cond x true (holds_by n (Some own)))) (is_fresh n)
      ∙ (ap (λ x. cond (holds_by n (Some own) && not x) false (cond (not (holds_by n (Some own)) && has_number n nodes) true (holds_by n (Some own)))) (told n)
      ∙ (recovering (has_number n own.expected) (is_some (entry_at n own.reports)) (has_number n nodes) (not (has_number n (others_of length own.reports)))
      ∙ ap (λ x. has_number n nodes || x) (sym (told n)))))

  pub indexed_recovered : (table after : List (ℕ × BlockRecord)) (index now : List (ℕ × List ℕ)) (block : ℕ)
      → IsIndexed table index → Some own ≡ entry_at block table → reports ≡ with_reports_of nodes length (agreeing_reports length own.reports)
      → ((n b : ℕ) → relates now n b ≡ cond (is_number block b && has_number n gone) false (cond (is_number block b && has_number n fresh) true (relates index n b)))
      → PutsRecord block (Some (with_recovered length nodes own)) table after → IsIndexed after now
  indexed_recovered table after index now block law found is says put =
      indexed holds_by table after index now block (Some (with_recovered length nodes own)) law put (λ n b. says n b ∙ by n b (is_number block b) refl)
    where
      by : (n b : ℕ) (x : Bool) → is_number block b ≡ x
          → cond (x && has_number n gone) false (cond (x && has_number n fresh) true (relates index n b)) ≡ cond x (holds_by n (Some (with_recovered length nodes own))) (relates index n b)
      by n b false at = refl
      by n b true at =
          ap (λ x. cond (has_number n gone) false (cond (has_number n fresh) true x)) (law n b ∙ (ap (λ q. holds_by n (entry_at q table)) (sym (number_is block b at)) ∙ ap (holds_by n) (sym found)))
          ∙ (holds_recovered n ∙ ap (λ rs. has_number n nodes || is_some (entry_at n rs)) is)
