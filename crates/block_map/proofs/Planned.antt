-- A new block is added as it was planned.
use Rattle.std.proofs.Common.{◌≡◌, ◌∙◌, ℕ, List, Option, Some, None, Result, Ok, Err, refl, ap}
use Rattle.std.specs.Option.{option_or}
use Rattle.std.specs.Result.{OnOk}
use Rattle.block_records.specs.Marks.{with_marks}
use Rattle.block_records.specs.declared.fault.BlockRefusal.{BlockRefusal}
use Rattle.block_records.specs.declared.mark.Mark.{Mark}
use Rattle.heartbeats.specs.Live.{live_nodes}
use Rattle.known_blocks.specs.Known as known
use Rattle.known_blocks.specs.Known.{KnownBlocks, refused_new_block}
use Rattle.block_records.specs.declared.last_block.LastBlock.{LastBlock}
use Rattle.block_changes.specs.Behind as behind
use Rattle.block_changes.specs.Behind.{with_last_length, marks_behind}
use Rattle.block_map.specs.BlockFacts.{Blocks, refused_targets}
use Rattle.block_map.specs.BlockEffects.{refused_last, refused_behind, given_behind, added_behind}

neither : (first second : Option BlockRefusal) → option_or first second ≡ None → (first ≡ None) × (second ≡ None)
neither None second none = (refl, none)
neither (Some refusal) second none = cc

last_allowed : (facts : Blocks) (last : Option LastBlock) → refused_last facts last ≡ None → behind.refused_last_length last facts.known ≡ None
last_allowed facts None none = none
last_allowed facts (Some last) none = none

-- a new block that isn't refused finds its numbers, and its file's last block as it has to be
pub allowed : (facts : Blocks) (last : Option LastBlock) (now : ℕ) → refused_behind facts last now ≡ None
    → (refused_new_block facts.known ≡ None) × (behind.refused_last_length last facts.known ≡ None)
allowed facts last now none =
    let both = neither (refused_last facts last) (option_or (refused_targets facts now) (refused_new_block facts.known)) none in
    let rest = neither (refused_targets facts now) (refused_new_block facts.known) both.1 in
    (rest.1, last_allowed facts last both.0)

pub given_same : (facts : Blocks) (last : Option LastBlock) (now replication : ℕ)
    → behind.new_block_behind last facts.known replication (live_nodes facts.nodes now) ≡ given_behind facts last now replication
given_same facts None now replication = refl
given_same facts (Some last) now replication = refl

planned : (facts : Blocks) (last : Option LastBlock) (targets : List ℕ) (replication now : ℕ) → targets ≡ (given_behind facts last now replication).targets
    → record facts { known = known.with_new_block (with_last_length last facts.known) targets replication; marks = with_marks facts.marks (marks_behind last facts.known) }
    ≡ added_behind facts last now replication
planned facts None targets replication now is = ap (λ nodes. record facts { known = known.with_new_block facts.known nodes replication }) is
planned facts (Some last) targets replication now is =
    ap (λ nodes. record facts { known = known.with_new_block (with_last_length (Some last) facts.known) nodes replication; marks = with_marks facts.marks (marks_behind (Some last) facts.known) }) is

pub planned_where_done : {E : Type 0} (r : Result (Unit {0}) E) (facts : Blocks) (last : Option LastBlock) (targets : List ℕ) (replication now : ℕ) (own : KnownBlocks) (marks : List Mark)
    → targets ≡ (given_behind facts last now replication).targets → OnOk r (own ≡ known.with_new_block (with_last_length last facts.known) targets replication)
    → OnOk r (marks ≡ with_marks facts.marks (marks_behind last facts.known)) → OnOk r (record facts { known = own; marks = marks } ≡ added_behind facts last now replication)
planned_where_done (Ok done) facts last targets replication now own marks given added marked =
    ap (λ k. record facts { known = k; marks = marks }) added
    ∙ (ap (λ m. record facts { known = known.with_new_block (with_last_length last facts.known) targets replication; marks = m }) marked
    ∙ planned facts last targets replication now given)
planned_where_done (Err fault) facts last targets replication now own marks given added marked = tt
