use denote.Text.{Utf8}
use denote.Shadow.{shadow}
use Rattle.std.proofs.Common.{◌≡◌, ◌++◌, length}
use Rattle.std.specs.Option.{option_map}
use Rattle.permission_specs.specs.SpecText.{entries_of_texts}
use Rattle.permission_specs.proofs.SpecTexts.{pieces_at}
use Rattle.permission_specs.proofs.spec_text.entries_of.Given as goal

-- the entries of all texts are those so far, and then those of the texts that are left
abbrev pub invariant-loop-entry : goal.invariant-loop-entry
invariant-loop-entry l = shadow (Utf8 l.rest)
    × (entries_of_texts l.with_rights (pieces_at 44 l.text) ≡ option_map (λ left. l.entries.items ++ left) (entries_of_texts l.with_rights (pieces_at 44 l.rest)))

abbrev pub decreases-loop-entry : goal.decreases-loop-entry
decreases-loop-entry l = length l.rest
