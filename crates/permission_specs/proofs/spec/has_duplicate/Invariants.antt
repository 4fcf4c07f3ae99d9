use Rattle.std.proofs.Common.{◌≡◌, false, take}
use Rattle.std.specs.List.{list_any}
use Rattle.std.specs.BTreeSet.{contains}
use Rattle.permission_specs.specs.Spec.{same_key, has_duplicate}
use Rattle.permission_specs.specs.declared.spec.Key.{Key}
use Rattle.permission_specs.proofs.SpecKeys.{key_cmp, with_key}
use Rattle.permission_specs.proofs.spec.has_duplicate.Given as goal

-- a key is seen where an entry so far has it, and no two have had one
abbrev pub invariant-loop-entry : goal.invariant-loop-entry
invariant-loop-entry l = record {
  seen : (key : Key) → contains key_cmp l.seen key ≡ list_any (same_key (with_key key)) (take l.entry-index l.entries);
  new : has_duplicate (take l.entry-index l.entries) ≡ false;
}
