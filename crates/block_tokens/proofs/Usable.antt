-- Keys whose known expiry has come, left out before or after the look-up.
use Rattle.std.proofs.Common.{◌≡◌, ℕ, Option, Some, None, refl, ◌∙◌}
use Rattle.std.specs.Cmp.{eq_by_cmp_equiv}
use Rattle.std.specs.Map.{keys_of}
use Rattle.std.specs.Ordering.{nat_cmp}
use Rattle.std.proofs.lemmas.Cmp.{nat_cmp_total}
use Rattle.std.proofs.lemmas.Map.Entries.{lookup-filter-values, option_filter}
use Rattle.std.proofs.lemmas.Map.Keys.{IsDistinct-from_sorted}
use Rattle.block_tokens.specs.KeyList.{KeyList, AreKeys, key_with, usable_keys, unless_expired, expires_after}
use Rattle.block_answers.specs.declared.key_list.HeldKey.{HeldKey}

as_filter : (now : ℕ) (known : Option HeldKey) → option_filter (λ (held : HeldKey). expires_after now held.expiry) known ≡ unless_expired now known
as_filter now None = refl
as_filter now (Some held) = refl

pub usable_key : (now serial : ℕ) (keys : KeyList) → AreKeys keys → key_with serial (usable_keys now keys) ≡ unless_expired now (key_with serial keys)
usable_key now serial keys ordered =
    lookup-filter-values (eq_by_cmp_equiv nat_cmp_total) (λ (held : HeldKey). expires_after now held.expiry) serial keys (IsDistinct-from_sorted nat_cmp (keys_of keys) ordered)
    ∙ as_filter now (key_with serial keys)
