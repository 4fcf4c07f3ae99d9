-- What a DataNode knows of a key once it merged an update that lists it.
use Rattle.std.proofs.Common.{◌≡◌, ℕ, [], ◌∷◌, Some, None, sym, ap, ◌∙◌, inl, inr}
use Rattle.std.specs.List.Sorted.{IsStrictlySortedBy}
use Rattle.std.proofs.lemmas.Bool.{cases_eq}
use Rattle.block_answers.specs.declared.key_list.HeldKey.{HeldKey}
use Rattle.block_tokens.specs.KeyList.{KeyList, AreKeys, key_with, learned_key, with_merged_key, merged_keys}
use Rattle.block_tokens.proofs.Expiries.{absent, some_is_none, untouched}
use Rattle.block_tokens.proofs.Updates.{at_same, at_other, inserted_same, inserted_other}

some_same : (one other : HeldKey) → Some one ≡ Some other → one ≡ other
some_same one other e = cc

pub learned : (update keys : KeyList) (serial : ℕ) (new : HeldKey) → AreKeys update → key_with serial update ≡ Some new → key_with serial (merged_keys keys update) ≡ Some (learned_key (key_with serial keys) new)
unfolding IsStrictlySortedBy merged_keys
learned [] keys serial new ordered listed = absurd (some_is_none (sym listed))
learned (e ∷ update) keys serial new ordered listed = elim (cases_eq serial e.0) [
  | inl same ↦
      let first : e.1 ≡ new = some_same e.1 new (rw (at_same serial e.0 same) at listed) in
      let rest : key_with serial update ≡ None = ap (λ (s : ℕ). key_with s update) same ∙ absent update e.0 ordered.0 in
      untouched update (with_merged_key keys e) serial rest
      ∙ ap (λ (s : ℕ). key_with s (with_merged_key keys e)) same
      ∙ inserted_same keys e.0 (learned_key (key_with e.0 keys) e.1)
      ∙ ap (λ (s : ℕ). Some (learned_key (key_with s keys) e.1)) (sym same)
      ∙ ap (λ (held : HeldKey). Some (learned_key (key_with serial keys) held)) first
  | inr other ↦
      let rest : key_with serial update ≡ Some new = rw (at_other serial e.0 other) at listed in
      learned update (with_merged_key keys e) serial new ordered.1 rest
      ∙ ap (λ known. Some (learned_key known new)) (inserted_other keys e.0 serial (learned_key (key_with e.0 keys) e.1) other)
]
