-- What holds of each token that is kept, when one is looked up, put in or moved, and when keys come or go.
use Rattle.std.proofs.Common.{◌≡◌, ◌≤◌, ◌-◌, ◌∙◌, ℕ, zero, suc, Bool, true, false, List, [], ◌∷◌, length, take, Option, Some, None, refl, sym, ap, cond, subst, arith}
use Rattle.std.specs.Prelude.{filter, nat_eq, unwrap_or, Vec}
use Rattle.std.specs.declared.alloc.Global.{Global}
use Rattle.std.specs.Cmp.Lexicographic.{pointwise, bytes_decides}
use Rattle.std.specs.List.{AllByRecursion}
use Rattle.std.specs.Map.{lookup, lookup_entry, remove_entry}
use Rattle.std.specs.Option.{option_map_or}
use Rattle.lru.specs.LruCache.{LruCache, promoted, put_entries}
use Rattle.block_tokens.specs.KeyList.{KeyList, merged_keys, usable_keys, expires_after}
use Rattle.block_tokens.specs.TokenText.{Body}
use Rattle.block_tokens.specs.TokenTest.{IsVerified, has_code}
use Rattle.block_tokens.proofs.Expiries.{key_stays}
use Rattle.token_cache.specs.Verified.{AreVerified}

some_is : {A : Type 0} (x y : A) → Some x ≡ Some y → x ≡ y
some_is {A} x y e = ap (λ (o : Option A). unwrap_or o x) e

-- ---- entries of any map

module _ {K V : Type 0} (P : K × V → Type 0) (test : K → Bool) where
  removed : (entries : List (K × V)) → AllByRecursion P entries → AllByRecursion P (remove_entry test entries)
  removed [] all = tt
  removed (e ∷ es) all = by (removed es all.1) (test e.0) refl
    where
      by : AllByRecursion P (remove_entry test es) → (b : Bool) → test e.0 ≡ b → AllByRecursion P (cond (test e.0) es (e ∷ remove_entry test es))
      by rest true is = subst (λ b. AllByRecursion P (cond b es (e ∷ remove_entry test es))) (sym is) all.1
      by rest false is = subst (λ b. AllByRecursion P (cond b es (e ∷ remove_entry test es))) (sym is) (all.0, rest)

  found : (entries : List (K × V)) (e : K × V) → AllByRecursion P entries → lookup_entry test entries ≡ Some e → P e
  found [] e all is = cc
  found (x ∷ xs) e all is = by (found xs e all.1) (test x.0) refl
    where
      by : (lookup_entry test xs ≡ Some e → P e) → (b : Bool) → test x.0 ≡ b → P e
      by rest true at = subst P (some_is x e (ap (λ b. cond b (Some x) (lookup_entry test xs)) (sym at) ∙ is)) all.0
      by rest false at = rest (ap (λ b. cond b (Some x) (lookup_entry test xs)) (sym at) ∙ is)

  -- whose value is found stands there under a key that passes
  pub value_found : (entries : List (K × V)) (v : V) → AllByRecursion P entries → lookup test entries ≡ Some v → (k : K) × (test k ≡ true) × P (k, v)
  value_found [] v all is = cc
  value_found (x ∷ xs) v all is = by (value_found xs v all.1) (test x.0) refl
    where
      by : (lookup test xs ≡ Some v → (k : K) × (test k ≡ true) × P (k, v)) → (b : Bool) → test x.0 ≡ b → (k : K) × (test k ≡ true) × P (k, v)
      by rest true at = (x.0, at, subst (λ w. P (x.0, w)) (some_is x.1 v (ap (λ b. cond b (Some x.1) (lookup test xs)) (sym at) ∙ is)) all.0)
      by rest false at = rest (ap (λ b. cond b (Some x.1) (lookup test xs)) (sym at) ∙ is)

  taken : (n : ℕ) (entries : List (K × V)) → AllByRecursion P entries → AllByRecursion P (take n entries)
  taken zero entries all = tt
  taken (suc n) [] all = tt
  taken (suc n) (e ∷ es) all = (all.0, taken n es all.1)

  -- the one that is used goes first
  pub used : (entries : List (K × V)) → AllByRecursion P entries → AllByRecursion P (promoted test entries)
  used entries all = by (lookup_entry test entries) refl
    where
      by : (o : Option (K × V)) → lookup_entry test entries ≡ o → AllByRecursion P (promoted test entries)
      by None is = subst (λ o. AllByRecursion P (option_map_or (λ e. e ∷ remove_entry test entries) o entries)) (sym is) all
      by (Some e) is = subst (λ o. AllByRecursion P (option_map_or (λ e. e ∷ remove_entry test entries) o entries)) (sym is) (found entries e all is, removed entries all)

passes : {K V : Type 0} (test : K → Bool) (entries : List (K × V)) (e : K × V) → lookup_entry test entries ≡ Some e → test e.0 ≡ true
passes test [] e is = cc
passes {K} {V} test (x ∷ xs) e is = by (passes test xs e) (test x.0) refl
  where
    by : (lookup_entry test xs ≡ Some e → test e.0 ≡ true) → (b : Bool) → test x.0 ≡ b → test e.0 ≡ true
    by rest true same = subst (λ (y : K × V). test y.0 ≡ true) (some_is x e (ap (λ b. cond b (Some x) (lookup_entry test xs)) (sym same) ∙ is)) same
    by rest false other = rest (ap (λ b. cond b (Some x) (lookup_entry test xs)) (sym other) ∙ is)

-- a pair is put in, where the key that is there under the same name is as good
module _ {K V : Type 0} (P : K × V → Type 0) (eq : K → K → Bool) (cache : LruCache K V) (k : K) (v : V) where
  pub put : AllByRecursion P cache.entries → P (k, v) → ((other : K) → eq k other ≡ true → P (other, v)) → AllByRecursion P (put_entries eq cache k v)
  put all own same = by (lookup_entry (eq k) cache.entries) refl
    where
      by : (o : Option (K × V)) → lookup_entry (eq k) cache.entries ≡ o → AllByRecursion P (put_entries eq cache k v)
      by None is = subst (λ o. AllByRecursion P (option_map_or (λ e. (e.0, v) ∷ remove_entry (eq k) cache.entries) o ((k, v) ∷ take (cache.cap - 1) cache.entries))) (sym is)
          (own, taken P (eq k) (cache.cap - 1) cache.entries all)
      by (Some e) is = subst (λ o. AllByRecursion P (option_map_or (λ e. (e.0, v) ∷ remove_entry (eq k) cache.entries) o ((k, v) ∷ take (cache.cap - 1) cache.entries))) (sym is)
          (same e.0 (passes (eq k) cache.entries e is), removed P (eq k) cache.entries all)

-- ---- tokens

abbrev Kept : Type 0
Kept = Vec ℕ Global × Body

-- a kept token is found by its bytes
abbrev pub has_bytes : List ℕ → Vec ℕ Global → Bool
has_bytes token kept = pointwise nat_eq token kept.items

abbrev pub same_bytes : Vec ℕ Global → Vec ℕ Global → Bool
same_bytes own other = pointwise nat_eq own.items other.items

module _ (keys : KeyList) (tokens : List Kept) (token : List ℕ) (all : AreVerified keys tokens) where
  pub used_one : AreVerified keys (promoted (has_bytes token) tokens)
  used_one = used (λ (kept : Kept). IsVerified keys kept.0.items kept.1) (has_bytes token) tokens all

  pub kept_one : (parts : Body) → Some parts ≡ lookup (has_bytes token) tokens → IsVerified keys token parts
  kept_one parts is =
      let there = value_found (λ (kept : Kept). IsVerified keys kept.0.items kept.1) (has_bytes token) tokens parts all (sym is) in
      subst (λ bytes. IsVerified keys bytes parts) (sym ((bytes_decides token there.0.items).0 there.1)) there.2

pub put_one : (keys : KeyList) (cache : LruCache (Vec ℕ Global) Body) (token : Vec ℕ Global) (parts : Body) → AreVerified keys cache.entries → IsVerified keys token.items parts
    → AreVerified keys (put_entries same_bytes cache token parts)
put_one keys cache token parts all own =
    put (λ (kept : Kept). IsVerified keys kept.0.items kept.1) same_bytes cache token parts all own
    (λ other same. subst (λ bytes. IsVerified keys bytes parts) ((bytes_decides token.items other.items).0 same) own)

-- ---- keys

-- a key that is known stays, with all tokens under it
pub stay : (keys update : KeyList) (tokens : List Kept) → AreVerified keys tokens → AreVerified (merged_keys keys update) tokens
stay keys update [] all = tt
stay keys update (token ∷ tokens) all = (one all.0, stay keys update tokens all.1)
  where
    one : IsVerified keys token.0.items token.1 → IsVerified (merged_keys keys update) token.0.items token.1
    one verified =
        let later = key_stays keys (update ∷ []) token.1.serial verified.held verified.known in
        record {
          read = verified.read;
          held = later.0;
          known = later.1;
          code = ap (λ key. has_code key token.0.items token.1.code) later.2 ∙ verified.code;
        }

shorter : {A : Type 0} (p : A → Bool) (xs : List A) → length (filter p xs) ≤ length xs
shorter p [] = omega arith
shorter p (x ∷ xs) = by (shorter p xs) (p x) refl
  where
    by : length (filter p xs) ≤ length xs → (b : Bool) → p x ≡ b → length (filter p (x ∷ xs)) ≤ length (x ∷ xs)
    by rest true same = subst (λ b. length (cond b (x ∷ filter p xs) (filter p xs)) ≤ length (x ∷ xs)) (sym same) (omega (arith, rest))
    by rest false other = subst (λ b. length (cond b (x ∷ filter p xs) (filter p xs)) ≤ length (x ∷ xs)) (sym other) (omega (arith, rest))

-- where none is left out, all stay
pub none_dropped : {A : Type 0} (p : A → Bool) (xs : List A) → length xs ≤ length (filter p xs) → filter p xs ≡ xs
none_dropped p [] long = refl
none_dropped p (x ∷ xs) long = by (none_dropped p xs) (p x) refl
  where
    by : (length xs ≤ length (filter p xs) → filter p xs ≡ xs) → (b : Bool) → p x ≡ b → filter p (x ∷ xs) ≡ x ∷ xs
    by rest true same =
        let kept : filter p (x ∷ xs) ≡ x ∷ filter p xs = ap (λ b. cond b (x ∷ filter p xs) (filter p xs)) same in
        kept ∙ ap (λ l. x ∷ l) (rest (omega (arith, ap length kept, long)))
    by rest false other =
        let left : filter p (x ∷ xs) ≡ filter p xs = ap (λ b. cond b (x ∷ filter p xs) (filter p xs)) other in
        absurd (omega (arith, ap length left, long, shorter p xs))

pub none_expired : (now : ℕ) (keys : KeyList) (tokens : List Kept) → length keys ≤ length (usable_keys now keys) → AreVerified keys tokens → AreVerified (usable_keys now keys) tokens
none_expired now keys tokens long all = subst (λ held. AreVerified held tokens) (sym (none_dropped (λ entry. expires_after now entry.1.expiry) keys long)) all
