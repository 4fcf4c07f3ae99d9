-- When a token is taken.
use Rattle.std.proofs.Common.{◌≡◌, ℕ, zero, suc, ◌+◌, ◌-◌, ◌*◌, ◌<◌, Bool, true, false, cond, not, eqb, List, [], ◌∷◌, ◌++◌, length, take, get_or, Option, Some, None, refl, sym, ap, ◌∙◌, arith}
use Rattle.std.specs.Prelude.{nat_le}
use Rattle.std.specs.Int.{w32, to_be_bytes}
use Rattle.std.proofs.lemmas.Bool.{eqb-true}
use Rattle.std.proofs.lemmas.Bool.Decides.{nat_tests}
use Rattle.std.proofs.lemmas.List.{length-append, take_at, get_or_append_left, nil_from_length}
use Rattle.permission_bits.specs.Rights.{covers}
use Rattle.hdfs_values.specs.Text.{same}
use Rattle.hdfs_values.proofs.Texts.{same_is, same_self}
use Rattle.permission_bits.specs.declared.modes.Modes.{Modes}
use Rattle.sha1.specs.Sha1.{sha1, digest_bytes}
use Rattle.block_tokens.specs.Hmac.{hmac_sha1}
use Rattle.block_tokens.specs.KeyList.{KeyList, key_with, usable_keys}
use Rattle.block_tokens.specs.Laws.{IsTokenTaken, IsKeyHeld, IsIssue}
use Rattle.block_tokens.specs.Reading.{parts_of}
use Rattle.block_tokens.specs.Ring.{KeyRing, parts_with, coded_token, grant_of}
use Rattle.block_tokens.specs.TokenTest.{Access, access_test, has_code, code_test, parts_test, token_test}
use Rattle.block_tokens.specs.TokenText.{Body, TokenText, version_1_fields, coded_bytes, before_code}
use Rattle.block_answers.specs.declared.key_list.HeldKey.{HeldKey}
use Rattle.block_tokens.specs.declared.refusal.TokenRefusal.{TokenRefusal}
use Rattle.block_tokens.specs.declared.refusal.TokenRefusal.TheVariants.{UnknownKey, CodeMismatch, Expired, WrongUser, WrongBlock, WrongMode}
use Rattle.block_tokens.proofs.Fields.{IsBytes}
use Rattle.block_tokens.proofs.Grants.{code_apart}
use Rattle.block_tokens.proofs.Texts.{text_is_read, read_is_text, some_is}

-- ---- texts

pub parts_told : (bytes : List ℕ) (p q : Body) → TokenText bytes p → TokenText bytes q → p ≡ q
parts_told bytes p q t u = some_is p q (sym (text_is_read bytes p t) ∙ text_is_read bytes q u)

fields_length : (p : Body) → length (coded_bytes p) ≡ 23 + length p.user
unfolding version_1_fields
fields_length p = omega arith

user_length : (p : Body) → get_or (coded_bytes p) 22 0 ≡ length p.user
unfolding version_1_fields
user_length p = refl

text_length : (bytes : List ℕ) (p : Body) → TokenText bytes p → length bytes ≡ 43 + length p.user
text_length bytes p t = ap length t.spelled ∙ omega (arith, length-append (coded_bytes p) p.code, fields_length p, t.parts_fit.code)

text_names_length : (bytes : List ℕ) (p : Body) → TokenText bytes p → get_or bytes 22 0 ≡ length p.user
text_names_length bytes p t =
    ap (λ (x : List ℕ). get_or x 22 0) t.spelled ∙ get_or_append_left (coded_bytes p) p.code 0 22 (omega (arith, fields_length p)) ∙ user_length p

pub no_extension : (bytes more : List ℕ) (p q : Body) → TokenText bytes p → TokenText (bytes ++ more) q → more ≡ []
no_extension bytes more p q t u =
    let one : length p.user ≡ length q.user =
    sym (text_names_length bytes p t) ∙ sym (get_or_append_left bytes more 0 22 (omega (arith, text_length bytes p t))) ∙ text_names_length (bytes ++ more) q u in
    nil_from_length more (omega (arith, text_length bytes p t, text_length (bytes ++ more) q u, length-append bytes more))

-- ---- codes

before : (bytes : List ℕ) (p : Body) → TokenText bytes p → before_code bytes ≡ coded_bytes p
before bytes p t =
    let len : length bytes - 20 ≡ length (coded_bytes p) = omega (arith, ap length t.spelled, length-append (coded_bytes p) p.code, t.parts_fit.code) in
    ap (λ (n : ℕ). take n bytes) len ∙ ap (λ (x : List ℕ). take (length (coded_bytes p)) x) t.spelled ∙ take_at (coded_bytes p) p.code (length (coded_bytes p)) refl

-- ---- the test of a text

-- the test goes by the parts of a text and the usable key
test_is : (keys : KeyList) (access : Access) (bytes : List ℕ) (p : Body) (known : Option HeldKey) → TokenText bytes p → key_with p.serial (usable_keys access.now keys) ≡ known
    → token_test keys access bytes ≡ code_test known bytes p access
unfolding token_test
test_is keys access bytes p known t k = ap (λ (o : Option Body). parts_test keys bytes o access) (text_is_read bytes p t) ∙ ap (λ (o : Option HeldKey). code_test o bytes p access) k

pub unknown_key : (keys : KeyList) (access : Access) (bytes : List ℕ) (p : Body) → TokenText bytes p → key_with p.serial (usable_keys access.now keys) ≡ None → token_test keys access bytes ≡ Some UnknownKey
unknown_key keys access bytes p t k = test_is keys access bytes p None t k

access_right : (p : Body) (access : Access) → access.now < p.expiry → p.user ≡ access.caller → p.block ≡ access.block → covers p.modes access.mode ≡ true → access_test p access ≡ None
access_right p access in_time user block allowed =
    let early : nat_le p.expiry access.now ≡ false = grind (arith, nat_tests) in
    let his : same p.user access.caller ≡ true = ap (λ (x : List ℕ). same p.user x) (sym user) ∙ same_self p.user in
    let this : eqb p.block access.block ≡ true = grind (arith, nat_tests) in
    rw (early, his, this, allowed) refl

code_right : (held : HeldKey) (bytes : List ℕ) (p : Body) → TokenText bytes p → p.code ≡ hmac_sha1 held.key (coded_bytes p) → has_code held.key bytes p.code ≡ true
code_right held bytes p t e =
    ap (λ (x : List ℕ). same (hmac_sha1 held.key x) p.code) (before bytes p t) ∙ ap (λ (x : List ℕ). same x p.code) (sym e) ∙ same_self p.code

pub taken : (keys : KeyList) (access : Access) (bytes : List ℕ) (p : Body) (held : HeldKey) → IsTokenTaken keys access bytes p held → token_test keys access bytes ≡ None
taken keys access bytes p held h =
    test_is keys access bytes p (Some held) h.text h.usable
    ∙ rw (code_right held bytes p h.text h.code) (access_right p access h.in_time h.user h.block h.allowed)

-- ---- what the test tells where it names no refusal

refused_not : {x : TokenRefusal} → Some x ≡ None → ⊥
refused_not e = cc

chosen_on : (b : Bool) (o : Option TokenRefusal) (x : TokenRefusal) → cond b o (Some x) ≡ None → (b ≡ true) × (o ≡ None)
chosen_on true o x e = (refl, e)
chosen_on false o x e = absurd (refused_not e)

chosen_off : (b : Bool) (o : Option TokenRefusal) (x : TokenRefusal) → cond b (Some x) o ≡ None → (b ≡ false) × (o ≡ None)
chosen_off true o x e = absurd (refused_not e)
chosen_off false o x e = (refl, e)

not_off : (b : Bool) → not b ≡ false → b ≡ true
not_off true e = refl
not_off false e = sym e

record IsAllowed (p : Body) (access : Access) : Type 0 where
  in_time : access.now < p.expiry
  user : p.user ≡ access.caller
  block : p.block ≡ access.block
  allowed : covers p.modes access.mode ≡ true

access_tells : (p : Body) (access : Access) → access_test p access ≡ None → IsAllowed p access
access_tells p access e =
    let mode = cond (not (covers p.modes access.mode)) (Some WrongMode) None in
    let block = cond (not (eqb p.block access.block)) (Some WrongBlock) mode in
    let user = cond (not (same p.user access.caller)) (Some WrongUser) block in
    let a = chosen_off (nat_le p.expiry access.now) user Expired e in
    let b = chosen_off (not (same p.user access.caller)) block WrongUser a.1 in
    let d = chosen_off (not (eqb p.block access.block)) mode WrongBlock b.1 in
    let m = chosen_off (not (covers p.modes access.mode)) None WrongMode d.1 in
    record {
      in_time = grind (arith, nat_tests, a.0);
      user = same_is p.user access.caller (not_off (same p.user access.caller) b.0);
      block = eqb-true p.block access.block (not_off (eqb p.block access.block) d.0);
      allowed = not_off (covers p.modes access.mode) m.0;
    }

code_tells : (keys : KeyList) (access : Access) (bytes : List ℕ) (p : Body) (known : Option HeldKey) → TokenText bytes p → key_with p.serial (usable_keys access.now keys) ≡ known
    → code_test known bytes p access ≡ None → (held : HeldKey) × IsTokenTaken keys access bytes p held
code_tells keys access bytes p None t k e = absurd (refused_not e)
code_tells keys access bytes p (Some held) t k e =
    let a = chosen_on (has_code held.key bytes p.code) (access_test p access) CodeMismatch e in
    let right = access_tells p access a.1 in
    let code : p.code ≡ hmac_sha1 held.key (coded_bytes p) = sym (same_is (hmac_sha1 held.key (before_code bytes)) p.code a.0) ∙ ap (hmac_sha1 held.key) (before bytes p t) in
    (held, record { text = t; usable = k; code = code; in_time = right.in_time; user = right.user; block = right.block; allowed = right.allowed })

parts_tell : (keys : KeyList) (access : Access) (bytes : List ℕ) (read : Option Body) → IsBytes bytes → parts_of bytes ≡ read → parts_test keys bytes read access ≡ None
    → (p : Body) × (held : HeldKey) × IsTokenTaken keys access bytes p held
parts_tell keys access bytes None fits r e = absurd (refused_not e)
parts_tell keys access bytes (Some p) fits r e =
    let t : TokenText bytes p = read_is_text bytes p fits r in
    let found = code_tells keys access bytes p (key_with p.serial (usable_keys access.now keys)) t refl e in
    (p, found.0, found.1)

pub test_tells : (keys : KeyList) (access : Access) (bytes : List ℕ) → IsBytes bytes → token_test keys access bytes ≡ None → (p : Body) × (held : HeldKey) × IsTokenTaken keys access bytes p held
unfolding token_test
test_tells keys access bytes fits e = parts_tell keys access bytes (parts_of bytes) fits refl e

-- ---- what a ring issued

digest_length : (h : List ℕ) (n : ℕ) → length (digest_bytes h n) ≡ 4 * n
unfolding digest_bytes
digest_length h zero = refl
digest_length h (suc n) = omega (arith, length-append (digest_bytes h n) (to_be_bytes w32 (get_or h n 0)), digest_length h n)

sha1_length : (text : List ℕ) → length (sha1 text) ≡ 20
unfolding sha1
sha1_length text = digest_length _ 5

code_length : (key text : List ℕ) → length (hmac_sha1 key text) ≡ 20
unfolding hmac_sha1
code_length key text = sha1_length _

pub issued_taken : (ring : KeyRing) (issued now : ℕ) (user : List ℕ) (block mode : ℕ) (modes : Modes) (keys : KeyList)
    → IsIssue ring issued user block modes → IsKeyHeld keys now ring.serial ring.key → covers modes.0 mode ≡ true → now < issued + ring.lifetime
    → token_test keys (record { now = now; caller = user; block = block; mode = mode }) (grant_of ring issued user block modes).token ≡ None
unfolding coded_token
issued_taken ring issued now user block mode modes keys fits held covered lt =
    let plain : Body = parts_with ring issued user block modes.0 [] in
    let code : List ℕ = hmac_sha1 ring.key (coded_bytes plain) in
    let p : Body = parts_with ring issued user block modes.0 code in
    let same_bytes : coded_bytes plain ≡ coded_bytes p = ap (λ (x : List ℕ). 1 ∷ x) (code_apart plain code) in
    let bytes : List ℕ = coded_token ring.key (coded_bytes plain) in
    let text : TokenText bytes p = record {
      parts_fit = record { expiry = omega (arith, fits.moment, fits.lifetime); serial = fits.serial; block = fits.block_fits; modes = fits.modes_allow; user = fits.named; code = code_length ring.key (coded_bytes plain) };
      spelled = ap (λ (x : List ℕ). x ++ code) same_bytes;
    } in
    let right : code ≡ hmac_sha1 held.0.key (coded_bytes p) = ap (λ (k : List ℕ). hmac_sha1 k (coded_bytes plain)) (sym held.2) ∙ ap (hmac_sha1 held.0.key) same_bytes in
    taken keys (record { now = now; caller = user; block = block; mode = mode }) bytes p held.0
    (record { text = text; usable = held.1; code = right; in_time = lt; user = refl; block = refl; allowed = covered })
