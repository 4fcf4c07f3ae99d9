-- What mode is shown of a list that a mode gives.
use Rattle.std.proofs.Common.{◌≡◌, ℕ, ◌+◌, ◌*◌, ◌/◌, ◌%◌, Bool, true, false, nat_le, Option, Some, None, option_map, is_some, refl, cond, arith}
use Rattle.std.specs.Prelude.{IsTrue, unwrap_or}
use Rattle.std.proofs.lemmas.Bool.{leb-true, leb-false}
use Rattle.permission_bits.specs.Mode.{is_mode, without_sticky}
use Rattle.permission_bits.specs.Rights.{rights}
use Rattle.permission_bits.specs.declared.rights.Rights.{Rights}
use Rattle.file_states.specs.declared.kind.ObjectKind.TheVariants.{File, Directory}
use Rattle.acl_entries.specs.Acl.{Acl, acl_of_mode, shown_mode}
use Rattle.partial_acl.specs.AclChange.{with_mode}

pub shown_of_directory : (mode : ℕ) → IsTrue (is_mode mode) → shown_mode (acl_of_mode mode Directory) ≡ mode
shown_of_directory mode h = by (nat_le 512 mode) refl
  where
    by : (b : Bool) → nat_le 512 mode ≡ b → (cond b 512 0) + mode / 64 % 8 * 64 + mode / 8 % 8 * 8 + mode % 8 ≡ mode
    by true e = omega (arith, leb-true 512 mode e, leb-true mode 1023 h)
    by false e = omega (arith, leb-false 512 mode e, leb-true mode 1023 h)

pub shown_of_file : (mode : ℕ) → IsTrue (is_mode mode) → shown_mode (acl_of_mode mode File) ≡ without_sticky mode
shown_of_file mode h = omega (arith, leb-true mode 1023 h)

-- the same behind a change of the mode, which sets the mask where there is one
pub changed_directory : (mode : ℕ) (acl : Acl) → IsTrue (is_mode mode) → shown_mode (with_mode mode Directory acl) ≡ mode
changed_directory mode acl h = by (nat_le 512 mode) acl.access.mask refl
  where
    by : (b : Bool) (mask : Option Rights) → nat_le 512 mode ≡ b
        → (cond b 512 0) + mode / 64 % 8 * 64 + (unwrap_or (option_map (λ (own : Rights). rights (mode / 8 % 8)) mask) (cond (is_some mask) acl.access.group (rights (mode / 8 % 8)))).0 * 8 + mode % 8 ≡ mode
    by true None e = omega (arith, leb-true 512 mode e, leb-true mode 1023 h)
    by true (Some own) e = omega (arith, leb-true 512 mode e, leb-true mode 1023 h)
    by false None e = omega (arith, leb-false 512 mode e, leb-true mode 1023 h)
    by false (Some own) e = omega (arith, leb-false 512 mode e, leb-true mode 1023 h)

pub changed_file : (mode : ℕ) (acl : Acl) → IsTrue (is_mode mode) → shown_mode (with_mode mode File acl) ≡ without_sticky mode
changed_file mode acl h = by acl.access.mask
  where
    by : (mask : Option Rights) → 0 + mode / 64 % 8 * 64 + (unwrap_or (option_map (λ (own : Rights). rights (mode / 8 % 8)) mask) (cond (is_some mask) acl.access.group (rights (mode / 8 % 8)))).0 * 8 + mode % 8 ≡ without_sticky mode
    by None = omega (arith, leb-true mode 1023 h)
    by (Some own) = omega (arith, leb-true mode 1023 h)
