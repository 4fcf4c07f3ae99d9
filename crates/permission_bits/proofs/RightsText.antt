-- The eight sets of rights and their texts.
use Rattle.std.proofs.Common.{◌≡◌, ℕ, zero, suc, ◌<◌, Bool, Some, refl, arith}
use Rattle.permission_bits.specs.Rights.{rights, rights_of, rights_text, letter}

pub read_again : (bits : ℕ) → bits < 8 → rights_of (rights_text bits) ≡ Some (rights bits)
read_again zero lt = refl
read_again (suc zero) lt = refl
read_again (suc (suc zero)) lt = refl
read_again (suc (suc (suc zero))) lt = refl
read_again (suc (suc (suc (suc zero)))) lt = refl
read_again (suc (suc (suc (suc (suc zero))))) lt = refl
read_again (suc (suc (suc (suc (suc (suc zero)))))) lt = refl
read_again (suc (suc (suc (suc (suc (suc (suc zero))))))) lt = refl
read_again (suc (suc (suc (suc (suc (suc (suc (suc n)))))))) lt = absurd (omega arith)
