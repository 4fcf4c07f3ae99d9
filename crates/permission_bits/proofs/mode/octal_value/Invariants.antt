use Rattle.std.proofs.Common.{◌≡◌, ◌<◌, ◌^◌, drop, true}
use Rattle.std.specs.List.{list_all}
use Rattle.permission_bits.specs.Mode.{octal_onto, is_octal}
use Rattle.permission_bits.proofs.mode.octal_value.Given as goal

abbrev pub invariant-loop-byte : goal.invariant-loop-byte
invariant-loop-byte l = record {
  small : l.value < 8 ^ l.byte-index;
  octal : list_all is_octal (drop l.byte-index l.bytes) ≡ true;
  read : octal_onto l.value (drop l.byte-index l.bytes) ≡ octal_onto 0 l.bytes;
}
