-- What contracts see of a key ring.
use Rattle.block_tokens.specs.Ring.{KeyRing}
use Rattle.block_tokens.specs.declared.ring.KeyRing.TheInside.{Inside}

abbrev pub shown_ring : Inside → KeyRing
shown_ring ring = record { older = ring.older; serial = ring.serial; key = ring.key; lifetime = ring.lifetime }
