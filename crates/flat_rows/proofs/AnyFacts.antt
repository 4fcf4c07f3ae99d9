-- Facts for questions that don't ask them.
use Rattle.std.proofs.Common.{[], None, false}
use Rattle.flat_rows.specs.FileOutcome.{LeaseFacts}
use Rattle.flat_rows.specs.Facts.{Facts}

-- no block is known, no node, and no key
pub with_leases : LeaseFacts → Facts
with_leases leases = record {
  now = 0;
  leases = leases;
  blocks = record { retry = 0; known = record { next_block = 0; next_stamp = 0; blocks = [] }; nodes = record { dead = 0; last = [] }; marks = []; queued = [] };
  keys = [];
  next_serial = None;
  token = λ user block granted. [];
}

-- no lease is live, and none past the hard limit
pub no_facts : Facts
no_facts = with_leases (record { is_live = λ client. false; is_past_hard = λ client. false })
