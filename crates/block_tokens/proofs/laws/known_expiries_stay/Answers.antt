use Rattle.std.proofs.Common.{fold}
use Rattle.block_tokens.specs.KeyList.{merged_keys}
use Rattle.block_tokens.proofs.Expiries.{expiry_stays, key_stays}
use Rattle.block_tokens.proofs.Taking.{unknown_key}
use Rattle.block_tokens.proofs.laws.known_expiries_stay.Goals as goal

pub returns-clause-kept : goal.returns-clause-kept
returns-clause-kept c = key_stays

pub returns-clause-keys : goal.returns-clause-keys
returns-clause-keys c = expiry_stays

pub returns-clause-tokens : goal.returns-clause-tokens
returns-clause-tokens c = λ keys updates expiry access bytes parts ordered known le text.
    unknown_key (fold merged_keys keys updates) access bytes parts text (expiry_stays keys updates parts.serial expiry access.now ordered known le)
