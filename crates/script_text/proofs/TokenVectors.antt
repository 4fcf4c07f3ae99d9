-- The definitions at the line of a token, and at a text that is none.
use Rattle.std.proofs.Common.{arith, rules, refl, true, false}
use Rattle.std.specs.Prelude.{codes, replicate}
use Rattle.std.specs.Fmt.{digits}
use Rattle.hex.specs.Hex.{decode_pairs, encode_with}
use Rattle.block_tokens.specs.TokenText.{Body, token_bytes, version_1_fields}
use Rattle.script_text.specs.TokenLine.{ShowsToken}

-- bob may read block 1 before 36000100, under the key with serial 1
bobs : Body
bobs = record { expiry = 36000100; serial = 1; block = 1; modes = 1; user = codes "bob"; code = replicate 20 0 }

bobs_line : ShowsToken (codes "0100000000022551640000000100000000000000010103626f620000000000000000000000000000000000000000") false
    (codes "version 1 expiry 36000100 serial 1 block 1 modes r- user bob code 0000000000000000000000000000000000000000")
unfolding bobs digits decode_pairs encode_with version_1_fields
bobs_line = (
  bobs,
  record {
    bytes = token_bytes bobs;
    decoded = refl;
    text = record {
      parts_fit = record { expiry = omega arith; serial = omega arith; block = omega arith; modes = search rules; user = search rules; code = refl };
      spelled = refl;
    };
  },
  refl,
)

odd_digits : ShowsToken (codes "010") true (codes "T1 Malformed")
odd_digits = (λ parts spelled. cc (spelled.decoded), refl)
