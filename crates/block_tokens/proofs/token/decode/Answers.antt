use Rattle.std.proofs.Common.{◌∙◌, arith}
use Rattle.block_tokens.proofs.Texts.{text_is_read, texts_found}
use Rattle.block_tokens.proofs.token.decode.Goals as goal

pub returns-clause-found : goal.returns-clause-found
returns-clause-found c = texts_found c.args.bytes.now c.body_of.result (λ i. omega (arith, c.type_inv.bytes i)) c.body_of.ensures

pub returns-clause-only : goal.returns-clause-only
returns-clause-only c = λ parts t. c.body_of.ensures ∙ text_is_read c.args.bytes.now parts t
