use Rattle.std.proofs.Common.{ap, ◌∙◌}
use Rattle.std.specs.Cmp.Lexicographic.{texts_ties}
use Rattle.hdfs_values.specs.Text.{same}
use Rattle.token_provenance.proofs.index.have_one_token.Goals as goal

pub returns : goal.returns
returns c = c.eq.ensures ∙ texts_ties c.as_bytes.result.now c.as_bytes-2.result.now ∙ (ap (λ token. same token c.as_bytes-2.result.now) c.as_bytes.ensures ∙ ap (same c.args.first.now.grant.token) c.as_bytes-2.ensures)
