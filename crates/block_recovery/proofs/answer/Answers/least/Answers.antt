use Rattle.std.proofs.Common.{sym, ap, ◌∙◌, ℕ, min, rules, tests}
use Rattle.std.proofs.lemmas.Iterator.{YieldsList-from_slice, YieldsList-from_map}
use Rattle.std.proofs.lemmas.Iterator.Consumers.{YieldsList-at, min_from_yields_List}
use Rattle.std.proofs.lemmas.Iterator.Adapters.{option_map_id}
use Rattle.std.specs.List.{reduce}
use Rattle.std.specs.Map.{values_of}
use Rattle.block_recovery.specs.Decision.{least_of}
use Rattle.block_recovery.specs.declared.answer.Answer.{Answer}
use Rattle.block_recovery.proofs.Deciding.{lengths_of}
use Rattle.block_recovery.proofs.answer.Answers.least.Goals as goal

pub returns : goal.returns
returns c =
    sym (option_map_id c.min.result)
    ∙ (min_from_yields_List c.map.result c.min.result c.min.ensures.ran
    (YieldsList-from_map _ (λ (own : ℕ × Answer). own.1.length)
    (YieldsList-at c.map.ensures.source (YieldsList-from_slice c.self.inside.by_node.items (c.iter.ensures.rest ∙ c.deref.ensures.value)))
    c.map.ensures.closure (λ x r q k. search (rules, tests)))
    ∙ (ap (reduce min) (lengths_of c.self.inside.by_node.items) ∙ ap (λ answers. least_of (values_of answers)) c.self.view_is))
