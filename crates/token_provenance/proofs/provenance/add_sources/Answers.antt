use Rattle.std.proofs.Common.{◌≡◌, sym, ap, ◌∙◌, ◌++◌, ◌∷◌, [], map, take, List, arith, append_assoc}
use Rattle.std.proofs.lemmas.List.{map_more}
use Rattle.token_provenance.specs.declared.source.Source.{Source}
use Rattle.token_provenance.specs.Provenance.{source_at, source_of}
use Rattle.token_provenance.proofs.provenance.add_sources.Goals as goal

pub loop-entry-preserved : goal.loop-entry-preserved
loop-entry-preserved c = λ rows law.
    let more = map_more (source_of rows) c.args.log.now c.loop-entry.entry-index c.entry-item.result (omega arith) in
    let here : c.source_at.result ≡ source_of rows c.entry-item.result = c.source_at.ensures ∙ ap source_at (c.least_place.ensures rows law) in
    c.in_ok-push.ensures.items
    ∙ (ap (λ (l : List Source). l ++ c.source_at.result ∷ []) (c.loop-entry.invariant rows law)
    ∙ (append_assoc c.args.sources.now.items (map (source_of rows) (take c.loop-entry.entry-index c.args.log.now)) (c.source_at.result ∷ [])
    ∙ ap (λ (l : List Source). c.args.sources.now.items ++ l) (ap (λ s. map (source_of rows) (take c.loop-entry.entry-index c.args.log.now) ++ s ∷ []) (here ∙ ap (source_of rows) c.entry-item.is) ∙ sym more)))
