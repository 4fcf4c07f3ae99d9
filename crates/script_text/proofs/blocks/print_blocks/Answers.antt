use Rattle.std.proofs.Common.{◌+◌, ◌++◌, ◌∙◌, take, ap, sym, arith, append_assoc}
use Rattle.std.specs.String.{string_bytes}
use Rattle.script_text.specs.BlockText.{located_text, blocks_text}
use Rattle.script_text.proofs.BlockTexts.{one_more}
use Rattle.script_text.proofs.blocks.print_blocks.Goals as goal

pub loop-earlier-preserved : goal.loop-earlier-preserved
loop-earlier-preserved c =
    let row = c.args.rows + 1 in
    let i = c.loop-earlier.earlier in
    let blocks = c.args.blocks.now in
    let block = c.index-blocks-earlier.result in
    c.in_ok-print_located.ensures
    ∙ ap (λ text. text ++ located_text (row + i) block) c.loop-earlier.invariant
    ∙ append_assoc (string_bytes c.args.line.now) (blocks_text row (take i blocks)) (located_text (row + i) block)
    ∙ ap (λ text. string_bytes c.args.line.now ++ text) (sym (one_more row blocks i block (omega (arith, c.loop-earlier-test.true)) ∙ ap (λ b. blocks_text row (take i blocks) ++ located_text (row + i) b) (sym c.index-blocks-earlier.is)))
