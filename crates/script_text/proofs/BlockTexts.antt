-- The text of one block more.
use Rattle.std.proofs.Common.{◌≡◌, ℕ, zero, suc, ◌+◌, ◌<◌, List, [], ◌∷◌, ◌++◌, take, length, get_or, refl, sym, ap, ◌∙◌, append-nil, append_assoc, arith}
use Rattle.block_answers.specs.declared.located.LocatedBlock.{LocatedBlock}
use Rattle.script_text.specs.BlockText.{located_text, blocks_text}

next : (row : ℕ) (blocks : List LocatedBlock) (i : ℕ) (d : LocatedBlock) → i < length blocks
    → blocks_text row (take (suc i) blocks) ≡ blocks_text row (take i blocks) ++ located_text (row + i) (get_or blocks i d)
next row [] i d lt = absurd (omega arith)
next row (block ∷ blocks) zero d lt =
    let at : row ≡ row + 0 = omega arith in
    append-nil (located_text row block) ∙ ap (λ r. located_text r block) at
next row (block ∷ blocks) (suc i) d lt =
    let at : row + 1 + i ≡ row + suc i = omega arith in
    ap (λ text. located_text row block ++ text) (next (row + 1) blocks i d (omega arith) ∙ ap (λ r. blocks_text (row + 1) (take i blocks) ++ located_text r (get_or blocks i d)) at)
    ∙ sym (append_assoc (located_text row block) (blocks_text (row + 1) (take i blocks)) (located_text (row + suc i) (get_or blocks i d)))

pub one_more : (row : ℕ) (blocks : List LocatedBlock) (i : ℕ) (d : LocatedBlock) → i < length blocks
    → blocks_text row (take (i + 1) blocks) ≡ blocks_text row (take i blocks) ++ located_text (row + i) (get_or blocks i d)
one_more row blocks i d lt = let more : i + 1 ≡ suc i = omega arith in ap (λ n. blocks_text row (take n blocks)) more ∙ next row blocks i d lt
