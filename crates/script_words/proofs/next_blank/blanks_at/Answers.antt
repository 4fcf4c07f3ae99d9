use Rattle.std.proofs.Common.{ℕ, ◌||◌, cond, eqb, get_or, max, ap, ◌∙◌, arith}
use Rattle.std.specs.Simd.Lanes.{chunk}
use Rattle.std.proofs.lemmas.Nat.Bits.{bit_at_or}
use Rattle.std.proofs.lemmas.Simd.{length-chunk, get_or-chunk}
use Rattle.script_words.proofs.Marks.{either_mark, past}
use Rattle.script_words.proofs.next_blank.blanks_at.Goals as goal

pub returns-clause-within : goal.returns-clause-within
returns-clause-within o c k l =
    let line = c.args.line.now in
    let own = get_or (chunk c.args.at o.row.N line) k 0 in
    bit_at_or c.marks_of.result c.marks_of-2.result k
    ∙ (λ i. max (c.marks_of.ensures k i) (c.marks_of-2.ensures k i))
    ∙ either_mark (eqb own 32) (eqb own 9)
    ∙ ap (λ byte. cond {A = ℕ} (eqb byte 32 || eqb byte 9) 1 0) (get_or-chunk c.args.at o.row.N line k 0 l)

pub returns-clause-no_more : goal.returns-clause-no_more
returns-clause-no_more o c k l =
    let bytes = chunk c.args.at o.row.N c.args.line.now in
    let own = get_or bytes k 0 in
    bit_at_or c.marks_of.result c.marks_of-2.result k
    ∙ (λ i. max (c.marks_of.ensures k i) (c.marks_of-2.ensures k i))
    ∙ either_mark (eqb own 32) (eqb own 9)
    ∙ ap (λ byte. cond {A = ℕ} (eqb byte 32 || eqb byte 9) 1 0) (past bytes k (omega (arith, length-chunk c.args.at o.row.N c.args.line.now c.requires.there, l)))
