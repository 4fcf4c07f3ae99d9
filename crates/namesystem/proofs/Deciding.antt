-- What a request that writes a file is free of, where it is done.
use Rattle.std.proofs.Common.{◌≡◌, ℕ, true, List, [], ◌∷◌, Option, None, Some, refl, sym, ap, ◌∙◌}
use Rattle.hdfs_types.specs.declared.op.Op.{Op}
use Rattle.hdfs_types.specs.declared.op.Op.TheVariants as op
use Rattle.refusals.specs.declared.refusal.Refusal.{Refusal}
use Rattle.principals.specs.Users.{Users}
use Rattle.namespace_rows.specs.declared.row.Row.{Row}
use Rattle.flat_rows.specs.declared.verdict.Verdict as answer
use Rattle.namespace_rows.specs.Rows.{row_at}
use Rattle.flat_rows.specs.FileOutcome.{directory_there, of_file, refused_write}
use Rattle.flat_rows.specs.BlockOutcome.{refused_unless_last, refused_end}
use Rattle.flat_rows.specs.Facts.{Facts}
use Rattle.flat_rows.proofs.AnyFacts.{no_facts}
use Rattle.flat_rows.specs.Outcome.{step, first_some, beneath_file, nothing_at}
use Rattle.flat_rows.specs.Verdicts.{is_done}
use Rattle.namesystem.specs.declared.namesystem.Namesystem.{Namesystem}
use Rattle.file_effects.specs.Effected.{IsFree, refused_end_of}
use Rattle.namesystem.proofs.Performing.{done_free}

pub free_of : (facts : Facts) (rows : List Row) (users : Users) (caller : List ℕ) (what : Op) (verdict : answer.Verdict) → verdict ≡ (step facts rows users caller what).verdict → is_done verdict ≡ true → IsFree what caller rows users
free_of facts rows users caller what verdict is done = (facts, (done_free facts rows users caller what (ap is_done (sym is) ∙ done)).free)

-- with these blocks
abbrev pub facts_on : Namesystem → Facts
facts_on system = record no_facts { blocks = system.blocks }

fifth : (a b c d e f : Option Refusal) → first_some (a ∷ b ∷ c ∷ d ∷ e ∷ f ∷ []) ≡ None → f ≡ None
fifth None None None None None None h = refl
fifth None None None None None (Some f) h = cc
fifth None None None None (Some e) f h = cc
fifth None None None (Some d) e f h = cc
fifth None None (Some c) d e f h = cc
fifth None (Some b) c d e f h = cc
fifth (Some a) b c d e f h = cc

-- where a request to close a file is done, the map of blocks doesn't refuse it
pub reported_end : (facts : Facts) (rows : List Row) (users : Users) (caller : List ℕ) (what : Op) (verdict : answer.Verdict) → verdict ≡ (step facts rows users caller what).verdict → is_done verdict ≡ true → refused_end_of what facts.blocks ≡ None
reported_end facts rows users caller (op.Complete path last) verdict is done =
    fifth (beneath_file path rows) (nothing_at (row_at path rows)) (directory_there (row_at path rows)) (of_file (refused_write caller) (row_at path rows)) (of_file (refused_unless_last last) (row_at path rows)) (refused_end facts.blocks last)
    (done_free facts rows users caller (op.Complete path last) (ap is_done (sym is) ∙ done)).free
reported_end facts rows users caller _ verdict is done = refl
