use Rattle.std.proofs.Common.{◌+◌, ap, sym, refl, ◌∙◌, arith}
use Rattle.file_blocks.specs.Blocks.{told_length}
use Rattle.flat_rows.specs.Outcome.{bytes_in}
use Rattle.inode_visits.specs.SeenNode.{seen_branch}
use Rattle.inode_visits.specs.Visits.{told_number, directories, files}
use Rattle.inode_visits.proofs.Visits.{directories_step, files_step, counted_next, counted_all, told_itself, shorter, seen_entries, seen_flatten}
use Rattle.inode_nodes.specs.Node.{flatten}
use Rattle.inode_nodes.proofs.Filters.{Entries}
use Rattle.inode_visits.proofs.visit.+count.Goals as goal

pub count_in-loop-name-preserved : goal.count_in-loop-name-preserved
count_in-loop-name-preserved t c =
    let less = shorter c.loop-name._name-iterator c.next.new.self c.in-Some._name.now c.in-Some.child.now c.in-Some.ensures.steps in
    let entries = seen_entries c.args.files.now in
    let child = seen_branch c.args.files.now c.in-Some.child.now in
    let steps = ap entries c.in-Some.ensures.steps in
    record {
      can_next = tt;
      is_finite = tt;
      directories =
          directories_step (entries c.loop-name._name-iterator) (entries c.next.new.self) c.in-Some._name.now child steps c.loop-name.directories c.count-counts.result.directories c.saturating_add-directories-else-is_bare.result
          (told_number (directories (flatten (entries c.args.map.now.entries)))) (ap (λ n. n.directories) c.count-counts.ensures) c.saturating_add-directories-else-is_bare.ensures c.loop-name.invariant.directories;
      files =
          files_step (entries c.loop-name._name-iterator) (entries c.next.new.self) c.in-Some._name.now child steps c.loop-name.others c.count-counts.result.files c.saturating_add-others.result
          (told_number (files (flatten (entries c.args.map.now.entries)))) (ap (λ n. n.files) c.count-counts.ensures) c.saturating_add-others.ensures c.loop-name.invariant.files;
      bytes =
          counted_next (flatten (entries c.args.map.now.entries)) (entries c.loop-name._name-iterator) (entries c.next.new.self) c.in-Some._name.now child c.loop-name.bytes c.count-counts.result.bytes c.sum-bytes.result steps
          (ap (λ n. n.bytes) c.count-counts.ensures) c.sum-bytes.ensures c.loop-name.invariant.bytes;
      few_directories = omega (arith, c.saturating_add-directories-else-is_bare.ensures);
      few_files = omega (arith, c.saturating_add-others.ensures);
      left = omega (arith, less, c.loop-name.invariant.left);
    }

pub count_in-returns : goal.count_in-returns
count_in-returns t c =
    let entries = seen_entries c.args.files.now in
    let whole = seen_flatten c.args.files.now c.args.map.now.entries in
    let empty = ap entries c.in-None.ensures.steps.0 in
    let counted =
    sym (told_itself c.loop-name.directories c.loop-name.invariant.few_directories) ∙ ap (λ (it : Entries). told_number (c.loop-name.directories + directories (flatten it))) (sym empty) ∙ c.loop-name.invariant.directories
    ∙ ap (λ l. told_number (directories l)) whole in
    let of_files = sym (told_itself c.loop-name.others c.loop-name.invariant.few_files) ∙ ap (λ (it : Entries). told_number (c.loop-name.others + files (flatten it))) (sym empty) ∙ c.loop-name.invariant.files ∙ ap (λ l. told_number (files l)) whole in
    let bytes =
    counted_all (flatten (entries c.args.map.now.entries)) (flatten (entries c.loop-name._name-iterator)) c.loop-name.bytes (ap flatten empty) c.loop-name.invariant.bytes ∙ ap (λ l. told_length (bytes_in l)) whole in
    rw (counted, of_files, bytes) refl
