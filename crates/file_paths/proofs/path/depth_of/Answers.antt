use Rattle.std.proofs.Common.{◌≡◌, true, false, length, Some, None, cond, sym, ap, ◌∙◌, arith}
use Rattle.std.specs.List.{list_all, slice_split}
use Rattle.std.proofs.lemmas.Bool.Decides.{nat_tests}
use Rattle.file_paths.specs.Name.{is_name}
use Rattle.file_paths.specs.Path.{is_path, is_slash}
use Rattle.file_paths.proofs.Paths.{length-text, some_if}
use Rattle.file_paths.proofs.path.depth_of.Goals as goal

pub returns-then-text-gt-MAX_BYTES : goal.returns-then-text-gt-MAX_BYTES
returns-then-text-gt-MAX_BYTES c =
    let names = slice_split is_slash c.args.rest.now in
    let long = length-text c.args.text.now c.args.rest.now c.requires in
    let is : is_path names ≡ false = grind (arith, nat_tests, long, c.if-text-gt-MAX_BYTES.true) in
    sym (ap (λ b. cond b (Some (length names)) None) is)

pub returns : goal.returns
returns c =
    let names = slice_split is_slash c.args.rest.now in
    let counted = ap (λ bytes. cond (list_all is_name (slice_split is_slash bytes)) (Some (length (slice_split is_slash bytes))) None) c.as_bytes.ensures.value in
    let found = some_if (list_all is_name names) (length names) c.in-Some.count (sym c.in-Some.is ∙ c.name_count.ensures ∙ counted) in
    let long = length-text c.args.text.now c.args.rest.now c.requires in
    let is : is_path names ≡ true = grind (arith, nat_tests, long, found.0, found.1, c.if-count-gt-MAX_NAMES.false, c.if-text-gt-MAX_BYTES.false) in
    ap (λ n. Some n) found.1 ∙ sym (ap (λ b. cond b (Some (length names)) None) is)
