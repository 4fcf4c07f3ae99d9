use Rattle.std.proofs.Common.{◌≡◌, ◌<◌, true, length, get_or, sym, ◌∙◌, arith}
use Rattle.std.proofs.lemmas.Bool.Decides.{nat_tests}
use Rattle.file_paths.specs.Path.{is_slash}
use Rattle.file_paths.proofs.FirstNames.{no_names, front_passes, ends_at_slash, first_is_none}
use Rattle.file_paths.proofs.path.first_name.Goals.{else-end-bytes-via-then-end-bytes+else-bytes-end-ne47, else-end-bytes-via-else-end-bytes}
use Rattle.file_paths.proofs.path.first_name.Goals as goal

pub returns-then-bytes-end-ne47-clause-name : goal.returns-then-bytes-end-ne47-clause-name
returns-then-bytes-end-ne47-clause-name c =
    no_names c.args.bytes.now c.name_end-end.result c.if-end-bytes.true (c.name_end-end.ensures.end c.if-end-bytes.true) (grind (arith, nat_tests, c.if-bytes-end-ne47.true))

pub makes_name-requires : goal.makes_name-requires
makes_name-requires c = front_passes c.args.bytes.now c.name_end-end.result c.name_end-end.ensures.bound c.name_end-end.ensures.names

pub returns-then-makes_name-clause-name : goal.returns-then-makes_name-clause-name
returns-then-makes_name-clause-name c =
    let ends : c.name_end-end.result < length c.args.bytes.now → is_slash (get_or c.args.bytes.now c.name_end-end.result 0) ≡ true = elim c.else-end-bytes.branch [
      | else-end-bytes-via-then-end-bytes+else-bytes-end-ne47 w ↦ λ lt. grind (arith, nat_tests, w.if-bytes-end-ne47.false)
      | else-end-bytes-via-else-end-bytes w ↦ λ lt. absurd (omega (arith, lt, w.if-end-bytes.false))
    ] in
    (ends_at_slash c.args.bytes.now c.name_end-end.result c.name_end-end.ensures.bound c.name_end-end.ensures.names ends, sym c.makes_name.ensures ∙ c.if-makes_name.true)

pub returns-else-makes_name-clause-name : goal.returns-else-makes_name-clause-name
returns-else-makes_name-clause-name c =
    let ends : c.name_end-end.result < length c.args.bytes.now → is_slash (get_or c.args.bytes.now c.name_end-end.result 0) ≡ true = elim c.else-end-bytes.branch [
      | else-end-bytes-via-then-end-bytes+else-bytes-end-ne47 w ↦ λ lt. grind (arith, nat_tests, w.if-bytes-end-ne47.false)
      | else-end-bytes-via-else-end-bytes w ↦ λ lt. absurd (omega (arith, lt, w.if-end-bytes.false))
    ] in
    first_is_none c.args.bytes.now c.name_end-end.result c.name_end-end.ensures.bound
    (ends_at_slash c.args.bytes.now c.name_end-end.result c.name_end-end.ensures.bound c.name_end-end.ensures.names ends) (sym c.makes_name.ensures ∙ c.if-makes_name.false)
