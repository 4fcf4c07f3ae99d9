use Rattle.std.proofs.Common.{◌≡◌, ◌<◌, ◌≤◌, ◌+◌, ◌&&◌, ◌++◌, ◌∷◌, [], true, false, length, take, sym, ap, ◌∙◌, arith, rules}
use Rattle.std.specs.List.{list_all, position_or_len, slice_split}
use Rattle.std.proofs.lemmas.List.{length-drop}
use Rattle.hdfs_values.proofs.Cuts.{cut_before, cut_behind, cut_first}
use Rattle.file_paths.specs.Marks.{marks_of}
use Rattle.file_paths.specs.Name.{is_name}
use Rattle.file_paths.specs.Path.{is_slash}
use Rattle.file_paths.proofs.FirstNames.{first_is_none}
use Rattle.file_paths.proofs.Marked.{unmarked_passes, unmarked_pieces, behind_marks, front_is, no_name_of, name_of_some, next_all, next_items}
use Rattle.file_paths.proofs.Slashes.{slash_low}
use Rattle.file_paths.proofs.path.marked_names.Goals as goal

pub range-requires-clause-end_boundary : goal.range-requires-clause-end_boundary
range-requires-clause-end_boundary c =
    let rest = c.loop-stops.rest.now in
    let same = c.as_bytes.ensures.value in
    let lt : c.in-Some.end < length rest = omega (arith, c.in-Some.ensures.bound, ap length same) in
    cut_before is_slash slash_low rest c.in-Some.end (c.in-Some.ensures.piece.0 ∙ ap (position_or_len is_slash) same) lt

pub returns-in_default-2 : goal.returns-in_default-2
returns-in_default-2 c =
    let rest = c.loop-stops.rest.now in
    let same = c.as_bytes.ensures.value in
    let bound : c.in-Some.end ≤ length rest = omega (arith, c.in-Some.ensures.bound, ap length same) in
    let piece = c.range.ensures.value ∙ front_is rest c.in-Some.end in
    let none : is_name (take c.in-Some.end rest) ≡ false = ap is_name (sym piece) ∙ no_name_of c.range.result.now (sym c.in_ok-name.ensures ∙ c.in_default-2.is) in
    sym c.loop-stops.invariant.3 ∙ first_is_none rest c.in-Some.end bound (c.in-Some.ensures.piece.0 ∙ ap (position_or_len is_slash) same) none

pub range_from-rest-requires : goal.range_from-rest-requires
range_from-rest-requires c _ =
    let rest = c.loop-stops.rest.now in
    let same = c.as_bytes.ensures.value in
    let lt : c.in-Some.end < length rest = omega (arith, c.in-Some.ensures.bound, ap length same) in
    cut_behind is_slash slash_low rest c.in-Some.end (c.in-Some.ensures.piece.0 ∙ ap (position_or_len is_slash) same) c.loop-stops.invariant.0 lt

pub loop-stops-preserved : goal.loop-stops-preserved
loop-stops-preserved c =
    let rest = c.loop-stops.rest.now in
    let next = c.range_from-rest.result.now in
    let same = c.as_bytes.ensures.value in
    let before = c.loop-stops.invariant in
    let lt : c.in-Some.end < length rest = omega (arith, c.in-Some.ensures.bound, ap length same) in
    let cut = cut_first is_slash slash_low rest c.in-Some.end (c.in-Some.ensures.piece.0 ∙ ap (position_or_len is_slash) same) c.range.result.now next lt c.range.ensures.value c.range_from-rest.ensures.value in
    let named = name_of_some c.range.result.now c.in-Some-2.name (sym c.in_ok-name.ensures ∙ c.in-Some-2.is) in
    let pushed : c.push.new.self.items ≡ c.loop-stops.names.items ++ c.in-Some-2.name ∷ [] = search rules in (
      c.range_from-rest.utf8,
      behind_marks rest next c.in-Some.end c.loop-stops.stops before.1 c.range_from-rest.ensures.value,
      omega (arith, before.2, ap length c.range_from-rest.ensures.value, length-drop (c.in-Some.end + 1) rest),
      next_all (slice_split is_slash rest) (slice_split is_slash next) c.range.result.now _ cut named.0 before.3,
      next_items c.loop-stops.names.items c.push.new.self.items (slice_split is_slash rest) (slice_split is_slash next) _ c.range.result.now c.in-Some-2.name pushed named.1 cut before.4,
    )

pub spelled-requires-2 : goal.spelled-requires-2
spelled-requires-2 c =
    let none : marks_of c.loop-stops.rest.now ≡ 0 = omega (arith, c.loop-stops-test.false, c.loop-stops.invariant.1) in
    unmarked_passes c.loop-stops.rest.now none

pub returns-in_default-3 : goal.returns-in_default-3
returns-in_default-3 c =
    let rest = c.loop-stops.rest.now in
    let none : marks_of rest ≡ 0 = omega (arith, c.loop-stops-test.false, c.loop-stops.invariant.1) in
    sym c.loop-stops.invariant.3 ∙ ap (list_all is_name) (unmarked_pieces rest none) ∙ ap (λ b. b && true) (no_name_of rest (sym c.in_ok-name-2.ensures ∙ c.in_default-3.is))

pub returns : goal.returns
returns c =
    let rest = c.loop-stops.rest.now in
    let none : marks_of rest ≡ 0 = omega (arith, c.loop-stops-test.false, c.loop-stops.invariant.1) in
    let named = name_of_some rest c.in-Some-3.name (sym c.in_ok-name-2.ensures ∙ c.in-Some-3.is) in
    let one = unmarked_pieces rest none in
    let pushed : c.push-2.new.self.items ≡ c.loop-stops.names.items ++ c.in-Some-3.name ∷ [] = search rules in (
      sym c.loop-stops.invariant.3 ∙ ap (list_all is_name) one ∙ ap (λ b. b && true) named.0,
      pushed ∙ ap (λ name. c.loop-stops.names.items ++ name ∷ []) named.1 ∙ ap (λ pieces. c.loop-stops.names.items ++ pieces) (sym one) ∙ c.loop-stops.invariant.4,
    )
