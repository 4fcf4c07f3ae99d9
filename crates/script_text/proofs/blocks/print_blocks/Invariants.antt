use Rattle.std.proofs.Common.{◌≡◌, ◌+◌, ◌++◌, take}
use Rattle.std.specs.String.{string_bytes}
use Rattle.script_text.specs.BlockText.{blocks_text}
use Rattle.script_text.proofs.blocks.print_blocks.Given as goal

abbrev pub invariant-loop-earlier : goal.invariant-loop-earlier
invariant-loop-earlier l = string_bytes l.line ≡ string_bytes l.initial.line ++ blocks_text (l.rows + 1) (take l.earlier l.blocks)
