-- How blocks are printed to their writers and readers, and the tokens that these get: each by the number of its row in the ledger of all
-- granted tokens, counted from 1.
use Rattle.std.specs.Prelude.{ℕ, ◌+◌, List, [], ◌∷◌, ◌++◌, codes}
use Rattle.std.specs.Fmt.{decimal}
use Rattle.std.specs.List.{join_by}
use Rattle.block_answers.specs.LocatedBlocks.{AddedBlock, OpenedFile}
use Rattle.block_answers.specs.declared.located.LocatedBlock.{LocatedBlock}

-- ids with a comma between each two, and `-` where there are none
abbrev pub nodes_text : List ℕ → List ℕ
nodes_text [] = codes "-"
nodes_text (node ∷ nodes) = join_by decimal (codes ",") (node ∷ nodes)

-- the token in this row
abbrev pub token_text : ℕ → List ℕ
token_text row = codes "#" ++ decimal row

-- a new block: the nodes that are to hold it, and the token to write it
abbrev pub added_text : ℕ → AddedBlock → List ℕ
added_text row added =
    decimal added.block ++ (32 ∷ (decimal added.stamp ++ (codes " targets " ++ (nodes_text added.targets ++ (codes " token " ++ token_text row)))))

-- a block to be read, behind a blank: its id, its stamp, its length, and the nodes that reported it
abbrev pub held_text : LocatedBlock → List ℕ
held_text block = 32 ∷ (decimal block.block ++ (58 ∷ (decimal block.stamp ++ (58 ∷ (decimal block.length ++ (58 ∷ nodes_text block.nodes))))))

-- behind it the token to read it
abbrev pub located_text : ℕ → LocatedBlock → List ℕ
located_text row block = held_text block ++ (58 ∷ token_text row)

-- blocks to be read, whose tokens are in one row after another
abbrev pub blocks_text : ℕ → List LocatedBlock → List ℕ
blocks_text row [] = []
blocks_text row (block ∷ blocks) = located_text row block ++ blocks_text (row + 1) blocks

-- a file to be read: its length, and its blocks
abbrev pub opened_text : ℕ → OpenedFile → List ℕ
opened_text row opened = decimal opened.length ++ blocks_text row opened.blocks
