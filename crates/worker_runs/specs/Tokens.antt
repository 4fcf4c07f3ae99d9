-- How many tokens an answer hands out.
-- (HADOOP-4359: the NameNode grants block access tokens.)
use Rattle.std.specs.Prelude.{ℕ, ◌++◌, length}
use Rattle.hdfs_types.specs.declared.reply.Reply.{Reply}
use Rattle.flat_rows.specs.declared.verdict.Verdict.{Verdict}
use Rattle.flat_rows.specs.declared.verdict.Verdict.TheVariants.{Done, Denied, Refused}
use Rattle.history.specs.Grants.{granted_to_writer, granted_to_reader, granted_to_node}

-- to a writer, to a reader, or to a DataNode
abbrev pub tokens_told : Reply → ℕ
tokens_told told = length (granted_to_writer told ++ (granted_to_reader told ++ granted_to_node told))

abbrev pub tokens_in : Verdict → ℕ
tokens_in (Done told) = tokens_told told
tokens_in (Denied denial) = 0
tokens_in (Refused refusal) = 0
