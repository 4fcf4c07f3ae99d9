use Rattle.file_paths.proofs.Spelling.{read_again, spelled_by}
use Rattle.file_paths.proofs.path.paths_have_one_spelling.Goals as goal

pub returns-clause-read : goal.returns-clause-read
returns-clause-read c = read_again

pub returns-clause-spelled : goal.returns-clause-spelled
returns-clause-spelled c = spelled_by
