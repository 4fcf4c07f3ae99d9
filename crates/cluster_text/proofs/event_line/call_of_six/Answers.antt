use Rattle.std.proofs.Common.{[], Result}
use Rattle.hdfs_values.specs.declared.fault.IllFormed.{IllFormed}
use Rattle.cluster_trace.specs.DataCall.{DataCall}
use Rattle.script_words.specs.LineForms.{Forms}
use Rattle.cluster_text.proofs.Counts.{no_call, six_words}
use Rattle.cluster_text.proofs.event_line.call_of_six.Goals as goal

pub returns-then-words-ne6 : goal.returns-then-words-ne6
returns-then-words-ne6 c = λ verb. no_call c.args.ledger.now c.args.asker.now verb c.args.words.now c.requires.two c.requires.four c.requires.five c.if-words-ne6.true

pub returns : goal.returns
returns c = λ verb. six_words c.args.ledger.now c.args.asker.now verb (λ (own : Result DataCall IllFormed). Forms c.packet_of.result own) c.args.words.now (record { ref_ptr = (0, 0); now = [] }) c.if-words-ne6.false c.packet_of.ensures
