-- What a pass is once the answer that it lends is given back.
use Rattle.std.specs.Prelude.{◌≡◌, ⊤, Result, MatchResult}
use Rattle.std.specs.Borrow.{MutBor, Fml, follows_so}
use mathlib.Core.Option.{none}
use denote.Ref.{Bor}
use Rattle.hdfs_types.specs.declared.op.Request.{Request}
use Rattle.history.specs.declared.entry.Answer.{Answer}
use Rattle.name_core.specs.NameCore.{NameCore}
use Rattle.name_service.specs.Passes.{Pass, ChangeAnswered, LookAnswered, Gains}
use Rattle.name_service.specs.declared.pass.AskFault.{AskFault}
use Rattle.name_service.specs.contracts.pass.Pass.{the_row}

-- where the answer is given back, the pass is one of which this holds
abbrev pub EndsAs : MutBor Pass → (Pass → Type 0) → Fml
EndsAs pass holds = follows_so the_row the_row pass.ghost_name none (λ _ _. ⊤) holds

abbrev pub PassAnswers : MutBor Pass → NameCore → Request → NameCore → Result (Bor Answer) AskFault → Fml
PassAnswers pass core request new_core result = EndsAs pass (λ new. MatchResult result (λ _. ChangeAnswered core pass.now request new_core new) (λ _. new ≡ pass.now))

abbrev pub PassLooks : MutBor Pass → NameCore → Request → Result (Bor Answer) AskFault → Fml
PassLooks pass core request result = EndsAs pass (λ new. MatchResult result (λ _. LookAnswered core pass.now request new) (λ _. new ≡ pass.now))

abbrev pub PassGains : MutBor Pass → Request → Result (Bor Answer) AskFault → Fml
PassGains pass request result = EndsAs pass (λ new. MatchResult result (λ answer. Gains pass.now request answer.now new) (λ _. new ≡ pass.now))
