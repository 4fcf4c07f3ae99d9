-- Each row of the ledger stands for what an entry granted.
use Rattle.std.proofs.Common.{◌≡◌, ℕ, List, [], ◌∷◌, ◌++◌, map, refl, inl, inr}
use Rattle.std.specs.List.{AllByRecursion}
use Rattle.permission_bits.specs.Modes.{modes}
use Rattle.permission_bits.specs.declared.modes.Modes.{Modes}
use Rattle.block_answers.specs.Commands.{Commands}
use Rattle.block_answers.specs.declared.commands.Recover.{Recover}
use Rattle.block_answers.specs.declared.commands.CopyOrder.{CopyOrder}
use Rattle.block_answers.specs.declared.located.LocatedBlock.{LocatedBlock}
use Rattle.hdfs_types.specs.declared.op.Op.{Op}
use Rattle.hdfs_types.specs.declared.op.Op.TheVariants as op
use Rattle.hdfs_types.specs.declared.reply.Reply.{Reply}
use Rattle.hdfs_types.specs.declared.reply.Reply.TheVariants as reply
use Rattle.block_tokens.specs.Ring.{KeyRing}
use Rattle.flat_rows.specs.declared.verdict.Verdict.{Verdict}
use Rattle.flat_rows.specs.declared.verdict.Verdict.TheVariants.{Done, Denied, Refused}
use Rattle.history.specs.declared.entry.HistoryEntry.{HistoryEntry}
use Rattle.history.specs.ClockAndLease.{clock_of}
use Rattle.history.specs.Keys.{ring_of}
use Rattle.history.specs.Grants.{BlockModes, granted_with, granted_by, ledger_row, rows_granted, ledger_of}
use Rattle.history.specs.GrantLaws.{IsAmong, Lets, IsGrantOf, IsGrantOfAny, GrantsWereAsked}

all_joined : {X : Type 0} (P : X → Type 0) (xs ys : List X) → AllByRecursion P xs → AllByRecursion P ys → AllByRecursion P (xs ++ ys)
all_joined P [] ys h k = k
all_joined P (x ∷ xs) ys h k = (h.0, all_joined P xs ys h.1 k)

all_weaker : {X : Type 0} (P Q : X → Type 0) → ((x : X) → P x → Q x) → (xs : List X) → AllByRecursion P xs → AllByRecursion Q xs
all_weaker P Q more [] h = tt
all_weaker P Q more (x ∷ xs) h = (more x h.0, all_weaker P Q more xs h.1)

all_mapped : {X Y : Type 0} (P : Y → Type 0) (f : X → Y) (xs : List X) → AllByRecursion (λ x. P (f x)) xs → AllByRecursion P (map f xs)
all_mapped P f [] h = tt
all_mapped P f (x ∷ xs) h = (h.0, all_mapped P f xs h.1)

-- what an operation lets its caller do, of each access that it grants
abbrev Given : Op → Reply → BlockModes → Type 0
Given what told own = Lets what told own.block own.modes

-- the same modes of each block of these
of_each : {X : Type 0} (number : X → ℕ) (granted : Modes) (all : List ℕ) (own : List X) → ((block : ℕ) → IsAmong block (map number own) → IsAmong block all)
    → AllByRecursion (λ (given : BlockModes). IsAmong given.block all × (given.modes ≡ granted)) (map (λ (one : X). record { block = number one; modes = granted }) own)
of_each number granted all [] among = tt
of_each number granted all (one ∷ own) among = ((among (number one) (inl refl), refl), of_each number granted all own (λ block told. among block (inr told)))

of_commands : (commands : Commands) → AllByRecursion (Given op.Heartbeat (reply.Commands commands)) (granted_with commands)
of_commands commands =
    all_joined (Given op.Heartbeat (reply.Commands commands)) (map (λ (own : Recover). record { block = own.block; modes = modes 2 }) commands.recoveries)
    (map (λ (own : CopyOrder). record { block = own.block; modes = modes 3 }) commands.copies)
    (all_weaker (λ (given : BlockModes). IsAmong given.block (map (λ (own : Recover). own.block) commands.recoveries) × (given.modes ≡ modes 2))
    (Given op.Heartbeat (reply.Commands commands)) (λ given. inl) (map (λ (own : Recover). record { block = own.block; modes = modes 2 }) commands.recoveries)
    (of_each (λ (own : Recover). own.block) (modes 2) (map (λ (own : Recover). own.block) commands.recoveries) commands.recoveries (λ block told. told)))
    (all_weaker (λ (given : BlockModes). IsAmong given.block (map (λ (own : CopyOrder). own.block) commands.copies) × (given.modes ≡ modes 3))
    (Given op.Heartbeat (reply.Commands commands)) (λ given. inr) (map (λ (own : CopyOrder). record { block = own.block; modes = modes 3 }) commands.copies)
    (of_each (λ (own : CopyOrder). own.block) (modes 3) (map (λ (own : CopyOrder). own.block) commands.copies) commands.copies (λ block told. told)))

lets_each : (what : Op) (told : Reply) → AllByRecursion (Given what told) (granted_by what told)
lets_each (op.AddBlock path last) (reply.Added added) = ((refl, refl), tt)
lets_each (op.AddBlock path last) _ = tt
lets_each (op.Open path) (reply.Opened opened) =
    of_each (λ (own : LocatedBlock). own.block) (modes 1) (map (λ (own : LocatedBlock). own.block) opened.blocks) opened.blocks (λ block told. told)
lets_each (op.Open path) _ = tt
lets_each op.Heartbeat (reply.Commands commands) = of_commands commands
lets_each op.Heartbeat _ = tt
lets_each _ told = tt

rows_let : (entry : HistoryEntry) (ring : KeyRing) (now : ℕ) → AllByRecursion (IsGrantOf entry) (rows_granted entry.place ring now entry.request.caller entry.request.op entry.verdict)
rows_let entry ring now = by entry.verdict refl
  where
    by : (verdict : Verdict) → entry.verdict ≡ verdict → AllByRecursion (IsGrantOf entry) (rows_granted entry.place ring now entry.request.caller entry.request.op verdict)
    by (Done told) is =
        all_mapped (IsGrantOf entry) (ledger_row entry.place ring now entry.request.caller) (granted_by entry.request.op told)
        (all_weaker (Given entry.request.op told) (λ own. IsGrantOf entry (ledger_row entry.place ring now entry.request.caller own))
        (λ own let_it. record { place = refl; user = refl; let_by = rw is let_it }) (granted_by entry.request.op told) (lets_each entry.request.op told))
    by (Denied denial) is = tt
    by (Refused refusal) is = tt

pub grants_were_asked : GrantsWereAsked
grants_were_asked opening [] = tt
grants_were_asked opening (entry ∷ earlier) =
    all_joined (IsGrantOfAny (entry ∷ earlier)) (ledger_of opening earlier) (rows_granted entry.place (ring_of opening earlier) (clock_of (entry ∷ earlier)) entry.request.caller entry.request.op entry.verdict)
    (all_weaker (IsGrantOfAny earlier) (IsGrantOfAny (entry ∷ earlier)) (λ row. inr) (ledger_of opening earlier) (grants_were_asked opening earlier))
    (all_weaker (IsGrantOf entry) (IsGrantOfAny (entry ∷ earlier)) (λ row. inl) (rows_granted entry.place (ring_of opening earlier) (clock_of (entry ∷ earlier)) entry.request.caller entry.request.op entry.verdict) (rows_let entry (ring_of opening earlier) (clock_of (entry ∷ earlier))))
