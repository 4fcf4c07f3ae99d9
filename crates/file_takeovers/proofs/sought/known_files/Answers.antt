use Rattle.std.proofs.Common.{◌≡◌, ◌+◌, ◌∙◌, ℕ, List, Option, sym, ap, subst, length, refl}
use Rattle.std.specs.List.{AllByRecursion}
use Rattle.file_effects.specs.Effected.{IsExact}
use Rattle.file_takeovers.specs.Expiry.{AreAtLeast, open_beside}
use Rattle.file_takeovers.proofs.SoughtFiles.{IsFoundIn, AreFoundIn}
use Rattle.file_takeovers.proofs.FinishedFiles.{IsToRecover, AreKnown, all_known}
use Rattle.file_takeovers.proofs.sought.known_files.Goals as goal

-- those that were found one by one
found : (c : goal.After-drop-overdue-then-have_open) → AreFoundIn (record { past = c.args.past.now; retry = c.args.blocks.now.retry; now = c.args.now }) c.args.tree.now c.add_each_overdue.new.files.entries
found c =
    let none = subst (AllByRecursion (IsFoundIn (record { past = c.args.past.now; retry = c.retry-retry.result; now = c.args.now }) c.args.tree.now)) (sym c.new-files.ensures.empty) tt in
    let held = c.in_ok-add_each_held.ensures.some c.retry-retry.result c.args.now none in
    subst (λ retry. AreFoundIn (record { past = c.args.past.now; retry = retry; now = c.args.now }) c.args.tree.now c.add_each_overdue.new.files.entries) c.retry-retry.ensures (c.in_ok-add_each_overdue.ensures.some c.args.past.now held)

recovered : (c : goal.After-drop-overdue-then-have_open) → AllByRecursion IsToRecover c.add_each_overdue.new.files.entries
recovered c = c.in_ok-add_each_overdue.ensures.unfinished (c.in_ok-add_each_held.ensures.unfinished (subst (AllByRecursion IsToRecover) (sym c.new-files.ensures.empty) tt))

known : (c : goal.After-drop-overdue-then-have_open) (last : List ℕ → Option ℕ) → IsExact last c.args.tree.now c.args.writers.now
    → AreKnown (record { past = c.args.past.now; retry = c.args.blocks.now.retry; now = c.args.now }) c.args.tree.now c.add_each_overdue.new.files.entries c.in-Some.finished.items
known c last exact =
    let past = c.args.past.now in
    let numbers = c.in-Some.finished.items in
    let due = c.len-then-is_some.ensures ∙ (c.in_ok-overdue.overdue.ok.0 ∙ ap length c.in_ok-overdue.ensures) in
    let long : length numbers ≡ length past = rw c.in-Some.is at c.in_ok-finished.ensures.long in
    let least : AreAtLeast c.args.tree.now past numbers = rw c.in-Some.is at c.in_ok-finished.ensures.counted in
    let of_all = rw c.deref-then-is_some.ensures.value at (c.if-have_open.ensures refl) in
    let have : open_beside c.args.writers.now.files past numbers + c.len-then-is_some.result ≡ c.len.result = of_all long in
    all_known last past c.args.now c.args.tree.now c.args.writers.now c.args.blocks.now c.add_each_overdue.new.files.entries numbers c.len-then-is_some.result c.len.result c.requires.namespace exact c.requires.due
    due c.len.ensures.len least have c.len.ensures.ordered (found c) (recovered c)

pub returns-then-have_open-clause-all : goal.returns-then-have_open-clause-all
returns-then-have_open-clause-all c = λ last exact. (known c last exact).all

pub returns-then-have_open-clause-finished : goal.returns-then-have_open-clause-finished
returns-then-have_open-clause-finished c = λ last exact. (known c last exact).finished

pub returns-then-have_open-clause-some : goal.returns-then-have_open-clause-some
returns-then-have_open-clause-some c = (found c, recovered c)
