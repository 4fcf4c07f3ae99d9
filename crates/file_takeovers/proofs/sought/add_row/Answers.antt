use Rattle.std.proofs.Common.{◌∙◌, sym, ap}
use Rattle.file_takeovers.specs.Expiry.{Expiry, sought_by}
use Rattle.file_takeovers.proofs.SoughtFiles.{row_left_out, row_added}
use Rattle.file_takeovers.proofs.sought.add_row.Goals as goal

pub returns : goal.returns
returns c =
    let expiry : Expiry = record { past = c.args.past.now; retry = c.args.retry; now = c.args.now } in
    λ before up all.
    row_added expiry c.args.row.now before c.args.files.now.entries c.insert.new.self.entries c.in_ok-path.path c.in-Some-2.sought up c.in_ok-path.ensures.cases
    (ap (sought_by expiry) c.in-Some.is ∙ (sym c.in_ok-sought.ensures ∙ c.in-Some-2.is)) c.in_ok-insert.ensures.entries all

pub returns-in_default : goal.returns-in_default
returns-in_default c =
    let expiry : Expiry = record { past = c.args.past.now; retry = c.args.retry; now = c.args.now } in
    λ before up all. row_left_out expiry c.args.row.now before c.args.files.now.entries (ap (sought_by expiry) c.in_default.is) all

pub returns-in_default-2 : goal.returns-in_default-2
returns-in_default-2 c =
    let expiry : Expiry = record { past = c.args.past.now; retry = c.args.retry; now = c.args.now } in
    λ before up all.
    row_left_out expiry c.args.row.now before c.args.files.now.entries (ap (sought_by expiry) c.in-Some.is ∙ (sym c.in_ok-sought.ensures ∙ c.in_default-2.is)) all
