use Rattle.std.proofs.Common.{◌≡◌, length, drop}
use Rattle.file_takeovers.specs.Expiry.{open_beside}
use Rattle.file_takeovers.proofs.sought.have_open.Given as goal

-- where as many of the clients behind are left, as many of all are
abbrev pub invariant-loop-client : goal.invariant-loop-client
invariant-loop-client l =
    let i = length l.yielded in open_beside l.writers.files (drop i l.clients) (drop i l.finished) ≡ l.left → open_beside l.writers.files l.clients l.finished ≡ l.others
