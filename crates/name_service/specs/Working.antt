-- What a pass gains of requests that are asked one behind the other. (Of the server, whose core stands behind a lock, nothing is said: that what
-- passes kept stands in its history is what closing it tells.)
use Rattle.std.specs.Prelude.{◌≡◌, ◌≢◌, List, [], ◌∷◌, ◌++◌, Result, OnOk, OnErr, IfErr}
use Rattle.hdfs_types.specs.declared.op.Request.{Request}
use Rattle.name_service.specs.Passes.{Pass, GainsOne, IsSomeFault}
use Rattle.name_service.specs.declared.pass.AskFault.{AskFault}

-- one receipt for each of these requests, in their order
abbrev pub GainsAll : Pass → List Request → Pass → Type 0
GainsAll old [] new = new ≡ old
GainsAll old (request ∷ requests) new = (between : Pass) × GainsOne old request between × GainsAll between requests new

-- a pass has asked the first of these requests: all, or those before the one at which it met a fault
pub record Asked (old : Pass) (requests : List Request) (new : Pass) (result : Result Unit AskFault) : Type 0 where
  pub asked : List Request
  pub rest : List Request
  pub whole : requests ≡ asked ++ rest
  pub gains : GainsAll old asked new
  pub all : OnOk result (rest ≡ [])
  pub stopped : OnErr result (rest ≢ [])
  pub fault : IfErr result (IsSomeFault new.seen)
