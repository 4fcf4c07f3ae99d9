-- A step's rows and users are those of its verdict; and what a step reads.
use Rattle.std.proofs.Common.{◌≡◌, ℕ, List, Option, Some, None, refl, ap, ◌∙◌}
use Rattle.hdfs_types.specs.declared.op.Op.{Op}
use Rattle.refusals.specs.declared.refusal.Refusal.{Refusal}
use Rattle.block_tokens.specs.Ring.{KeyRing}
use Rattle.block_map.specs.BlockFacts.{Blocks}
use Rattle.lease_manager.specs.Leases.{Limits}
use Rattle.principals.specs.Users.{Users}
use Rattle.namespace_rows.specs.declared.row.Row.{Row}
use Rattle.flat_rows.specs.Denial as denied
use Rattle.flat_rows.specs.Decision.{decision}
use Rattle.flat_rows.specs.Facts.{Facts}
use Rattle.flat_rows.specs.Outcome.{Step, step, first_refusal, denied_or_outcome, refused_or_done}
use Rattle.history.specs.ClockAndLease.{lease_in}
use Rattle.history.specs.State.{facts_with, rows_by, users_by}

module _ (facts : Facts) (rows : List Row) (users : Users) (caller : List ℕ) (op : Op) where
  -- what is left is what the verdict says
  record Agrees (done : Step) : Type 0 where
    pub rows_are : done.rows ≡ rows_by facts op caller done.verdict rows
    pub users_are : done.users ≡ users_by op done.verdict users

  by_refusal : (refusal : Option Refusal) → Agrees (refused_or_done facts rows users caller op refusal)
  by_refusal None = record { rows_are = refl; users_are = refl }
  by_refusal (Some refusal) = record { rows_are = refl; users_are = refl }

  by_denial : (denial : Option denied.Denial) → Agrees (denied_or_outcome facts rows users caller op denial)
  by_denial None = by_refusal (first_refusal facts caller op rows users)
  by_denial (Some denial) = record { rows_are = refl; users_are = refl }

  pub stepped_rows : (step facts rows users caller op).rows ≡ rows_by facts op caller (step facts rows users caller op).verdict rows
  stepped_rows = (by_denial (decision rows users caller op)).rows_are

  pub stepped_users : (step facts rows users caller op).users ≡ users_by op (step facts rows users caller op).verdict users
  stepped_users = (by_denial (decision rows users caller op)).users_are

-- the same facts of leases, keys and blocks
pub same_facts : (l m : Limits) (n k : ℕ) (last : List ℕ → Option ℕ) (rows others : List Row) (ring other : KeyRing) (blocks known : Blocks) → l ≡ m → n ≡ k → rows ≡ others → ring ≡ other → blocks ≡ known
    → facts_with l n (lease_in last rows) ring blocks ≡ facts_with m k (lease_in last others) other known
same_facts l m n k last rows others ring other blocks known p q r w z =
    ap (λ x. facts_with x n (lease_in last rows) ring blocks) p
    ∙ (ap (λ x. facts_with m x (lease_in last rows) ring blocks) q
    ∙ (ap (λ x. facts_with m k (lease_in last x) ring blocks) r
    ∙ (ap (λ x. facts_with m k (lease_in last others) x blocks) w
    ∙ ap (λ x. facts_with m k (lease_in last others) other x) z)))

pub same_step : (f g : Facts) (rows others : List Row) (users known : Users) (caller : List ℕ) (op : Op) → f ≡ g → rows ≡ others → users ≡ known → step f rows users caller op ≡ step g others known caller op
same_step f g rows others users known caller op p q r =
    ap (λ x. step x rows users caller op) p ∙ (ap (λ x. step g x users caller op) q ∙ ap (λ x. step g others x caller op) r)
