-- What making a key the current one leaves.
use Rattle.std.proofs.Common.{◌≡◌, ℕ, List, Option, Some, None, refl, sym, ap, ◌∙◌}
use Rattle.hdfs_types.specs.declared.op.Op.TheVariants as op
use Rattle.refusals.specs.declared.refusal.Counter.{Counter}
use Rattle.refusals.specs.declared.refusal.Counter.TheVariants.{Serial}
use Rattle.refusals.specs.declared.refusal.Refusal.TheVariants.{Spent}
use Rattle.hdfs_types.specs.declared.reply.Reply.TheVariants as reply
use Rattle.block_tokens.specs.Ring.{KeyRing, next_serial, ring_after_roll}
use Rattle.principals.specs.Users.{Users}
use Rattle.namespace_rows.specs.declared.row.Row.{Row}
use Rattle.flat_rows.specs.declared.verdict.Verdict.TheVariants.{Done, Denied, Refused}
use Rattle.flat_rows.specs.Denial as denied
use Rattle.flat_rows.specs.Decision.{decision}
use Rattle.flat_rows.specs.Facts.{Facts}
use Rattle.flat_rows.specs.Outcome.{Step, step, denied_or_outcome}
use Rattle.file_effects.specs.Effected.{IsExact}
use Rattle.namesystem.specs.declared.namesystem.Namesystem.{Namesystem}
use Rattle.namesystem.specs.Performed.{IsPerformed, facts_in}
use Rattle.namesystem.proofs.Performing.{changing, performed_not_done}

-- what comes of it, by the serial that the key would have
abbrev rolled : Option ℕ → List Row → Users → Step
rolled None rows users = record { verdict = Refused (Spent Serial); rows = rows; users = users }
rolled (Some serial) rows users = record { verdict = Done (reply.Serial serial); rows = rows; users = users }

abbrev with_next : Facts → Option ℕ → Facts
with_next facts next = record facts { next_serial = next }

rolled_is : (facts : Facts) (next : Option ℕ) (rows : List Row) (users : Users) (caller key : List ℕ) → decision rows users caller (op.RollKey key) ≡ None
    → step (with_next facts next) rows users caller (op.RollKey key) ≡ rolled next rows users
rolled_is facts None rows users caller key granted = ap (denied_or_outcome (with_next facts None) rows users caller (op.RollKey key)) granted
rolled_is facts (Some serial) rows users caller key granted = ap (denied_or_outcome (with_next facts (Some serial)) rows users caller (op.RollKey key)) granted

abbrev with_ring : Namesystem → KeyRing → Namesystem
with_ring old ring = record old { ring = ring }

module _ (last : List ℕ → Option ℕ) (now : ℕ) (caller key : List ℕ) (old : Namesystem) (exact : IsExact last old.tree old.writers) where
  stepped_is : (next : Option ℕ) → next ≡ next_serial old.ring.serial → decision old.tree old.users caller (op.RollKey key) ≡ None
      → rolled next old.tree old.users ≡ step (facts_in last now old) old.tree old.users caller (op.RollKey key)
  stepped_is next is granted =
      let facts = facts_in last now old in
      sym (rolled_is facts next old.tree old.users caller key granted) ∙ ap (λ n. step (with_next facts n) old.tree old.users caller (op.RollKey key)) is

  pub done_roll : (ring : KeyRing) (serial : ℕ) → decision old.tree old.users caller (op.RollKey key) ≡ None → Some serial ≡ next_serial old.ring.serial → ring ≡ ring_after_roll old.ring key now
      → IsPerformed last now caller (op.RollKey key) old (Done (reply.Serial serial)) (with_ring old ring)
  done_roll ring serial granted next is =
      record {
        stepped = stepped_is (Some serial) next granted;
        ring = is;
        blocks = refl;
        exact = exact;
        unchanged = changing old (with_ring old ring) (Done (reply.Serial serial)) (Done (reply.Serial serial)) refl refl;
      }

  pub spent_roll : (ring : KeyRing) (counter : Counter) → counter ≡ Serial → decision old.tree old.users caller (op.RollKey key) ≡ None → next_serial old.ring.serial ≡ None → ring ≡ old.ring
      → IsPerformed last now caller (op.RollKey key) old (Refused (Spent counter)) (with_ring old ring)
  spent_roll ring counter serial granted none is =
      record {
        stepped = ap (λ spent. record { verdict = Refused (Spent spent); rows = old.tree; users = old.users }) serial ∙ stepped_is None (sym none) granted;
        ring = is;
        blocks = refl;
        exact = exact;
        unchanged = λ h. record { tree = refl; users = refl; writers = record { leases = refl; files = λ client. refl }; ring = is; blocks = refl };
      }

  pub denied_roll : (denial : denied.Denial) → decision old.tree old.users caller (op.RollKey key) ≡ Some denial → IsPerformed last now caller (op.RollKey key) old (Denied denial) old
  denied_roll denial is =
      performed_not_done last now caller (op.RollKey key) old (Denied denial) (sym (ap (λ d. (denied_or_outcome (facts_in last now old) old.tree old.users caller (op.RollKey key) d).verdict) is)) refl exact
