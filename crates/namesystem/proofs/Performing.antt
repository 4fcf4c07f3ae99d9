-- What a request leaves, from what its parts leave.
use Rattle.std.proofs.Common.{◌≡◌, ◌≢◌, ℕ, ◌<◌, Bool, true, false, ◌&&◌, not, nat_lt, List, length, Option, Some, None, Result, Ok, Err, arith, refl, sym, ap, ◌∙◌, subst, cond}
use Rattle.std.proofs.lemmas.Bool.{lt-ltb}
use Rattle.std.specs.Result.{IfOk, OnErr}
use Rattle.hdfs_values.specs.Text.{same}
use Rattle.hdfs_types.specs.Request.{keeps_leases}
use Rattle.hdfs_types.specs.declared.op.Op.{Op}
use Rattle.hdfs_types.specs.declared.op.Op.TheVariants as op
use Rattle.hdfs_types.specs.Verb.{update_op, write_op}
use Rattle.hdfs_types.specs.declared.verb.Update.{Update}
use Rattle.hdfs_types.specs.declared.verb.Write.{Write}
use Rattle.hdfs_types.specs.declared.verb.Write.TheVariants as write
use Rattle.hdfs_types.specs.declared.reply.Reply.TheVariants as reply
use Rattle.refusals.specs.declared.refusal.Refusal.{Refusal}
use Rattle.refusals.specs.declared.refusal.Refusal.TheVariants.{NoLease}
use Rattle.principals.specs.Users.{Users}
use Rattle.namespace_rows.specs.declared.row.Row.{Row}
use Rattle.namespace_rows.specs.declared.row.Change.TheVariants as change
use Rattle.flat_rows.specs.declared.verdict.Verdict.{Verdict}
use Rattle.flat_rows.specs.declared.verdict.Verdict.TheVariants.{Done, Denied, Refused}
use Rattle.flat_rows.specs.Denial as denied
use Rattle.flat_rows.specs.Decision.{decision}
use Rattle.namespace_rows.specs.Files.{open_files, has_open_file}
use Rattle.namespace_rows.specs.Rows.{row_at}
use Rattle.namespace_rows.specs.Namespace.{IsNamespace}
use Rattle.flat_rows.specs.Facts.{Facts}
use Rattle.namespace_rows.specs.Changes.{row_rewritten}
use Rattle.flat_rows.specs.BlockOutcome.{ids_at}
use Rattle.flat_rows.proofs.Judging.{judged_as_decided}
use Rattle.flat_rows.specs.Outcome.{Step, step, first_refusal, denied_or_outcome, refused_or_done, refused_where, reply_of, rows_after, users_after}
use Rattle.flat_rows.proofs.Keeping.{kept_replication}
use Rattle.flat_rows.proofs.Blocks.{ids_stay}
use Rattle.history.specs.ClockAndLease.{renews, lease_in}
use Rattle.flat_rows.specs.Verdicts.{is_done}
use Rattle.block_tokens.specs.Ring.{KeyRing}
use Rattle.block_map.specs.BlockFacts.{Blocks}
use Rattle.history.specs.Keys.{ring_by}
use Rattle.history.specs.Blocks.{blocks_by, blocks_after, all_replicated}
use Rattle.history.specs.State.{rows_by, users_by}
use Rattle.history.proofs.OpenFiles.{any_counted}
use Rattle.flat_rows.proofs.AnyFacts.{no_facts}
use Rattle.namesystem.specs.declared.namesystem.Namesystem.{Namesystem}
use Rattle.lease_manager.specs.declared.writers.Writers.{Writers}
use Rattle.lease_manager.specs.Writers.{count_of, renewal_moment_of, IsLeased, renewed_at}
use Rattle.namesystem.specs.Told.{may_change}
use Rattle.file_effects.specs.Effected.{IsExact, IsEffected, renewed_where}
use Rattle.namesystem.specs.Performed.{IsPerformed, IsUndone, facts_in}
use Rattle.namesystem.proofs.Stepping.{stepped_rows, stepped_users}
use Rattle.namesystem.proofs.LeasesKept.{exact_kept, update_keeps, empty_reply, is_roll, keys_stay, keys_stay_unrolled, blocks_stay}

-- what holds of each is known together
pub given_all : {T E L : Type 0} (result : Result T E) (P : L → T → Type 0) (Q : T → Type 0) → ((value : T) → ((l : L) → P l value) → Q value) → ((l : L) → IfOk result (P l)) → IfOk result Q
given_all (Ok value) P Q all h = all value h
given_all (Err error) P Q all h = tt

pub where_ok : {T E : Type 0} (result : Result T E) (P Q : T → Type 0) → ((value : T) → P value → Q value) → IfOk result P → IfOk result Q
where_ok (Ok value) P Q more h = more value h
where_ok (Err error) P Q more h = tt

pub on_err : {T E P : Type 0} (result : Result T E) → P → OnErr result P
on_err (Ok value) p = tt
on_err (Err error) p = p

-- three parts are those of a step
pub step_of : (done : Step) (verdict : Verdict) (rows : List Row) (users : Users) → verdict ≡ done.verdict → rows ≡ done.rows → users ≡ done.users → record { verdict = verdict; rows = rows; users = users } ≡ done
step_of done verdict rows users p q r =
    ap (λ x. record { verdict = x; rows = rows; users = users }) p ∙ (ap (λ x. record { verdict = done.verdict; rows = x; users = users }) q ∙ ap (λ x. record { verdict = done.verdict; rows = done.rows; users = x }) r)

-- ---- the lease of a client

pub has_counted : (last : List ℕ → Option ℕ) (rows : List Row) (writers : Writers) (client : List ℕ) → IsExact last rows writers → has_open_file client rows ≡ nat_lt 0 (count_of writers.files client)
has_counted last rows writers client exact = any_counted client rows ∙ ap (nat_lt 0) (sym (exact.files client))

pub lease_is : (last : List ℕ → Option ℕ) (rows : List Row) (writers : Writers) (client : List ℕ) → IsExact last rows writers → lease_in last rows client ≡ renewal_moment_of writers.leases.renewals client
lease_is last rows writers client exact = ap (λ b. cond b (last client) None) (has_counted last rows writers client exact) ∙ sym (exact.leased client)

-- ---- what is done, and what isn't

module _ (facts : Facts) (rows : List Row) (users : Users) (caller : List ℕ) (what : Op) where
  pub record IsGranted : Type 0 where
    pub free : first_refusal facts caller what rows users ≡ None
    pub told : (step facts rows users caller what).verdict ≡ Done (reply_of facts caller what rows)

  -- what is done is free of refusals
  pub done_free : is_done (step facts rows users caller what).verdict ≡ true → IsGranted
  done_free h = by_denial (decision rows users caller what) refl h
    where
      by_refusal : (refusal : Option Refusal) → first_refusal facts caller what rows users ≡ refusal → decision rows users caller what ≡ None → is_done (refused_or_done facts rows users caller what refusal).verdict ≡ true → IsGranted
      by_refusal None e d k =
          record {
            free = e;
            told = ap (λ x. (denied_or_outcome facts rows users caller what x).verdict) d ∙ ap (λ x. (refused_or_done facts rows users caller what x).verdict) e;
          }
      by_refusal (Some refusal) e d k = cc

      by_denial : (denial : Option denied.Denial) → decision rows users caller what ≡ denial → is_done (denied_or_outcome facts rows users caller what denial).verdict ≡ true → IsGranted
      by_denial None e k = by_refusal (first_refusal facts caller what rows users) refl e k
      by_denial (Some denial) e k = cc

not_done_same : (what : Op) (caller : List ℕ) (facts : Facts) (verdict : Verdict) (rows : List Row) (users : Users) → is_done verdict ≡ false → (rows_by facts what caller verdict rows ≡ rows) × (users_by what verdict users ≡ users) × (renews what verdict ≡ false)
not_done_same what caller facts (Done told) rows users h = cc
not_done_same what caller facts (Denied denial) rows users h = (refl, refl, refl)
not_done_same what caller facts (Refused refusal) rows users h = (refl, refl, refl)

not_done_keys : (what : Op) (verdict : Verdict) (now : ℕ) (ring : KeyRing) → is_done verdict ≡ false → ring_by what verdict now ring ≡ ring
not_done_keys what (Done told) now ring h = cc
not_done_keys what (Denied denial) now ring h = refl
not_done_keys what (Refused refusal) now ring h = refl

not_done_blocks : (facts : Facts) (what : Op) (caller : List ℕ) (verdict : Verdict) (rows : List Row) (blocks : Blocks) → is_done verdict ≡ false → blocks_by facts what caller verdict rows blocks ≡ blocks
not_done_blocks facts what caller (Done told) rows blocks h = cc
not_done_blocks facts what caller (Denied denial) rows blocks h = refl
not_done_blocks facts what caller (Refused refusal) rows blocks h = refl

pub undone_same : (system : Namesystem) → IsUndone system system
undone_same system = record { tree = refl; users = refl; writers = record { leases = refl; files = λ client. refl }; ring = refl; blocks = refl }

never : true ≡ false → ⊥
never e = cc

-- a verdict that may come with a change isn't one that comes with none
pub changing : (old new : Namesystem) (verdict told : Verdict) → verdict ≡ told → may_change told ≡ true → may_change verdict ≡ false → IsUndone old new
changing old new verdict told is may none = absurd (never (sym may ∙ (sym (ap may_change is) ∙ none)))

-- ---- verbs that leave leases as they are

abbrev pub Applied : Namesystem → List ℕ → Op → Verdict → Namesystem → Type 0
Applied old caller what verdict new = (facts : Facts) → record { verdict = verdict; rows = new.tree; users = new.users } ≡ step facts old.tree old.users caller what

pub performed_kept : (last : List ℕ → Option ℕ) (now : ℕ) (caller : List ℕ) (what : Op) (old new : Namesystem) (verdict : Verdict) → keeps_leases what ≡ true → IsNamespace old.tree → new.writers ≡ old.writers → new.ring ≡ old.ring → new.blocks ≡ old.blocks
    → Applied old caller what verdict new → (may_change verdict ≡ false → IsUndone old new) → IsExact last old.tree old.writers → IsPerformed last now caller what old verdict new
performed_kept last now caller what old new verdict keeps namespace same_writers same_ring same_blocks applied unchanged exact =
    let facts = facts_in last now old in
    record {
      stepped = applied facts;
      ring = same_ring ∙ sym (keys_stay what verdict now old.ring keeps);
      blocks = same_blocks ∙ sym (blocks_stay facts what caller verdict old.tree old.blocks keeps);
      exact = subst (λ w. IsExact (renewed_where (renews what verdict) caller now last) new.tree w) (sym same_writers)
          (exact_kept last now facts old.tree old.users caller what verdict new.tree old.writers keeps namespace (ap (λ (s : Step). s.rows) (applied facts)) exact);
      unchanged = unchanged;
    }

-- what isn't done is undone
undone_update : (caller : List ℕ) (what : Op) (old new : Namesystem) (verdict : Verdict) → is_done verdict ≡ false → new.writers ≡ old.writers → new.ring ≡ old.ring → new.blocks ≡ old.blocks → Applied old caller what verdict new → IsUndone old new
undone_update caller what old new verdict none same_writers same_ring same_blocks applied =
    let is = applied no_facts in
    let after = step no_facts old.tree old.users caller what in
    let judged : verdict ≡ after.verdict = ap (λ (s : Step). s.verdict) is in
    let stays = not_done_same what caller no_facts after.verdict old.tree old.users (ap is_done (sym judged) ∙ none) in
    record {
      tree = ap (λ (s : Step). s.rows) is ∙ (stepped_rows no_facts old.tree old.users caller what ∙ stays.0);
      users = ap (λ (s : Step). s.users) is ∙ (stepped_users no_facts old.tree old.users caller what ∙ stays.1);
      writers = record { leases = ap (λ (w : Writers). w.leases) same_writers; files = λ client. ap (λ (w : Writers). count_of w.files client) same_writers };
      ring = same_ring;
      blocks = same_blocks;
    }

-- there is nothing to report of an update that is done
done_update : (caller : List ℕ) (update : Update) (old new : Namesystem) (verdict : Verdict) → is_done verdict ≡ true → Applied old caller (update_op update) verdict new → verdict ≡ Done reply.Empty
done_update caller update old new verdict done applied =
    let judged : verdict ≡ (step no_facts old.tree old.users caller (update_op update)).verdict = ap (λ (s : Step). s.verdict) (applied no_facts) in
    let granted = done_free no_facts old.tree old.users caller (update_op update) (ap is_done (sym judged) ∙ done) in
    judged ∙ (granted.told ∙ ap (λ r. Done r) (empty_reply no_facts caller update old.tree))

unchanged_update : (caller : List ℕ) (update : Update) (old new : Namesystem) (verdict : Verdict) → new.writers ≡ old.writers → new.ring ≡ old.ring → new.blocks ≡ old.blocks → Applied old caller (update_op update) verdict new → may_change verdict ≡ false → IsUndone old new
unchanged_update caller update old new verdict same_writers same_ring same_blocks applied none = by (is_done verdict) refl
  where
    by : (b : Bool) → is_done verdict ≡ b → IsUndone old new
    by true e = changing old new verdict (Done reply.Empty) (done_update caller update old new verdict e applied) refl none
    by false e = undone_update caller (update_op update) old new verdict e same_writers same_ring same_blocks applied

pub performed_update : (last : List ℕ → Option ℕ) (now : ℕ) (caller : List ℕ) (update : Update) (old new : Namesystem) (verdict : Verdict) → IsNamespace old.tree → new.writers ≡ old.writers → new.ring ≡ old.ring → new.blocks ≡ old.blocks
    → Applied old caller (update_op update) verdict new → IsExact last old.tree old.writers → IsPerformed last now caller (update_op update) old verdict new
performed_update last now caller update old new verdict namespace same_writers same_ring same_blocks applied exact =
    performed_kept last now caller (update_op update) old new verdict (update_keeps update) namespace same_writers same_ring same_blocks applied (unchanged_update caller update old new verdict same_writers same_ring same_blocks applied) exact

-- ---- renewals

renewal_step : (facts : Facts) (rows : List Row) (users : Users) (caller : List ℕ) (b : Bool) → has_open_file caller rows ≡ b
    → step facts rows users caller op.Renew ≡ refused_or_done facts rows users caller op.Renew (refused_where (not b) NoLease)
renewal_step facts rows users caller b h =
    ap (denied_or_outcome facts rows users caller op.Renew) (sym (judged_as_decided rows users caller op.Renew))
    ∙ ap (λ c. refused_or_done facts rows users caller op.Renew (refused_where (not c) NoLease)) h

none_counted : (n r : ℕ) → r ≡ n → r ≡ 0 → nat_lt 0 n ≡ false
none_counted n r is zero = ap (nat_lt 0) (sym is ∙ zero)

pub refused_renewal : (last : List ℕ → Option ℕ) (now : ℕ) (caller : List ℕ) (old : Namesystem) (n : ℕ) → n ≡ count_of old.writers.files caller → n ≡ 0
    → IsExact last old.tree old.writers → IsPerformed last now caller op.Renew old (Refused NoLease) old
refused_renewal last now caller old n counted none exact =
    let free : has_open_file caller old.tree ≡ false = has_counted last old.tree old.writers caller exact ∙ none_counted _ n counted none in
    record {
      stepped = sym (renewal_step (facts_in last now old) old.tree old.users caller false free);
      ring = refl;
      blocks = refl;
      exact = exact;
      unchanged = λ h. undone_same old;
    }

some_counted : (n r : ℕ) → r ≡ n → r ≢ 0 → 0 < n
some_counted n r is some = omega (arith, is, some)

pub done_renewal : (last : List ℕ → Option ℕ) (now : ℕ) (caller : List ℕ) (old new : Namesystem) (n : ℕ) → n ≡ count_of old.writers.files caller → n ≢ 0
    → new.tree ≡ old.tree → new.users ≡ old.users → new.ring ≡ old.ring → new.blocks ≡ old.blocks → new.writers.files ≡ old.writers.files
    → ((last : List ℕ → Option ℕ) → 0 < count_of old.writers.files caller → IsLeased last old.writers → IsLeased (renewed_at caller now last) new.writers)
    → IsExact last old.tree old.writers → IsPerformed last now caller op.Renew old (Done reply.Empty) new
done_renewal last now caller old new n counted some tree users ring blocks files leased exact =
    let positive : 0 < count_of old.writers.files caller = some_counted _ n counted some in
    let held : has_open_file caller old.tree ≡ true = has_counted last old.tree old.writers caller exact ∙ lt-ltb 0 (count_of old.writers.files caller) positive in
    record {
      stepped =
          step_of (record { verdict = Done reply.Empty; rows = old.tree; users = old.users }) (Done reply.Empty) new.tree new.users refl tree users
          ∙ sym (renewal_step (facts_in last now old) old.tree old.users caller true held);
      ring = ring;
      blocks = blocks;
      exact =
          record {
            files = λ client. ap (λ f. count_of f client) files ∙ (exact.files client ∙ ap (λ t. length (open_files client t)) (sym tree));
            leased = leased last positive exact.leased;
          };
      unchanged = changing old new (Done reply.Empty) (Done reply.Empty) refl refl;
    }

-- ---- verbs that write files

users_stay : (verb : Write) (users : Users) → users_after (write_op verb) users ≡ users
users_stay (write.Delete path recursive) users = refl
users_stay _ users = refl

-- what is reported of one that is done takes no memory
change_reported : (facts : Facts) (caller : List ℕ) (verb : Write) (rows : List Row) → may_change (Done (reply_of facts caller (write_op verb) rows)) ≡ true
change_reported facts caller (write.Delete path recursive) rows = refl
change_reported facts caller _ rows = refl

-- what isn't done changes nothing
pub performed_not_done : (last : List ℕ → Option ℕ) (now : ℕ) (caller : List ℕ) (what : Op) (old : Namesystem) (verdict : Verdict)
    → verdict ≡ (step (facts_in last now old) old.tree old.users caller what).verdict → is_done verdict ≡ false → IsExact last old.tree old.writers → IsPerformed last now caller what old verdict old
performed_not_done last now caller what old verdict judged none exact =
    let facts = facts_in last now old in
    let done = step facts old.tree old.users caller what in
    let stays = not_done_same what caller facts done.verdict old.tree old.users (ap is_done (sym judged) ∙ none) in
    record {
      stepped = step_of done verdict old.tree old.users judged (sym (stepped_rows facts old.tree old.users caller what ∙ stays.0)) (sym (stepped_users facts old.tree old.users caller what ∙ stays.1));
      ring = sym (not_done_keys what verdict now old.ring none);
      blocks = sym (not_done_blocks facts what caller verdict old.tree old.blocks none);
      exact =
          record {
            files = exact.files;
            leased = λ client. exact.leased client ∙ ap (λ b. cond (nat_lt 0 (count_of old.writers.files client)) (cond (b && same caller client) (Some now) (last client)) None) (sym (ap (renews what) judged ∙ stays.2));
          };
      unchanged = λ h. undone_same old;
    }

-- what is done leaves what the rules give
pub performed_done : (last : List ℕ → Option ℕ) (now : ℕ) (caller : List ℕ) (what : Op) (old new : Namesystem) (verdict : Verdict)
    → verdict ≡ (step (facts_in last now old) old.tree old.users caller what).verdict → is_done verdict ≡ true → is_roll what ≡ false → users_after what old.users ≡ old.users
    → new.tree ≡ rows_after (facts_in last now old) what caller old.tree → new.users ≡ old.users → new.ring ≡ old.ring → new.blocks ≡ blocks_after (facts_in last now old) what caller old.tree old.blocks
    → IsExact (renewed_where (renews what (Done (reply_of (facts_in last now old) caller what old.tree))) caller now last) new.tree new.writers
    → (may_change verdict ≡ false → IsUndone old new) → IsPerformed last now caller what old verdict new
performed_done last now caller what old new verdict judged done unrolled unnamed tree users ring blocks exact unchanged =
    let facts = facts_in last now old in
    let after = step facts old.tree old.users caller what in
    let granted = done_free facts old.tree old.users caller what (ap is_done (sym judged) ∙ done) in
    let told : verdict ≡ Done (reply_of facts caller what old.tree) = judged ∙ granted.told in
    record {
      stepped =
          step_of after verdict new.tree new.users judged
          (tree ∙ sym (stepped_rows facts old.tree old.users caller what ∙ ap (λ v. rows_by facts what caller v old.tree) granted.told))
          (users ∙ (sym unnamed ∙ sym (stepped_users facts old.tree old.users caller what ∙ ap (λ v. users_by what v old.users) granted.told)));
      ring = ring ∙ sym (keys_stay_unrolled what verdict now old.ring unrolled);
      blocks = blocks ∙ sym (ap (λ v. blocks_by facts what caller v old.tree old.blocks) told);
      exact = subst (λ v. IsExact (renewed_where (renews what v) caller now last) new.tree new.writers) (sym told) exact;
      unchanged = unchanged;
    }

unrolled_write : (verb : Write) → is_roll (write_op verb) ≡ false
unrolled_write (write.Delete path recursive) = refl
unrolled_write _ = refl

-- what is done leaves what its effect leaves
pub performed_write : (last : List ℕ → Option ℕ) (now : ℕ) (caller : List ℕ) (verb : Write) (old new : Namesystem) (verdict : Verdict)
    → verdict ≡ (step (facts_in last now old) old.tree old.users caller (write_op verb)).verdict → is_done verdict ≡ true
    → IsEffected (write_op verb) caller now old.tree old.writers new.tree new.writers → new.users ≡ old.users → new.ring ≡ old.ring → new.blocks ≡ blocks_after (facts_in last now old) (write_op verb) caller old.tree old.blocks
    → IsExact last old.tree old.writers → IsPerformed last now caller (write_op verb) old verdict new
performed_write last now caller verb old new verdict judged done effected users ring blocks exact =
    let facts = facts_in last now old in
    let granted = done_free facts old.tree old.users caller (write_op verb) (ap is_done (sym judged) ∙ done) in
    performed_done last now caller (write_op verb) old new verdict judged done (unrolled_write verb) (users_stay verb old.users) (effected.tree facts) users ring blocks (effected.exact facts last exact)
    (changing old new verdict (Done (reply_of facts caller (write_op verb) old.tree)) (judged ∙ granted.told) (change_reported facts caller verb old.tree))

-- ---- another replication

replicated_ring : (path : List (List ℕ)) (replication : ℕ) → is_roll (op.SetReplication path replication) ≡ false
replicated_ring path replication = refl

pub performed_replication : (last : List ℕ → Option ℕ) (now : ℕ) (caller : List ℕ) (path : List (List ℕ)) (replication : ℕ) (old new : Namesystem) (verdict : Verdict) → IsNamespace old.tree
    → ((facts : Facts) → record { verdict = verdict; rows = new.tree; users = old.users } ≡ step facts old.tree old.users caller (op.SetReplication path replication)) → is_done verdict ≡ true
    → new.users ≡ old.users → new.ring ≡ old.ring → new.writers ≡ old.writers → new.blocks ≡ all_replicated replication (ids_at (row_at path new.tree)) old.blocks
    → IsExact last old.tree old.writers → IsPerformed last now caller (op.SetReplication path replication) old verdict new
performed_replication last now caller path replication old new verdict namespace applied done users ring writers blocks exact =
    let facts = facts_in last now old in
    let what = op.SetReplication path replication in
    let judged : verdict ≡ (step facts old.tree old.users caller what).verdict = ap (λ (s : Step). s.verdict) (applied facts) in
    let granted = done_free facts old.tree old.users caller what (ap is_done (sym judged) ∙ done) in
    let tree : new.tree ≡ row_rewritten path (change.Replication replication) old.tree =
    ap (λ (s : Step). s.rows) (applied facts) ∙ (stepped_rows facts old.tree old.users caller what ∙ ap (λ v. rows_by facts what caller v old.tree) granted.told) in
    performed_done last now caller what old new verdict judged done refl refl tree users ring
    (blocks ∙ ap (λ ids. all_replicated replication ids old.blocks) (ap (λ rows. ids_at (row_at path rows)) tree ∙ ids_stay path replication old.tree))
    (record {
      files = λ client. ap (λ (w : Writers). count_of w.files client) writers ∙ (exact.files client ∙ (sym (kept_replication client old.tree namespace path replication) ∙ ap (λ t. length (open_files client t)) (sym tree)));
      leased = subst (IsLeased last) (sym writers) exact.leased;
    })
    (changing old new verdict (Done reply.Empty) (judged ∙ granted.told) refl)

pub unperformed_replication : (last : List ℕ → Option ℕ) (now : ℕ) (caller : List ℕ) (path : List (List ℕ)) (replication : ℕ) (old new : Namesystem) (verdict : Verdict)
    → ((facts : Facts) → record { verdict = verdict; rows = new.tree; users = old.users } ≡ step facts old.tree old.users caller (op.SetReplication path replication)) → is_done verdict ≡ false
    → new ≡ record old { tree = new.tree } → IsExact last old.tree old.writers → IsPerformed last now caller (op.SetReplication path replication) old verdict new
unperformed_replication last now caller path replication old new verdict applied none only exact =
    let facts = facts_in last now old in
    let what = op.SetReplication path replication in
    let after = step facts old.tree old.users caller what in
    let judged : verdict ≡ after.verdict = ap (λ (s : Step). s.verdict) (applied facts) in
    let same : new.tree ≡ old.tree =
    ap (λ (s : Step). s.rows) (applied facts) ∙ (stepped_rows facts old.tree old.users caller what ∙ (not_done_same what caller facts after.verdict old.tree old.users (ap is_done (sym judged) ∙ none)).0) in
    subst (IsPerformed last now caller what old verdict) (sym (only ∙ ap (λ t. record old { tree = t }) same)) (performed_not_done last now caller what old verdict judged none exact)
