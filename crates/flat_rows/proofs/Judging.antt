-- An operation that is judged in one go is judged as its decision.
use Rattle.std.proofs.Common.{◌≡◌, ◌∙◌, ℕ, Bool, true, false, List, [], ◌∷◌, ◌++◌, Option, Some, None, refl, sym, ap, cond}
use Rattle.std.specs.Prelude.{filter}
use Rattle.std.specs.List.{flat_map}
use Rattle.std.specs.Option.{option_or}
use Rattle.hdfs_types.specs.declared.op.Op.{Op}
use Rattle.hdfs_types.specs.declared.op.Op.TheVariants as op
use Rattle.principals.specs.Users.{Users, Caller, groups_of, is_super, caller_of, caller_for_rights}
use Rattle.namespace_rows.specs.declared.row.Row.{Row}
use Rattle.namespace_rows.specs.First.{first_answer}
use Rattle.required_rights.specs.RequiredRights.{Demand, required_rights, is_judged_always, judged_needs, over_demands, owner_demands, group_demands, giving_away, membership, strict_traversal, ownership}
use Rattle.flat_rows.specs.Denial.{Denial, denial_at}
use Rattle.flat_rows.specs.Decision.{Ask, asks_of, denial_of, denial_among, asking_caller, decision}
use Rattle.flat_rows.specs.Judging.{is_strict, judged_caller}

abbrev always : List Demand → List Demand
always needs = filter (λ demand. is_judged_always demand.enforcement) needs

nobody_denied : (who : Caller) → who.is_superuser ≡ true → (asks : List Ask) → first_answer (denial_of who) asks ≡ None
nobody_denied who h [] = refl
nobody_denied who h (ask ∷ asks) =
    ap (λ b. option_or (cond b None (denial_at ask.need ask.row ask.above who.name who.groups)) (first_answer (denial_of who) asks)) h ∙ nobody_denied who h asks

over_none : (path : List (List ℕ)) (over : Bool) → always (over_demands path over) ≡ []
over_none path true = refl
over_none path false = refl

given_all : (path : List (List ℕ)) (owner group : Option (List ℕ)) → always (owner_demands path owner ++ group_demands path group) ≡ owner_demands path owner ++ group_demands path group
given_all path None None = refl
given_all path None (Some group) = refl
given_all path (Some owner) None = refl
given_all path (Some owner) (Some group) = refl

module _ (rows : List Row) (users : Users) (caller : List ℕ) where
  -- where no need is judged always
  of_rights : (needs : List Demand) → always needs ≡ [] → denial_among rows (caller_for_rights users caller) needs ≡ denial_among rows (caller_of users caller) (judged_needs users.checking needs)
  of_rights needs none = by users.checking
    where
      who : Bool → Caller
      who rank = record { name = caller; groups = groups_of users caller; is_superuser = rank }

      by : (b : Bool) → denial_among rows (who (cond b (is_super users caller) true)) needs ≡ denial_among rows (caller_of users caller) (judged_needs b needs)
      by true = refl
      by false = nobody_denied (who true) refl (flat_map (asks_of rows) needs) ∙ sym (ap (denial_among rows (caller_of users caller)) none)

  -- where all are
  strictly : (asking : Caller) (needs : List Demand) → always needs ≡ needs → denial_among rows asking needs ≡ denial_among rows asking (judged_needs users.checking needs)
  strictly asking needs all = by users.checking
    where
      by : (b : Bool) → denial_among rows asking needs ≡ denial_among rows asking (judged_needs b needs)
      by true = refl
      by false = sym (ap (denial_among rows asking) all)

  pub judged_as_decided : (what : Op) → denial_among rows (judged_caller users caller what) (required_rights what) ≡ decision rows users caller what
  judged_as_decided (op.Mkdirs path mode) = of_rights (required_rights (op.Mkdirs path mode)) refl
  judged_as_decided (op.Stat path) = of_rights (required_rights (op.Stat path)) refl
  judged_as_decided (op.List path) = of_rights (required_rights (op.List path)) refl
  judged_as_decided (op.Summary path) = of_rights (required_rights (op.Summary path)) refl
  judged_as_decided (op.GetAcl path) = of_rights (required_rights (op.GetAcl path)) refl
  judged_as_decided (op.Delete path recursive) = of_rights (required_rights (op.Delete path recursive)) refl
  judged_as_decided (op.Rename from to) = of_rights (required_rights (op.Rename from to)) refl
  judged_as_decided (op.SetMode path mode) = strictly (caller_of users caller) (required_rights (op.SetMode path mode)) refl
  judged_as_decided (op.SetOwner path owner group) =
      strictly (caller_of users caller) (required_rights (op.SetOwner path owner group)) (ap (λ (given : List Demand). strict_traversal path ∷ ownership path ∷ given) (given_all path owner group))
  judged_as_decided (op.SetAcl path change) = strictly (caller_of users caller) (required_rights (op.SetAcl path change)) refl
  judged_as_decided (op.AddUser user groups) = strictly (caller_of users caller) (required_rights (op.AddUser user groups)) refl
  judged_as_decided (op.SetGroups user groups) = strictly (caller_of users caller) (required_rights (op.SetGroups user groups)) refl
  judged_as_decided (op.SetChecking on) = strictly (caller_of users caller) (required_rights (op.SetChecking on)) refl
  judged_as_decided (op.Create path mode replication over) = of_rights (required_rights (op.Create path mode replication over)) (over_none path over)
  judged_as_decided (op.Append path) = of_rights (required_rights (op.Append path)) refl
  judged_as_decided (op.AddBlock path last) = of_rights (required_rights (op.AddBlock path last)) refl
  judged_as_decided (op.Complete path last) = of_rights (required_rights (op.Complete path last)) refl
  judged_as_decided (op.Open path) = of_rights (required_rights (op.Open path)) refl
  judged_as_decided (op.SetReplication path replication) = of_rights (required_rights (op.SetReplication path replication)) refl
  judged_as_decided (op.RollKey key) = strictly (caller_of users caller) (required_rights (op.RollKey key)) refl
  judged_as_decided op.Renew = of_rights (required_rights op.Renew) refl
  judged_as_decided op.Tick = strictly (caller_of users caller) (required_rights op.Tick) refl
  judged_as_decided op.Heartbeat = strictly (asking_caller users caller op.Heartbeat) (required_rights op.Heartbeat) refl
  judged_as_decided (op.Reported replica) = strictly (asking_caller users caller (op.Reported replica)) (required_rights (op.Reported replica)) refl
  judged_as_decided (op.CommitRecovery recovered) = strictly (asking_caller users caller (op.CommitRecovery recovered)) (required_rights (op.CommitRecovery recovered)) refl

  -- while permission checking is on, all needs are judged
  pub while_checking : (what : Op) → users.checking ≡ true → decision rows users caller what ≡ denial_among rows (asking_caller users caller what) (required_rights what)
  while_checking what on = ap (λ b. denial_among rows (asking_caller users caller what) (judged_needs b (required_rights what))) on

  -- what is judged always is so while permission checking is off
  pub strictly_decided : (what : Op) → is_strict what ≡ true → denial_among rows (asking_caller users caller what) (required_rights what) ≡ decision rows users caller what
  strictly_decided what strict =
      sym (ap (λ b. denial_among rows (cond b (asking_caller users caller what) (caller_for_rights users caller)) (required_rights what)) strict) ∙ judged_as_decided what

  -- and all else is denied to nobody then
  pub free_while_off : (what : Op) → users.checking ≡ false → is_strict what ≡ false → decision rows users caller what ≡ None
  free_while_off what off easy =
      sym (judged_as_decided what) ∙ ap (λ b. denial_among rows (cond b (asking_caller users caller what) (caller_for_rights users caller)) (required_rights what)) easy
      ∙ nobody_denied (caller_for_rights users caller) (ap (λ b. cond b (is_super users caller) true) off) (flat_map (asks_of rows) (required_rights what))
