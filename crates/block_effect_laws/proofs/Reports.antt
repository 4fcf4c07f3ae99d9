-- Reports that all have one length.
use Rattle.std.proofs.Common.{◌≡◌, ℕ, ◌==◌, Bool, true, false, ◌||◌, List, [], ◌∷◌, refl, sym, ◌∙◌, cond, subst, Option, Some, None}
use Rattle.std.proofs.lemmas.Bool.{eqb-true}
use Rattle.std.specs.BTreeMap.{insert_entry}
use Rattle.std.specs.List.{AllByRecursion}
use Rattle.std.specs.Map.{remove_entry}
use Rattle.std.specs.Ordering.{nat_cmp, match_ordering}
use Rattle.std.specs.declared.cmp.Ordering.{Ordering}
use Rattle.std.specs.declared.cmp.Ordering.TheVariants.{Less, Equal, Greater}
use Rattle.block_records.specs.Reports.{is_reported, agreeing_reports, with_reports_of}
use Rattle.block_records.specs.Verdicts.{agrees}
use Rattle.block_effect_laws.specs.Laws.{AgreeOn}

abbrev pub AllHave : ℕ → List (ℕ × ℕ) → Type 0
AllHave length reports = AllByRecursion (λ (report : ℕ × ℕ). report.1 ≡ length) reports

pub agreeing_have : (length : ℕ) (reports : List (ℕ × ℕ)) → AllHave length (agreeing_reports length reports)
agreeing_have length [] = tt
agreeing_have length (report ∷ reports) = by (report.1 == length) refl (agreeing_have length reports)
  where
    by : (b : Bool) → (report.1 == length) ≡ b → AllHave length (agreeing_reports length reports) → AllHave length (cond b (report ∷ agreeing_reports length reports) (agreeing_reports length reports))
    by true is rest = (eqb-true report.1 length is, rest)
    by false is rest = rest

-- a length that a node reported is the one that all have
pub reported_is : (length own : ℕ) (reports : List (ℕ × ℕ)) → AllHave own reports → is_reported reports length ≡ true → length ≡ own
reported_is length own [] all some = cc
reported_is length own (report ∷ reports) all some = by (report.1 == length) refl some (reported_is length own reports all.1)
  where
    by : (b : Bool) → (report.1 == length) ≡ b → (b || is_reported reports length) ≡ true → (is_reported reports length ≡ true → length ≡ own) → length ≡ own
    by true is there rest = sym (eqb-true report.1 length is) ∙ all.0
    by false is there rest = rest there

pub put_has : (length node : ℕ) (reports : List (ℕ × ℕ)) → AllHave length reports → AllHave length (insert_entry nat_cmp reports node length)
put_has length node [] all = (refl, tt)
put_has length node (report ∷ reports) all = by (nat_cmp node report.0) (put_has length node reports all.1)
  where
    by : (o : Ordering) → AllHave length (insert_entry nat_cmp reports node length)
        → AllHave length (match_ordering o ((node, length) ∷ report ∷ reports) ((report.0, length) ∷ reports) (report ∷ insert_entry nat_cmp reports node length))
    by Less rest = (refl, all)
    by Equal rest = (refl, all.1)
    by Greater rest = (all.0, rest)

pub left_have : (length : ℕ) (test : ℕ → Bool) (reports : List (ℕ × ℕ)) → AllHave length reports → AllHave length (remove_entry test reports)
left_have length test [] all = tt
left_have length test (report ∷ reports) all = by (test report.0) (left_have length test reports all.1)
  where
    by : (b : Bool) → AllHave length (remove_entry test reports) → AllHave length (cond b reports (report ∷ remove_entry test reports))
    by true rest = all.1
    by false rest = (all.0, rest)

pub more_have : (length : ℕ) (nodes : List ℕ) (reports : List (ℕ × ℕ)) → AllHave length reports → AllHave length (with_reports_of nodes length reports)
more_have length [] reports all = all
more_have length (node ∷ nodes) reports all = more_have length nodes (insert_entry nat_cmp reports node length) (put_has length node reports all)

-- ---- the same where a length may be committed

pub agree_on_put : (committed : Option ℕ) (length node : ℕ) (reports : List (ℕ × ℕ)) → agrees length committed ≡ true → AgreeOn committed reports → AgreeOn committed (insert_entry nat_cmp reports node length)
agree_on_put None length node reports agree all = tt
agree_on_put (Some own) length node reports agree all =
    let is : length ≡ own = eqb-true length own agree in
    subst (λ l. AllHave own (insert_entry nat_cmp reports node l)) (sym is) (put_has own node reports all)

pub agree_on_left : (committed : Option ℕ) (test : ℕ → Bool) (reports : List (ℕ × ℕ)) → AgreeOn committed reports → AgreeOn committed (remove_entry test reports)
agree_on_left None test reports all = tt
agree_on_left (Some own) test reports all = left_have own test reports all

pub agree_on_none : (committed : Option ℕ) → AgreeOn committed []
agree_on_none None = tt
agree_on_none (Some own) = tt
