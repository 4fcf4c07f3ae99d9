-- The least place of rows that fit, and the rows that are listed under a token.
use Rattle.std.proofs.Common.{◌≡◌, ℕ, Bool, true, false, ◌&&◌, List, [], ◌∷◌, ◌++◌, ◌<◌, ◌≤◌, ◌+◌, Option, Some, None, unwrap_or, refl, sym, ap, ◌∙◌, cond, map, take, length, get_or, arith}
use Rattle.std.proofs.lemmas.Bool.Decides.{nat_tests}
use Rattle.std.specs.Prelude.{◌==◌, nat_le, nat_lt, fold, min, slice_get}
use denote.Ref.{Bor}
use Rattle.std.proofs.lemmas.List.{map_more, take_more, append-nil, map-append}
use Rattle.std.proofs.lemmas.List.Concat.{flat_map-append}
use Rattle.std.proofs.lemmas.List.Sums.{fold-append}
use Rattle.std.specs.BTreeMap.{is_at}
use Rattle.std.specs.Map.{lookup}
use Rattle.hdfs_values.specs.Text.{same, text_cmp}
use Rattle.hdfs_values.proofs.Texts.{same_is}
use Rattle.call_parts.specs.declared.access_log.AccessRecord.{AccessRecord}
use Rattle.grant_ledger.specs.declared.ledger.LedgerRow.{LedgerRow}
use Rattle.permission_bits.specs.Rights.{covers}
use Rattle.token_provenance.specs.Provenance.{allows, supports, lesser, place_of, least_place, records_of}
use Rattle.token_provenance.specs.declared.source.Source.{Source}
use Rattle.token_provenance.specs.Index.{TokenIndex, rows_at, IsIndex, TellsAlso, grants_the_same, repeats, repeats_first, listed_with}

pub lesser_none : (place : Option ℕ) → lesser place None ≡ place
lesser_none None = refl
lesser_none (Some place) = refl

pub least_more : (rows : List LedgerRow) (row : LedgerRow) (entry : AccessRecord) → least_place (rows ++ row ∷ []) entry ≡ lesser (least_place rows entry) (place_of row entry)
least_more rows row entry = fold-append (λ least next. lesser least (place_of next entry)) None rows (row ∷ [])

-- a row of another token tells nothing
pub place_elsewhere : (row : LedgerRow) (entry : AccessRecord) → same row.grant.token entry.token ≡ false → place_of row entry ≡ None
place_elsewhere row entry other = ap (λ b. cond (b && allows row entry) (Some row.place) None) other

-- ---- a row that repeats another

both : (a b : Bool) → (a && b) ≡ true → (a ≡ true) × (b ≡ true)
both true true h = (refl, refl)
both true false h = cc
both false b h = cc

one_number : (a b : ℕ) → (a == b) ≡ true → a ≡ b
one_number a b h = grind (arith, nat_tests)

no_lesser : (a b : ℕ) → nat_le a b ≡ true → a ≤ b
no_lesser a b h = grind (arith, nat_tests)

least_of_both : (a b : ℕ) → a ≤ b → min a b ≡ a
least_of_both a b le = omega (arith, le)

turned : (a b c : ℕ) → min (min a b) c ≡ min (min a c) b
turned a b c = omega arith

lesser_turned : (a b c : Option ℕ) → lesser (lesser a b) c ≡ lesser (lesser a c) b
lesser_turned None None None = refl
lesser_turned None None (Some c) = refl
lesser_turned None (Some b) None = refl
lesser_turned None (Some b) (Some c) = let is : min b c ≡ min c b = omega arith in ap Some is
lesser_turned (Some a) None None = refl
lesser_turned (Some a) None (Some c) = refl
lesser_turned (Some a) (Some b) None = refl
lesser_turned (Some a) (Some b) (Some c) = ap Some (turned a b c)

behind_all : (rows : List LedgerRow) (entry : AccessRecord) (least place : Option ℕ)
    → fold (λ l next. lesser l (place_of next entry)) (lesser least place) rows ≡ lesser (fold (λ l next. lesser l (place_of next entry)) least rows) place
behind_all [] entry least place = refl
behind_all (row ∷ rows) entry least place =
    ap (λ l. fold (λ l next. lesser l (place_of next entry)) l rows) (lesser_turned least place (place_of row entry)) ∙ behind_all rows entry (lesser least (place_of row entry)) place

-- the records that rest on a row rest on one that says the same
fits_as : (first row : LedgerRow) (entry : AccessRecord) → repeats first row ≡ true → supports first entry ≡ supports row entry
fits_as first row entry h =
    let whole = both (nat_le first.place row.place && same first.grant.token row.grant.token) (grants_the_same first.grant row.grant) h in
    let token = same_is first.grant.token row.grant.token (both (nat_le first.place row.place) (same first.grant.token row.grant.token) whole.0).1 in
    let expiry = both (same first.grant.user row.grant.user && first.grant.block == row.grant.block && first.grant.modes.0 == row.grant.modes.0) (first.grant.expiry == row.grant.expiry) whole.1 in
    let modes = both (same first.grant.user row.grant.user && first.grant.block == row.grant.block) (first.grant.modes.0 == row.grant.modes.0) expiry.0 in
    let block = both (same first.grant.user row.grant.user) (first.grant.block == row.grant.block) modes.0 in
    ap (λ t. same t entry.token && allows first entry) token
    ∙ (ap (λ u. same row.grant.token entry.token && (same u entry.caller && first.grant.block == entry.block && covers first.grant.modes.0 entry.mode.0 && nat_lt entry.moment first.grant.expiry)) (same_is first.grant.user row.grant.user block.0)
    ∙ (ap (λ b. same row.grant.token entry.token && (same row.grant.user entry.caller && b == entry.block && covers first.grant.modes.0 entry.mode.0 && nat_lt entry.moment first.grant.expiry)) (one_number first.grant.block row.grant.block block.1)
    ∙ (ap (λ m. same row.grant.token entry.token && (same row.grant.user entry.caller && row.grant.block == entry.block && covers m entry.mode.0 && nat_lt entry.moment first.grant.expiry)) (one_number first.grant.modes.0 row.grant.modes.0 modes.1)
    ∙ ap (λ e. same row.grant.token entry.token && (same row.grant.user entry.caller && row.grant.block == entry.block && covers row.grant.modes.0 entry.mode.0 && nat_lt entry.moment e)) (one_number first.grant.expiry row.grant.expiry expiry.1))))

-- beside a row, one that repeats it tells nothing
tells_nothing : (first row : LedgerRow) (entry : AccessRecord) → repeats first row ≡ true → lesser (place_of first entry) (place_of row entry) ≡ place_of first entry
tells_nothing first row entry h = by (supports first entry) (supports row entry) (fits_as first row entry h)
  where
    by : (a b : Bool) → a ≡ b → lesser (cond a (Some first.place) None) (cond b (Some row.place) None) ≡ cond a (Some first.place) None
    by true true is = ap Some (least_of_both first.place row.place (no_lesser first.place row.place (both (nat_le first.place row.place) (same first.grant.token row.grant.token) (both (nat_le first.place row.place && same first.grant.token row.grant.token) (grants_the_same first.grant row.grant) h).0).0))
    by false false is = refl
    by true false is = cc
    by false true is = cc

repeated : (first : LedgerRow) (rows : List LedgerRow) (row : LedgerRow) → repeats first row ≡ true → TellsAlso (first ∷ rows) row (first ∷ rows)
repeated first rows row h entry =
    sym (ap (λ l. fold (λ l next. lesser l (place_of next entry)) l rows) (tells_nothing first row entry h))
    ∙ behind_all rows entry (place_of first entry) (place_of row entry)

pub first_repeated : (rows : List (Bor LedgerRow)) (first : Bor LedgerRow) (row : LedgerRow) → Some first ≡ slice_get rows 0 → repeats_first (map (λ r. r.now) rows) row ≡ repeats first.now row
first_repeated [] first row is = cc
first_repeated (x ∷ rows) first row is = ap (λ (found : Option (Bor LedgerRow)). repeats (unwrap_or found x).now row) (sym is)

pub none_repeated : (rows : List (Bor LedgerRow)) (row : LedgerRow) → None ≡ slice_get rows 0 → repeats_first (map (λ r. r.now) rows) row ≡ false
none_repeated [] row is = refl
none_repeated (x ∷ rows) row is = cc

-- the rows that are listed tell of each record what the rows before and this one tell
pub listed_tells : (rows : List LedgerRow) (row : LedgerRow) → TellsAlso rows row (listed_with rows row)
listed_tells rows row entry = by rows (repeats_first rows row) refl
  where
    by : (xs : List LedgerRow) (b : Bool) → repeats_first xs row ≡ b → least_place (cond b xs (xs ++ row ∷ [])) entry ≡ lesser (least_place xs entry) (place_of row entry)
    by xs false h = least_more xs row entry
    by (first ∷ rest) true h = repeated first rest row h entry
    by [] true h = cc

-- ---- a loop over borrowed rows

pub least_step : (rows : List (Bor LedgerRow)) (i : ℕ) (row : Bor LedgerRow) (entry : AccessRecord) (least place : Option ℕ) → i < length rows → row ≡ get_or rows i row
    → least ≡ least_place (map (λ r. r.now) (take i rows)) entry → place ≡ place_of row.now entry → lesser least place ≡ least_place (map (λ r. r.now) (take (i + 1) rows)) entry
least_step rows i row entry least place below is before here =
    ap (λ l. lesser l place) before
    ∙ (ap (lesser (least_place (map (λ r. r.now) (take i rows)) entry)) (here ∙ ap (λ (r : Bor LedgerRow). place_of r.now entry) is)
    ∙ (sym (least_more (map (λ r. r.now) (take i rows)) (get_or rows i row).now entry)
    ∙ ap (λ l. least_place l entry) (sym (map_more (λ (r : Bor LedgerRow). r.now) rows i row below))))

-- ---- the index

-- under one token other rows are listed
pub relisted : (old new : TokenIndex) (token : List ℕ) (own : List LedgerRow)
    → ((q : Bor (List ℕ)) → lookup (is_at (λ key. text_cmp q.now key.now)) new ≡ cond (same token q.now) (Some own) (lookup (is_at (λ key. text_cmp q.now key.now)) old))
    → (bytes : List ℕ) → rows_at bytes new ≡ cond (same token bytes) own (rows_at bytes old)
relisted old new token own put bytes = ap (λ found. unwrap_or found []) (put (record { ref_ptr = (0, 0); now = bytes })) ∙ by (same token bytes)
  where
    by : (x : Bool) → unwrap_or (cond x (Some own) (lookup (is_at (λ key. text_cmp bytes key.now)) old)) [] ≡ cond x own (rows_at bytes old)
    by true = refl
    by false = refl

-- a row is listed under its token
pub indexed_more : (old new : TokenIndex) (row : LedgerRow) (own : List LedgerRow)
    → ((q : Bor (List ℕ)) → lookup (is_at (λ key. text_cmp q.now key.now)) new ≡ cond (same row.grant.token q.now) (Some own) (lookup (is_at (λ key. text_cmp q.now key.now)) old))
    → TellsAlso (rows_at row.grant.token old) row own → (rows : List LedgerRow) → IsIndex old rows → IsIndex new (rows ++ row ∷ [])
indexed_more old new row own put tells rows law entry =
    ap (λ l. least_place l entry) (relisted old new row.grant.token own put entry.token)
    ∙ (by (same row.grant.token entry.token) refl ∙ sym (least_more rows row entry))
  where
    by : (x : Bool) → same row.grant.token entry.token ≡ x → least_place (cond x own (rows_at entry.token old)) entry ≡ lesser (least_place rows entry) (place_of row entry)
    by true at =
        tells entry ∙ ap (λ l. lesser l (place_of row entry)) (ap (λ token. least_place (rows_at token old) entry) (same_is row.grant.token entry.token at) ∙ law entry)
    by false at = law entry ∙ (sym (lesser_none (least_place rows entry)) ∙ ap (lesser (least_place rows entry)) (sym (place_elsewhere row entry at)))

-- ---- a loop over logs

pub sources_step : (f : AccessRecord → Source) (logs : List (List AccessRecord)) (i : ℕ) (log : List AccessRecord) → i < length logs → log ≡ get_or logs i log
    → map f (records_of (take (i + 1) logs)) ≡ map f (records_of (take i logs)) ++ map f log
sources_step f logs i log below is =
    ap (λ l. map f (records_of l)) (take_more logs i log below)
    ∙ (ap (map f) (flat_map-append (λ (l : List AccessRecord). l) (take i logs) (get_or logs i log ∷ []))
    ∙ (map-append f (records_of (take i logs)) (get_or logs i log ++ [])
    ∙ ap (λ (l : List AccessRecord). map f (records_of (take i logs)) ++ map f l) (append-nil (get_or logs i log) ∙ sym is)))
