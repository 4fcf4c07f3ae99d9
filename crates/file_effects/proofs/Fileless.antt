-- Where rows have no file, nobody has one open, and there is no block.
use Rattle.std.proofs.Common.{◌≡◌, ℕ, Bool, true, false, ◌||◌, ◌++◌, List, [], ◌∷◌, Option, Some, None, refl, ap, ◌∙◌, true≢false}
use Rattle.std.specs.Prelude.{is_some}
use Rattle.std.specs.Option.{option_to_list}
use Rattle.namespace_rows.specs.declared.file_row.FileRow.{FileRow}
use Rattle.namespace_rows.specs.declared.row.Row.{Row}
use Rattle.namespace_rows.specs.Files.{holders, holder_of_file, blocks_in, ids_in}
use Rattle.inode_tree.specs.Tree.{has_files}

none_held : (file : Option FileRow) → is_some file ≡ false → [] ≡ option_to_list (holder_of_file file)
none_held None h = refl
none_held (Some file) h = absurd (true≢false h)

none_kept : (file : Option FileRow) → is_some file ≡ false → [] ≡ ids_in file
none_kept None h = refl
none_kept (Some file) h = absurd (true≢false h)

pub no_holders : (rows : List Row) → has_files rows ≡ false → [] ≡ holders rows
no_holders [] h = refl
no_holders (row ∷ rows) h = by (is_some row.file) refl h (no_holders rows)
  where
    by : (b : Bool) → is_some row.file ≡ b → (b || has_files rows) ≡ false → (has_files rows ≡ false → [] ≡ holders rows) → [] ≡ holders (row ∷ rows)
    by true e g rest = absurd (true≢false g)
    by false e g rest = rest g ∙ ap (λ l. l ++ holders rows) (none_held row.file e)

pub no_ids : (rows : List Row) → has_files rows ≡ false → [] ≡ blocks_in rows
no_ids [] h = refl
no_ids (row ∷ rows) h = by (is_some row.file) refl h (no_ids rows)
  where
    by : (b : Bool) → is_some row.file ≡ b → (b || has_files rows) ≡ false → (has_files rows ≡ false → [] ≡ blocks_in rows) → [] ≡ blocks_in (row ∷ rows)
    by true e g rest = absurd (true≢false g)
    by false e g rest = rest g ∙ ap (λ l. l ++ blocks_in rows) (none_kept row.file e)
