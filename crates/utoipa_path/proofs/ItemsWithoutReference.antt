-- When a path item has a text at `$ref`: where it has one of its own.
use Rattle.std.proofs.Common.{◌≡◌, Bool, true, false, not, Option, None, Some, is_some, option_and_then, option_map, codes, refl, sym, ap, ◌∙◌, String, Global}
use Rattle.serde_json.specs.Data.{Data}
use Rattle.serde_json.specs.Find.{get, as_str}
use Rattle.utoipa_base.specs.Docs.{Docs, doc, table_doc}
use Rattle.utoipa_base.specs.Extensions.{extensions_view, members_or_none}
use Rattle.utoipa_base.specs.Kinds.{Row, optional, text, path_item_object}
use Rattle.utoipa_base.specs.Tables.{row, table}
use Rattle.utoipa_base.specs.Unambiguous.{is_unambiguous, are_unambiguous, are_extensions, is_no_reference}
use Rattle.utoipa_base.specs.Views.{text_of, option_of}
use Rattle.utoipa_base.specs.Writing.{write, write_rows, left_out}
use Rattle.utoipa_base.proofs.BoolFacts.{and_second}
use Rattle.utoipa_base.proofs.UnambiguousParts.{unambiguous-table}
use Rattle.utoipa_base.proofs.WrittenMembers.{unnamed, write_rows-same, stands}
use Rattle.utoipa_path.specs.Docs.{path_item_doc}
use Rattle.utoipa_path.specs.declared.types.PathItem.{PathItem, out-PathItem}

-- what stands at `$ref` is the item's own, as a text, or nothing
abbrev stands_there : Option (String Global) → Option Data
stands_there o = stands (left_out optional (option_of text_of o)) (write (option_of text_of o))

-- where the field is absent there is no text, else there is
by_field : (o : Option (String Global)) (t : Data) → get (codes "$ref") t ≡ stands_there o → not (is_some o) ≡ is_no_reference t
unfolding write
by_field None t e = sym (ap (λ p. not (is_some (option_and_then as_str p))) e)
by_field (Some s) t e = sym (ap (λ p. not (is_some (option_and_then as_str p))) e)

-- the first row of an item's table is `$ref`, and no extension has that name
first_stands : (o : Option (String Global)) (ds : Docs) (e : Option _) → is_unambiguous (table_doc path_item_object (doc (option_of text_of o) ds) e) ≡ true
    → get (codes "$ref") (write (table_doc path_item_object (doc (option_of text_of o) ds) e)) ≡ stands_there o
unfolding write write_rows
first_stands o ds e whole =
    let all = doc (option_of text_of o) ds in
    let extends : are_extensions e ≡ true = and_second (are_unambiguous all) (are_extensions e) (sym (unambiguous-table path_item_object all e) ∙ whole) in
    write_rows-same (row (codes "$ref") optional text) (option_of text_of o) ds _ (members_or_none e) refl (unnamed (members_or_none e) (codes "$ref") extends refl)

item_reads_alone : (i : PathItem) → is_unambiguous (path_item_doc i) ≡ true → not (is_some (out-PathItem i).ref_path) ≡ is_no_reference (write (path_item_doc i))
item_reads_alone i whole = by_field (out-PathItem i).ref_path (write (path_item_doc i)) (first_stands (out-PathItem i).ref_path _ _ whole)

-- a test that is the opposite of another
opposite : (a b : Bool) → a ≡ not b → b ≡ not a
opposite a true e = ap not (sym e)
opposite a false e = ap not (sym e)

-- the same of the test that the item has no such member
pub told_of_item : (b : Bool) (i : PathItem) → is_some (out-PathItem i).ref_path ≡ not b → is_unambiguous (path_item_doc i) ≡ true → b ≡ is_no_reference (write (path_item_doc i))
told_of_item b i e whole = opposite (is_some (out-PathItem i).ref_path) b e ∙ item_reads_alone i whole
