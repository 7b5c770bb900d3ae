-- A tree reads as the first alternative of a schema that fits, and a schema is written as the table of its alternative.
use Rattle.std.proofs.Common.{◌≡◌, ◌∙◌, refl, ap, Bool, true, false, not, ◌||◌, Option, Some, None, option_map, is_some, codes}
use Rattle.std.specs.List.{list_any}
use Rattle.serde_json.specs.Data.{Data, null, boolean, number, string, array, object}
use Rattle.serde_json.specs.Find.{get, as_bool}
use Rattle.utoipa_base.specs.Choices.{schema_keywords}
use Rattle.utoipa_base.specs.Docs.{Doc, schema_doc, flag_doc}
use Rattle.utoipa_base.specs.Kinds.{schema, ref_or, array_items, additional_properties, named, one_of_schema, all_of_schema, any_of_schema, array_schema, object_schema}
use Rattle.utoipa_base.specs.Reading.{reader, read, or_else, only_if}
use Rattle.utoipa_base.specs.Writing.{write}
use Rattle.utoipa_base.proofs.Alternatives.{past, taken}
use Rattle.utoipa_schema.specs.Choice.{may_be_object, IsNoCombination}

-- the alternatives of a schema that is no combination
abbrev single : Data → Option Doc
single d =
    or_else (read (named array_schema) d)
    (or_else (only_if (is_some (get (codes "type") d)) (read (named object_schema) d))
    (only_if (not (list_any (λ name. is_some (get name d)) schema_keywords)) (read (named object_schema) d)))

-- the alternatives of a schema, in their order
pub in_order : (d : Data) → read schema d ≡ option_map schema_doc (or_else (read (named one_of_schema) d) (or_else (read (named all_of_schema) d) (or_else (read (named any_of_schema) d) (single d))))
unfolding reader
in_order null = refl
in_order (boolean b) = refl
in_order (number n) = refl
in_order (string s) = refl
in_order (array ds) = refl
in_order (object ms) = refl

pub as_one_of : (d : Data) (x : Doc) → read (named one_of_schema) d ≡ Some x → read schema d ≡ Some (schema_doc x)
as_one_of d x e = in_order d ∙ ap (option_map schema_doc) (taken _ _ x e)

pub as_all_of : (d : Data) (x : Doc) → read (named one_of_schema) d ≡ None → read (named all_of_schema) d ≡ Some x → read schema d ≡ Some (schema_doc x)
as_all_of d x one e = in_order d ∙ ap (option_map schema_doc) (past _ _ one ∙ taken _ _ x e)

pub as_any_of : (d : Data) (x : Doc) → read (named one_of_schema) d ≡ None → read (named all_of_schema) d ≡ None → read (named any_of_schema) d ≡ Some x → read schema d ≡ Some (schema_doc x)
as_any_of d x one all e = in_order d ∙ ap (option_map schema_doc) (past _ _ one ∙ past _ _ all ∙ taken _ _ x e)

-- a tree that is no combination
by_single : (d : Data) → IsNoCombination d → read schema d ≡ option_map schema_doc (single d)
by_single d alone = in_order d ∙ ap (option_map schema_doc) (past _ _ alone.0 ∙ past _ _ alone.1 ∙ past _ _ alone.2)

pub as_array : (d : Data) (x : Doc) → IsNoCombination d → read (named array_schema) d ≡ Some x → read schema d ≡ Some (schema_doc x)
as_array d x alone e = by_single d alone ∙ ap (option_map schema_doc) (taken _ _ x e)

-- an object in either of the last two places
in_either : (typed keyword : Bool) (r : Option Doc) → or_else (only_if typed r) (only_if (not keyword) r) ≡ only_if (typed || not keyword) r
in_either true keyword None = elim keyword as (λ b. or_else None (only_if (not b) None) ≡ None) [ true ↦ refl | false ↦ refl ]
in_either true keyword (Some x) = refl
in_either false keyword r = refl

by_object : (d : Data) → IsNoCombination d → read (named array_schema) d ≡ None → read schema d ≡ option_map schema_doc (only_if (may_be_object d) (read (named object_schema) d))
by_object d alone gone = by_single d alone ∙ ap (option_map schema_doc) (past _ _ gone ∙ in_either (is_some (get (codes "type") d)) (list_any (λ name. is_some (get name d)) schema_keywords) (read (named object_schema) d))

pub as_an_object : (d : Data) (x : Doc) → IsNoCombination d → read (named array_schema) d ≡ None → may_be_object d ≡ true → read (named object_schema) d ≡ Some x → read schema d ≡ Some (schema_doc x)
as_an_object d x alone gone may e = by_object d alone gone ∙ ap (option_map schema_doc) (ap (λ b. only_if b (read (named object_schema) d)) may ∙ e)

pub no_object : (d : Data) → IsNoCombination d → read (named array_schema) d ≡ None → may_be_object d ≡ false → read schema d ≡ None
no_object d alone gone may = by_object d alone gone ∙ ap (λ b. option_map schema_doc (only_if b (read (named object_schema) d))) may

none_left : (b : Bool) → only_if b None ≡ None
none_left true = refl
none_left false = refl

pub no_schema : (d : Data) → IsNoCombination d → read (named array_schema) d ≡ None → read (named object_schema) d ≡ None → read schema d ≡ None
no_schema d alone gone last = by_object d alone gone ∙ ap (option_map schema_doc) (ap (only_if (may_be_object d)) last ∙ none_left (may_be_object d))

-- ---- what stands beside a reference or a schema

-- no items besides those listed
pub items_false : (d : Data) → as_bool d ≡ Some false → read array_items d ≡ Some (flag_doc false)
unfolding reader
items_false null e = cc
items_false (boolean true) e = cc
items_false (boolean false) e = refl
items_false (number n) e = cc
items_false (string s) e = cc
items_false (array ds) e = cc
items_false (object ms) e = cc

-- nor anything else by true
pub items_true : (d : Data) → as_bool d ≡ Some true → read array_items d ≡ None
unfolding reader
items_true null e = cc
items_true (boolean true) e = refl
items_true (boolean false) e = cc
items_true (number n) e = cc
items_true (string s) e = cc
items_true (array ds) e = cc
items_true (object ms) e = cc

-- other items are a reference or a schema
pub items_place : (d : Data) → as_bool d ≡ None → read array_items d ≡ read (ref_or schema) d
unfolding reader
items_place null e = refl
items_place (boolean b) e = cc
items_place (number n) e = refl
items_place (string s) e = refl
items_place (array ds) e = refl
items_place (object ms) e = refl

pub additional_flag : (d : Data) (b : Bool) → as_bool d ≡ Some b → read additional_properties d ≡ Some (flag_doc b)
unfolding reader
additional_flag null b e = cc
additional_flag (boolean c) b e = let same : c ≡ b = cc in ap (λ x. Some (flag_doc x)) same
additional_flag (number n) b e = cc
additional_flag (string s) b e = cc
additional_flag (array ds) b e = cc
additional_flag (object ms) b e = cc

pub additional_place : (d : Data) → as_bool d ≡ None → read additional_properties d ≡ read (ref_or schema) d
unfolding reader
additional_place null e = refl
additional_place (boolean b) e = cc
additional_place (number n) e = refl
additional_place (string s) e = refl
additional_place (array ds) e = refl
additional_place (object ms) e = refl

-- ---- writing

pub write-schema : (d : Doc) → write (schema_doc d) ≡ write d
unfolding write
write-schema d = refl
