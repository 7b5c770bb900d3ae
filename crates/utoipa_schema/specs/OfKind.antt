-- Each schema is a document of its kind.
use Rattle.std.proofs.Common.{◌∙◌, refl, ap, sym, subst, option_map, Vec, Global}
use Rattle.utoipa_base.specs.Docs.{Doc, flag_doc, whole_doc}
use Rattle.utoipa_base.specs.Docs as docs
use Rattle.utoipa_base.specs.Extensions.{extensions_view}
use Rattle.utoipa_base.specs.Flags.{deprecated_doc}
use Rattle.utoipa_base.specs.Kinds.{text, flag, whole, numeral, any, list_of, named, ref_or, schema, schema_format, array_items, additional_properties, discriminator_object, xml_object, one_of_schema, all_of_schema, any_of_schema, array_schema, object_schema}
use Rattle.utoipa_base.specs.Numbers.{number_doc}
use Rattle.utoipa_base.specs.OfKind.{text_of_kind, flag_of_kind, whole_of_kind, deprecated_of_kind, number_of_kind, tree_of_kind, option_of_kind, list_of_kind, map_of_kind, reference_of_kind, ref_or_of_kind, boxed_of_kind, extends_of_kind, no_rows, next_row, table_of_kind}
use Rattle.utoipa_base.specs.Refs.{ref_or_doc}
use Rattle.utoipa_base.specs.Shape.{IsOf, value_of}
use Rattle.utoipa_base.specs.Views.{boxed, text_of, tree_of, list_of_docs}
use Rattle.utoipa_base.specs.declared.refs.RefOr.{RefOr}
use Rattle.utoipa_base.specs.declared.refs.RefOr.TheVariants as made
use Rattle.utoipa_schema_parts.specs.Xml.{xml_doc, xml_of_kind}
use Rattle.utoipa_schema_parts.specs.Discriminator.{discriminator_doc, discriminator_of_kind}
use Rattle.utoipa_schema_parts.specs.Format.{schema_format_doc, schema_format_of_kind}
use Rattle.utoipa_schema_parts.specs.Types.{schema_type_of_kind}
use Rattle.utoipa_schema.specs.Folds.{items_roll, schema_roll-Array, schema_roll-Object, schema_roll-OneOf, schema_roll-AllOf, schema_roll-AnyOf}
use Rattle.utoipa_schema.specs.Layers.{items_natural, one_of_natural, all_of_natural, any_of_natural, array_natural, object_natural}
use Rattle.utoipa_schema.specs.Docs.{additional_properties_doc, items_layer, places_doc, one_of_layer, all_of_layer, any_of_layer, array_layer, object_layer, schema_doc, array_items_doc, one_of_doc, all_of_doc, any_of_doc, array_doc, object_doc}
use Rattle.utoipa_schema.specs.declared.types.AdditionalProperties.{AdditionalProperties}
use Rattle.utoipa_schema.specs.declared.types.AdditionalProperties.TheVariants as additional
use Rattle.utoipa_schema.specs.declared.types.ArrayItems.{ArrayItems, ArrayItems-F, out-ArrayItems, roll-out-ArrayItems}
use Rattle.utoipa_schema.specs.declared.types.Schema.{Schema, Schema-F, roll-Schema, ind-Schema}
use Rattle.utoipa_schema.specs.declared.types.Object.{Object, Object-F, out-Object, out-roll-Object}
use Rattle.utoipa_schema.specs.declared.types.Array.{Array, Array-F, out-Array, out-roll-Array}
use Rattle.utoipa_schema.specs.declared.types.OneOf.{OneOf, OneOf-F, out-OneOf, out-roll-OneOf}
use Rattle.utoipa_schema.specs.declared.types.AllOf.{AllOf, AllOf-F, out-AllOf, out-roll-AllOf}
use Rattle.utoipa_schema.specs.declared.types.AnyOf.{AnyOf, AnyOf-F, out-AnyOf, out-roll-AnyOf}

places_of_kind : {S : Type 0} (f : S → Doc) → ((s : S) → IsOf (f s) (value_of schema)) → (v : Vec (RefOr S) Global) → IsOf (places_doc f v) (value_of (list_of (ref_or schema)))
places_of_kind f each = list_of_kind (ref_or_doc schema f) (ref_or schema) (ref_or_of_kind f schema each)

-- a reference, or a schema in its place, where a choice has more alternatives
chosen_of_kind : {S : Type 0} (f : S → Doc) → ((s : S) → IsOf (f s) (value_of schema)) → (r : RefOr S) → IsOf (ref_or_doc schema f r) (value_of additional_properties)
unfolding IsOf
chosen_of_kind f each (made.Ref r) = (refl, reference_of_kind r)
chosen_of_kind f each (made.T s) = (schema, refl, each s)

pub additional_of_kind : {S : Type 0} (f : S → Doc) → ((s : S) → IsOf (f s) (value_of schema)) → (q : AdditionalProperties S) → IsOf (additional_properties_doc f q) (value_of additional_properties)
unfolding IsOf
additional_of_kind f each (additional.RefOr r) = chosen_of_kind f each r
additional_of_kind f each (additional.FreeForm free) = refl

item_of_kind : {S : Type 0} (f : S → Doc) → ((s : S) → IsOf (f s) (value_of schema)) → (r : RefOr S) → IsOf (ref_or_doc schema f r) (value_of array_items)
unfolding IsOf
item_of_kind f each (made.Ref r) = (refl, reference_of_kind r)
item_of_kind f each (made.T s) = (schema, refl, each s)

items_layer_of_kind : {A S B C D E F : Type 0} (f : S → Doc) → ((s : S) → IsOf (f s) (value_of schema)) → (x : ArrayItems-F A S B C D E F) → IsOf (items_layer f x) (value_of array_items)
unfolding IsOf
items_layer_of_kind f each (ArrayItems-F.RefOrSchema b) = item_of_kind f each b.value
items_layer_of_kind f each ArrayItems-F.False = refl

one_of_layer_of_kind : {A S B C D E F : Type 0} (f : S → Doc) → ((s : S) → IsOf (f s) (value_of schema)) → (x : OneOf-F A S B C D E F) → IsOf (one_of_layer f x) (value_of (named one_of_schema))
one_of_layer_of_kind f each x =
    table_of_kind _ _
    (next_row (option_of_kind tree_of any tree_of_kind x.default)
    (next_row (option_of_kind text_of text text_of_kind x.description)
    (next_row (option_of_kind discriminator_doc (named discriminator_object) discriminator_of_kind x.discriminator)
    (next_row (option_of_kind tree_of any tree_of_kind x.example)
    (next_row (list_of_kind tree_of any tree_of_kind x.examples)
    (next_row (places_of_kind f each x.items)
    (next_row (option_of_kind flag_doc flag flag_of_kind x.read_only)
    (next_row (option_of_kind text_of text text_of_kind x.title)
    (next_row (schema_type_of_kind x.schema_type)
    (next_row (option_of_kind flag_doc flag flag_of_kind x.write_only) no_rows))))))))))
    (extends_of_kind (option_map extensions_view x.extensions))

all_of_layer_of_kind : {A S B C D E F : Type 0} (f : S → Doc) → ((s : S) → IsOf (f s) (value_of schema)) → (x : AllOf-F A S B C D E F) → IsOf (all_of_layer f x) (value_of (named all_of_schema))
all_of_layer_of_kind f each x =
    table_of_kind _ _
    (next_row (places_of_kind f each x.items)
    (next_row (option_of_kind tree_of any tree_of_kind x.default)
    (next_row (option_of_kind text_of text text_of_kind x.description)
    (next_row (option_of_kind discriminator_doc (named discriminator_object) discriminator_of_kind x.discriminator)
    (next_row (option_of_kind tree_of any tree_of_kind x.example)
    (next_row (list_of_kind tree_of any tree_of_kind x.examples)
    (next_row (option_of_kind text_of text text_of_kind x.title)
    (next_row (schema_type_of_kind x.schema_type) no_rows))))))))
    (extends_of_kind (option_map extensions_view x.extensions))

any_of_layer_of_kind : {A S B C D E F : Type 0} (f : S → Doc) → ((s : S) → IsOf (f s) (value_of schema)) → (x : AnyOf-F A S B C D E F) → IsOf (any_of_layer f x) (value_of (named any_of_schema))
any_of_layer_of_kind f each x =
    table_of_kind _ _
    (next_row (places_of_kind f each x.items)
    (next_row (option_of_kind tree_of any tree_of_kind x.default)
    (next_row (option_of_kind text_of text text_of_kind x.description)
    (next_row (option_of_kind discriminator_doc (named discriminator_object) discriminator_of_kind x.discriminator)
    (next_row (option_of_kind tree_of any tree_of_kind x.example)
    (next_row (list_of_kind tree_of any tree_of_kind x.examples)
    (next_row (schema_type_of_kind x.schema_type) no_rows)))))))
    (extends_of_kind (option_map extensions_view x.extensions))

array_layer_of_kind : {A S B C D E F : Type 0} (items : A → Doc) → ((a : A) → IsOf (items a) (value_of array_items)) → (f : S → Doc) → ((s : S) → IsOf (f s) (value_of schema)) → (x : Array-F A S B C D E F) → IsOf (array_layer items f x) (value_of (named array_schema))
array_layer_of_kind items items_each f each x =
    table_of_kind _ _
    (next_row (text_of_kind x.content_encoding)
    (next_row (text_of_kind x.content_media_type)
    (next_row (option_of_kind (boxed (ref_or_doc schema f)) (ref_or schema) (boxed_of_kind (ref_or_doc schema f) (ref_or schema) (ref_or_of_kind f schema each)) x.content_schema)
    (next_row (option_of_kind tree_of any tree_of_kind x.default)
    (next_row (option_of_kind deprecated_doc flag deprecated_of_kind x.deprecated)
    (next_row (option_of_kind text_of text text_of_kind x.description)
    (next_row (option_of_kind tree_of any tree_of_kind x.example)
    (next_row (list_of_kind tree_of any tree_of_kind x.examples)
    (next_row (items_each x.items)
    (next_row (option_of_kind whole_doc whole whole_of_kind x.max_items)
    (next_row (option_of_kind whole_doc whole whole_of_kind x.min_items)
    (next_row (list_of_kind f schema each x.prefix_items)
    (next_row (option_of_kind text_of text text_of_kind x.title)
    (next_row (schema_type_of_kind x.schema_type)
    (next_row (flag_of_kind x.unique_items)
    (next_row (option_of_kind xml_doc (named xml_object) xml_of_kind x.xml) no_rows))))))))))))))))
    (extends_of_kind (option_map extensions_view x.extensions))

object_layer_of_kind : {A S B C D E F : Type 0} (f : S → Doc) → ((s : S) → IsOf (f s) (value_of schema)) → (x : Object-F A S B C D E F) → IsOf (object_layer f x) (value_of (named object_schema))
object_layer_of_kind f each x =
    table_of_kind _ _
    (next_row (option_of_kind (boxed (additional_properties_doc f)) additional_properties (boxed_of_kind (additional_properties_doc f) additional_properties (additional_of_kind f each)) x.additional_properties)
    (next_row (text_of_kind x.content_encoding)
    (next_row (text_of_kind x.content_media_type)
    (next_row (option_of_kind (boxed (ref_or_doc schema f)) (ref_or schema) (boxed_of_kind (ref_or_doc schema f) (ref_or schema) (ref_or_of_kind f schema each)) x.content_schema)
    (next_row (option_of_kind tree_of any tree_of_kind x.default)
    (next_row (option_of_kind deprecated_doc flag deprecated_of_kind x.deprecated)
    (next_row (option_of_kind text_of text text_of_kind x.description)
    (next_row (option_of_kind (list_of_docs tree_of) (list_of any) (list_of_kind tree_of any tree_of_kind) x.enum_values)
    (next_row (option_of_kind tree_of any tree_of_kind x.example)
    (next_row (list_of_kind tree_of any tree_of_kind x.examples)
    (next_row (option_of_kind number_doc numeral number_of_kind x.exclusive_maximum)
    (next_row (option_of_kind number_doc numeral number_of_kind x.exclusive_minimum)
    (next_row (option_of_kind schema_format_doc schema_format schema_format_of_kind x.format)
    (next_row (option_of_kind whole_doc whole whole_of_kind x.max_length)
    (next_row (option_of_kind whole_doc whole whole_of_kind x.max_properties)
    (next_row (option_of_kind number_doc numeral number_of_kind x.maximum)
    (next_row (option_of_kind whole_doc whole whole_of_kind x.min_length)
    (next_row (option_of_kind whole_doc whole whole_of_kind x.min_properties)
    (next_row (option_of_kind number_doc numeral number_of_kind x.minimum)
    (next_row (option_of_kind number_doc numeral number_of_kind x.multiple_of)
    (next_row (option_of_kind text_of text text_of_kind x.pattern)
    (next_row (map_of_kind (ref_or_doc schema f) (ref_or schema) (ref_or_of_kind f schema each) x.properties)
    (next_row (option_of_kind (boxed f) schema (boxed_of_kind f schema each) x.property_names)
    (next_row (option_of_kind flag_doc flag flag_of_kind x.read_only)
    (next_row (list_of_kind text_of text text_of_kind x.required)
    (next_row (option_of_kind text_of text text_of_kind x.title)
    (next_row (schema_type_of_kind x.schema_type)
    (next_row (option_of_kind flag_doc flag flag_of_kind x.write_only)
    (next_row (option_of_kind xml_doc (named xml_object) xml_of_kind x.xml) no_rows)))))))))))))))))))))))))))))
    (extends_of_kind (option_map extensions_view x.extensions))

-- ---- by induction, from the innermost schema outwards

abbrev IsItems : ArrayItems → Type 0
IsItems i = IsOf (array_items_doc i) (value_of array_items)

abbrev IsSchema : Schema → Type 0
IsSchema s = IsOf (schema_doc s) (value_of schema)

abbrev IsOneOf : OneOf → Type 0
IsOneOf x = IsOf (one_of_doc x) (value_of (named one_of_schema))

abbrev IsAllOf : AllOf → Type 0
IsAllOf x = IsOf (all_of_doc x) (value_of (named all_of_schema))

abbrev IsAnyOf : AnyOf → Type 0
IsAnyOf x = IsOf (any_of_doc x) (value_of (named any_of_schema))

abbrev IsArray : Array → Type 0
IsArray x = IsOf (array_doc x) (value_of (named array_schema))

abbrev IsObject : Object → Type 0
IsObject x = IsOf (object_doc x) (value_of (named object_schema))

abbrev IsSchemaDoc : Doc → Type 0
IsSchemaDoc d = IsOf d (value_of schema)

from-OneOf : (x : OneOf) → IsOneOf x → IsSchema (roll-Schema (Schema-F.OneOf x))
unfolding IsOf
from-OneOf x h = let whole : IsSchemaDoc (docs.schema_doc (one_of_doc x)) = (one_of_schema, refl, refl, h) in subst IsSchemaDoc (sym (schema_roll-OneOf x)) whole

from-AllOf : (x : AllOf) → IsAllOf x → IsSchema (roll-Schema (Schema-F.AllOf x))
unfolding IsOf
from-AllOf x h = let whole : IsSchemaDoc (docs.schema_doc (all_of_doc x)) = (all_of_schema, refl, refl, h) in subst IsSchemaDoc (sym (schema_roll-AllOf x)) whole

from-AnyOf : (x : AnyOf) → IsAnyOf x → IsSchema (roll-Schema (Schema-F.AnyOf x))
unfolding IsOf
from-AnyOf x h = let whole : IsSchemaDoc (docs.schema_doc (any_of_doc x)) = (any_of_schema, refl, refl, h) in subst IsSchemaDoc (sym (schema_roll-AnyOf x)) whole

from-Array : (x : Array) → IsArray x → IsSchema (roll-Schema (Schema-F.Array x))
unfolding IsOf
from-Array x h = let whole : IsSchemaDoc (docs.schema_doc (array_doc x)) = (array_schema, refl, refl, h) in subst IsSchemaDoc (sym (schema_roll-Array x)) whole

from-Object : (x : Object) → IsObject x → IsSchema (roll-Schema (Schema-F.Object x))
unfolding IsOf
from-Object x h = let whole : IsSchemaDoc (docs.schema_doc (object_doc x)) = (object_schema, refl, refl, h) in subst IsSchemaDoc (sym (schema_roll-Object x)) whole

pub schema_of_kind : (s : Schema) → IsOf (schema_doc s) (value_of schema)
schema_of_kind = ind-Schema IsItems IsSchema IsAllOf IsAnyOf IsArray IsObject IsOneOf
    (λ x y is. subst (λ d. IsOf d (value_of array_items)) (sym (items_roll x ∙ ap (items_layer schema_doc) (sym is) ∙ items_natural schema_doc (λ e. e.0) (λ e. e.0) (λ e. e.0) (λ e. e.0) (λ e. e.0) (λ e. e.0) (λ e. e.0) y)) (items_layer_of_kind (λ e. schema_doc e.0) (λ e. e.1) y))
    (λ x. elim [ Schema-F.Array e ↦ (λ is. subst (λ z. IsSchema (roll-Schema z)) is (from-Array e.0 e.1)) | Schema-F.Object e ↦ (λ is. subst (λ z. IsSchema (roll-Schema z)) is (from-Object e.0 e.1)) | Schema-F.OneOf e ↦ (λ is. subst (λ z. IsSchema (roll-Schema z)) is (from-OneOf e.0 e.1)) | Schema-F.AllOf e ↦ (λ is. subst (λ z. IsSchema (roll-Schema z)) is (from-AllOf e.0 e.1)) | Schema-F.AnyOf e ↦ (λ is. subst (λ z. IsSchema (roll-Schema z)) is (from-AnyOf e.0 e.1)) ])
    (λ x y is. subst (λ d. IsOf d (value_of (named all_of_schema))) (sym (ap (all_of_layer schema_doc) (out-roll-AllOf x ∙ sym is) ∙ all_of_natural schema_doc (λ e. e.0) (λ e. e.0) (λ e. e.0) (λ e. e.0) (λ e. e.0) (λ e. e.0) (λ e. e.0) y)) (all_of_layer_of_kind (λ e. schema_doc e.0) (λ e. e.1) y))
    (λ x y is. subst (λ d. IsOf d (value_of (named any_of_schema))) (sym (ap (any_of_layer schema_doc) (out-roll-AnyOf x ∙ sym is) ∙ any_of_natural schema_doc (λ e. e.0) (λ e. e.0) (λ e. e.0) (λ e. e.0) (λ e. e.0) (λ e. e.0) (λ e. e.0) y)) (any_of_layer_of_kind (λ e. schema_doc e.0) (λ e. e.1) y))
    (λ x y is. subst (λ d. IsOf d (value_of (named array_schema))) (sym (ap (array_layer array_items_doc schema_doc) (out-roll-Array x ∙ sym is) ∙ array_natural array_items_doc schema_doc (λ e. e.0) (λ e. e.0) (λ e. e.0) (λ e. e.0) (λ e. e.0) (λ e. e.0) (λ e. e.0) y)) (array_layer_of_kind (λ e. array_items_doc e.0) (λ e. e.1) (λ e. schema_doc e.0) (λ e. e.1) y))
    (λ x y is. subst (λ d. IsOf d (value_of (named object_schema))) (sym (ap (object_layer schema_doc) (out-roll-Object x ∙ sym is) ∙ object_natural schema_doc (λ e. e.0) (λ e. e.0) (λ e. e.0) (λ e. e.0) (λ e. e.0) (λ e. e.0) (λ e. e.0) y)) (object_layer_of_kind (λ e. schema_doc e.0) (λ e. e.1) y))
    (λ x y is. subst (λ d. IsOf d (value_of (named one_of_schema))) (sym (ap (one_of_layer schema_doc) (out-roll-OneOf x ∙ sym is) ∙ one_of_natural schema_doc (λ e. e.0) (λ e. e.0) (λ e. e.0) (λ e. e.0) (λ e. e.0) (λ e. e.0) (λ e. e.0) y)) (one_of_layer_of_kind (λ e. schema_doc e.0) (λ e. e.1) y))

pub array_items_of_kind : (i : ArrayItems) → IsOf (array_items_doc i) (value_of array_items)
array_items_of_kind i = subst IsItems (roll-out-ArrayItems i) (subst (λ d. IsOf d (value_of array_items)) (sym (items_roll (out-ArrayItems i))) (items_layer_of_kind schema_doc schema_of_kind (out-ArrayItems i)))

pub additional_properties_of_kind : (q : AdditionalProperties Schema) → IsOf (additional_properties_doc schema_doc q) (value_of additional_properties)
additional_properties_of_kind = additional_of_kind schema_doc schema_of_kind

pub one_of_of_kind : (x : OneOf) → IsOf (one_of_doc x) (value_of (named one_of_schema))
one_of_of_kind x = one_of_layer_of_kind schema_doc schema_of_kind (out-OneOf x)

pub all_of_of_kind : (x : AllOf) → IsOf (all_of_doc x) (value_of (named all_of_schema))
all_of_of_kind x = all_of_layer_of_kind schema_doc schema_of_kind (out-AllOf x)

pub any_of_of_kind : (x : AnyOf) → IsOf (any_of_doc x) (value_of (named any_of_schema))
any_of_of_kind x = any_of_layer_of_kind schema_doc schema_of_kind (out-AnyOf x)

pub object_of_kind : (x : Object) → IsOf (object_doc x) (value_of (named object_schema))
object_of_kind x = object_layer_of_kind schema_doc schema_of_kind (out-Object x)

pub array_of_kind : (x : Array) → IsOf (array_doc x) (value_of (named array_schema))
array_of_kind x = array_layer_of_kind array_items_doc array_items_of_kind schema_doc schema_of_kind (out-Array x)
