-- The documents of schemas, a layer at a time.
use Rattle.std.proofs.Common.{◌≡◌, ◌∙◌, ap, sym, Box, Global}
use Rattle.utoipa_base.specs.Docs.{Doc, flag_doc}
use Rattle.std.specs.Prelude.{false}
use Rattle.utoipa_base.specs.Docs as docs
use Rattle.utoipa_base.specs.Kinds.{schema}
use Rattle.utoipa_base.specs.Refs.{ref_or_doc}
use Rattle.utoipa_base.specs.declared.refs.RefOr.{RefOr}
use Rattle.utoipa_schema.specs.Layers.{items_natural, one_of_natural, all_of_natural, any_of_natural, array_natural, object_natural}
use Rattle.utoipa_schema.specs.Docs.{as_is, items_layer, schema_layer, one_of_layer, all_of_layer, any_of_layer, array_layer, object_layer, schema_doc, array_items_doc, one_of_doc, all_of_doc, any_of_doc, array_doc, object_doc}
use Rattle.utoipa_schema.specs.declared.types.ArrayItems.{ArrayItems, ArrayItems-F, fold-roll-ArrayItems, roll-ArrayItems}
use Rattle.utoipa_schema.specs.declared.types.ArrayItems as items
use Rattle.utoipa_schema.specs.declared.types.ArrayItems.TheVariants as items_variants
use Rattle.utoipa_schema.specs.declared.types.Schema.{Schema, Schema-F, fold-roll-Schema, roll-Schema}
use Rattle.utoipa_schema.specs.declared.types.Schema as schemas
use Rattle.utoipa_schema.specs.declared.types.Schema.TheVariants as schema_variants
use Rattle.utoipa_schema.specs.declared.types.Object.{Object, fold-Object, fold_out-Object, out-Object}
use Rattle.utoipa_schema.specs.declared.types.Array.{Array, fold-Array, fold_out-Array, out-Array}
use Rattle.utoipa_schema.specs.declared.types.OneOf.{OneOf, fold-OneOf, fold_out-OneOf, out-OneOf}
use Rattle.utoipa_schema.specs.declared.types.AllOf.{AllOf, fold-AllOf, fold_out-AllOf, out-AllOf}
use Rattle.utoipa_schema.specs.declared.types.AnyOf.{AnyOf, fold-AnyOf, fold_out-AnyOf, out-AnyOf}

abbrev pub one_of_fold : OneOf → Doc
one_of_fold = fold-OneOf Doc Doc Doc Doc Doc Doc Doc (items_layer as_is) schema_layer (all_of_layer as_is) (any_of_layer as_is) (array_layer as_is as_is) (object_layer as_is) (one_of_layer as_is)

abbrev pub all_of_fold : AllOf → Doc
all_of_fold = fold-AllOf Doc Doc Doc Doc Doc Doc Doc (items_layer as_is) schema_layer (all_of_layer as_is) (any_of_layer as_is) (array_layer as_is as_is) (object_layer as_is) (one_of_layer as_is)

abbrev pub any_of_fold : AnyOf → Doc
any_of_fold = fold-AnyOf Doc Doc Doc Doc Doc Doc Doc (items_layer as_is) schema_layer (all_of_layer as_is) (any_of_layer as_is) (array_layer as_is as_is) (object_layer as_is) (one_of_layer as_is)

abbrev pub array_fold : Array → Doc
array_fold = fold-Array Doc Doc Doc Doc Doc Doc Doc (items_layer as_is) schema_layer (all_of_layer as_is) (any_of_layer as_is) (array_layer as_is as_is) (object_layer as_is) (one_of_layer as_is)

abbrev pub object_fold : Object → Doc
object_fold = fold-Object Doc Doc Doc Doc Doc Doc Doc (items_layer as_is) schema_layer (all_of_layer as_is) (any_of_layer as_is) (array_layer as_is as_is) (object_layer as_is) (one_of_layer as_is)

pub one_of_is : (x : OneOf) → one_of_fold x ≡ one_of_doc x
one_of_is x = fold_out-OneOf Doc Doc Doc Doc Doc Doc Doc (items_layer as_is) schema_layer (all_of_layer as_is) (any_of_layer as_is) (array_layer as_is as_is) (object_layer as_is) (one_of_layer as_is) x ∙ one_of_natural as_is array_items_doc schema_doc all_of_fold any_of_fold array_fold object_fold one_of_fold (out-OneOf x)

pub all_of_is : (x : AllOf) → all_of_fold x ≡ all_of_doc x
all_of_is x = fold_out-AllOf Doc Doc Doc Doc Doc Doc Doc (items_layer as_is) schema_layer (all_of_layer as_is) (any_of_layer as_is) (array_layer as_is as_is) (object_layer as_is) (one_of_layer as_is) x ∙ all_of_natural as_is array_items_doc schema_doc all_of_fold any_of_fold array_fold object_fold one_of_fold (out-AllOf x)

pub any_of_is : (x : AnyOf) → any_of_fold x ≡ any_of_doc x
any_of_is x = fold_out-AnyOf Doc Doc Doc Doc Doc Doc Doc (items_layer as_is) schema_layer (all_of_layer as_is) (any_of_layer as_is) (array_layer as_is as_is) (object_layer as_is) (one_of_layer as_is) x ∙ any_of_natural as_is array_items_doc schema_doc all_of_fold any_of_fold array_fold object_fold one_of_fold (out-AnyOf x)

pub object_is : (x : Object) → object_fold x ≡ object_doc x
object_is x = fold_out-Object Doc Doc Doc Doc Doc Doc Doc (items_layer as_is) schema_layer (all_of_layer as_is) (any_of_layer as_is) (array_layer as_is as_is) (object_layer as_is) (one_of_layer as_is) x ∙ object_natural as_is array_items_doc schema_doc all_of_fold any_of_fold array_fold object_fold one_of_fold (out-Object x)

pub array_is : (x : Array) → array_fold x ≡ array_doc x
array_is x = fold_out-Array Doc Doc Doc Doc Doc Doc Doc (items_layer as_is) schema_layer (all_of_layer as_is) (any_of_layer as_is) (array_layer as_is as_is) (object_layer as_is) (one_of_layer as_is) x ∙ array_natural as_is as_is array_items_doc schema_doc all_of_fold any_of_fold array_fold object_fold one_of_fold (out-Array x)

pub items_roll : (x : ArrayItems-F ArrayItems Schema AllOf AnyOf Array Object OneOf) → array_items_doc (roll-ArrayItems x) ≡ items_layer schema_doc x
items_roll x = fold-roll-ArrayItems Doc Doc Doc Doc Doc Doc Doc (items_layer as_is) schema_layer (all_of_layer as_is) (any_of_layer as_is) (array_layer as_is as_is) (object_layer as_is) (one_of_layer as_is) x ∙ items_natural as_is array_items_doc schema_doc all_of_fold any_of_fold array_fold object_fold one_of_fold x

pub schema_roll-Array : (x : Array) → schema_doc (roll-Schema (Schema-F.Array x)) ≡ docs.schema_doc (array_doc x)
schema_roll-Array x = fold-roll-Schema Doc Doc Doc Doc Doc Doc Doc (items_layer as_is) schema_layer (all_of_layer as_is) (any_of_layer as_is) (array_layer as_is as_is) (object_layer as_is) (one_of_layer as_is) (Schema-F.Array x) ∙ ap docs.schema_doc (array_is x)

pub schema_roll-Object : (x : Object) → schema_doc (roll-Schema (Schema-F.Object x)) ≡ docs.schema_doc (object_doc x)
schema_roll-Object x = fold-roll-Schema Doc Doc Doc Doc Doc Doc Doc (items_layer as_is) schema_layer (all_of_layer as_is) (any_of_layer as_is) (array_layer as_is as_is) (object_layer as_is) (one_of_layer as_is) (Schema-F.Object x) ∙ ap docs.schema_doc (object_is x)

pub schema_roll-OneOf : (x : OneOf) → schema_doc (roll-Schema (Schema-F.OneOf x)) ≡ docs.schema_doc (one_of_doc x)
schema_roll-OneOf x = fold-roll-Schema Doc Doc Doc Doc Doc Doc Doc (items_layer as_is) schema_layer (all_of_layer as_is) (any_of_layer as_is) (array_layer as_is as_is) (object_layer as_is) (one_of_layer as_is) (Schema-F.OneOf x) ∙ ap docs.schema_doc (one_of_is x)

pub schema_roll-AllOf : (x : AllOf) → schema_doc (roll-Schema (Schema-F.AllOf x)) ≡ docs.schema_doc (all_of_doc x)
schema_roll-AllOf x = fold-roll-Schema Doc Doc Doc Doc Doc Doc Doc (items_layer as_is) schema_layer (all_of_layer as_is) (any_of_layer as_is) (array_layer as_is as_is) (object_layer as_is) (one_of_layer as_is) (Schema-F.AllOf x) ∙ ap docs.schema_doc (all_of_is x)

pub schema_roll-AnyOf : (x : AnyOf) → schema_doc (roll-Schema (Schema-F.AnyOf x)) ≡ docs.schema_doc (any_of_doc x)
schema_roll-AnyOf x = fold-roll-Schema Doc Doc Doc Doc Doc Doc Doc (items_layer as_is) schema_layer (all_of_layer as_is) (any_of_layer as_is) (array_layer as_is as_is) (object_layer as_is) (one_of_layer as_is) (Schema-F.AnyOf x) ∙ ap docs.schema_doc (any_of_is x)

pub schema-Array : (x : Array) → schema_doc (schemas.Array x) ≡ docs.schema_doc (array_doc x)
schema-Array x = ap schema_doc (sym (schema_variants.rolls-Array x)) ∙ schema_roll-Array x

pub schema-Object : (x : Object) → schema_doc (schemas.Object x) ≡ docs.schema_doc (object_doc x)
schema-Object x = ap schema_doc (sym (schema_variants.rolls-Object x)) ∙ schema_roll-Object x

pub schema-OneOf : (x : OneOf) → schema_doc (schemas.OneOf x) ≡ docs.schema_doc (one_of_doc x)
schema-OneOf x = ap schema_doc (sym (schema_variants.rolls-OneOf x)) ∙ schema_roll-OneOf x

pub schema-AllOf : (x : AllOf) → schema_doc (schemas.AllOf x) ≡ docs.schema_doc (all_of_doc x)
schema-AllOf x = ap schema_doc (sym (schema_variants.rolls-AllOf x)) ∙ schema_roll-AllOf x

pub schema-AnyOf : (x : AnyOf) → schema_doc (schemas.AnyOf x) ≡ docs.schema_doc (any_of_doc x)
schema-AnyOf x = ap schema_doc (sym (schema_variants.rolls-AnyOf x)) ∙ schema_roll-AnyOf x

pub items-False : array_items_doc items.False ≡ flag_doc false
items-False = ap array_items_doc (sym items_variants.rolls-False) ∙ items_roll ArrayItems-F.False

pub items-RefOrSchema : (b : Box (RefOr Schema) Global) → array_items_doc (items.RefOrSchema b) ≡ ref_or_doc schema schema_doc b.value
items-RefOrSchema b = ap array_items_doc (sym (items_variants.rolls-RefOrSchema b)) ∙ items_roll (ArrayItems-F.RefOrSchema b)
