-- A layer's document, where the schemas in the layer were mapped first.
use Rattle.std.proofs.Common.{◌≡◌, ◌∙◌, refl, ap, Option, Some, None, Global, Box}
use Rattle.utoipa_base.specs.Docs.{Doc, docs_of, list_doc, map_doc, entries_of_list}
use Rattle.utoipa_base.specs.Kinds.{schema}
use Rattle.utoipa_base.specs.Mapped.{list_through, entries_through}
use Rattle.utoipa_base.specs.Refs.{ref_or_doc}
use Rattle.utoipa_base.specs.Views.{boxed, option_of, list_of_docs, map_of_docs}
use Rattle.utoipa_base.specs.declared.refs.RefOr.{RefOr}
use Rattle.utoipa_base.specs.declared.refs.RefOr.TheVariants as made
use Rattle.utoipa_schema.specs.Docs.{additional_properties_doc, items_layer, one_of_table, one_of_layer, all_of_table, all_of_layer, any_of_table, any_of_layer, array_table, array_layer, object_table, object_layer}
use Rattle.utoipa_schema.specs.declared.types.AdditionalProperties.{AdditionalProperties}
use Rattle.utoipa_schema.specs.declared.types.AdditionalProperties.TheVariants as additional
use Rattle.utoipa_schema.specs.declared.types.ArrayItems.{ArrayItems-F, map-ArrayItems}
use Rattle.utoipa_schema.specs.declared.types.Object.{Object-F, map-Object}
use Rattle.utoipa_schema.specs.declared.types.Array.{Array-F, map-Array}
use Rattle.utoipa_schema.specs.declared.types.OneOf.{OneOf-F, map-OneOf}
use Rattle.utoipa_schema.specs.declared.types.AllOf.{AllOf-F, map-AllOf}
use Rattle.utoipa_schema.specs.declared.types.AnyOf.{AnyOf-F, map-AnyOf}

-- ---- the layers

pub items_natural : {A S B C D E F A' S' B' C' D' E' F' : Type 0} (f : S' → Doc) (a : A → A') (s : S → S') (b : B → B') (c : C → C') (d : D → D') (e : E → E') (g : F → F') (x : ArrayItems-F A S B C D E F) → items_layer f (map-ArrayItems A S B C D E F A' S' B' C' D' E' F' a s b c d e g x) ≡ items_layer (λ v. f (s v)) x
items_natural {A = A} {S = S} {B = B} {C = C} {D = D} {E = E} {F = F} {A' = A'} {S' = S'} {B' = B'} {C' = C'} {D' = D'} {E' = E'} {F' = F'} f a s b c d e g ArrayItems-F.False = refl
items_natural {A = A} {S = S} {B = B} {C = C} {D = D} {E = E} {F = F} {A' = A'} {S' = S'} {B' = B'} {C' = C'} {D' = D'} {E' = E'} {F' = F'} f a s b c d e g (ArrayItems-F.RefOrSchema p) = elim (p.value) as (λ r. items_layer f (map-ArrayItems A S B C D E F A' S' B' C' D' E' F' a s b c d e g (ArrayItems-F.RefOrSchema (record p { value = r }))) ≡ ref_or_doc schema (λ v. f (s v)) r) [ made.Ref r ↦ refl | made.T t ↦ refl ]

pub one_of_natural : {A S B C D E F A' S' B' C' D' E' F' : Type 0} (f : S' → Doc) (a : A → A') (s : S → S') (b : B → B') (c : C → C') (d : D → D') (e : E → E') (g : F → F') (x : OneOf-F A S B C D E F) → one_of_layer f (map-OneOf A S B C D E F A' S' B' C' D' E' F' a s b c d e g x) ≡ one_of_layer (λ v. f (s v)) x
one_of_natural {A = A} {S = S} {B = B} {C = C} {D = D} {E = E} {F = F} {A' = A'} {S' = S'} {B' = B'} {C' = C'} {D' = D'} {E' = E'} {F' = F'} f a s b c d e g x = ap (λ ds. one_of_table (list_doc (docs_of ds)) x)
    (list_through (ref_or_doc schema f) _ (ref_or_doc schema (λ v. f (s v))) (elim [ made.Ref r ↦ refl | made.T t ↦ refl ]) x.items.items)

pub all_of_natural : {A S B C D E F A' S' B' C' D' E' F' : Type 0} (f : S' → Doc) (a : A → A') (s : S → S') (b : B → B') (c : C → C') (d : D → D') (e : E → E') (g : F → F') (x : AllOf-F A S B C D E F) → all_of_layer f (map-AllOf A S B C D E F A' S' B' C' D' E' F' a s b c d e g x) ≡ all_of_layer (λ v. f (s v)) x
all_of_natural {A = A} {S = S} {B = B} {C = C} {D = D} {E = E} {F = F} {A' = A'} {S' = S'} {B' = B'} {C' = C'} {D' = D'} {E' = E'} {F' = F'} f a s b c d e g x = ap (λ ds. all_of_table (list_doc (docs_of ds)) x)
    (list_through (ref_or_doc schema f) _ (ref_or_doc schema (λ v. f (s v))) (elim [ made.Ref r ↦ refl | made.T t ↦ refl ]) x.items.items)

pub any_of_natural : {A S B C D E F A' S' B' C' D' E' F' : Type 0} (f : S' → Doc) (a : A → A') (s : S → S') (b : B → B') (c : C → C') (d : D → D') (e : E → E') (g : F → F') (x : AnyOf-F A S B C D E F) → any_of_layer f (map-AnyOf A S B C D E F A' S' B' C' D' E' F' a s b c d e g x) ≡ any_of_layer (λ v. f (s v)) x
any_of_natural {A = A} {S = S} {B = B} {C = C} {D = D} {E = E} {F = F} {A' = A'} {S' = S'} {B' = B'} {C' = C'} {D' = D'} {E' = E'} {F' = F'} f a s b c d e g x = ap (λ ds. any_of_table (list_doc (docs_of ds)) x)
    (list_through (ref_or_doc schema f) _ (ref_or_doc schema (λ v. f (s v))) (elim [ made.Ref r ↦ refl | made.T t ↦ refl ]) x.items.items)

array_content : {A S B C D E F A' S' B' C' D' E' F' : Type 0} (f : S' → Doc) (a : A → A') (s : S → S') (b : B → B') (c : C → C') (d : D → D') (e : E → E') (g : F → F') (x : Array-F A S B C D E F) (o : Option (Box (RefOr S) Global)) → option_of (boxed (ref_or_doc schema f)) (map-Array A S B C D E F A' S' B' C' D' E' F' a s b c d e g (record x { content_schema = o })).content_schema ≡ option_of (boxed (ref_or_doc schema (λ v. f (s v)))) o
array_content {A = A} {S = S} {B = B} {C = C} {D = D} {E = E} {F = F} {A' = A'} {S' = S'} {B' = B'} {C' = C'} {D' = D'} {E' = E'} {F' = F'} f a s b c d e g x None = refl
array_content {A = A} {S = S} {B = B} {C = C} {D = D} {E = E} {F = F} {A' = A'} {S' = S'} {B' = B'} {C' = C'} {D' = D'} {E' = E'} {F' = F'} f a s b c d e g x (Some p) = elim (p.value) as (λ r. option_of (boxed (ref_or_doc schema f)) (map-Array A S B C D E F A' S' B' C' D' E' F' a s b c d e g (record x { content_schema = Some (record p { value = r }) })).content_schema ≡ option_of (boxed (ref_or_doc schema (λ v. f (s v)))) (Some (record p { value = r }))) [ made.Ref r ↦ refl | made.T t ↦ refl ]

pub array_natural : {A S B C D E F A' S' B' C' D' E' F' : Type 0} (items : A' → Doc) (f : S' → Doc) (a : A → A') (s : S → S') (b : B → B') (c : C → C') (d : D → D') (e : E → E') (g : F → F') (x : Array-F A S B C D E F) → array_layer items f (map-Array A S B C D E F A' S' B' C' D' E' F' a s b c d e g x) ≡ array_layer (λ v. items (a v)) (λ v. f (s v)) x
array_natural {A = A} {S = S} {B = B} {C = C} {D = D} {E = E} {F = F} {A' = A'} {S' = S'} {B' = B'} {C' = C'} {D' = D'} {E' = E'} {F' = F'} items f a s b c d e g x =
    ap (λ ds. array_table (items (a x.items)) (list_doc (docs_of ds)) (option_of (boxed (ref_or_doc schema f)) (map-Array A S B C D E F A' S' B' C' D' E' F' a s b c d e g x).content_schema) x) (list_through f s (λ v. f (s v)) (λ v. refl) x.prefix_items.items)
    ∙ ap (λ p. array_table (items (a x.items)) (list_of_docs (λ v. f (s v)) x.prefix_items) p x) (array_content f a s b c d e g x x.content_schema)

object_content : {A S B C D E F A' S' B' C' D' E' F' : Type 0} (f : S' → Doc) (a : A → A') (s : S → S') (b : B → B') (c : C → C') (d : D → D') (e : E → E') (g : F → F') (x : Object-F A S B C D E F) (o : Option (Box (RefOr S) Global)) → option_of (boxed (ref_or_doc schema f)) (map-Object A S B C D E F A' S' B' C' D' E' F' a s b c d e g (record x { content_schema = o })).content_schema ≡ option_of (boxed (ref_or_doc schema (λ v. f (s v)))) o
object_content {A = A} {S = S} {B = B} {C = C} {D = D} {E = E} {F = F} {A' = A'} {S' = S'} {B' = B'} {C' = C'} {D' = D'} {E' = E'} {F' = F'} f a s b c d e g x None = refl
object_content {A = A} {S = S} {B = B} {C = C} {D = D} {E = E} {F = F} {A' = A'} {S' = S'} {B' = B'} {C' = C'} {D' = D'} {E' = E'} {F' = F'} f a s b c d e g x (Some p) = elim (p.value) as (λ r. option_of (boxed (ref_or_doc schema f)) (map-Object A S B C D E F A' S' B' C' D' E' F' a s b c d e g (record x { content_schema = Some (record p { value = r }) })).content_schema ≡ option_of (boxed (ref_or_doc schema (λ v. f (s v)))) (Some (record p { value = r }))) [ made.Ref r ↦ refl | made.T t ↦ refl ]

object_names : {A S B C D E F A' S' B' C' D' E' F' : Type 0} (f : S' → Doc) (a : A → A') (s : S → S') (b : B → B') (c : C → C') (d : D → D') (e : E → E') (g : F → F') (x : Object-F A S B C D E F) (o : Option (Box S Global)) → option_of (boxed f) (map-Object A S B C D E F A' S' B' C' D' E' F' a s b c d e g (record x { property_names = o })).property_names ≡ option_of (boxed (λ v. f (s v))) o
object_names {A = A} {S = S} {B = B} {C = C} {D = D} {E = E} {F = F} {A' = A'} {S' = S'} {B' = B'} {C' = C'} {D' = D'} {E' = E'} {F' = F'} f a s b c d e g x None = refl
object_names {A = A} {S = S} {B = B} {C = C} {D = D} {E = E} {F = F} {A' = A'} {S' = S'} {B' = B'} {C' = C'} {D' = D'} {E' = E'} {F' = F'} f a s b c d e g x (Some p) = refl

object_additional : {A S B C D E F A' S' B' C' D' E' F' : Type 0} (f : S' → Doc) (a : A → A') (s : S → S') (b : B → B') (c : C → C') (d : D → D') (e : E → E') (g : F → F') (x : Object-F A S B C D E F) (o : Option (Box (AdditionalProperties S) Global)) → option_of (boxed (additional_properties_doc f)) (map-Object A S B C D E F A' S' B' C' D' E' F' a s b c d e g (record x { additional_properties = o })).additional_properties ≡ option_of (boxed (additional_properties_doc (λ v. f (s v)))) o
object_additional {A = A} {S = S} {B = B} {C = C} {D = D} {E = E} {F = F} {A' = A'} {S' = S'} {B' = B'} {C' = C'} {D' = D'} {E' = E'} {F' = F'} f a s b c d e g x None = refl
object_additional {A = A} {S = S} {B = B} {C = C} {D = D} {E = E} {F = F} {A' = A'} {S' = S'} {B' = B'} {C' = C'} {D' = D'} {E' = E'} {F' = F'} f a s b c d e g x (Some p) = elim (p.value) as (λ q. option_of (boxed (additional_properties_doc f)) (map-Object A S B C D E F A' S' B' C' D' E' F' a s b c d e g (record x { additional_properties = Some (record p { value = q }) })).additional_properties ≡ option_of (boxed (additional_properties_doc (λ v. f (s v)))) (Some (record p { value = q }))) [
  | additional.RefOr r ↦ elim r as (λ r. option_of (boxed (additional_properties_doc f)) (map-Object A S B C D E F A' S' B' C' D' E' F' a s b c d e g (record x { additional_properties = Some (record p { value = additional.RefOr r }) })).additional_properties ≡ option_of (boxed (additional_properties_doc (λ v. f (s v)))) (Some (record p { value = additional.RefOr r }))) [ made.Ref r ↦ refl | made.T t ↦ refl ]
  | additional.FreeForm free ↦ refl
]

object_properties : {A S B C D E F A' S' B' C' D' E' F' : Type 0} (f : S' → Doc) (a : A → A') (s : S → S') (b : B → B') (c : C → C') (d : D → D') (e : E → E') (g : F → F') (x : Object-F A S B C D E F) → map_of_docs (ref_or_doc schema f) (map-Object A S B C D E F A' S' B' C' D' E' F' a s b c d e g x).properties ≡ map_of_docs (ref_or_doc schema (λ v. f (s v))) x.properties
object_properties {A = A} {S = S} {B = B} {C = C} {D = D} {E = E} {F = F} {A' = A'} {S' = S'} {B' = B'} {C' = C'} {D' = D'} {E' = E'} {F' = F'} f a s b c d e g x = ap (λ es. map_doc (entries_of_list es)) (entries_through (ref_or_doc schema f) _ (ref_or_doc schema (λ v. f (s v))) (λ k. elim [ made.Ref r ↦ refl | made.T t ↦ refl ]) x.properties.entries)

same_object : {A S B C D E F : Type 0} (p p' q q' n n' t t' : Doc) (x : Object-F A S B C D E F) → p ≡ p' → q ≡ q' → n ≡ n' → t ≡ t' → object_table p q n t x ≡ object_table p' q' n' t' x
same_object p p' q q' n n' t t' x ep eq en et =
    ap (λ y. object_table y q n t x) ep ∙ ap (λ y. object_table p' y n t x) eq ∙ ap (λ y. object_table p' q' y t x) en ∙ ap (λ y. object_table p' q' n' y x) et

pub object_natural : {A S B C D E F A' S' B' C' D' E' F' : Type 0} (f : S' → Doc) (a : A → A') (s : S → S') (b : B → B') (c : C → C') (d : D → D') (e : E → E') (g : F → F') (x : Object-F A S B C D E F) → object_layer f (map-Object A S B C D E F A' S' B' C' D' E' F' a s b c d e g x) ≡ object_layer (λ v. f (s v)) x
object_natural {A = A} {S = S} {B = B} {C = C} {D = D} {E = E} {F = F} {A' = A'} {S' = S'} {B' = B'} {C' = C'} {D' = D'} {E' = E'} {F' = F'} f a s b c d e g x = same_object _ _ _ _ _ _ _ _ x (object_properties f a s b c d e g x) (object_additional f a s b c d e g x x.additional_properties) (object_names f a s b c d e g x x.property_names) (object_content f a s b c d e g x x.content_schema)
