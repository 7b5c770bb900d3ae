-- Why `==` of two XML objects tells whether they are one document.
use Rattle.std.proofs.Common.{◌≡◌, Bool, ◌&&◌, Decides, Option, None, Some, String, string_bytes, string_eq, refl, ap}
use Rattle.std.proofs.lemmas.Bool.{and_parts, and_from}
use Rattle.std.proofs.lemmas.Slice.Eq.{slice_eq-Decides}
use Rattle.std.proofs.Math.Bool.{beq}
use Rattle.std.specs.Cmp.{booleans_Decides, unsigned_Decides}
use Rattle.std.specs.Option.{option_eq}
use Rattle.std.specs.declared.alloc.Global.{Global}
use Rattle.utoipa_base.specs.Docs.{Doc, Docs, text_doc, flag_doc, some_doc, no_docs, doc, table_doc}
use Rattle.utoipa_base.specs.Kinds.{xml_object}
use Rattle.utoipa_base.specs.Views.{text_of, option_of}
use Rattle.utoipa_schema_parts.specs.Xml.{xml_doc}
use Rattle.utoipa_schema_parts.specs.declared.xml.Xml.{Xml}

-- two texts, by their documents
same_text : (x y : String Global) → Decides (string_eq x y) (text_of x ≡ text_of y)
same_text x y =
    let by_bytes : Decides (string_eq x y) (string_bytes x ≡ string_bytes y) = slice_eq-Decides unsigned_Decides (string_bytes x) (string_bytes y) (string_eq x y) refl in
    (λ e. ap text_doc (by_bytes.0 e), λ e. by_bytes.1 cc)

-- two flags, by their documents
same_flag : (x y : Bool) → Decides (beq x y) (flag_doc x ≡ flag_doc y)
same_flag x y =
    let by_value : Decides (beq x y) (x ≡ y) = booleans_Decides x y in
    (λ e. ap flag_doc (by_value.0 e), λ e. by_value.1 cc)

-- two values that may be absent, by their documents
same_option : {X : Type 0} (E : X → X → Bool) (f : X → Doc) → ((x y : X) → Decides (E x y) (f x ≡ f y)) → (a b : Option X) → Decides (option_eq E a b) (option_of f a ≡ option_of f b)
same_option E f each None None = (λ _. refl, λ _. refl)
same_option E f each None (Some y) = (λ e. cc, λ e. cc)
same_option E f each (Some x) None = (λ e. cc, λ e. cc)
same_option E f each (Some x) (Some y) = (λ e. ap some_doc ((each x y).0 e), λ e. (each x y).1 cc)

-- a field and the fields after it
same_more : (r s : Bool) (d e : Doc) (ds es : Docs) → Decides r (d ≡ e) → Decides s (ds ≡ es) → Decides (r && s) (doc d ds ≡ doc e es)
same_more r s d e ds es first later = (
  λ h.
      let heads : d ≡ e = first.0 (and_parts r s h).0 in
      let tails : ds ≡ es = later.0 (and_parts r s h).1 in
      cc,
  λ h. and_from r s (first.1 cc) (later.1 cc),
)

-- the last field
same_last : (r : Bool) (d e : Doc) → Decides r (d ≡ e) → Decides r (doc d no_docs ≡ doc e no_docs)
same_last r d e last = (λ h. ap (λ x. doc x no_docs) (last.0 h), λ h. last.1 cc)

-- the fields of two XML objects, as a derived `==` compares them
abbrev pub equal_fields : Xml → Xml → Bool
equal_fields x y =
    option_eq beq x.attribute y.attribute
    && (option_eq string_eq x.name y.name
    && (option_eq string_eq x.namespace y.namespace
    && (option_eq string_eq x.node_type y.node_type
    && (option_eq string_eq x.prefix y.prefix && option_eq beq x.wrapped y.wrapped))))

pub same_xml : (x y : Xml) → Decides (equal_fields x y) (xml_doc x ≡ xml_doc y)
same_xml x y =
    let text : (a b : Option (String Global)) → Decides (option_eq string_eq a b) (option_of text_of a ≡ option_of text_of b) = same_option string_eq text_of same_text in
    let flag : (a b : Option Bool) → Decides (option_eq beq a b) (option_of flag_doc a ≡ option_of flag_doc b) = same_option beq flag_doc same_flag in
    let rows =
    same_more _ _ _ _ _ _ (flag x.attribute y.attribute)
    (same_more _ _ _ _ _ _ (text x.name y.name)
    (same_more _ _ _ _ _ _ (text x.namespace y.namespace)
    (same_more _ _ _ _ _ _ (text x.node_type y.node_type)
    (same_more _ _ _ _ _ _ (text x.prefix y.prefix)
    (same_last _ _ _ (flag x.wrapped y.wrapped)))))) in
    (λ e. ap (λ ds. table_doc xml_object ds None) (rows.0 e), λ e. rows.1 cc)
