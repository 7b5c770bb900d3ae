-- Why `==` of the types of schemas tells whether they are one document.
use Rattle.std.proofs.Common.{rules, ◌≡◌, Decides, List, [], ◌∷◌, Some, map, refl, ap, sym, ◌∙◌}
use Rattle.std.proofs.lemmas.Slice.Eq.{slice_eq-Decides}
use Rattle.utoipa_base.specs.Docs.{types_doc, list_doc, docs_of}
use Rattle.utoipa_base.specs.Vocabularies.{with_text}
use Rattle.utoipa_schema_parts.specs.Types.{type_word_doc, type_word_text, every_type_word, type_word_by_text, schema_type_doc}
use Rattle.utoipa_schema_parts.specs.declared.types.TypeWord.{TypeWord}
use Rattle.utoipa_schema_parts.specs.declared.types.SchemaType.{SchemaType}
use Rattle.utoipa_schema_parts.specs.declared.types.SchemaType.TheVariants.{Single, Array, AnyValue}
use Rattle.utoipa_schema_parts.specs.contracts.types.TypeWordPartialEq.TheImpl as word
use Rattle.utoipa_schema_parts.specs.contracts.types.SchemaTypePartialEq.TheImpl as derived

same_word : (a b : TypeWord) → Decides (word.ghosts.eq a b) (a ≡ b)
same_word a b = search rules

-- no two words have one document
one_word : (a b : TypeWord) → type_word_doc a ≡ type_word_doc b → a ≡ b
one_word a b e =
    let texts : type_word_text a ≡ type_word_text b = cc in
    let found : Some a ≡ Some b = sym (type_word_by_text a) ∙ ap (with_text type_word_text every_type_word) texts ∙ type_word_by_text b in
    cc

-- and no two lists of words
one_list : (xs ys : List TypeWord) → docs_of (map type_word_doc xs) ≡ docs_of (map type_word_doc ys) → xs ≡ ys
one_list [] [] e = refl
one_list [] (y ∷ ys) e = cc
one_list (x ∷ xs) [] e = cc
one_list (x ∷ xs) (y ∷ ys) e =
    let first : x ≡ y = one_word x y cc in
    let others : xs ≡ ys = one_list xs ys cc in
    cc

pub same_type : (a b : SchemaType) → Decides (derived.ghosts.eq a b) (schema_type_doc a ≡ schema_type_doc b)
same_type (Single a) (Single b) = (λ e. ap type_word_doc ((same_word a b).0 e), λ e. (same_word a b).1 (one_word a b e))
same_type (Single a) (Array b) = (λ e. cc, λ e. cc)
same_type (Single a) AnyValue = (λ e. cc, λ e. cc)
same_type (Array a) (Single b) = (λ e. cc, λ e. cc)
same_type (Array a) (Array b) =
    let by_words : Decides (derived.ghosts.eq (Array a) (Array b)) (a.items ≡ b.items) = slice_eq-Decides same_word a.items b.items (derived.ghosts.eq (Array a) (Array b)) refl in
    (λ e. ap (λ words. types_doc (list_doc (docs_of (map type_word_doc words)))) (by_words.0 e), λ e. by_words.1 (one_list a.items b.items cc))
same_type (Array a) AnyValue = (λ e. cc, λ e. cc)
same_type AnyValue (Single b) = (λ e. cc, λ e. cc)
same_type AnyValue (Array b) = (λ e. cc, λ e. cc)
same_type AnyValue AnyValue = (λ _. refl, λ _. refl)
