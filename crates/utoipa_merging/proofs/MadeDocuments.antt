-- Documents have a merged document: that of two is made of its parts, and that of more is made by merging one after the other.
use Rattle.std.proofs.Common.{◌≡◌, inl, inr, List, [], ◌∷◌, ◌++◌, true, Option, Some, refl, sym, ap, ◌∙◌, subst, codes}
use Rattle.std.proofs.lemmas.List.{append-nil, append_assoc}
use Rattle.std.specs.List.{AllByRecursion, list_any}
use Rattle.std.specs.List.Sorted.{IsStrictlySortedBy}
use Rattle.utoipa_base.specs.Kinds.{Kind, named, ref_or, map_of, schema, security_scheme, open_api_object, example_object, header_object, link_object, media_type_object, parameter_object, path_item_object, request_body_object, response_object, components_object, server_object, tag_object, list_of, defaulted}
use Rattle.utoipa_base.specs.Docs.{Doc, none_doc, some_doc, no_docs, doc, table_doc}
use Rattle.utoipa_base.specs.OfKind.{no_rows, next_row, table_of_kind, extends_of_kind}
use Rattle.utoipa_base.specs.Tables.{row, table, paths, callback, security_requirement}
use Rattle.utoipa_base.specs.Shape.{value_of, option_of, IsOf}
use Rattle.std.specs.Option.{option_or}
use Rattle.utoipa_merging.specs.Rules.{first_of, AreJoined}
use Rattle.utoipa_merging.specs.Slots.{field_at, extensions_in, entry_at, items_in, is_there, has_extensions, extension_at, path_slot, Joined, servers_joined, security_joined, tags_joined, joined_of, paths_of, components_of, component_at, ComponentMap, schema_map, response_map, parameter_map, example_map, request_body_map, header_map, link_map, callback_map, path_item_map, media_type_map, security_scheme_map, map_member}
use Rattle.utoipa_merging.specs.Merged.{IsOpenApi, IsListMerged, AreComponentsMerged, IsMerged, IsInOrder, IsInKeyOrder}
use Rattle.utoipa_merging.proofs.Composition.{merged_composes, merged_one}
use Rattle.utoipa_merging.proofs.Determined.{MapsInOrder}
use Rattle.utoipa_merging.proofs.JoinedLists.{joined_unique, joined_copy, joined_one}
use Rattle.utoipa_merging.proofs.MadeParts.{some_fits, first_there, second_there, IsMadeList, made_list, FindsOf, map_finds, IsMadeMap, made_map}
use Rattle.utoipa_merging.proofs.MadePaths.{object_field, AreMadePaths, made_paths}
use Rattle.utoipa_merging.proofs.Options.{or_itself, or_none, or_same, or_false}
use Rattle.utoipa_merging.proofs.Shapes.{option_shape, row_at}

-- ---- components

-- the kind of a map's entries
map_kind : ComponentMap → Kind
map_kind schema_map = ref_or schema
map_kind response_map = ref_or (named response_object)
map_kind parameter_map = ref_or (named parameter_object)
map_kind example_map = ref_or (named example_object)
map_kind request_body_map = ref_or (named request_body_object)
map_kind header_map = ref_or (named header_object)
map_kind link_map = ref_or (named link_object)
map_kind callback_map = ref_or callback
map_kind path_item_map = named path_item_object
map_kind media_type_map = ref_or (named media_type_object)
map_kind security_scheme_map = ref_or security_scheme

map_row : (m : ComponentMap) → row_at (map_member m) (table components_object) ≡ Some (row (map_member m) defaulted (map_of (map_kind m)))
unfolding map_kind
map_row schema_map = refl
map_row m = refl

-- what is found in a map of components is of the map's kind. The components may be absent
components_find : (c : Doc) → IsOf c (option_of (named components_object)) → (m : ComponentMap) → FindsOf (map_kind m) (field_at (map_member m) c)
components_find c h m =
    elim (option_shape (named components_object) c h) [
      | inl p ↦ subst (λ c. FindsOf (map_kind m) (field_at (map_member m) c)) (sym p) (λ name. tt)
      | inr p ↦
          subst (λ c. FindsOf (map_kind m) (field_at (map_member m) c)) (sym p.1)
          (map_finds (map_kind m) (field_at (map_member m) p.0) (object_field components_object p.0 (map_member m) _ p.2 (map_row m)))
    ]

-- what two documents' components are merged to. Either may be absent
record AreMadeComponents (c d : Doc) : Type 0 where
  pub made : Doc
  pub of_kind : IsOf made (option_of (named components_object))
  pub order : MapsInOrder made
  pub merged : AreComponentsMerged (c ∷ d ∷ []) made

abbrev AreMadeMaps : Doc → Doc → Type 0
AreMadeMaps c d = (m : ComponentMap) → IsMadeMap (map_kind m) (field_at (map_member m) c) (field_at (map_member m) d)

components_with : (c d : Doc) → AreMadeMaps c d → Doc
components_with c d maps =
    some_doc
    (table_doc components_object
    (doc (maps callback_map).made
    (doc (maps example_map).made
    (doc (maps header_map).made
    (doc (maps link_map).made
    (doc (maps media_type_map).made
    (doc (maps parameter_map).made
    (doc (maps path_item_map).made
    (doc (maps request_body_map).made
    (doc (maps response_map).made (doc (maps schema_map).made (doc (maps security_scheme_map).made no_docs)))))))))))
    (extensions_in c))

components_fit : (c d : Doc) (maps : AreMadeMaps c d) → IsOf (components_with c d maps) (option_of (named components_object))
unfolding components_with map_kind
components_fit c d maps =
    some_fits (named components_object) _
    (table_of_kind components_object (extensions_in c)
    (next_row (maps callback_map).of_kind
    (next_row (maps example_map).of_kind
    (next_row (maps header_map).of_kind
    (next_row (maps link_map).of_kind
    (next_row (maps media_type_map).of_kind
    (next_row (maps parameter_map).of_kind
    (next_row (maps path_item_map).of_kind
    (next_row (maps request_body_map).of_kind
    (next_row (maps response_map).of_kind (next_row (maps schema_map).of_kind (next_row (maps security_scheme_map).of_kind no_rows)))))))))))
    (extends_of_kind (extensions_in c)))

map_stands : (c d : Doc) (maps : AreMadeMaps c d) (m : ComponentMap) → field_at (map_member m) (components_with c d maps) ≡ (maps m).made
unfolding components_with
map_stands c d maps schema_map = refl
map_stands c d maps m = refl

extensions_stand : (c d : Doc) (maps : AreMadeMaps c d) → extensions_in (components_with c d maps) ≡ extensions_in c
unfolding components_with
extensions_stand c d maps = refl

are_there : (c d : Doc) (maps : AreMadeMaps c d) → is_there (components_with c d maps) ≡ true
unfolding components_with
are_there c d maps = refl

-- at least one of them is there
components_there : (c d : Doc) → AreMadeMaps c d → list_any is_there (c ∷ d ∷ []) ≡ true → AreMadeComponents c d
components_there c d maps there = record {
  made = components_with c d maps;
  of_kind = components_fit c d maps;
  order = λ m. subst IsInOrder (sym (map_stands c d maps m)) (maps m).order;
  merged = record {
    there = are_there c d maps ∙ sym there;
    maps = λ m name. ap (entry_at name) (map_stands c d maps m) ∙ (maps m).found name;
    extensions = ap Some (extensions_stand c d maps);
  };
}

no_components : AreMadeComponents none_doc none_doc
unfolding IsOf IsStrictlySortedBy
no_components = record { made = none_doc; of_kind = (named components_object, refl); order = λ m. tt; merged = record { there = refl; maps = λ m name. refl; extensions = refl } }

made_components : (c d : Doc) → IsOf c (option_of (named components_object)) → IsOf d (option_of (named components_object)) → AreMadeComponents c d
made_components c d h g =
    elim (option_shape (named components_object) c h) [
      | inl p ↦ elim (option_shape (named components_object) d g) [
        | inl q ↦ subst (λ c. AreMadeComponents c d) (sym p) (subst (AreMadeComponents none_doc) (sym q) no_components)
        | inr q ↦ components_there c d maps (second_there c d q.0 p q.1)
      ]
      | inr p ↦ components_there c d maps (first_there c d p.0 p.1)
    ]
  where
    maps : AreMadeMaps c d
    maps m = made_map (map_kind m) (field_at (map_member m) c) (field_at (map_member m) d) (components_find c h m) (components_find d g m)

-- ---- documents

-- the fixed members of the first document, and these parts
document_of : (a components paths_made security servers tags : Doc) → Doc
document_of a components paths_made security servers tags =
    table_doc open_api_object
    (doc (field_at (codes "$schema") a)
    (doc (field_at (codes "$self") a)
    (doc components
    (doc (field_at (codes "externalDocs") a)
    (doc (field_at (codes "info") a)
    (doc (field_at (codes "jsonSchemaDialect") a)
    (doc (field_at (codes "openapi") a)
    (doc paths_made
    (doc security
    (doc servers
    (doc tags (doc (field_at (codes "webhooks") a) no_docs))))))))))))
    (extensions_in a)

-- a merged document of the documents, with its maps in the order of their keys
pub record IsMade (documents : List Doc) : Type 0 where
  pub made : Doc
  pub merged : IsMerged documents made
  pub order : IsInKeyOrder made

document_fits : (a components paths_made security servers tags : Doc) → IsOpenApi a → IsOf components (option_of (named components_object)) → IsOf paths_made (value_of paths)
    → IsOf security (option_of (list_of security_requirement)) → IsOf servers (option_of (list_of (named server_object))) → IsOf tags (option_of (list_of (named tag_object)))
    → IsOpenApi (document_of a components paths_made security servers tags)
unfolding document_of
document_fits a components paths_made security servers tags h c p s v t =
    table_of_kind open_api_object (extensions_in a)
    (next_row (object_field open_api_object a (codes "$schema") _ h refl)
    (next_row (object_field open_api_object a (codes "$self") _ h refl)
    (next_row c
    (next_row (object_field open_api_object a (codes "externalDocs") _ h refl)
    (next_row (object_field open_api_object a (codes "info") _ h refl)
    (next_row (object_field open_api_object a (codes "jsonSchemaDialect") _ h refl)
    (next_row (object_field open_api_object a (codes "openapi") _ h refl)
    (next_row p
    (next_row s
    (next_row v
    (next_row t (next_row (object_field open_api_object a (codes "webhooks") _ h refl) no_rows))))))))))))
    (extends_of_kind (extensions_in a))

-- these are what the lists of two documents are merged to
abbrev AreMadeLists : Doc → Doc → (security servers tags : Doc) → Type 0
AreMadeLists a b security servers tags =
    IsListMerged (joined_of security_joined a ∷ joined_of security_joined b ∷ []) security
    × IsListMerged (joined_of servers_joined a ∷ joined_of servers_joined b ∷ []) servers
    × IsListMerged (joined_of tags_joined a ∷ joined_of tags_joined b ∷ []) tags

lists_merged : (a b components paths_made security servers tags : Doc) → AreMadeLists a b security servers tags → (j : Joined)
    → IsListMerged (joined_of j a ∷ joined_of j b ∷ []) (joined_of j (document_of a components paths_made security servers tags))
unfolding document_of
lists_merged a b components paths_made security servers tags h servers_joined = h.1
lists_merged a b components paths_made security servers tags h security_joined = h.0
lists_merged a b components paths_made security servers tags h tags_joined = h.2

made_of_parts : (a b : Doc) → IsOpenApi a → AreMadeComponents (components_of a) (components_of b) → AreMadePaths (paths_of a) (paths_of b)
    → IsMadeList security_requirement (joined_of security_joined a) (joined_of security_joined b) → IsMadeList (named server_object) (joined_of servers_joined a) (joined_of servers_joined b)
    → IsMadeList (named tag_object) (joined_of tags_joined a) (joined_of tags_joined b) → IsMade (a ∷ b ∷ [])
unfolding document_of
made_of_parts a b h c p security servers tags = record {
  made = document_of a c.made p.made security.list servers.list tags.list;
  merged = record {
    of_kind = document_fits a c.made p.made security.list servers.list tags.list h c.of_kind p.of_kind security.of_kind servers.of_kind tags.of_kind;
    fixed = refl;
    lists = lists_merged a b c.made p.made security.list servers.list tags.list (security.merged, servers.merged, tags.merged);
    paths = p.merged;
    components = c.merged;
  };
  order = record { paths = p.order; components = c.order };
}

-- two documents have a merged document
pub made_of_two : (a b : Doc) → IsOpenApi a → IsOpenApi b → IsMade (a ∷ b ∷ [])
made_of_two a b h g =
    made_of_parts a b h (made_components (components_of a) (components_of b) (object_field open_api_object a (codes "components") _ h refl) (object_field open_api_object b (codes "components") _ g refl))
    (made_paths (paths_of a) (paths_of b) (object_field open_api_object a (codes "paths") _ h refl) (object_field open_api_object b (codes "paths") _ g refl))
    (made_list security_requirement (joined_of security_joined a) (joined_of security_joined b) (object_field open_api_object a (codes "security") _ h refl) (object_field open_api_object b (codes "security") _ g refl))
    (made_list (named server_object) (joined_of servers_joined a) (joined_of servers_joined b) (object_field open_api_object a (codes "servers") _ h refl) (object_field open_api_object b (codes "servers") _ g refl))
    (made_list (named tag_object) (joined_of tags_joined a) (joined_of tags_joined b) (object_field open_api_object a (codes "tags") _ h refl) (object_field open_api_object b (codes "tags") _ g refl))

-- ---- one document, put in order

first_copy : {A : Type 0} (o : Option A) → first_of (o ∷ o ∷ []) ≡ first_of (o ∷ [])
first_copy o = ap (option_or o) (or_none o) ∙ or_itself o ∙ sym (or_none o)

-- a list alone is merged to what the list and its copy are merged to
list_alone : (l d : Doc) → IsListMerged (l ∷ l ∷ []) d → IsListMerged (l ∷ []) d
list_alone l d m = record {
  there = m.there ∙ or_same (is_there l) ∙ sym (or_false (is_there l));
  entries = subst (AreJoined [] (items_in l ∷ [])) (joined_unique [] (items_in l ∷ items_in l ∷ []) (items_in l) (items_in d) (joined_copy (items_in l)) m.entries) (joined_one (items_in l));
}

-- a document alone is merged to what the document and its copy are merged to
alone : (d e : Doc) → IsMerged (d ∷ d ∷ []) e → IsMerged (d ∷ []) e
alone d e m = record {
  of_kind = m.of_kind;
  fixed = m.fixed;
  lists = λ j. list_alone (joined_of j d) (joined_of j e) (m.lists j);
  paths = record {
    items = λ path s. m.paths.items path s ∙ first_copy (path_slot path s (paths_of d));
    extended = m.paths.extended ∙ or_same (has_extensions (paths_of d)) ∙ sym (or_false (has_extensions (paths_of d)));
    extensions = λ n. m.paths.extensions n ∙ or_itself (extension_at n (paths_of d));
  };
  components = record {
    there = m.components.there ∙ or_same (is_there (components_of d)) ∙ sym (or_false (is_there (components_of d)));
    maps = λ c n. m.components.maps c n ∙ first_copy (component_at c n (components_of d));
    extensions = m.components.extensions;
  };
}

-- ---- any number of documents

-- to the merged document of some, each of the others is added
onward : (xs : List Doc) → IsMade xs → (ds : List Doc) → AllByRecursion IsOpenApi ds → IsMade (xs ++ ds)
onward xs m [] h = subst IsMade (sym (append-nil xs)) m
onward xs m (d ∷ ds) h =
    let n = made_of_two m.made d m.merged.of_kind h.0 in
    subst IsMade (append_assoc xs (d ∷ []) ds)
    (onward (xs ++ (d ∷ []))
    (record { made = n.made; merged = merged_composes xs (d ∷ []) m.made d n.made m.merged (merged_one d h.0) n.merged; order = n.order }) ds h.1)

-- one document or more have a merged document
pub made_of_all : (d : Doc) (ds : List Doc) → AllByRecursion IsOpenApi (d ∷ ds) → IsMade (d ∷ ds)
made_of_all d ds h =
    let m = made_of_two d d h.0 h.0 in
    onward (d ∷ []) (record { made = m.made; merged = alone d m.made m.merged; order = m.order }) ds h.1
