-- Components that take from later ones, by the documents of their maps.
use Rattle.std.proofs.Common.{◌≡◌, ℕ, List, [], ◌∷◌, ◌++◌, None, Some, option_map, refl, sym, ap, ◌∙◌, subst}
use Rattle.std.specs.List.{AllByRecursion}
use Rattle.std.specs.List.Sorted.{IsStrictlySortedBy}
use Rattle.std.specs.Option.{option_or}
use Rattle.utoipa_base.specs.Docs.{Doc, Docs, no_docs, some_doc, table_doc, docs_of}
use Rattle.utoipa_base.specs.Extensions.{extensions_view}
use Rattle.utoipa_base.specs.Kinds.{named, schema, security_scheme, components_object, response_object, parameter_object, example_object, request_body_object, header_object, link_object, media_type_object}
use Rattle.utoipa_base.specs.Tables.{callback}
use Rattle.utoipa_base.specs.Views.{map_of_docs}
use Rattle.utoipa_leaf.specs.Example.{example_doc}
use Rattle.utoipa_media.specs.Docs.{content_doc, header_doc}
use Rattle.utoipa_media.specs.Link.{link_doc}
use Rattle.utoipa_operation_parts.specs.Parameter.{parameter_doc}
use Rattle.utoipa_operation_parts.specs.RequestBody.{request_body_doc}
use Rattle.utoipa_operation_parts.specs.Response.{response_doc}
use Rattle.utoipa_path.specs.Docs.{path_item_doc, callback_doc}
use Rattle.utoipa_schema.specs.Docs.{schema_doc}
use Rattle.utoipa_security.specs.Schemes.{scheme_doc}
use Rattle.utoipa_merging.specs.Merged.{AreComponentsMerged, IsInOrder}
use Rattle.utoipa_merging.specs.Slots.{ComponentMap, schema_map, response_map, parameter_map, example_map, request_body_map, header_map, link_map, callback_map, path_item_map, media_type_map, security_scheme_map, component_at, is_there}
use Rattle.utoipa_merging.proofs.Options.{or_none, or_false}
use Rattle.utoipa_merging_parts.specs.Filled.{AreFilled, without}
use Rattle.utoipa_components.specs.Components.{components_doc, places_doc}
use Rattle.utoipa_components.specs.Filled.{AreComponentsInOrder, Maps, NamesPut, maps_in, EntriesGoBack}
use Rattle.utoipa_components.specs.declared.components.Components.{Components}

-- the documents of the maps, in the order of the fields
abbrev pub map_docs : Components → List Doc
map_docs c =
    places_doc schema schema_doc c.schemas
    ∷ places_doc (named response_object) response_doc c.responses
    ∷ places_doc (named parameter_object) parameter_doc c.parameters
    ∷ places_doc (named example_object) example_doc c.examples
    ∷ places_doc (named request_body_object) request_body_doc c.request_bodies
    ∷ places_doc (named header_object) header_doc c.headers
    ∷ places_doc (named link_object) link_doc c.links
    ∷ places_doc callback callback_doc c.callbacks
    ∷ map_of_docs path_item_doc c.path_items
    ∷ places_doc (named media_type_object) content_doc c.media_types
    ∷ places_doc security_scheme scheme_doc c.security_schemes
    ∷ []

-- those documents, in the order of the names of their members
abbrev by_rows : List Doc → Docs
by_rows (schemas ∷ responses ∷ parameters ∷ examples ∷ bodies ∷ headers ∷ links ∷ callbacks ∷ items ∷ contents ∷ schemes ∷ ds) =
    docs_of (callbacks ∷ examples ∷ headers ∷ links ∷ contents ∷ parameters ∷ items ∷ bodies ∷ responses ∷ schemas ∷ schemes ∷ [])
by_rows ds = no_docs

-- components of equal maps and extensions
pub same_components : (c d : Components) → map_docs c ≡ map_docs d → c.extensions ≡ d.extensions → components_doc c ≡ components_doc d
same_components c d maps extensions =
    ap (λ ds. table_doc components_object (by_rows ds) (option_map extensions_view c.extensions)) maps
    ∙ ap (λ e. table_doc components_object (by_rows (map_docs d)) (option_map extensions_view e)) extensions

-- ---- merged

-- what stands under a name of each map that was filled
filled_at : (old later new : Components) → AreFilled (map_docs old) (map_docs later) (map_docs new) → (m : ComponentMap) (name : List ℕ)
    → component_at m name (some_doc (components_doc new)) ≡ option_or (component_at m name (some_doc (components_doc old))) (option_or (component_at m name (some_doc (components_doc later))) None)
filled_at old later new f schema_map name = f.0 name
filled_at old later new f response_map name = f.1.0 name
filled_at old later new f parameter_map name = f.1.1.0 name
filled_at old later new f example_map name = f.1.1.1.0 name
filled_at old later new f request_body_map name = f.1.1.1.1.0 name
filled_at old later new f header_map name = f.1.1.1.1.1.0 name
filled_at old later new f link_map name = f.1.1.1.1.1.1.0 name
filled_at old later new f callback_map name = f.1.1.1.1.1.1.1.0 name
filled_at old later new f path_item_map name = f.1.1.1.1.1.1.1.1.0 name
filled_at old later new f media_type_map name = f.1.1.1.1.1.1.1.1.1.0 name
filled_at old later new f security_scheme_map name = f.1.1.1.1.1.1.1.1.1.1.0 name

pub filled_merged : (old later new : Components) → AreFilled (map_docs old) (map_docs later) (map_docs new) → new.extensions ≡ old.extensions
    → AreComponentsMerged (some_doc (components_doc old) ∷ some_doc (components_doc later) ∷ []) (some_doc (components_doc new))
filled_merged old later new filled extensions = record {
  there = refl;
  maps = filled_at old later new filled;
  extensions = ap (λ e. Some (option_map extensions_view e)) extensions;
}

-- components alone
pub one_merged : (d : Doc) → AreComponentsMerged (d ∷ []) d
one_merged d = record {
  there = sym (or_false (is_there d));
  maps = λ m name. sym (or_none (component_at m name d));
  extensions = refl;
}

-- ---- the order of names

pub all_in_order : (c : Components) → AreComponentsInOrder (Some c) → AllByRecursion IsInOrder (map_docs c)
all_in_order c h =
    (h schema_map, (h response_map, (h parameter_map, (h example_map, (h request_body_map, (h header_map, (h link_map, (h callback_map, (h path_item_map, (h media_type_map, (h security_scheme_map, tt)))))))))))

pub each_in_order : (c : Components) → AllByRecursion IsInOrder (map_docs c) → AreComponentsInOrder (Some c)
each_in_order c h schema_map = h.0
each_in_order c h response_map = h.1.0
each_in_order c h parameter_map = h.1.1.0
each_in_order c h example_map = h.1.1.1.0
each_in_order c h request_body_map = h.1.1.1.1.0
each_in_order c h header_map = h.1.1.1.1.1.0
each_in_order c h link_map = h.1.1.1.1.1.1.0
each_in_order c h callback_map = h.1.1.1.1.1.1.1.0
each_in_order c h path_item_map = h.1.1.1.1.1.1.1.1.0
each_in_order c h media_type_map = h.1.1.1.1.1.1.1.1.1.0
each_in_order c h security_scheme_map = h.1.1.1.1.1.1.1.1.1.1.0

pub none_in_order : AreComponentsInOrder None
unfolding IsStrictlySortedBy
none_in_order m = tt

pub all_but_last : {X : Type 0} (P : X → Type 0) (xs : List X) (x : X) → AllByRecursion P (xs ++ x ∷ []) → AllByRecursion P xs × P x
all_but_last P [] x h = (tt, h.0)
all_but_last P (y ∷ xs) x h = let r = all_but_last P xs x h.1 in ((h.0, r.0), r.1)

-- ---- maps side by side

-- the documents of the maps
abbrev pub docs_of_maps : Maps → List Doc
docs_of_maps m =
    places_doc schema schema_doc m.0
    ∷ places_doc (named response_object) response_doc m.1.0
    ∷ places_doc (named parameter_object) parameter_doc m.1.1.0
    ∷ places_doc (named example_object) example_doc m.1.1.1.0
    ∷ places_doc (named request_body_object) request_body_doc m.1.1.1.1.0
    ∷ places_doc (named header_object) header_doc m.1.1.1.1.1.0
    ∷ places_doc (named link_object) link_doc m.1.1.1.1.1.1.0
    ∷ places_doc callback callback_doc m.1.1.1.1.1.1.1.0
    ∷ map_of_docs path_item_doc m.1.1.1.1.1.1.1.1.0
    ∷ places_doc (named media_type_object) content_doc m.1.1.1.1.1.1.1.1.1.0
    ∷ places_doc security_scheme scheme_doc m.1.1.1.1.1.1.1.1.1.1.0
    ∷ []

-- the maps without the entries of these names are those before
abbrev pub MapsGoBack : NamesPut → (now before : Maps) → Type 0
MapsGoBack names now before =
    (without names.0 now.0.entries ≡ before.0.entries)
    × ((without names.1.0 now.1.0.entries ≡ before.1.0.entries)
    × ((without names.1.1.0 now.1.1.0.entries ≡ before.1.1.0.entries)
    × ((without names.1.1.1.0 now.1.1.1.0.entries ≡ before.1.1.1.0.entries)
    × ((without names.1.1.1.1.0 now.1.1.1.1.0.entries ≡ before.1.1.1.1.0.entries)
    × ((without names.1.1.1.1.1.0 now.1.1.1.1.1.0.entries ≡ before.1.1.1.1.1.0.entries)
    × ((without names.1.1.1.1.1.1.0 now.1.1.1.1.1.1.0.entries ≡ before.1.1.1.1.1.1.0.entries)
    × ((without names.1.1.1.1.1.1.1.0 now.1.1.1.1.1.1.1.0.entries ≡ before.1.1.1.1.1.1.1.0.entries)
    × ((without names.1.1.1.1.1.1.1.1.0 now.1.1.1.1.1.1.1.1.0.entries ≡ before.1.1.1.1.1.1.1.1.0.entries)
    × ((without names.1.1.1.1.1.1.1.1.1.0 now.1.1.1.1.1.1.1.1.1.0.entries ≡ before.1.1.1.1.1.1.1.1.1.0.entries)
    × ((without names.1.1.1.1.1.1.1.1.1.1.0 now.1.1.1.1.1.1.1.1.1.1.0.entries ≡ before.1.1.1.1.1.1.1.1.1.1.0.entries) × Unit {0}))))))))))

-- components that were made anew of maps, which had been those of others, and of the others' extensions
pub record IsRefilled (standing made : Components) (old new : Maps) : Type 0 where
  pub before : old ≡ maps_in standing
  pub after : maps_in made ≡ new
  pub extensions : made.extensions ≡ standing.extensions

pub made_anew : (standing made : Components) (old new : Maps) → old ≡ maps_in standing → maps_in made ≡ new → made.extensions ≡ standing.extensions → IsRefilled standing made old new
made_anew standing made old new before after extensions = record { before = before; after = after; extensions = extensions }

pub unchanged : (standing made : Components) (old new : Maps) → IsRefilled standing made old new → docs_of_maps new ≡ docs_of_maps old → components_doc made ≡ components_doc standing
unchanged standing made old new r same = same_components made standing (ap docs_of_maps r.after ∙ same ∙ ap docs_of_maps r.before) r.extensions

pub refilled : (standing later made : Components) (old new : Maps) → IsRefilled standing made old new → AreFilled (docs_of_maps old) (map_docs later) (docs_of_maps new)
    → AreComponentsMerged (some_doc (components_doc standing) ∷ some_doc (components_doc later) ∷ []) (some_doc (components_doc made))
refilled standing later made old new r filled =
    filled_merged standing later made (subst (λ o. AreFilled o (map_docs later) (map_docs made)) (ap docs_of_maps r.before) (subst (AreFilled (docs_of_maps old) (map_docs later)) (sym (ap docs_of_maps r.after)) filled)) r.extensions

pub refilled_in_order : (standing made : Components) (old new : Maps) → IsRefilled standing made old new
    → (AllByRecursion IsInOrder (docs_of_maps old) → AllByRecursion IsInOrder (docs_of_maps new)) → AreComponentsInOrder (Some standing) → AreComponentsInOrder (Some made)
refilled_in_order standing made old new r step h =
    each_in_order made (subst (AllByRecursion IsInOrder) (sym (ap docs_of_maps r.after)) (step (subst (AllByRecursion IsInOrder) (sym (ap docs_of_maps r.before)) (all_in_order standing h))))

entries_noted : (names : NamesPut) (n b : Components) → MapsGoBack names (maps_in n) (maps_in b) → n.extensions ≡ b.extensions → EntriesGoBack names n b
entries_noted names n b g extensions = record {
  schemas = g.0;
  responses = g.1.0;
  parameters = g.1.1.0;
  examples = g.1.1.1.0;
  request_bodies = g.1.1.1.1.0;
  headers = g.1.1.1.1.1.0;
  links = g.1.1.1.1.1.1.0;
  callbacks = g.1.1.1.1.1.1.1.0;
  path_items = g.1.1.1.1.1.1.1.1.0;
  media_types = g.1.1.1.1.1.1.1.1.1.0;
  security_schemes = g.1.1.1.1.1.1.1.1.1.1.0;
  extensions = extensions;
}

pub noted : (names : NamesPut) (standing made : Components) (old new : Maps) → IsRefilled standing made old new → MapsGoBack names new old → EntriesGoBack names made standing
noted names standing made old new r g =
    entries_noted names made standing (subst (λ m. MapsGoBack names m (maps_in standing)) (sym r.after) (subst (MapsGoBack names new) r.before g)) r.extensions

pub maps_back : (names : NamesPut) (n b : Components) → EntriesGoBack names n b → MapsGoBack names (maps_in n) (maps_in b)
maps_back names n b e = (e.schemas, (e.responses, (e.parameters, (e.examples, (e.request_bodies, (e.headers, (e.links, (e.callbacks, (e.path_items, (e.media_types, (e.security_schemes, tt)))))))))))
