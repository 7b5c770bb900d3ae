-- A document is nested in one way at most, and what its paths are.
use Rattle.std.proofs.Common.{◌≡◌, ℕ, List, [], ◌∷◌, false, ◌||◌, Option, None, option_and_then, map, sym, ap, ◌∙◌, subst}
use Rattle.std.specs.Option.{option_or}
use Rattle.serde_json.specs.Data.{Members}
use Rattle.utoipa_base.specs.Kinds.{open_api_object}
use Rattle.utoipa_base.specs.Docs.{Doc, Docs, entries_doc, table_doc, Entries, no_entries}
use Rattle.utoipa_merging.specs.Slots.{ItemSlot, Joined, servers_joined, security_joined, tags_joined, joined_of, item_slot, path_slot, entry_at, has_extensions, extension_at, extensions_in, paths_of}
use Rattle.utoipa_merging.specs.Merged.{IsOpenApi, IsListMerged, IsMerged, IsInKeyOrder}
use Rattle.utoipa_merging.specs.Nested.{IsNested, with_paths, mounted_at}
use Rattle.utoipa_merging.proofs.Options.{or_none, or_false}
use Rattle.utoipa_merging.proofs.Shapes.{table_shape}
use Rattle.utoipa_merging.proofs.Unique.{merged_unique}

-- the first of merged documents may have other items, among which the same is found
merged_lists_as : (es fs : Entries) (e x : Option Members) (ds : Docs) (other d : Doc)
    → IsMerged (with_paths es e (table_doc open_api_object ds x) ∷ other ∷ []) d → (j : Joined)
    → IsListMerged (map (joined_of j) (with_paths fs e (table_doc open_api_object ds x) ∷ other ∷ [])) (joined_of j d)
merged_lists_as es fs e x ds other d m servers_joined = m.lists servers_joined
merged_lists_as es fs e x ds other d m security_joined = m.lists security_joined
merged_lists_as es fs e x ds other d m tags_joined = m.lists tags_joined

merged_as : (es fs : Entries) (e : Option Members) (self other d : Doc) → IsOpenApi self → ((path : List ℕ) → entry_at path (entries_doc es None) ≡ entry_at path (entries_doc fs None))
    → IsMerged (with_paths es e self ∷ other ∷ []) d → IsMerged (with_paths fs e self ∷ other ∷ []) d
merged_as es fs e self other d h same =
    let t = table_shape open_api_object self h in
    subst (λ s. IsMerged (with_paths es e s ∷ other ∷ []) d → IsMerged (with_paths fs e s ∷ other ∷ []) d) (sym t.is)
    (λ m. record {
      of_kind = m.of_kind;
      fixed = m.fixed;
      lists = merged_lists_as es fs e t.extensions t.fields other d m;
      paths = record {
        items = λ path s. m.paths.items path s ∙ ap (λ o. option_or (option_and_then (item_slot s) o) (option_or (path_slot path s (paths_of other)) None)) (same path);
        extended = m.paths.extended;
        extensions = m.paths.extensions;
      };
      components = m.components;
    })

pub nested_unique : (answers : List (List ℕ)) (self other c d : Doc) → IsOpenApi self → IsNested answers self other c → IsNested answers self other d → IsInKeyOrder c → IsInKeyOrder d → c ≡ d
nested_unique answers self other c d h p q =
    merged_unique _ c d
    (merged_as p.items q.items (extensions_in (paths_of self)) self (with_paths no_entries None other) c h (λ path. p.mounted path ∙ sym (q.mounted path)) p.merged)
    q.merged

-- the paths of a document with other paths
paths_with : (es : Entries) (e : Option Members) (d : Doc) → IsOpenApi d → paths_of (with_paths es e d) ≡ entries_doc es e
paths_with es e d h = let t = table_shape open_api_object d h in ap (λ x. paths_of (with_paths es e x)) t.is

pub nested_items : (answers : List (List ℕ)) (self other d : Doc) → IsOpenApi self → IsOpenApi other → IsNested answers self other d → (path : List ℕ) (s : ItemSlot)
    → path_slot path s (paths_of d) ≡ option_and_then (item_slot s) (mounted_at answers other self path)
nested_items answers self other d h g n path s =
    n.merged.paths.items path s
    ∙ ap (λ p. option_or p (option_or (path_slot path s (paths_of (with_paths no_entries None other))) None)) (ap (path_slot path s) (paths_with n.items (extensions_in (paths_of self)) self h))
    ∙ ap (λ p. option_or (path_slot path s (entries_doc n.items None)) (option_or p None)) (ap (path_slot path s) (paths_with no_entries None other g))
    ∙ or_none (path_slot path s (entries_doc n.items None))
    ∙ ap (option_and_then (item_slot s)) (n.mounted path)

-- the nested Paths extensions are dropped
pub nested_extensions : (answers : List (List ℕ)) (self other d : Doc) → IsOpenApi self → IsOpenApi other → IsNested answers self other d → has_extensions (paths_of d) ≡ has_extensions (paths_of self)
nested_extensions answers self other d h g n =
    n.merged.paths.extended
    ∙ ap (λ p. has_extensions p || (has_extensions (paths_of (with_paths no_entries None other)) || false)) (paths_with n.items (extensions_in (paths_of self)) self h)
    ∙ ap (λ p. has_extensions (paths_of self) || (has_extensions p || false)) (paths_with no_entries None other g)
    ∙ or_false (has_extensions (paths_of self))

pub nested_extension_values : (answers : List (List ℕ)) (self other d : Doc) → IsOpenApi self → IsOpenApi other → IsNested answers self other d → (name : List ℕ) → extension_at name (paths_of d) ≡ extension_at name (paths_of self)
nested_extension_values answers self other d h g n name =
    n.merged.paths.extensions name
    ∙ ap (λ p. option_or (option_or None (extension_at name p)) (extension_at name (paths_of (with_paths n.items (extensions_in (paths_of self)) self)))) (paths_with no_entries None other g)
    ∙ ap (extension_at name) (paths_with n.items (extensions_in (paths_of self)) self h)
