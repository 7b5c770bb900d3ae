-- Documents that are merged by their parts.
use Rattle.std.proofs.Common.{◌≡◌, inl, inr, List, [], ◌∷◌, Bool, true, false, ◌||◌, Option, None, Some, Result, Ok, IfOk, map, Contains, refl, sym, ap, ◌∙◌, subst, Global}
use Rattle.std.specs.Prelude.{Vec}
use Rattle.std.specs.List.{list_any}
use Rattle.std.proofs.lemmas.List.Elements.{Contains-append_cases}
use Rattle.utoipa_base.specs.Docs.{Doc, docs_of}
use Rattle.utoipa_base.specs.Views.{list_of_docs, option_of}
use Rattle.utoipa_base.specs.WellFormed.{has_fraction, docs_have_fraction, IsPlain}
use Rattle.utoipa_components.specs.Components.{components_doc}
use Rattle.utoipa_leaf.specs.Server.{server_doc}
use Rattle.utoipa_leaf.specs.Tag.{tag_doc}
use Rattle.utoipa_leaf.specs.declared.server.Server.{Server}
use Rattle.utoipa_leaf.specs.declared.tag.Tag.{Tag}
use Rattle.utoipa_security.specs.Requirement.{requirement_doc}
use Rattle.utoipa_merging.specs.Merged.{IsListMerged, ArePathsMerged, AreComponentsMerged, IsMerged}
use Rattle.utoipa_merging.specs.Slots.{Joined, servers_joined, security_joined, tags_joined, joined_of, items_in, paths_of, components_of, fixed_members, parts}
use Rattle.utoipa_merging.proofs.JoinedLists.{all_in, not_in_none, in_head, in_tail, in_cases, joined_is_entry}
use Rattle.utoipa_merging.proofs.MapViews.{items_in-list}
use Rattle.utoipa_merging_parts.specs.Lists.{IsTaken}
use Rattle.utoipa_paths.specs.Paths.{paths_doc}
use Rattle.utoipa_security.specs.declared.security.requirement.SecurityRequirement.{SecurityRequirement}
use Rattle.utoipa_security.proofs.Requirement.{requirement_whole}
use Rattle.utoipa.specs.Merging.{lists_have_fraction}
use Rattle.utoipa.specs.OpenApi.{openapi_doc, openapi_of_kind}
use Rattle.utoipa.specs.declared.document.OpenApi.{OpenApi}
use Rattle.utoipa.proofs.MadeBeside.{made_is}

-- a list that may be absent, as a document
abbrev pub list_doc_of : {X : Type 0} → (X → Doc) → Option (Vec X Global) → Doc
list_doc_of f l = option_of (list_of_docs f) l

-- ---- what was merged of each part

-- the parts of documents, each merged into that of one
pub record ArePartsMerged (documents : List OpenApi) (d : OpenApi) : Type 0 where
  pub servers : IsListMerged (map (λ e. list_doc_of server_doc e.servers) documents) (list_doc_of server_doc d.servers)
  pub security : IsListMerged (map (λ e. list_doc_of requirement_doc e.security) documents) (list_doc_of requirement_doc d.security)
  pub tags : IsListMerged (map (λ e. list_doc_of tag_doc e.tags) documents) (list_doc_of tag_doc d.tags)
  pub paths : ArePathsMerged (map (λ e. paths_doc e.paths) documents) (paths_doc d.paths)
  pub components : AreComponentsMerged (map (λ e. option_of components_doc e.components) documents) (option_of components_doc d.components)

pub map-map : {X Y Z : Type 0} (g : Y → Z) (f : X → Y) (xs : List X) → map g (map f xs) ≡ map (λ x. g (f x)) xs
map-map g f [] = refl
map-map g f (x ∷ xs) = ap (λ ys. g (f x) ∷ ys) (map-map g f xs)

pub maps_agree : {X Y : Type 0} (f g : X → Y) → ((x : X) → f x ≡ g x) → (xs : List X) → map f xs ≡ map g xs
maps_agree f g same [] = refl
maps_agree f g same (x ∷ xs) = λ i. same x i ∷ maps_agree f g same xs i

lists_merged : (documents : List OpenApi) (d : OpenApi) → ArePartsMerged documents d → (j : Joined) → IsListMerged (map (joined_of j) (map openapi_doc documents)) (joined_of j (openapi_doc d))
lists_merged documents d m servers_joined = subst (λ ls. IsListMerged ls (list_doc_of server_doc d.servers)) (sym (map-map (joined_of servers_joined) openapi_doc documents)) m.servers
lists_merged documents d m security_joined = subst (λ ls. IsListMerged ls (list_doc_of requirement_doc d.security)) (sym (map-map (joined_of security_joined) openapi_doc documents)) m.security
lists_merged documents d m tags_joined = subst (λ ls. IsListMerged ls (list_doc_of tag_doc d.tags)) (sym (map-map (joined_of tags_joined) openapi_doc documents)) m.tags

-- documents are merged where their parts are, and all else is the first's
pub merged_by_parts : (first : OpenApi) (others : List OpenApi) (d : OpenApi) → parts fixed_members (openapi_doc d) ≡ parts fixed_members (openapi_doc first)
    → ArePartsMerged (first ∷ others) d → IsMerged (map openapi_doc (first ∷ others)) (openapi_doc d)
merged_by_parts first others d fixed m = record {
  of_kind = openapi_of_kind d;
  fixed = ap Some fixed;
  lists = lists_merged (first ∷ others) d m;
  paths = subst (λ ps. ArePathsMerged ps (paths_doc d.paths)) (sym (map-map paths_of openapi_doc (first ∷ others))) m.paths;
  components = subst (λ cs. AreComponentsMerged cs (option_of components_doc d.components)) (sym (map-map components_of openapi_doc (first ∷ others))) m.components;
}

-- a list that took what there was room for is merged
pub list_taken : {X E : Type 0} (f : X → Doc) (own later given room new taken : Option (Vec X Global)) (r : Result (Option (Vec X Global)) E)
    → IfOk r (λ n. (t : Option (Vec X Global)) → IsTaken room n t → IsListMerged (list_doc_of f own ∷ list_doc_of f later ∷ []) (list_doc_of f t))
    → later ≡ given → r ≡ Ok new → IsTaken room new taken → IsListMerged (list_doc_of f own ∷ list_doc_of f given ∷ []) (list_doc_of f taken)
list_taken {X} f own later given room new taken r h from is took =
    subst (λ l. IsListMerged (list_doc_of f own ∷ list_doc_of f l ∷ []) (list_doc_of f taken)) from
    (made_is (λ n. (t : Option (Vec X Global)) → IsTaken room n t → IsListMerged (list_doc_of f own ∷ list_doc_of f later ∷ []) (list_doc_of f t)) r new h is taken took)

-- ---- fractions in lists

pub or_first : (a b : Bool) → (a || b) ≡ false → a ≡ false
or_first false b h = refl
or_first true b h = cc

pub or_second : (a b : Bool) → (a || b) ≡ false → b ≡ false
or_second false b h = h
or_second true b h = cc

both_false : (a b : Bool) → a ≡ false → b ≡ false → (a || b) ≡ false
both_false false b p q = q
both_false true b p q = cc

in_list_plain : {X : Type 0} (f : X → Doc) (xs : List X) → docs_have_fraction (docs_of (map f xs)) ≡ false → (x : Doc) → Contains (map f xs) x → IsPlain x
unfolding docs_have_fraction
in_list_plain f [] h x c = absurd (not_in_none x c)
in_list_plain f (y ∷ xs) h x c =
    elim (in_cases (f y) (map f xs) x c) [
      | inl e ↦ subst IsPlain e (or_first _ _ h)
      | inr e ↦ in_list_plain f xs (or_second _ _ h) x e
    ]

list_plain : {X : Type 0} (f : X → Doc) (xs : List X) → ((x : Doc) → Contains (map f xs) x → IsPlain x) → docs_have_fraction (docs_of (map f xs)) ≡ false
unfolding docs_have_fraction
list_plain f [] h = refl
list_plain f (y ∷ xs) h =
    both_false _ _ (h (f y) (in_head (f y) (map f xs))) (list_plain f xs (λ x c. h x (in_tail (f y) (map f xs) x c)))

items-list_doc : {X : Type 0} (f : X → Doc) (l : Option (Vec X Global)) → (x : Doc) → Contains (items_in (list_doc_of f l)) x → IsPlain (list_doc_of f l) → IsPlain x
unfolding has_fraction
items-list_doc f None x c h = absurd (not_in_none x c)
items-list_doc f (Some v) x c h = in_list_plain f v.items h x (subst (λ ds. Contains ds x) (items_in-list f v) c)

plain-list_doc : {X : Type 0} (f : X → Doc) (l : Option (Vec X Global)) → ((x : Doc) → Contains (items_in (list_doc_of f l)) x → IsPlain x) → IsPlain (list_doc_of f l)
unfolding has_fraction
plain-list_doc f None h = refl
plain-list_doc f (Some v) h = list_plain f v.items (λ x c. h x (subst (λ ds. Contains ds x) (sym (items_in-list f v)) c))

-- an entry of one of the lists is plain where each list is
in_all_plain : {X : Type 0} (f : X → Doc) (ls : List (Option (Vec X Global))) → ((l : Option (Vec X Global)) → Contains ls l → IsPlain (list_doc_of f l)) → (x : Doc) → Contains (all_in (map items_in (map (list_doc_of f) ls))) x → IsPlain x
in_all_plain f [] h x c = absurd (not_in_none x c)
in_all_plain f (l ∷ ls) h x c =
    elim (Contains-append_cases (items_in (list_doc_of f l)) (all_in (map items_in (map (list_doc_of f) ls))) x c) [
      | inl e ↦ items-list_doc f l x e (h l (in_head l ls))
      | inr e ↦ in_all_plain f ls (λ m d. h m (in_tail l ls m d)) x e
    ]

-- what is joined of plain lists is plain
joined_plain : {X : Type 0} (f : X → Doc) (ls : List (Option (Vec X Global))) (l : Option (Vec X Global)) → ((m : Option (Vec X Global)) → Contains ls m → IsPlain (list_doc_of f m))
    → IsListMerged (map (list_doc_of f) ls) (list_doc_of f l) → IsPlain (list_doc_of f l)
joined_plain f ls l h m = plain-list_doc f l (λ x c. in_all_plain f ls h x (joined_is_entry [] (map items_in (map (list_doc_of f) ls)) (items_in (list_doc_of f l)) m.entries x c))

-- no server and no tag of any of the documents holds a fraction
each_plain : (ds : List OpenApi) → list_any lists_have_fraction (map openapi_doc ds) ≡ false → (d : OpenApi) → Contains ds d → lists_have_fraction (openapi_doc d) ≡ false
each_plain [] h d c = absurd (not_in_none d c)
each_plain (e ∷ ds) h d c =
    elim (in_cases e ds d c) [
      | inl i ↦ subst (λ u. lists_have_fraction (openapi_doc u) ≡ false) i (or_first _ _ h)
      | inr i ↦ each_plain ds (or_second _ _ h) d i
    ]

in_map : {X Y : Type 0} (f : X → Y) (xs : List X) (y : Y) → Contains (map f xs) y → (x : X) × Contains xs x × (f x ≡ y)
in_map f [] y c = absurd (not_in_none y c)
in_map f (x ∷ xs) y c =
    elim (in_cases (f x) (map f xs) y c) [
      | inl e ↦ (x, in_head x xs, e)
      | inr e ↦ let r = in_map f xs y e in (r.0, in_tail x xs r.0 r.1, r.2)
    ]

-- documents of which no server and no tag holds a fraction are merged to one such
pub merged_plain : (ds : List OpenApi) (d : OpenApi) → list_any lists_have_fraction (map openapi_doc ds) ≡ false → IsMerged (map openapi_doc ds) (openapi_doc d) → lists_have_fraction (openapi_doc d) ≡ false
merged_plain ds d h m =
    both_false _ _ (joined_plain server_doc (map (λ e. e.servers) ds) d.servers servers (subst (λ ls. IsListMerged ls (list_doc_of server_doc d.servers)) (same_lists server_doc (λ e. e.servers) servers_joined (λ e. refl)) (m.lists servers_joined)))
    (joined_plain tag_doc (map (λ e. e.tags) ds) d.tags tags (subst (λ ls. IsListMerged ls (list_doc_of tag_doc d.tags)) (same_lists tag_doc (λ e. e.tags) tags_joined (λ e. refl)) (m.lists tags_joined)))
  where
    same_lists : {X : Type 0} (f : X → Doc) (field : OpenApi → Option (Vec X Global)) (j : Joined) → ((e : OpenApi) → joined_of j (openapi_doc e) ≡ list_doc_of f (field e)) → map (joined_of j) (map openapi_doc ds) ≡ map (list_doc_of f) (map field ds)
    same_lists f field j each = map-map (joined_of j) openapi_doc ds ∙ maps_agree (λ e. joined_of j (openapi_doc e)) (λ e. list_doc_of f (field e)) each ds ∙ sym (map-map (list_doc_of f) field ds)

    servers : (l : Option (Vec Server Global)) → Contains (map (λ e. e.servers) ds) l → IsPlain (list_doc_of server_doc l)
    servers l c = let r = in_map (λ e. e.servers) ds l c in subst (λ k. IsPlain (list_doc_of server_doc k)) r.2 (or_first (has_fraction (joined_of servers_joined (openapi_doc r.0))) (has_fraction (joined_of tags_joined (openapi_doc r.0))) (each_plain ds h r.0 r.1))

    tags : (l : Option (Vec Tag Global)) → Contains (map (λ e. e.tags) ds) l → IsPlain (list_doc_of tag_doc l)
    tags l c = let r = in_map (λ e. e.tags) ds l c in subst (λ k. IsPlain (list_doc_of tag_doc k)) r.2 (or_second (has_fraction (joined_of servers_joined (openapi_doc r.0))) (has_fraction (joined_of tags_joined (openapi_doc r.0))) (each_plain ds h r.0 r.1))

-- a security requirement holds no number
pub requirements_plain : (l : Option (Vec SecurityRequirement Global)) → IsPlain (list_doc_of requirement_doc l)
requirements_plain l = plain-list_doc requirement_doc l (each l)
  where
    each : (m : Option (Vec SecurityRequirement Global)) (x : Doc) → Contains (items_in (list_doc_of requirement_doc m)) x → IsPlain x
    each None x c = absurd (not_in_none x c)
    each (Some v) x c = let r = in_map requirement_doc v.items x (subst (λ ds. Contains ds x) (items_in-list requirement_doc v) c) in subst IsPlain r.2 (requirement_whole r.0)
