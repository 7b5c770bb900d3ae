-- Path items that are put where a composer of paths answers.
use Rattle.std.proofs.Common.{◌≡◌, ℕ, suc, length, List, [], ◌∷◌, ◌++◌, Bool, true, false, ◌||◌, ◌↔◌, Result, Ok, IsErrOf, cond, Option, Some, None, Contains, map, option_map, refl, sym, ap, ◌∙◌, subst, String, Global, string_bytes, string_cmp}
use Rattle.std.specs.Prelude.{Err}
use Rattle.std.specs.Fn.{FnReturnsAtPair}
use Rattle.std.specs.declared.alloc.AllocError.{AllocError}
use Rattle.std.specs.Option.{option_or}
use Rattle.std.specs.Str.{bytes_eq}
use Rattle.std.specs.Map.{keys_of}
use Rattle.std.specs.BTreeMap.{BTreeMap, get_by_text, insert_entry}
use Rattle.utoipa_base.specs.Docs.{Doc, entries_of_list}
use Rattle.utoipa_base.specs.Extensions.{extensions_view}
use Rattle.utoipa_base.specs.Fill.{Pairs}
use Rattle.utoipa_base.specs.declared.extensions.Extensions.{Extensions}
use Rattle.utoipa_base.specs.Views.{map_of_docs, pairs_of}
use Rattle.utoipa_merging.specs.Merged.{IsMerged, IsInKeyOrder}
use Rattle.utoipa_merging.specs.Nested.{answered, item_if, with_paths, IsNested}
use Rattle.utoipa_merging.specs.Rules.{last_of}
use Rattle.utoipa_merging.specs.Slots.{entries_in, entry_at, paths_of}
use Rattle.utoipa_merging.proofs.JoinedLists.{in_head, in_tail}
use Rattle.utoipa_merging.proofs.Lookups.{found}
use Rattle.utoipa_merging.proofs.MapViews.{entry_at-map, pairs_in-entries_of_list}
use Rattle.utoipa_merging.proofs.Options.{or_or}
use Rattle.utoipa_merging.proofs.PutEach.{found-insert_entry}
use Rattle.utoipa_path.specs.Docs.{path_item_doc}
use Rattle.utoipa_path.specs.declared.types.PathItem.{PathItem}
use Rattle.utoipa_paths.specs.Items.{ItemsByPath, AreItemsInOrder}
use Rattle.utoipa_paths.specs.Paths.{IsEmptyPaths}
use Rattle.utoipa_paths.specs.declared.paths.Paths.{Paths}
use Rattle.utoipa_paths.proofs.PathsViews.{paths_in_order, items_in_order, none_ordered}
use Rattle.utoipa.specs.Merging.{lists_have_fraction}
use Rattle.utoipa.specs.OpenApi.{openapi_doc}
use Rattle.utoipa.specs.declared.document.OpenApi.{OpenApi}
use Rattle.utoipa.specs.Nesting.{Composes, MayAnswer, MayAnswerEach, MayRefuseOne, AreMounted, ArePathsMounted, with_items}
use Rattle.utoipa.specs.declared.merging.MergeFault.{MergeFault}
use Rattle.utoipa.specs.declared.merging.MergeFault.TheVariants.{Fraction}
use Rattle.utoipa.proofs.MergedDocuments.{or_first, or_second}

-- what stands at a path, over what stood there, once those to come were put
abbrev with_answered : (answers : List (List ℕ)) (coming : List (List ℕ × Doc)) (path : List ℕ) → Option Doc → Option Doc
with_answered answers coming path standing = option_or (last_of (map (item_if path) (answered answers coming))) standing

-- the items that were put, but for those still to come: whatever is answered to these, there are answers to all
pub record AreMountedSoFar {F : Type 0} (g : Composes F) (composer : F) (base : List ℕ) (all coming : List (List ℕ × Doc)) (old now : Doc) : Type 0 where
  pub answers :
      (more : List (List ℕ)) → MayAnswerEach g composer base (keys_of coming) more
      → (whole : List (List ℕ)) × MayAnswerEach g composer base (keys_of all) whole
      × ((path : List ℕ) → with_answered whole all path (entry_at path old) ≡ with_answered more coming path (entry_at path now))
  pub among : (path : List ℕ) → Contains (keys_of coming) path → Contains (keys_of all) path

pub none_mounted : {F : Type 0} (g : Composes F) (composer : F) (base : List ℕ) (all coming : List (List ℕ × Doc)) (old : Doc) → all ≡ coming → AreMountedSoFar g composer base all coming old old
none_mounted g composer base all coming old is = subst (λ l. AreMountedSoFar g composer base all l old old) is (record { answers = λ more h. (more, h, λ path. refl); among = λ path h. h })

put_over : (b : Bool) (d : Doc) (o : Option Doc) → option_or (cond b (Some d) None) o ≡ cond b (Some d) o
put_over true d o = refl
put_over false d o = refl

pub one_mounted : {F : Type 0} (g : Composes F) (composer : F) (base : List ℕ) (all coming later : List (List ℕ × Doc)) (name answer : List ℕ) (d old now next : Doc)
    → AreMountedSoFar g composer base all coming old now → coming ≡ (name, d) ∷ later → MayAnswer g composer base name answer
    → ((path : List ℕ) → entry_at path next ≡ cond (bytes_eq path answer) (Some d) (entry_at path now)) → AreMountedSoFar g composer base all later old next
one_mounted g composer base all coming later name answer d old now next before is may put =
    let here = subst (λ l. AreMountedSoFar g composer base all l old now) is before in
    record {
      answers = λ more h.
          let r = here.answers (answer ∷ more) (may, h) in (
            r.0,
            r.1,
            λ path.
                r.2 path
                ∙ or_or (last_of (map (item_if path) (answered more later))) (item_if path (answer, d)) (entry_at path now)
                ∙ ap (option_or (last_of (map (item_if path) (answered more later)))) (put_over (bytes_eq path answer) d (entry_at path now) ∙ sym (put path)),
          );
      among = λ path h. here.among path (in_tail name (keys_of later) path h);
    }

-- where the composer refuses the next path, it may refuse one of all
pub one_refused : {F : Type 0} (g : Composes F) (composer : F) (base : List ℕ) (all coming later : List (List ℕ × Doc)) (name : List ℕ) (d old now : Doc) (refused : AllocError)
    → AreMountedSoFar g composer base all coming old now → coming ≡ (name, d) ∷ later → FnReturnsAtPair g composer base name (Err refused) → MayRefuseOne g composer base (keys_of all)
one_refused g composer base all coming later name d old now refused before is may =
    (name, refused, before.among name (subst (λ l. Contains (keys_of l) name) (sym is) (in_head name (keys_of later))), may)

pub all_mounted : {F : Type 0} (g : Composes F) (composer : F) (base : List ℕ) (all coming : List (List ℕ × Doc)) (old now : Doc) → AreMountedSoFar g composer base all coming old now → coming ≡ []
    → (answers : List (List ℕ)) × MayAnswerEach g composer base (keys_of all) answers × ((path : List ℕ) → entry_at path now ≡ with_answered answers all path (entry_at path old))
all_mounted g composer base all coming old now before is =
    let here = subst (λ l. AreMountedSoFar g composer base all l old now) is before in
    let r = here.answers [] tt in
    (r.0, r.1, λ path. sym (r.2 path))

-- ---- the entries of maps

-- the entries of a map's document
pub entries_of_map : {X : Type 0} (f : X → Doc) (m : BTreeMap (String Global) X) → entries_in (map_of_docs f m) ≡ pairs_of f m.entries
entries_of_map f m = pairs_in-entries_of_list (pairs_of f m.entries)

map_cond : {X : Type 0} (f : X → Doc) (b : Bool) (x : X) (o : Option X) → option_map f (cond b (Some x) o) ≡ cond b (Some (f x)) (option_map f o)
map_cond f true x o = refl
map_cond f false x o = refl

-- what is found in a map's document once an entry was put
pub entry_put : {X : Type 0} (f : X → Doc) (m n : BTreeMap (String Global) X) (k : String Global) (x : X) → n.entries ≡ insert_entry string_cmp m.entries k x → (path : List ℕ)
    → entry_at path (map_of_docs f n) ≡ cond (bytes_eq path (string_bytes k)) (Some (f x)) (entry_at path (map_of_docs f m))
entry_put f m n k x is path =
    entry_at-map f n path
    ∙ ap (option_map f) (ap (λ es. found es path) is ∙ found-insert_entry m.entries k x path)
    ∙ map_cond f (bytes_eq path (string_bytes k)) x (get_by_text m path)
    ∙ ap (cond (bytes_eq path (string_bytes k)) (Some (f x))) (sym (entry_at-map f m path))

-- ---- documents whose paths were put

-- there are as many answers as paths
pub each_answered : {F : Type 0} (g : Composes F) (composer : F) (base : List ℕ) (ps : List (List ℕ × Doc)) (answers : List (List ℕ)) → MayAnswerEach g composer base (keys_of ps) answers → length answers ≡ length ps
each_answered g composer base [] [] h = refl
each_answered g composer base [] (a ∷ answers) h = absurd h
each_answered g composer base (p ∷ ps) [] h = absurd h
each_answered g composer base (p ∷ ps) (a ∷ answers) h = ap suc (each_answered g composer base ps answers h.1)

-- a document is nested where its items were put and the rest was merged
pub nested_by_parts : (answers : List (List ℕ)) (own other : OpenApi) (items : ItemsByPath) (none : Paths) (d : OpenApi) → length answers ≡ length (entries_in (paths_of (openapi_doc other)))
    → AreMounted answers (map_of_docs path_item_doc other.paths.paths) (map_of_docs path_item_doc own.paths.paths) (map_of_docs path_item_doc items) → IsEmptyPaths none
    → IsMerged (openapi_doc (with_items own items) ∷ openapi_doc (record other { paths = none }) ∷ []) (openapi_doc d) → IsNested answers (openapi_doc own) (openapi_doc other) (openapi_doc d)
nested_by_parts answers own other items none d answered mounted empty merged = record {
  items = entries_of_list (pairs_of path_item_doc items.entries);
  each_answered = answered;
  mounted = mounted;
  merged = subst (λ rest. IsMerged (openapi_doc (with_items own items) ∷ rest ∷ []) (openapi_doc d)) (λ i. without_paths (empty.0 i) (empty.1 i)) merged;
}
  where
    -- the other document, with these paths
    without_paths : Pairs PathItem → Option Extensions → Doc
    without_paths es e = with_paths (entries_of_list (pairs_of path_item_doc es)) (option_map extensions_view e) (openapi_doc other)

pub mounted_in_order : (own : OpenApi) (items : ItemsByPath) → IsInKeyOrder (openapi_doc own) → AreItemsInOrder items → IsInKeyOrder (openapi_doc (with_items own items))
mounted_in_order own items h in_order = record { paths = paths_in_order (record own.paths { paths = items }) in_order h.paths.extensions; components = h.components }

pub rest_in_order : (other : OpenApi) (none : Paths) → IsEmptyPaths none → IsInKeyOrder (openapi_doc other) → IsInKeyOrder (openapi_doc (record other { paths = none }))
rest_in_order other none empty h = record { paths = none_ordered none empty; components = h.components }

-- a document is nested where its paths were put, and what was left of it was merged
pub nested_where_mounted : (answers : List (List ℕ)) (own own_now other other_now d : OpenApi) → length answers ≡ length (entries_in (paths_of (openapi_doc other)))
    → ArePathsMounted answers own own_now other other_now → IsMerged (openapi_doc own_now ∷ openapi_doc other_now ∷ []) (openapi_doc d) → IsNested answers (openapi_doc own) (openapi_doc other) (openapi_doc d)
nested_where_mounted answers own own_now other other_now d answered m merged =
    nested_by_parts answers own other m.items m.none d answered m.mounted m.empty
    (subst (λ o. IsMerged (openapi_doc (with_items own m.items) ∷ openapi_doc o ∷ []) (openapi_doc d)) m.taken (subst (λ o. IsMerged (openapi_doc o ∷ openapi_doc other_now ∷ []) (openapi_doc d)) m.put merged))

-- both are in order where they were, and so is what was put
pub in_order_where_mounted : (answers : List (List ℕ)) (own own_now other other_now : OpenApi) → ArePathsMounted answers own own_now other other_now
    → (AreItemsInOrder own.paths.paths → AreItemsInOrder other.paths.paths → AreItemsInOrder own_now.paths.paths) → IsInKeyOrder (openapi_doc own) → IsInKeyOrder (openapi_doc other)
    → IsInKeyOrder (openapi_doc own_now) × IsInKeyOrder (openapi_doc other_now)
in_order_where_mounted answers own own_now other other_now m put h k =
    let items = subst (λ o. AreItemsInOrder o.paths.paths) m.put (put (items_in_order own.paths h.paths) (items_in_order other.paths k.paths)) in
    (subst (λ o. IsInKeyOrder (openapi_doc o)) (sym m.put) (mounted_in_order own m.items h items), subst (λ o. IsInKeyOrder (openapi_doc o)) (sym m.taken) (rest_in_order other m.none m.empty k))

-- no list holds a fraction where this was no fault
pub no_fraction : {X : Type 0} (r : Result X MergeFault) (v : X) (b : Bool) → IsErrOf r Fraction ↔ (b ≡ true) → r ≡ Ok v → b ≡ false
no_fraction r v false h is = refl
no_fraction r v true h is = let refused = h.1 refl in cc

-- nor does one of these documents then
pub plain_where_mounted : (answers : List (List ℕ)) (own own_now other other_now : OpenApi) → ArePathsMounted answers own own_now other other_now
    → (lists_have_fraction (openapi_doc own) || lists_have_fraction (openapi_doc other)) ≡ false → (lists_have_fraction (openapi_doc own_now) ≡ false) × (lists_have_fraction (openapi_doc other_now) ≡ false)
plain_where_mounted answers own own_now other other_now m h = (
  subst (λ o. lists_have_fraction (openapi_doc o) ≡ false) (sym m.put) (or_first (lists_have_fraction (openapi_doc own)) (lists_have_fraction (openapi_doc other)) h),
  subst (λ o. lists_have_fraction (openapi_doc o) ≡ false) (sym m.taken) (or_second (lists_have_fraction (openapi_doc own)) (lists_have_fraction (openapi_doc other)) h),
)

-- ---- paths behind a base

-- a composer that answers with the path behind the base does so for each
pub answered_behind : {F : Type 0} (g : Composes F) (composer : F) (base : List ℕ) → ((path answer : List ℕ) → MayAnswer g composer base path answer → answer ≡ base ++ path) → (paths answers : List (List ℕ))
    → MayAnswerEach g composer base paths answers → answers ≡ map (λ path. base ++ path) paths
answered_behind g composer base each [] [] h = refl
answered_behind g composer base each [] (a ∷ answers) h = absurd h
answered_behind g composer base each (p ∷ paths) [] h = absurd h
answered_behind g composer base each (p ∷ paths) (a ∷ answers) h = λ i. each p a h.0 i ∷ answered_behind g composer base each paths answers h.1 i
