-- What a JSON Pointer to a component finds in a tree: the entry of that name in that map.
use Rattle.std.proofs.Common.{◌≡◌, ◌≢◌, ℕ, List, [], ◌∷◌, ◌++◌, map, Bool, true, false, cond, if◌then◌else◌, Option, None, Some, option_map, option_and_then, codes, refl, sym, ap, ◌∙◌, true≢false, eq-eqb}
use Rattle.std.proofs.lemmas.Slice.Eq.{bytes_eq-Decides}
use Rattle.std.proofs.lemmas.List.Splits.{join_with_byte-slice_split}
use Rattle.std.specs.List.{slice_split, onto_first, join_with_byte}
use Rattle.std.specs.Str.{bytes_eq}
use Rattle.serde_json.specs.Data.{Data, null, boolean, number, string, array, object}
use Rattle.fast_float.specs.Text.{scan}
use Rattle.serde_json.specs.Find.{get, get_item, get_member, pointer, step, walk, unescape, index_of}
use Rattle.serde_json.proofs.Paths.{Lacks, walk_part, walk_last}
use Rattle.utoipa_base.specs.References.{Target, elsewhere, nowhere, place, is_slash, path_of, at_target, component_at, component_at_target, component_map_text, every_component_map, field_of_components, component, IsNoList}
use Rattle.utoipa_base.specs.Vocabularies.{with_text}
use Rattle.utoipa_base.specs.declared.refs.component.ComponentMap.{ComponentMap}
use Rattle.utoipa_base.specs.declared.refs.component.ComponentMap.TheVariants as maps
use Rattle.utoipa_base.proofs.ByWords.{found_has}
use Rattle.utoipa_base.proofs.PointerPaths.{put_on, lacks_none, keyed, is_plain_text, field_is_plain, root_is_plain}

-- ---- no token has a `/`

abbrev AllLack : List (List ℕ) → Type 0
AllLack [] = Unit {0}
AllLack (p ∷ ps) = Lacks 47 p × AllLack ps

first_lacks : (p : List ℕ) (ps : List (List ℕ)) → AllLack (p ∷ ps) → Lacks 47 p
first_lacks p ps (first, more) = first

more_lack : (p : List ℕ) (ps : List (List ℕ)) → AllLack (p ∷ ps) → AllLack ps
more_lack p ps (first, more) = more

put_onto : (x : ℕ) (b : Bool) (ps : List (List ℕ)) → (b ≡ false → x ≢ 47) → AllLack ps → AllLack (cond b ([] ∷ ps) (onto_first x ps))
put_onto x true ps other h = (lacks_none 47, h)
put_onto x false [] other h = (put_on 47 x [] (other refl) (lacks_none 47), tt)
put_onto x false (p ∷ ps) other (first, more) = (put_on 47 x p (other refl) first, more)

tokens_lack : (s : List ℕ) → AllLack (slice_split is_slash s)
tokens_lack [] = (lacks_none 47, tt)
tokens_lack (x ∷ xs) = put_onto x (is_slash x) (slice_split is_slash xs) (λ other e. true≢false (sym (eq-eqb x 47 e) ∙ other)) (tokens_lack xs)

-- ---- a step by a name that is no number

get_by_name : (w name : List ℕ) → unescape w ≡ name → index_of w ≡ None → (d : Data) → step w d ≡ get name d
get_by_name w name is worded null = refl
get_by_name w name is worded (boolean b) = refl
get_by_name w name is worded (number n) = refl
get_by_name w name is worded (string s) = refl
get_by_name w name is worded (array ds) = ap (option_and_then (λ i. get_item i ds)) worded
get_by_name w name is worded (object ms) = ap (λ x. get_member x ms) is

root_no_number : index_of (codes "components") ≡ None
unfolding index_of scan
root_no_number = refl

field_no_number : (m : ComponentMap) → index_of (component_map_text m) ≡ None
unfolding index_of scan
field_no_number maps.Callbacks = refl
field_no_number maps.Examples = refl
field_no_number maps.Headers = refl
field_no_number maps.Links = refl
field_no_number maps.MediaTypes = refl
field_no_number maps.Parameters = refl
field_no_number maps.PathItems = refl
field_no_number maps.RequestBodies = refl
field_no_number maps.Responses = refl
field_no_number maps.Schemas = refl
field_no_number maps.SecuritySchemes = refl

-- a step into what is no list
get_of_no_list : (w name : List ℕ) → unescape w ≡ name → (o : Option Data) → IsNoList o → option_and_then (step w) o ≡ option_and_then (get name) o
get_of_no_list w name is None unlisted = refl
get_of_no_list w name is (Some null) unlisted = refl
get_of_no_list w name is (Some (boolean b)) unlisted = refl
get_of_no_list w name is (Some (number n)) unlisted = refl
get_of_no_list w name is (Some (string s)) unlisted = refl
get_of_no_list w name is (Some (array ds)) unlisted = absurd (unlisted ds refl)
get_of_no_list w name is (Some (object ms)) unlisted = ap (λ x. get_member x ms) is

-- ---- three steps

and_then_same : (f g : Data → Option Data) → ((e : Data) → f e ≡ g e) → (o : Option Data) → option_and_then f o ≡ option_and_then g o
and_then_same f g same None = refl
and_then_same f g same (Some e) = same e

last_steps : (w name field : List ℕ) → unescape w ≡ name → (o : Option Data) → IsNoList (option_and_then (get field) o)
    → option_and_then (λ e. option_and_then (step w) (get field e)) o ≡ option_and_then (get name) (option_and_then (get field) o)
last_steps w name field is None unlisted = refl
last_steps w name field is (Some e) unlisted = get_of_no_list w name is (get field e) unlisted

three_steps : (p q r name field : List ℕ) (d : Data) → Lacks 47 p → Lacks 47 q → Lacks 47 r → ((e : Data) → step p e ≡ get (codes "components") e) → ((e : Data) → step q e ≡ get field e) → unescape r ≡ name
    → IsNoList (field_of_components field d) → walk [] (p ++ (47 ∷ (q ++ (47 ∷ r)))) d ≡ component field name d
three_steps p q r name field d one two three root by_field is unlisted =
    walk_part p (q ++ (47 ∷ r)) d one ∙ ap (option_and_then (walk [] (q ++ (47 ∷ r)))) (root d)
    ∙ and_then_same (walk [] (q ++ (47 ∷ r))) (λ e. option_and_then (step r) (get field e))
    (λ e. walk_part q r e two ∙ and_then_same (walk [] r) (step r) (λ f. walk_last r f three) (step q e) ∙ ap (option_and_then (step r)) (by_field e)) (get (codes "components") d)
    ∙ last_steps r name field is (get (codes "components") d) unlisted

differ : {A : Type 0} (a : A) → None ≡ Some a → ⊥
differ a e = cc

-- what the path of a component says of its parts
parts_by : (b : Bool) (o : Option ComponentMap) (n : List ℕ) (m : ComponentMap) (name : List ℕ) → (if b then option_map (keyed n) o else None) ≡ Some (m, name)
    → (b ≡ true) × (o ≡ Some m) × (n ≡ name)
parts_by true None n m name e = absurd (differ (m, name) e)
parts_by true (Some found) n m name e = let is : ◌≡◌ {A = ComponentMap × List ℕ} (found, n) (m, name) = cc in (refl, ap (λ k. Some k.0) is, ap (λ k. k.1) is)
parts_by false o n m name e = absurd (differ (m, name) e)

by_tokens : (ps : List (List ℕ)) (m : ComponentMap) (name : List ℕ) (d : Data) → AllLack ps → component_at (map unescape ps) ≡ Some (m, name) → IsNoList (field_of_components (component_map_text m) d)
    → walk [] (join_with_byte 47 ps) d ≡ component (component_map_text m) name d
by_tokens [] m name d lack e unlisted = absurd (differ (m, name) e)
by_tokens (p ∷ []) m name d lack e unlisted = absurd (differ (m, name) e)
by_tokens (p ∷ q ∷ []) m name d lack e unlisted = absurd (differ (m, name) e)
by_tokens (p ∷ q ∷ r ∷ []) m name d lack e unlisted =
    let parts = parts_by (bytes_eq (unescape p) (codes "components")) (with_text component_map_text every_component_map (unescape q)) (unescape r) m name e in
    let root = (bytes_eq-Decides (unescape p) (codes "components")).0 parts.0 in
    let field = found_has component_map_text every_component_map (unescape q) m parts.1 in
    let p_is = is_plain_text p (codes "components") root_is_plain root in
    let q_is = is_plain_text q (component_map_text m) (field_is_plain m) field in
    let after = more_lack p (q ∷ r ∷ []) lack in
    three_steps p q r name (component_map_text m) d (first_lacks p (q ∷ r ∷ []) lack) (first_lacks q (r ∷ []) after) (first_lacks r [] (more_lack q (r ∷ []) after)) (get_by_name p (codes "components") root (ap index_of p_is ∙ root_no_number))
    (get_by_name q (component_map_text m) field (ap index_of q_is ∙ field_no_number m)) parts.2 unlisted
by_tokens (p ∷ q ∷ r ∷ s ∷ ps) m name d lack e unlisted = absurd (differ (m, name) e)

by_slash : (c : ℕ) (cs : List ℕ) (b : Bool) (m : ComponentMap) (name : List ℕ) (d : Data) → component_at (if b then map unescape (slice_split is_slash cs) else []) ≡ Some (m, name)
    → IsNoList (field_of_components (component_map_text m) d) → (if b then walk [] cs d else None) ≡ component (component_map_text m) name d
by_slash c cs false m name d e unlisted = absurd (differ (m, name) e)
by_slash c cs true m name d e unlisted = ap (λ s. walk [] s d) (sym (join_with_byte-slice_split 47 cs)) ∙ by_tokens (slice_split is_slash cs) m name d (tokens_lack cs) e unlisted

pointed_to : (bs : List ℕ) (m : ComponentMap) (name : List ℕ) (d : Data) → component_at (path_of bs) ≡ Some (m, name) → IsNoList (field_of_components (component_map_text m) d) → pointer bs d ≡ component (component_map_text m) name d
pointed_to [] m name d e unlisted = absurd (differ (m, name) e)
pointed_to (c ∷ cs) m name d e unlisted = by_slash c cs (is_slash c) m name d e unlisted

-- at the place of a component stands the entry of its name in its map
pub component_stands_there : (t : Target) (m : ComponentMap) (name : List ℕ) (d : Data) → component_at_target t ≡ Some (m, name) → IsNoList (field_of_components (component_map_text m) d)
    → at_target t d ≡ component (component_map_text m) name d
component_stands_there elsewhere m name d e unlisted = absurd (differ (m, name) e)
component_stands_there nowhere m name d e unlisted = absurd (differ (m, name) e)
component_stands_there (place bs) m name d e unlisted = pointed_to bs m name d e unlisted
