-- JSON Pointers, a token at a time: the names that they stand for, and the components that they lead to.
use Rattle.std.proofs.Common.{◌≡◌, ◌≢◌, ◌==◌, ◌<◌, ◌&&◌, ℕ, zero, suc, List, [], ◌∷◌, ◌++◌, map, length, get_or, Bool, true, false, cond, if◌then◌else◌, Option, None, Some, option_map, codes, refl, sym, ap, ◌∙◌, subst, arith, true≢false, ne_eqb, eqb-true, eq-eqb, append_assoc}
use Rattle.std.proofs.lemmas.Slice.Eq.{bytes_eq-Decides}
use Rattle.std.proofs.lemmas.List.Splits.{slice_split_none, slice_split_at, join_with_byte-slice_split}
use Rattle.std.specs.List.{slice_split, onto_first, join_with_byte}
use Rattle.std.specs.Str.{bytes_eq}
use Rattle.serde_json.specs.Find.{unescape}
use Rattle.serde_json.proofs.Paths.{Lacks, unescape_plain}
use Rattle.utoipa_base.specs.References.{component_map_text, every_component_map, is_slash, path_of, component_at}
use Rattle.utoipa_base.specs.Vocabularies.{with_text}
use Rattle.utoipa_base.specs.declared.refs.component.ComponentMap.{ComponentMap}
use Rattle.utoipa_base.specs.declared.refs.component.ComponentMap.TheVariants as maps

-- ---- texts that lack a letter

later : (c x : ℕ) (xs : List ℕ) → Lacks c (x ∷ xs) → Lacks c xs
later c x xs h i less = h (suc i) (omega arith)

abbrev has : ℕ → List ℕ → Bool
has c [] = false
has c (x ∷ xs) = if x == c then true else has c xs

pub put_on : (c x : ℕ) (xs : List ℕ) → x ≢ c → Lacks c xs → Lacks c (x ∷ xs)
put_on c x xs other h zero less = other
put_on c x xs other h (suc i) less = h i (omega arith)

pub lacks_none : (c : ℕ) → Lacks c []
lacks_none c i less = absurd (omega arith)

lacks_after : (c x : ℕ) (xs : List ℕ) (b : Bool) → x == c ≡ b → (has c xs ≡ false → Lacks c xs) → (if b then true else has c xs) ≡ false → Lacks c (x ∷ xs)
lacks_after c x xs true is rest e = absurd (true≢false e)
lacks_after c x xs false is rest e = put_on c x xs (λ same. true≢false (sym (eq-eqb x c same) ∙ is)) (rest e)

lacks_by : (c : ℕ) (xs : List ℕ) → has c xs ≡ false → Lacks c xs
lacks_by c [] e = lacks_none c
lacks_by c (x ∷ xs) e = lacks_after c x xs (x == c) refl (lacks_by c xs) e

-- ---- the name that a token stands for

other_first : (x : ℕ) (xs : List ℕ) → x ≢ 126 → unescape (x ∷ xs) ≡ x ∷ unescape xs
unfolding unescape
other_first x [] h = refl
other_first x (y ∷ ys) h = rw (ne_eqb x 126 h) refl

-- what stands before a `~` stands for itself
pub unescape_front : (front rest : List ℕ) → Lacks 126 front → unescape (front ++ rest) ≡ front ++ unescape rest
unescape_front [] rest h = refl
unescape_front (x ∷ xs) rest h = other_first x (xs ++ rest) (h 0 (omega arith)) ∙ ap (λ l. x ∷ l) (unescape_front xs rest (later 126 x xs h))

pub unescape_1 : (rest : List ℕ) → unescape (126 ∷ 49 ∷ rest) ≡ 47 ∷ unescape rest
unfolding unescape
unescape_1 rest = refl

pub unescape_0 : (rest : List ℕ) → unescape (126 ∷ 48 ∷ rest) ≡ 126 ∷ unescape rest
unfolding unescape
unescape_0 rest = refl

-- any other `~` stands for itself
pub unescape_other : (after : List ℕ) → ((rest : List ℕ) → after ≢ 49 ∷ rest) → ((rest : List ℕ) → after ≢ 48 ∷ rest) → unescape (126 ∷ after) ≡ 126 ∷ unescape after
unfolding unescape
unescape_other [] one nought = refl
unescape_other (y ∷ ys) one nought = rw (ne_eqb y 49 (λ e. one ys (ap (λ z. z ∷ ys) e)), ne_eqb y 48 (λ e. nought ys (ap (λ z. z ∷ ys) e))) refl

-- the name of a token so far, and what it is once its next `~` is read
pub next_tilde : (name name1 name2 front letter rest after more token : List ℕ) → name1 ≡ name ++ front → name2 ≡ name1 ++ letter → rest ≡ front ++ (126 ∷ after) → Lacks 126 front
    → unescape (126 ∷ after) ≡ letter ++ unescape more → name ++ unescape rest ≡ token → name2 ++ unescape more ≡ token
next_tilde name name1 name2 front letter rest after more token one two is lacks read whole =
    ap (λ l. l ++ unescape more) (two ∙ ap (λ l. l ++ letter) one) ∙ append_assoc (name ++ front) letter (unescape more) ∙ append_assoc name front (letter ++ unescape more)
    ∙ ap (λ l. name ++ (front ++ l)) (sym read) ∙ ap (λ l. name ++ l) (sym (unescape_front front (126 ∷ after) lacks)) ∙ ap (λ l. name ++ unescape l) (sym is) ∙ whole

-- the same once no `~` is left
pub last_part : (name whole rest token : List ℕ) → whole ≡ name ++ rest → Lacks 126 rest → name ++ unescape rest ≡ token → whole ≡ token
last_part name whole rest token is lacks e = is ∙ ap (λ l. name ++ l) (sym (unescape_plain rest lacks)) ∙ e

-- a name with neither `~` nor `/` is that of no other text than itself
only_by : (b1 b2 : Bool) (x : ℕ) (ys u : List ℕ) (s t v : List ℕ) → (if b1 then 47 ∷ s else (if b2 then 126 ∷ t else x ∷ v)) ≡ u
    → Lacks 126 u → Lacks 47 u → (Lacks 126 v → Lacks 47 v → ys ≡ v) → x ∷ ys ≡ u
only_by true b2 x ys u s t v e tilde slash rest = absurd (subst (Lacks 47) (sym e) slash 0 (omega arith) refl)
only_by false true x ys u s t v e tilde slash rest = absurd (subst (Lacks 126) (sym e) tilde 0 (omega arith) refl)
only_by false false x ys u s t v e tilde slash rest = ap (λ l. x ∷ l) (rest (later 126 x v (subst (Lacks 126) (sym e) tilde)) (later 47 x v (subst (Lacks 47) (sym e) slash))) ∙ e

pub unescape_only : (s : List ℕ) → Lacks 126 (unescape s) → Lacks 47 (unescape s) → s ≡ unescape s
unfolding unescape
unescape_only [] tilde slash = refl
unescape_only (x ∷ []) tilde slash = refl
unescape_only (x ∷ y ∷ rest) tilde slash = only_by (x == 126 && y == 49) (x == 126 && y == 48) x (y ∷ rest) (unescape (x ∷ y ∷ rest)) (unescape rest) (unescape rest) (unescape (y ∷ rest)) refl tilde slash (unescape_only (y ∷ rest))

same_tests : (a b : Bool) → (a ≡ true → b ≡ true) → (b ≡ true → a ≡ true) → a ≡ b
same_tests true b f g = sym (f refl)
same_tests false true f g = g refl
same_tests false false f g = refl

-- a plain text: one with neither `~` nor `/`
abbrev IsPlain : List ℕ → Type 0
IsPlain w = Lacks 126 w × Lacks 47 w

plain_by : (w : List ℕ) → has 126 w ≡ false → has 47 w ≡ false → IsPlain w
plain_by w tilde slash = (lacks_by 126 w tilde, lacks_by 47 w slash)

pub is_plain_text : (s w : List ℕ) → IsPlain w → unescape s ≡ w → s ≡ w
is_plain_text s w plain e = unescape_only s (subst (Lacks 126) (sym e) plain.0) (subst (Lacks 47) (sym e) plain.1) ∙ e

same_text : (s w : List ℕ) → IsPlain w → bytes_eq (unescape s) w ≡ bytes_eq s w
same_text s w plain =
    let raw = bytes_eq-Decides s w in
    let read = bytes_eq-Decides (unescape s) w in
    same_tests _ _ (λ e. raw.1 (is_plain_text s w plain (read.0 e))) (λ e. let is = raw.0 e in read.1 (ap unescape is ∙ unescape_plain w plain.0))

-- ---- the field of a map

with_plain_text : {W : Type 0} (f : W → List ℕ) (ws : List W) (s : List ℕ) → ((w : W) → IsPlain (f w)) → with_text f ws (unescape s) ≡ with_text f ws s
with_plain_text f [] s plain = refl
with_plain_text f (w ∷ ws) s plain =
    ap (λ b. if b then Some w else with_text f ws (unescape s)) (same_text s (f w) (plain w)) ∙ ap (λ o. if bytes_eq s (f w) then Some w else o) (with_plain_text f ws s plain)

pub field_is_plain : (m : ComponentMap) → IsPlain (component_map_text m)
field_is_plain maps.Callbacks = plain_by (component_map_text maps.Callbacks) refl refl
field_is_plain maps.Examples = plain_by (component_map_text maps.Examples) refl refl
field_is_plain maps.Headers = plain_by (component_map_text maps.Headers) refl refl
field_is_plain maps.Links = plain_by (component_map_text maps.Links) refl refl
field_is_plain maps.MediaTypes = plain_by (component_map_text maps.MediaTypes) refl refl
field_is_plain maps.Parameters = plain_by (component_map_text maps.Parameters) refl refl
field_is_plain maps.PathItems = plain_by (component_map_text maps.PathItems) refl refl
field_is_plain maps.RequestBodies = plain_by (component_map_text maps.RequestBodies) refl refl
field_is_plain maps.Responses = plain_by (component_map_text maps.Responses) refl refl
field_is_plain maps.Schemas = plain_by (component_map_text maps.Schemas) refl refl
field_is_plain maps.SecuritySchemes = plain_by (component_map_text maps.SecuritySchemes) refl refl

pub root_is_plain : IsPlain (codes "components")
root_is_plain = plain_by (codes "components") refl refl

-- a map and a name in it
abbrev pub keyed : List ℕ → ComponentMap → ComponentMap × List ℕ
keyed name found = (found, name)

-- ---- tokens

no_slash : (s : List ℕ) → Lacks 47 s → (k d : ℕ) → k < length s → is_slash (get_or s k d) ≡ false
no_slash [] h k d less = absurd (omega arith)
no_slash (x ∷ xs) h zero d less = ne_eqb x 47 (h 0 (omega arith))
no_slash (x ∷ xs) h (suc k) d less = no_slash xs (later 47 x xs h) k d (omega arith)

pub one_token : (s : List ℕ) → Lacks 47 s → slice_split is_slash s ≡ s ∷ []
one_token s h = slice_split_none is_slash s (λ k d less. no_slash s h k d less)

pub first_token : (s rest : List ℕ) → Lacks 47 s → slice_split is_slash (s ++ (47 ∷ rest)) ≡ s ∷ slice_split is_slash rest
first_token s rest h = slice_split_at is_slash s 47 rest (λ k d less. no_slash s h k d less) refl

abbrev IsSplit : List (List ℕ) → Type 0
IsSplit [] = ⊥
IsSplit (p ∷ []) = ⊥
IsSplit (p ∷ q ∷ ps) = Unit {0}

onto_split : (x : ℕ) (ps : List (List ℕ)) → IsSplit ps → IsSplit (onto_first x ps)
onto_split x [] h = h
onto_split x (p ∷ []) h = h
onto_split x (p ∷ q ∷ ps) h = h

abbrev IsSome : List (List ℕ) → Type 0
IsSome [] = ⊥
IsSome (p ∷ ps) = Unit {0}

onto_some : (x : ℕ) (b : Bool) (ps : List (List ℕ)) → IsSome (cond b ([] ∷ ps) (onto_first x ps))
onto_some x true ps = tt
onto_some x false [] = tt
onto_some x false (p ∷ ps) = tt

some_token : (s : List ℕ) → IsSome (slice_split is_slash s)
some_token [] = tt
some_token (x ∷ xs) = onto_some x (is_slash x) (slice_split is_slash xs)

begun : (ps : List (List ℕ)) → IsSome ps → IsSplit ([] ∷ ps)
begun [] h = h
begun (p ∷ ps) h = tt

split_by : (x : ℕ) (b : Bool) (ps : List (List ℕ)) → IsSome ps → (b ≡ false → IsSplit ps) → IsSplit (cond b ([] ∷ ps) (onto_first x ps))
split_by x true ps some rest = begun ps some
split_by x false ps some rest = onto_split x ps (rest refl)

-- a text with a `/` has two tokens or more
is_split : (s : List ℕ) (k : ℕ) → k < length s → get_or s k 0 ≡ 47 → IsSplit (slice_split is_slash s)
is_split [] k less at = absurd (omega arith)
is_split (x ∷ xs) zero less at = split_by x (is_slash x) (slice_split is_slash xs) (some_token xs) (λ e. absurd (true≢false (sym (eq-eqb x 47 at) ∙ e)))
is_split (x ∷ xs) (suc k) less at = split_by x (is_slash x) (slice_split is_slash xs) (some_token xs) (λ e. is_split xs k (omega arith) at)

-- ---- the component at a JSON Pointer

-- no component where only the field is named
pub no_name : (path : List ℕ) → Lacks 47 path → component_at (path_of (codes "/components/" ++ path)) ≡ None
no_name path h = ap (λ ps. component_at (unescape (codes "components") ∷ map unescape ps)) (one_token path h)

too_many : (root field : List ℕ) (ps : List (List ℕ)) → IsSplit ps → component_at (root ∷ field ∷ map unescape ps) ≡ None
too_many root field [] h = absurd h
too_many root field (p ∷ []) h = absurd h
too_many root field (p ∷ q ∷ ps) h = refl

-- none where the pointer leads into a component
pub inside_component : (path field token : List ℕ) (k : ℕ) → path ≡ field ++ (47 ∷ token) → Lacks 47 field → k < length token → get_or token k 0 ≡ 47 → component_at (path_of (codes "/components/" ++ path)) ≡ None
inside_component path field token k is front less at =
    ap (λ ps. component_at (unescape (codes "components") ∷ map unescape ps)) (ap (slice_split is_slash) is ∙ first_token field token front)
    ∙ too_many (unescape (codes "components")) (unescape field) (slice_split is_slash token) (is_split token k less at)

-- the field and the token of the name
pub at_name : (path field token : List ℕ) → path ≡ field ++ (47 ∷ token) → Lacks 47 field → Lacks 47 token
    → component_at (path_of (codes "/components/" ++ path)) ≡ option_map (keyed (unescape token)) (with_text component_map_text every_component_map field)
unfolding unescape
at_name path field token is front back =
    ap (λ ps. component_at (unescape (codes "components") ∷ map unescape ps)) (ap (slice_split is_slash) is ∙ first_token field token front ∙ ap (λ ps. field ∷ ps) (one_token token back))
    ∙ ap (option_map (keyed (unescape token))) (with_plain_text component_map_text every_component_map field field_is_plain)

root_by : {X : Type 0} (root : List ℕ) (b : Bool) (o : Option X) → b ≡ bytes_eq (unescape root) (codes "components") → (root ≡ codes "components" → ⊥) → (if b then o else None) ≡ None
root_by root true o is none = absurd (none (is_plain_text root (codes "components") root_is_plain ((bytes_eq-Decides (unescape root) (codes "components")).0 (sym is))))
root_by root false o is none = refl

by_tokens : (ps : List (List ℕ)) → ((rest : List ℕ) → 47 ∷ join_with_byte 47 ps ≢ codes "/components/" ++ rest) → component_at (map unescape ps) ≡ None
by_tokens [] h = refl
by_tokens (p ∷ []) h = refl
by_tokens (p ∷ q ∷ []) h = refl
by_tokens (p ∷ q ∷ r ∷ []) h = root_by p (bytes_eq (unescape p) (codes "components")) _ refl (λ e. h (join_with_byte 47 (q ∷ r ∷ [])) (ap (λ l. 47 ∷ (l ++ (47 ∷ join_with_byte 47 (q ∷ r ∷ [])))) e))
by_tokens (p ∷ q ∷ r ∷ s ∷ ps) h = refl

other_by : (c : ℕ) (cs : List ℕ) (b : Bool) → b ≡ is_slash c → ((rest : List ℕ) → c ∷ cs ≢ codes "/components/" ++ rest) → component_at (if b then map unescape (slice_split is_slash cs) else []) ≡ None
other_by c cs true is h = by_tokens (slice_split is_slash cs) (λ rest e. h rest (ap (λ x. x ∷ cs) (eqb-true c 47 (sym is)) ∙ ap (λ l. 47 ∷ l) (sym (join_with_byte-slice_split 47 cs)) ∙ e))
other_by c cs false is h = refl

-- none where the pointer does not begin so
pub other_pointer : (s : List ℕ) → ((rest : List ℕ) → s ≢ codes "/components/" ++ rest) → component_at (path_of s) ≡ None
other_pointer [] h = refl
other_pointer (c ∷ cs) h = other_by c cs (is_slash c) refl h
