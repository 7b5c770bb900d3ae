-- A tree that was read of a text in which no name stands again has all that the text has.
use Rattle.std.proofs.Common.{◌≡◌, ◌∙◌, ℕ, zero, suc, List, [], ◌∷◌, Bool, true, false, ◌||◌, if◌then◌else◌, length, Option, Some, None, option_map, option_and_then, refl, sym, ap, subst, true≢false}
use Rattle.std.proofs.lemmas.Slice.Eq.{bytes_eq-Decides}
use Rattle.std.specs.List.{list_any}
use Rattle.std.specs.Str.{bytes_eq, is_utf8}
use Rattle.json.specs.Json as json
use Rattle.json.specs.Json.{Parse, parse_map, after_end_array, read_key, items_step, members_step, items, members, value_with, value, if_last, document}
use Rattle.json.specs.Lex.{tokens}
use Rattle.json.specs.Token.{Token}
use Rattle.serde_json.specs.Data.{Data, number, array, object, Items, item, Members, no_members, put}
use Rattle.serde_json.specs.Find.{get_member}
use Rattle.serde_json.specs.Read.{number_of, of_json, of_items, of_members, read as read_text}
use Rattle.serde_json.proofs.Views.{get_member-put, get_member-put_other}
use Rattle.utoipa_check.specs.Misfits.{Step, at_name, at_index}
use Rattle.utoipa_duplicates.specs.Duplicates.{Place, behind, again, duplicates, items_duplicates, members_duplicates, places_in}
use Rattle.utoipa_findings.specs.InText.{HasValue, HasItems, HasMembers, HasText}
use Rattle.utoipa_base.specs.Docs.{Doc}
use Rattle.utoipa_base.specs.Kinds.{Kind}
use Rattle.utoipa_base.specs.WellFormed.{ReadsAs}
use Rattle.utoipa_findings.specs.ComesBack.{ComesBack}
use Rattle.utoipa_findings.specs.Findings.{findings, losses, repeated_names, text_findings, text_losses}
use Rattle.utoipa_findings.specs.Sources.{File, seen, tree_of}
use Rattle.utoipa_findings.proofs.ComesBack.{first_none, second_none, map_none, none_repeated, some_comes_back, unlost_comes_back}

-- ---- a value that is read where arrays and objects may nest so deep is read where they may nest deeper

abbrev Kept : {A : Type 0} → Option A → Option A → Type 0
Kept None p = Unit {0}
Kept (Some a) p = p ≡ Some a

abbrev Below : {A : Type 0} → Parse A → Parse A → Type 0
Below f g = (ts : List Token) → Kept (f ts) (g ts)

mapped : {A B : Type 0} (f : A → B) (o p : Option (A × List Token)) → Kept o p → Kept (parse_map f o) (parse_map f p)
mapped f None p h = tt
mapped f (Some a) p h = ap (parse_map f) h

after : {A B : Type 0} (f g : A → Option B) → ((a : A) → Kept (f a) (g a)) → (o p : Option A) → Kept o p → Kept (option_and_then f o) (option_and_then g p)
after f g both None p h = tt
after f g both (Some a) p h = subst (λ x. Kept (f a) (option_and_then g x)) (sym h) (both a)

itself : {A : Type 0} (o : Option A) → Kept o o
itself None = tt
itself (Some a) = refl

module _ (p q : Parse json.Json) (below : Below p q) where
  item_turn : (m n : Parse json.Items) → Below m n → (ts : List Token) (o : Option (List Token)) → Kept (items_step p m ts o) (items_step q n ts o)
  item_turn m n h ts (Some r) = refl
  item_turn m n h ts None = after _ _ (λ x. mapped (json.item x.0) (m x.1) (n x.1) (h x.1)) (p ts) (q ts) (below ts)

  below_items : (n : ℕ) → Below (items p n) (items q n)
  unfolding items
  below_items zero ts = tt
  below_items (suc n) ts = item_turn (items p n) (items q n) (below_items n) ts (after_end_array ts)

  member_turn : (m n : Parse json.Members) → Below m n → (k : Option (List ℕ)) → Below (members_step p m k) (members_step q n k)
  member_turn m n h None ts = refl
  member_turn m n h (Some k) ts = after _ _ (λ x. mapped (json.member k x.0) (m x.1) (n x.1) (h x.1)) (p ts) (q ts) (below ts)

  below_members : (n : ℕ) → Below (members p n) (members q n)
  unfolding members
  below_members zero ts = tt
  below_members (suc n) ts = after _ _ (λ x. member_turn (members p n) (members q n) (below_members n) x.0 x.1) (read_key ts) (read_key ts) (itself _)

below_value_with : (a b : Parse json.Items) (o p : Parse json.Members) → Below a b → Below o p → Below (value_with a o) (value_with b p)
below_value_with a b o p x y [] = tt
below_value_with a b o p x y (Token.begin_object ∷ ts) = mapped json.object (o ts) (p ts) (y ts)
below_value_with a b o p x y (Token.end_object ∷ ts) = tt
below_value_with a b o p x y (Token.begin_array ∷ ts) = mapped json.array (a ts) (b ts) (x ts)
below_value_with a b o p x y (Token.end_array ∷ ts) = tt
below_value_with a b o p x y (Token.key s ∷ ts) = tt
below_value_with a b o p x y (Token.string s ∷ ts) = refl
below_value_with a b o p x y (Token.number s ∷ ts) = refl
below_value_with a b o p x y (Token.boolean b' ∷ ts) = refl
below_value_with a b o p x y (Token.null ∷ ts) = refl
below_value_with a b o p x y (Token.bad ∷ ts) = tt

abbrev inner_items : ℕ → Parse json.Items
inner_items d ts = items (value d) (length ts) ts

abbrev inner_members : ℕ → Parse json.Members
inner_members d ts = members (value d) (length ts) ts

deeper : (d : ℕ) → Below (value d) (value (suc d))
unfolding value
deeper zero = below_value_with (λ ts. None) (inner_items 0) (λ ts. None) (inner_members 0) (λ ts. tt) (λ ts. tt)
deeper (suc d) =
    below_value_with (inner_items d) (inner_items (suc d)) (inner_members d) (inner_members (suc d))
    (λ ts. below_items (value d) (value (suc d)) (deeper d) (length ts) ts) (λ ts. below_members (value d) (value (suc d)) (deeper d) (length ts) ts)

-- a text that has a tree has the value of which it was made
abbrev whole : Option (json.Json × List Token) → Option json.Json
whole o = option_and_then (λ p. if_last p.0 p.1) o

whole_kept : (o p : Option (json.Json × List Token)) → Kept o p → Kept (whole o) (whole p)
whole_kept o p h = after _ _ (λ x. itself (if_last x.0 x.1)) o p h

value_there : (t : Data) (o p : Option json.Json) → Kept o p → option_and_then of_json o ≡ Some t → (j : json.Json) × (p ≡ Some j) × (of_json j ≡ Some t)
value_there t None p h is = cc
value_there t (Some j) p h is = (j, h, is)

of_text : (text : List ℕ) (t : Data) → read_text text ≡ Some t → (j : json.Json) × (document text ≡ Some j) × (of_json j ≡ Some t)
of_text text t is = value_there t _ (document text) (whole_kept _ _ (deeper 127 (tokens text))) is

-- ---- a value without a name that stands again

behind_none : (s : Step) (ps : List Place) → behind s ps ≡ [] → ps ≡ []
behind_none s ps e = map_none (λ p. s ∷ p) ps e

again_none : (name : List ℕ) (earlier : List (List ℕ)) (b : Bool) → list_any (bytes_eq name) earlier ≡ b → (if b then (at_name name ∷ []) ∷ [] else []) ≡ [] → list_any (bytes_eq name) earlier ≡ false
again_none name earlier true is none = cc
again_none name earlier false is none = is

-- a name that is one of some is no other name
is_other : (q k : List ℕ) (earlier : List (List ℕ)) → list_any (bytes_eq q) earlier ≡ true → list_any (bytes_eq k) earlier ≡ false → q ≡ k → ⊥
is_other q k earlier is none same = true≢false (sym is ∙ ap (λ n. list_any (bytes_eq n) earlier) same ∙ none)

mapped_there : {A B : Type 0} (f : A → B) (o : Option A) (y : B) → option_map f o ≡ Some y → (x : A) × (o ≡ Some x) × (y ≡ f x)
mapped_there f None y e = cc
mapped_there f (Some x) y e = (x, refl, cc)

then_there : {A B : Type 0} (f : A → Option B) (o : Option A) (y : B) → option_and_then f o ≡ Some y → (x : A) × (o ≡ Some x) × (f x ≡ Some y)
then_there f None y e = cc
then_there f (Some x) y e = (x, refl, e)

some_is : {A : Type 0} (x y : A) → Some x ≡ Some y → x ≡ y
some_is x y e = cc

or_true : (b c : Bool) → c ≡ true → b || c ≡ true
or_true true c h = refl
or_true false c h = h

-- the members found so far stay, and each further one is found
abbrev HasAll : (earlier : List (List ℕ)) (found ns : Members) → json.Members → Type 0
HasAll earlier found ns ms = HasMembers ns ms × ((q : List ℕ) → list_any (bytes_eq q) earlier ≡ true → get_member q ns ≡ get_member q found)

mutual
  unfolding duplicates items_duplicates members_duplicates

  has_value : (j : json.Json) (t : Data) → duplicates j ≡ [] → of_json j ≡ Some t → HasValue t j
  has_value json.null t none is = cc
  has_value (json.boolean b) t none is = cc
  has_value (json.number s) t none is = let n = mapped_there number (number_of s) t is in (n.0, n.1, n.2)
  has_value (json.string s) t none is = cc
  has_value (json.array js) t none is = let ds = mapped_there array (of_items js) t is in (ds.0, ds.2, has_items 0 js ds.0 none ds.1)
  has_value (json.object ms) t none is = let ns = mapped_there object (of_members ms no_members) t is in (ns.0, ns.2, (has_members [] ms no_members ns.0 none ns.1).0)

  has_items : (i : ℕ) (js : json.Items) (ds : Items) → items_duplicates i js ≡ [] → of_items js ≡ Some ds → HasItems ds js
  has_items i json.no_items ds none is = tt
  has_items i (json.item j js) ds none is =
      let d = then_there _ (of_json j) ds is in
      let rest = mapped_there (item d.0) (of_items js) ds d.2 in
      let here = behind_none (at_index i) (duplicates j) (first_none _ (items_duplicates (suc i) js) none) in
      subst (λ es. HasItems es (json.item j js)) (sym rest.2) (has_value j d.0 here d.1, has_items (suc i) js rest.0 (second_none (behind (at_index i) (duplicates j)) _ none) rest.1)

  has_members : (earlier : List (List ℕ)) (ms : json.Members) (found ns : Members) → members_duplicates earlier ms ≡ [] → of_members ms found ≡ Some ns → HasAll earlier found ns ms
  has_members earlier json.no_members found ns none is = (tt, λ q among. ap (get_member q) (sym (some_is found ns is)))
  has_members earlier (json.member k j ms) found ns none is =
      let d = then_there _ (of_json j) ns is in
      let new = again_none k earlier (list_any (bytes_eq k) earlier) refl (first_none (again k earlier) _ none) in
      let later = second_none (again k earlier) _ none in
      let here = behind_none (at_name k) (duplicates j) (first_none _ (members_duplicates (k ∷ earlier) ms) later) in
      let rest = has_members (k ∷ earlier) ms (put k d.0 found) ns (second_none (behind (at_name k) (duplicates j)) _ later) d.2 in
      let own : get_member k ns ≡ Some d.0 = rest.1 k (ap (λ b. b || list_any (bytes_eq k) earlier) ((bytes_eq-Decides k k).1 refl)) ∙ get_member-put k d.0 found in (
        (d.0, own, has_value j d.0 here d.1, rest.0),
        λ q among. rest.1 q (or_true (bytes_eq q k) _ among) ∙ get_member-put_other q k d.0 found (is_other q k earlier among new),
      )

-- a text in which no name stands again is in its tree
pub text_in_tree : (text : List ℕ) (t : Data) → places_in (document text) ≡ [] → read_text text ≡ Some t → HasText t text
text_in_tree text t none is =
    let j = of_text text t is in
    (j.0, j.1, has_value j.0 t (ap places_in (sym j.1) ∙ none) j.2)

-- ---- files

text_of_tree : (b : Bool) (o : Option Data) (t : Data) → (if b then o else None) ≡ Some t → o ≡ Some t
text_of_tree true o t is = is
text_of_tree false o t is = cc

in_tree : (bytes : List ℕ) (t : Data) → places_in (document bytes) ≡ [] → tree_of bytes ≡ Some t → HasText t bytes
in_tree bytes t none has = text_in_tree bytes t none (text_of_tree (is_utf8 bytes) (read_text bytes) t has)

pub text_comes_back : (k : Kind) (x : File) (t : Data) → tree_of x.1 ≡ Some t → text_findings k x.1 (seen x.2 k t) ≡ [] → (d : Doc) × ComesBack k (seen x.2 k t) d × HasText t x.1
text_comes_back k x t has none =
    let looked_at = seen x.2 k t in
    let back = some_comes_back k looked_at (second_none (repeated_names x.1) (findings k looked_at) none) in
    (back.0, back.1, in_tree x.1 t (none_repeated x.1 (findings k looked_at) none) has)

pub unlost_text : (k : Kind) (x : File) (t : Data) (d : Doc) → tree_of x.1 ≡ Some t → ReadsAs k (seen x.2 k t) d → text_losses k x.1 (seen x.2 k t) ≡ [] → ComesBack k (seen x.2 k t) d × HasText t x.1
unlost_text k x t d has reads none =
    let looked_at = seen x.2 k t in
    (unlost_comes_back k looked_at d reads (second_none (repeated_names x.1) (losses k looked_at) none), in_tree x.1 t (none_repeated x.1 (losses k looked_at) none) has)
