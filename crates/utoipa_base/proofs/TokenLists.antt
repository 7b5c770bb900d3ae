-- A list whose items are read from tokens, one after the other.
use Rattle.std.proofs.Common.{◌≡◌, ◌∙◌, ◌≤◌, ◌<◌, ◌+◌, ◌-◌, ℕ, List, [], ◌∷◌, ◌++◌, map, length, false, Option, Some, None, option_map, Vec, Global, refl, ap, arith}
use Rattle.std.proofs.lemmas.List.{map-append}
use Rattle.json.specs.Json.{parse_map, after_end_array, items, value}
use Rattle.json.specs.Token as token
use Rattle.json.specs.Token.{Token}
use Rattle.serde_json.specs.Data.{Data, Items, no_items, item, array}
use Rattle.serde_json.specs.Read.{of_json, of_items, converted}
use Rattle.serde_json.specs.View.{items_of}
use Rattle.serde_json.specs.Written.{has_float, items_have_float}
use Rattle.utoipa_base.specs.Docs.{Doc, docs_of, list_doc}
use Rattle.utoipa_base.specs.FromTokens.{FromTokens}
use Rattle.utoipa_base.specs.Kinds.{Kind, list_of}
use Rattle.utoipa_base.specs.Reading.{read, reader, item_readers, read_items}
use Rattle.utoipa_base.specs.Values.{values, items_values, docs_schema_count, schema_count}
use Rattle.utoipa_base.specs.Views.{list_of_docs}
use Rattle.utoipa_base.proofs.BoolFacts.{or_first, or_second}
use Rattle.utoipa_base.proofs.Places.{counted_more, docs_schema_count-none, schema_count-list}
use Rattle.utoipa_base.proofs.Values.{docs_schema_count-last}
use Rattle.utoipa_base.proofs.TokenGrammar.{value-begin_array}
use Rattle.utoipa_base.proofs.TokenTrees.{item_read, items_over, converted-array}

-- ---- items before others

abbrev pub before : List Data → Items → Items
before [] rest = rest
before (d ∷ ds) rest = item d (before ds rest)

before_none : (ds : List Data) → before ds no_items ≡ items_of ds
before_none [] = refl
before_none (d ∷ ds) = ap (item d) (before_none ds)

push : (ds : List Data) (d : Data) (rest : Items) → before ds (item d rest) ≡ before (ds ++ d ∷ []) rest
push [] d rest = refl
push (e ∷ ds) d rest = ap (item e) (push ds d rest)

one_more : (ds : List Data) (d : Data) (r : Option (Items × List Token)) → parse_map (before ds) (parse_map (item d) r) ≡ parse_map (before (ds ++ d ∷ [])) r
one_more ds d None = refl
one_more ds d (Some p) = ap (λ is. Some (is, p.1)) (push ds d p.0)

nothing_before : (r : Option (Items × List Token)) → r ≡ parse_map (before []) r
nothing_before None = refl
nothing_before (Some p) = refl

-- ---- each item, read

abbrev pub AllRead : Kind → List Data → List Doc → Type 0
AllRead k [] [] = Unit {0}
AllRead k [] (x ∷ xs) = ⊥
AllRead k (d ∷ ds) [] = ⊥
AllRead k (d ∷ ds) (x ∷ xs) = (read k d ≡ Some x) × AllRead k ds xs

read_more : (k : Kind) (ds : List Data) (xs : List Doc) (d : Data) (x : Doc) → AllRead k ds xs → read k d ≡ Some x → AllRead k (ds ++ d ∷ []) (xs ++ x ∷ [])
read_more k [] [] d x h is = (is, tt)
read_more k [] (y ∷ xs) d x h is = absurd h
read_more k (e ∷ ds) [] d x h is = absurd h
read_more k (e ∷ ds) (y ∷ xs) d x h is = (h.0, read_more k ds xs d x h.1 is)

all_items : (k : Kind) (ds : List Data) (xs : List Doc) → AllRead k ds xs → read_items k (item_readers (items_of ds)) ≡ Some (docs_of xs)
unfolding item_readers
all_items k [] [] h = refl
all_items k [] (x ∷ xs) h = absurd h
all_items k (d ∷ ds) [] h = absurd h
all_items k (d ∷ ds) (x ∷ xs) h = rw (h.0, all_items k ds xs h.1)

values_more : (ds : List Data) (d : Data) → items_values (items_of (ds ++ d ∷ [])) ≡ items_values (items_of ds) + values d
unfolding items_values
values_more [] d = omega arith
values_more (e ∷ ds) d = omega (arith, values_more ds d)

plain_more : (ds : List Data) (d : Data) → items_have_float (items_of ds) ≡ false → has_float d ≡ false → items_have_float (items_of (ds ++ d ∷ [])) ≡ false
plain_more [] d h p = rw p refl
plain_more (e ∷ ds) d h p = rw (or_first (has_float e) (items_have_float (items_of ds)) h) (plain_more ds d (or_second (has_float e) (items_have_float (items_of ds)) h) p)

-- ---- the loop

-- the items that came before `now` were read as `ys`, and the counter rose from `start` to `count`
pub record ItemsSoFar {T : Type 0} (k : Kind) (f : T → Doc) (depth : ℕ) (first now : List Token) (ys : List T) (start count : ℕ) : Type 0 where
  pub turns : ℕ
  pub done : List Data
  pub enough : length now ≤ turns
  pub parsed : converted of_items (items (value depth) (length first) first) ≡ parse_map (before done) (converted of_items (items (value depth) turns now))
  pub shorter : length now ≤ length first
  pub plain : items_have_float (items_of done) ≡ false
  pub read : AllRead k done (map f ys)
  pub at_most : count ≤ start + items_values (items_of done)
  pub grows : start ≤ count
  pub at_least : count < 18446744073709551615 → start + docs_schema_count (docs_of (map f ys)) ≤ count

-- before the first item
pub begun : {T : Type 0} (k : Kind) (f : T → Doc) (depth : ℕ) (first : List Token) (ys : List T) (start : ℕ) → ys ≡ [] → ItemsSoFar k f depth first first ys start start
begun k f depth first ys start none =
    let counted : docs_schema_count (docs_of (map f ys)) ≡ 0 = ap (λ zs. docs_schema_count (docs_of (map f zs))) none ∙ docs_schema_count-none in
    record {
      turns = length first;
      done = [];
      enough = omega arith;
      parsed = nothing_before _;
      shorter = omega arith;
      plain = refl;
      read = rw none tt;
      at_most = omega arith;
      grows = omega arith;
      at_least = λ below. omega (arith, counted);
    }

-- one item more
pub step : {T : Type 0} (k : Kind) (f : T → Doc) (depth : ℕ) (first now new : List Token) (ys zs : List T) (v : T) (start count next : ℕ) → ItemsSoFar k f depth first now ys start count → after_end_array now ≡ None
    → length new < length now → FromTokens (read k) f v depth now new count next → zs ≡ ys ++ v ∷ [] → ItemsSoFar k f depth first new zs start next
step k f depth first now new ys zs v start count next so_far going less one pushed =
    let p = value depth in
    let d = one.tree in
    let mapped : map f zs ≡ map f ys ++ f v ∷ [] = ap (map f) pushed ∙ map-append f ys (v ∷ []) in
    let counted : docs_schema_count (docs_of (map f zs)) ≡ docs_schema_count (docs_of (map f ys)) + schema_count (f v) = ap (λ es. docs_schema_count (docs_of es)) mapped ∙ docs_schema_count-last (map f ys) (f v) in
    let turn = item_read p so_far.turns now new d (omega (arith, so_far.enough, less)) going one.comes.next in
    record {
      turns = so_far.turns - 1;
      done = so_far.done ++ d ∷ [];
      enough = omega (arith, so_far.enough, less);
      parsed = so_far.parsed ∙ ap (parse_map (before so_far.done)) turn ∙ one_more so_far.done d _;
      shorter = omega (arith, so_far.shorter, less);
      plain = plain_more so_far.done d so_far.plain one.comes.plain;
      read = rw mapped (read_more k so_far.done (map f ys) d (f v) so_far.read one.reads.ok);
      at_most = omega (arith, values_more so_far.done d, one.reads.at_most, so_far.at_most);
      grows = omega (arith, one.reads.grows, so_far.grows);
      at_least = counted_more _ _ _ _ _ _ so_far.at_least one.reads.grows one.reads.at_least counted;
    }

read_array : (k : Kind) (ds : List Data) (xs : List Doc) → AllRead k ds xs → read (list_of k) (array (items_of ds)) ≡ Some (list_doc (docs_of xs))
unfolding reader
read_array k ds xs h = ap (option_map list_doc) (all_items k ds xs h)

values_array : (ds : Items) → values (array ds) ≡ 1 + items_values ds
unfolding values
values_array ds = refl

-- after the last item
pub all_read : {T : Type 0} (k : Kind) (f : T → Doc) (depth : ℕ) (old first now new : List Token) (v : Vec T Global) (start count : ℕ) → 0 < depth → old ≡ token.begin_array ∷ first → ItemsSoFar k f (depth - 1) first now v.items start count
    → after_end_array now ≡ Some new → FromTokens {A = Vec T Global} (read (list_of k)) (list_of_docs f) v depth old new start count
all_read k f depth old first now new v start count deep opens so_far ends =
    let p = value (depth - 1) in
    let over = so_far.parsed ∙ ap (parse_map (before so_far.done)) (items_over p so_far.turns now new so_far.enough ends) in
    let opened = ap (converted of_json) (ap (value depth) opens ∙ value-begin_array depth first deep) ∙ converted-array (items p (length first) first) in
    record {
      tree = array (items_of so_far.done);
      comes = record {
        next = opened ∙ ap (parse_map array) over ∙ ap (λ is. Some (array is, new)) (before_none so_far.done);
        plain = so_far.plain;
      };
      reads = record {
        ok = read_array k so_far.done (map f v.items) so_far.read;
        err = tt;
        grows = so_far.grows;
        at_most = omega (arith, so_far.at_most, values_array (items_of so_far.done));
        at_least = λ below. omega (arith, so_far.at_least below, schema_count-list (docs_of (map f v.items)));
      };
    }
