-- Objects of which some members are read one by one.
use Rattle.std.proofs.Common.{◌≡◌, ◌∙◌, ◌≤◌, ◌<◌, ◌+◌, ◌-◌, inl, inr, ℕ, List, [], ◌∷◌, length, Bool, true, false, ◌||◌, Option, Some, None, Ok, nat_cmp, Ordering, Less, Equal, Greater, String, Global, string_bytes, string_cmp, true≢false, refl, sym, ap, subst, arith}
use Rattle.std.proofs.lemmas.Slice.Eq.{bytes_eq-Decides}
use Rattle.std.specs.BTreeMap.{insert_entry}
use Rattle.std.proofs.lemmas.Cmp.{nat_list_cmp_total}
use Rattle.std.specs.Cmp.Lexicographic.{slice_cmp}
use Rattle.std.specs.Ordering.{match_ordering}
use Rattle.std.specs.Str.{bytes_eq}
use Rattle.json.specs.Json.{read_key}
use Rattle.json.specs.Token as token
use Rattle.json.specs.Token.{Token}
use Rattle.serde_json.specs.Data.{Data, object, Members, no_members, member, put}
use Rattle.serde_json.specs.Find.{get_member}
use Rattle.serde_json.specs.View.{view, members_view}
use Rattle.serde_json.specs.declared.value.Value.{Value}
use Rattle.serde_json.proofs.Views.{members_view-insert_entry, get_member-put, get_member-put_other}
use Rattle.utoipa_base.specs.Docs.{Doc, table_doc, Docs, no_docs, doc}
use Rattle.utoipa_base.specs.Extensions.{is_extension, extension_members, extensions_at, some_if_any}
use Rattle.utoipa_base.specs.Fields.{field, field_of, fields}
use Rattle.utoipa_base.specs.FromTokens.{Comes, FromTokens}
use Rattle.utoipa_base.specs.Kinds.{ObjectType, Row, named}
use Rattle.utoipa_base.specs.OpenRows.{Held, AreHeld, IsHeld, Takes, Taken, held_fields, held_schema_count, is_row}
use Rattle.utoipa_base.specs.Reading.{read, both}
use Rattle.utoipa_base.specs.Reads.{Reads}
use Rattle.utoipa_base.specs.Rows.{rows_values}
use Rattle.utoipa_base.specs.Tables.{table, has_extensions}
use Rattle.utoipa_base.specs.Values.{values, values_of, members_values, schema_count, docs_schema_count}
use Rattle.utoipa_base.proofs.BoolFacts.{or_first, or_second, apart}
use Rattle.utoipa_base.proofs.ByRows.{table_fits, table_refused}
use Rattle.utoipa_base.proofs.Places.{counted_more, schema_count-table}
use Rattle.utoipa_base.proofs.TableNames.{are_apart}
use Rattle.utoipa_base.proofs.TokenMembers.{MembersSoFar, IsBelow, InOrder, order_put, put_values, values_object, extensions_put, no_member_yet, one_member_more, object_comes}
use Rattle.utoipa_base.proofs.TokenTables.{extension_no_row, taken_held, taken_values, taken_counted, held_read}
use Rattle.utoipa_large_objects.specs.Members.{MembersFromTokens, replaced, with_fields}

-- ---- what is held, where a member is no row's

other_held : (rs : List Row) (os : Held) (ms : Members) (n : List ℕ) (d : Data) → is_row n rs ≡ false → AreHeld rs os ms → AreHeld rs os (put n d ms)
other_held [] [] ms n d unlike h = tt
other_held [] (o ∷ os) ms n d unlike h = absurd h
other_held (r ∷ rs) [] ms n d unlike h = absurd h
other_held (r ∷ rs) (o ∷ os) ms n d unlike h =
    let differs = apart n r.name (or_first (bytes_eq n r.name) (is_row n rs) unlike) in
    (subst (λ g. IsHeld r o g) (sym (get_member-put_other r.name n d ms (λ same. differs (sym same)))) h.0, other_held rs os ms n d (or_second (bytes_eq n r.name) (is_row n rs) unlike) h.1)

other_values : (rs : List Row) (ms : Members) (n : List ℕ) (d : Data) → is_row n rs ≡ false → rows_values rs (object (put n d ms)) ≡ rows_values rs (object ms)
other_values [] ms n d unlike = refl
other_values (r ∷ rs) ms n d unlike =
    let differs = apart n r.name (or_first (bytes_eq n r.name) (is_row n rs) unlike) in
    omega (arith, ap values_of (get_member-put_other r.name n d ms (λ same. differs (sym same))), other_values rs ms n d (or_second (bytes_eq n r.name) (is_row n rs) unlike))

none_values : (rs : List Row) → rows_values rs (object no_members) ≡ 0
unfolding values_of
none_values [] = refl
none_values (r ∷ rs) = omega (arith, none_values rs)

no_values : members_values no_members ≡ 0
unfolding members_values
no_values = refl

-- ---- the values of members, with one under a name that another may have

none_below : (n : List ℕ) (ms : Members) → IsBelow n ms → get_member n ms ≡ None
none_below n no_members b = refl
none_below n (member l e ms) b = rw b.0 (none_below n ms b.1)

below_later : (k l : List ℕ) (ms : Members) → slice_cmp nat_cmp k l ≡ Less → IsBelow l ms → IsBelow k ms
below_later k l no_members h b = tt
below_later k l (member m d ms) h b = (nat_list_cmp_total.trans k l m h b.0, below_later k l ms h b.1)

put_over_at : (o : Ordering) (n l : List ℕ) (d e : Data) (ms more : Members) → slice_cmp nat_cmp n l ≡ o → IsBelow l ms → members_values more + values_of (get_member n ms) ≡ members_values ms + values d
    → members_values (match_ordering o (member n d (member l e ms)) (member l d ms) (member l e more)) + values_of (match_ordering o (get_member n ms) (Some e) (get_member n ms)) ≡ members_values (member l e ms) + values d
unfolding members_values values_of
put_over_at Less n l d e ms more is b later = omega (arith, ap values_of (none_below n ms (below_later n l ms is b)))
put_over_at Equal n l d e ms more is b later = omega arith
put_over_at Greater n l d e ms more is b later = omega (arith, later)

put_over : (n : List ℕ) (d : Data) (ms : Members) → InOrder ms → members_values (put n d ms) + values_of (get_member n ms) ≡ members_values ms + values d
unfolding members_values values_of
put_over n d no_members a = omega arith
put_over n d (member l e ms) a = put_over_at (slice_cmp nat_cmp n l) n l d e ms (put n d ms) refl a.0 (put_over n d ms a.1)

-- ---- what takes a member has its name

or_false : (b : Bool) → b || true ≡ true
or_false true = refl
or_false false = refl

taken_row : (rs : List Row) (n : List ℕ) (d : Data) (x : Doc) (os ps : Held) → Takes rs n d x os ps → is_row n rs ≡ true
taken_row [] n d x os ps h = absurd h
taken_row (r ∷ rs) n d x [] ps h = absurd h
taken_row (r ∷ rs) n d x (o ∷ os) [] h = absurd h
taken_row (r ∷ rs) n d x (o ∷ os) (p ∷ ps) (inl h) = ap (λ b. b || is_row n rs) ((bytes_eq-Decides n r.name).1 (sym h.0))
taken_row (r ∷ rs) n d x (o ∷ os) (p ∷ ps) (inr h) = ap (λ b. bytes_eq n r.name || b) (taken_row rs n d x os ps h.2) ∙ or_false (bytes_eq n r.name)

-- and before, there was none
nothing_held : (r : Row) (o : Option Doc) (g : Option Data) → o ≡ None → IsHeld r o g → g ≡ None
nothing_held r None None none h = refl
nothing_held r None (Some d) none h = absurd h
nothing_held r (Some x) g none h = absurd (cc)

taken_new : (rs : List Row) (n : List ℕ) (d : Data) (x : Doc) (os ps : Held) (ms : Members) → Takes rs n d x os ps → AreHeld rs os ms → get_member n ms ≡ None
taken_new [] n d x os ps ms h held = absurd h
taken_new (r ∷ rs) n d x [] ps ms h held = absurd h
taken_new (r ∷ rs) n d x (o ∷ os) [] ms h held = absurd h
taken_new (r ∷ rs) n d x (o ∷ os) (p ∷ ps) ms (inl h) held = ap (λ k. get_member k ms) (sym h.0) ∙ nothing_held r o _ h.1 held.0
taken_new (r ∷ rs) n d x (o ∷ os) (p ∷ ps) ms (inr h) held = taken_new rs n d x os ps ms h.2 held.1

plain_name : (b : Bool) (n : List ℕ) (rs : List Row) → is_extension n ≡ b → are_apart rs ≡ true → is_row n rs ≡ true → is_extension n ≡ false
plain_name false n rs is a row = is
plain_name true n rs is a row = absurd (true≢false (sym row ∙ extension_no_row n rs is a))

-- ---- the members so far

pub record ReadSoFar (rs : List Row) (depth : ℕ) (first now : List Token) (os : Held) (xs : List (String Global × Value)) (start count : ℕ) : Type 0 where
  pub found : Members
  pub members : MembersSoFar depth first now found
  pub ordered : InOrder (members_view xs)
  pub same : (k : List ℕ) → is_row k rs ≡ false → get_member k (members_view xs) ≡ get_member k found
  pub extensions : extension_members (members_view xs) ≡ extension_members found
  pub held : AreHeld rs os found
  pub fewer : rows_values rs (object found) + members_values (members_view xs) ≤ members_values found
  pub grows : start ≤ count
  pub at_most : count ≤ start + rows_values rs (object found)
  pub at_least : count < 18446744073709551615 → start + held_schema_count os ≤ count

-- before the first
pub read_begun : (rs : List Row) (depth : ℕ) (first : List Token) (os : Held) (xs : List (String Global × Value)) (start : ℕ) → AreHeld rs os no_members → held_schema_count os ≡ 0 → xs ≡ [] → ReadSoFar rs depth first first os xs start start
read_begun rs depth first os xs start held none nothing =
    record {
      found = no_members;
      members = no_member_yet depth first;
      ordered = subst (λ ys. InOrder (members_view ys)) (sym nothing) tt;
      same = λ k other. ap (λ ys. get_member k (members_view ys)) nothing;
      extensions = ap (λ ys. extension_members (members_view ys)) nothing;
      held = held;
      fewer = omega (arith, none_values rs, ap (λ ys. members_values (members_view ys)) nothing, no_values);
      grows = omega arith;
      at_most = omega arith;
      at_least = λ below. omega (arith, none);
    }

put_alike : (q k : List ℕ) (d : Data) (ms ns : Members) (b : Bool) → bytes_eq q k ≡ b → get_member q ms ≡ get_member q ns → get_member q (put k d ms) ≡ get_member q (put k d ns)
put_alike q k d ms ns true is h =
    let same = (bytes_eq-Decides q k).0 is in
    rw same (get_member-put k d ms ∙ sym (get_member-put k d ns))
put_alike q k d ms ns false is h =
    let other = apart q k is in
    get_member-put_other q k d ms other ∙ h ∙ sym (get_member-put_other q k d ns other)

put_both : (b : Bool) (n : List ℕ) (d : Data) (ms ns : Members) → is_extension n ≡ b → InOrder ms → InOrder ns → extension_members ms ≡ extension_members ns → extension_members (put n d ms) ≡ extension_members (put n d ns)
put_both b n d ms ns is first second h = extensions_put b n d ms is first ∙ rw h refl ∙ sym (extensions_put b n d ns is second)

-- a member more that is no row's
pub read_other : (rs : List Row) (depth : ℕ) (first now s new : List Token) (os : Held) (xs ys : List (String Global × Value)) (name : String Global) (n : List ℕ) (v : Value) (start count : ℕ) → ReadSoFar rs depth first now os xs start count
    → read_key now ≡ Some (Some n, s) → length new < length s → Comes (view v) depth s new → string_bytes name ≡ n → is_row n rs ≡ false → ys ≡ insert_entry string_cmp xs name v → ReadSoFar rs depth first new os ys start count
read_other rs depth first now s new os xs ys name n v start count so_far key less comes same_name unlike is =
    let found = so_far.found in
    let e : members_view ys ≡ put n (view v) (members_view xs) = ap members_view is ∙ members_view-insert_entry xs name v ∙ ap (λ k. put k (view v) (members_view xs)) same_name in
    record {
      found = put n (view v) found;
      members = one_member_more depth first now s new n (view v) found so_far.members key comes less;
      ordered = subst InOrder (sym e) (order_put n (view v) (members_view xs) so_far.ordered);
      same = λ k other. ap (get_member k) e ∙ put_alike k n (view v) (members_view xs) found _ refl (so_far.same k other);
      extensions = ap extension_members e ∙ put_both _ n (view v) (members_view xs) found refl so_far.ordered so_far.members.ordered so_far.extensions;
      held = other_held rs os found n (view v) unlike so_far.held;
      fewer = omega (arith, so_far.fewer, other_values rs found n (view v) unlike, ap members_values e, put_over n (view v) (members_view xs) so_far.ordered, put_over n (view v) found so_far.members.ordered, ap values_of (so_far.same n unlike));
      grows = so_far.grows;
      at_most = omega (arith, so_far.at_most, other_values rs found n (view v) unlike);
      at_least = so_far.at_least;
    }

-- a member more that a row has taken
pub read_taken : (rs : List Row) (depth : ℕ) (first now s new : List Token) (os ps : Held) (xs : List (String Global × Value)) (n : List ℕ) (start count next : ℕ) → are_apart rs ≡ true
    → ReadSoFar rs depth first now os xs start count → read_key now ≡ Some (Some n, s) → length new < length s → Taken rs n os ps depth s new count next → ReadSoFar rs depth first new ps xs start next
read_taken rs depth first now s new os ps xs n start count next a so_far key less one =
    let found = so_far.found in
    let d = one.tree in
    let row : is_row n rs ≡ true = taken_row rs n d one.field os ps one.takes in
    let plain : is_extension n ≡ false = plain_name _ n rs refl a row in
    let more = taken_values rs n d one.field os ps found a one.takes so_far.held in
    record {
      found = put n d found;
      members = one_member_more depth first now s new n d found so_far.members key one.comes less;
      ordered = so_far.ordered;
      same = λ k other.
          let differs = λ (h : k ≡ n). true≢false (sym row ∙ ap (λ m. is_row m rs) (sym h) ∙ other) in
          so_far.same k other ∙ sym (get_member-put_other k n d found differs);
      extensions = so_far.extensions ∙ sym (extensions_put false n d found plain so_far.members.ordered);
      held = taken_held rs n d one.field os ps found a one.takes so_far.held;
      fewer = omega (arith, so_far.fewer, more, put_values n d found (taken_new rs n d one.field os ps found one.takes so_far.held));
      grows = omega (arith, so_far.grows, one.grows);
      at_most = omega (arith, so_far.at_most, one.at_most, more);
      at_least = counted_more _ _ _ _ _ _ so_far.at_least one.grows one.at_least (taken_counted rs n d one.field os ps one.takes);
    }

-- after the last
pub members_come : {A : Type 0} (docs : A → Docs) (rs : List Row) (depth : ℕ) (old first now new : List Token) (os : Held) (xs : List (String Global × Value)) (v : A) (start count : ℕ) → 0 < depth → old ≡ token.begin_object ∷ first
    → ReadSoFar rs (depth - 1) first now os xs start count → read_key now ≡ Some (None, new) → held_fields rs os ≡ Some (docs v) → docs_schema_count (docs v) ≤ held_schema_count os → MembersFromTokens rs docs v xs depth old new start count
members_come docs rs depth old first now new os xs v start count deep opens so_far ends read_as fewer =
    record {
      found = so_far.found;
      comes = object_comes depth old first now new so_far.found deep opens so_far.members ends;
      fields = held_read rs os so_far.found so_far.held ∙ read_as;
      same = so_far.same;
      extensions = so_far.extensions;
      put_beside = λ name d plain. extensions_put false name d (members_view xs) plain so_far.ordered ∙ so_far.extensions;
      fewer = so_far.fewer;
      grows = so_far.grows;
      at_most = so_far.at_most;
      at_least = λ below. omega (arith, fewer, so_far.at_least below);
    }

-- ---- the whole object

-- of the rows of a table, those at each true are the others in turn, and those at each false have the names of none of `all`
abbrev pub AreWoven : (all : List Row) → List Bool → (rs bs : List Row) → Type 0
AreWoven all [] [] [] = Unit {0}
AreWoven all [] [] (b ∷ bs) = ⊥
AreWoven all [] (r ∷ rs) bs = ⊥
AreWoven all (o ∷ os) [] bs = ⊥
AreWoven all (true ∷ os) (r ∷ rs) [] = ⊥
AreWoven all (true ∷ os) (r ∷ rs) (b ∷ bs) = (r ≡ b) × AreWoven all os rs bs
AreWoven all (false ∷ os) (r ∷ rs) bs = (is_row r.name all ≡ false) × AreWoven all os rs bs

-- the first field, and those after it
record Fields (o : Option Doc) (p : Option Docs) (ds : Docs) : Type 0 where
  pub head : Doc
  pub tail : Docs
  pub first : o ≡ Some head
  pub rest : p ≡ Some tail
  pub is : ds ≡ doc head tail

abbrev docs_in : Docs → Option Docs → Docs
docs_in d None = d
docs_in d (Some e) = e

first_and_rest : (o : Option Doc) (p : Option Docs) (ds : Docs) → both o p ≡ Some ds → Fields o p ds
first_and_rest None p ds h = absurd (cc)
first_and_rest (Some d) None ds h = absurd (cc)
first_and_rest (Some d) (Some es) ds h = record { head = d; tail = es; first = refl; rest = refl; is = sym (ap (docs_in no_docs) h) }

-- what is read of the others, with the fields of those that were read apart, is what is read of all
fields_whole : (all : List Row) (os : List Bool) (rs bs : List Row) (found left : Members) (ds es : Docs) → AreWoven all os rs bs → ((name : List ℕ) → is_row name all ≡ false → get_member name left ≡ get_member name found)
    → fields rs (object left) ≡ Some ds → fields bs (object found) ≡ Some es → fields rs (object found) ≡ Some (replaced os es ds)
unfolding field fields
fields_whole all [] [] [] found left ds es woven same h apart = h
fields_whole all [] [] (b ∷ bs) found left ds es woven same h apart = absurd woven
fields_whole all [] (r ∷ rs) bs found left ds es woven same h apart = absurd woven
fields_whole all (o ∷ os) [] bs found left ds es woven same h apart = absurd woven
fields_whole all (true ∷ os) (r ∷ rs) [] found left ds es woven same h apart = absurd woven
fields_whole all (true ∷ os) (r ∷ rs) (b ∷ bs) found left ds es woven same h apart =
    let left_fields = first_and_rest (field r (object left)) (fields rs (object left)) ds h in
    let own_fields = first_and_rest (field b (object found)) (fields bs (object found)) es apart in
    let rest = fields_whole all os rs bs found left left_fields.tail own_fields.tail woven.1 same left_fields.rest own_fields.rest in
    let first : field r (object found) ≡ Some own_fields.head = ap (λ x. field x (object found)) woven.0 ∙ own_fields.first in
    rw (left_fields.is, own_fields.is, first, rest) refl
fields_whole all (false ∷ os) (r ∷ rs) bs found left ds es woven same h apart =
    let left_fields = first_and_rest (field r (object left)) (fields rs (object left)) ds h in
    let rest = fields_whole all os rs bs found left left_fields.tail es woven.1 same left_fields.rest apart in
    let first : field r (object found) ≡ Some left_fields.head = ap (field_of r.mark r.kind) (sym (same r.name woven.0)) ∙ left_fields.first in
    rw (left_fields.is, first, rest) refl

-- and it has no more schemas than both
replaced_count : (os : List Bool) (es ds : Docs) → docs_schema_count (replaced os es ds) ≤ docs_schema_count ds + docs_schema_count es
unfolding docs_schema_count
replaced_count [] es ds = omega arith
replaced_count (b ∷ os) es no_docs = omega arith
replaced_count (true ∷ os) no_docs (doc d ds) = omega arith
replaced_count (true ∷ os) (doc e es) (doc d ds) = omega (arith, replaced_count os es ds)
replaced_count (false ∷ os) es (doc d ds) = omega (arith, replaced_count os es ds)

abbrev doc_in : Doc → Option Doc → Doc
doc_in d None = d
doc_in d (Some e) = e

no_doc : (d : Doc) → None ≡ Some d → ⊥
no_doc d h = absurd (cc)

-- what is read of the others, by the fields of their rows
record Others (n : ObjectType) (ms : Members) (d : Doc) : Type 0 where
  pub docs : Docs
  pub all : fields (table n) (object ms) ≡ Some docs
  pub is : d ≡ table_doc n docs (extensions_at (has_extensions n) (object ms))

others_by : (n : ObjectType) (ms : Members) (d : Doc) (o : Option Docs) → fields (table n) (object ms) ≡ o → read (named n) (object ms) ≡ Some d → Others n ms d
others_by n ms d None all is = absurd (no_doc d (sym (table_refused n (object ms) all) ∙ is))
others_by n ms d (Some ds) all is = record { docs = ds; all = all; is = ap (doc_in d) (sym is ∙ table_fits n (object ms) ds _ refl all refl) }

-- an object of which the others were read from a tree, where both parts were counted
read_whole : {A B : Type 0} (n : ObjectType) (os : List Bool) (bs : List Row) (docs : B → Docs) (f : A → Doc) (others : List (String Global × Value)) (left : Members) (v : B) (w : A) (d : Doc) (depth : ℕ) (old new : List Token) (start mid now : ℕ)
    → has_extensions n ≡ true → AreWoven bs os (table n) bs → (one : MembersFromTokens bs docs v others depth old new start mid) → ((name : List ℕ) → is_row name bs ≡ false → get_member name left ≡ get_member name one.found)
    → extension_members left ≡ extension_members one.found → read (named n) (object left) ≡ Some d → f w ≡ with_fields os (docs v) d → start ≤ now → now ≤ start + values (object one.found)
    → (now < 18446744073709551615 → start + (schema_count d + docs_schema_count (docs v)) ≤ now) → FromTokens {A = A} (read (named n)) f w depth old new start now
read_whole n os bs docs f others left v w d depth old new start mid now extended woven one same alike is result_is grows at_most at_least =
    let by = others_by n left d _ refl is in
    let x = extensions_at (has_extensions n) (object left) in
    let e : extensions_at (has_extensions n) (object one.found) ≡ x = ap (λ b. extensions_at b (object one.found)) extended ∙ ap some_if_any (sym alike) ∙ ap (λ b. extensions_at b (object left)) (sym extended) in
    let all : fields (table n) (object one.found) ≡ Some (replaced os (docs v) by.docs) = fields_whole bs os (table n) bs one.found left by.docs (docs v) woven same by.all one.fields in
    let result : f w ≡ table_doc n (replaced os (docs v) by.docs) x = result_is ∙ ap (with_fields os (docs v)) by.is in
    let counted : schema_count (f w) ≡ docs_schema_count (replaced os (docs v) by.docs) = ap schema_count result ∙ schema_count-table n _ x in
    let own : schema_count d ≡ docs_schema_count by.docs = ap schema_count by.is ∙ schema_count-table n by.docs x in
    record {
      tree = object one.found;
      comes = one.comes;
      reads = record {
        ok = table_fits n (object one.found) _ x refl all (sym e) ∙ ap Some (sym result);
        err = tt;
        grows = grows;
        at_most = at_most;
        at_least = λ below. omega (arith, counted, replaced_count os (docs v) by.docs, own, at_least below);
      };
    }

-- an object whose other members were read from their tree
pub read_with_others : {A B C : Type 0} (n : ObjectType) (os : List Bool) (bs : List Row) (docs : B → Docs) (f : A → Doc) (g : C → Doc) (others : List (String Global × Value)) (v : B) (u : C) (w : A) (depth : ℕ) (old new : List Token) (start mid now : ℕ)
    → has_extensions n ≡ true → AreWoven bs os (table n) bs → MembersFromTokens bs docs v others depth old new start mid → Reads {A = C} (read (named n) (object (members_view others))) g (Ok u) mid now (values (object (members_view others)))
    → f w ≡ with_fields os (docs v) (g u) → FromTokens {A = A} (read (named n)) f w depth old new start now
read_with_others n os bs docs f g others v u w depth old new start mid now extended woven one rest same =
    read_whole n os bs docs f others (members_view others) v w (g u) depth old new start mid now extended woven one one.same one.extensions rest.ok same (omega (arith, one.grows, rest.grows))
    (omega (arith, one.at_most, rest.at_most, one.fewer, values_object one.found, values_object (members_view others)))
    (λ below. omega (arith, one.at_least (omega (arith, below, rest.grows)), rest.at_least below))

-- an object whose other members were read without a schema, beside what stands in place of a row's member
pub read_with_plain : {A B : Type 0} (n : ObjectType) (os : List Bool) (bs : List Row) (docs : B → Docs) (f : A → Doc) (others : List (String Global × Value)) (name : List ℕ) (stands : Data) (v : B) (w : A) (d : Doc) (depth : ℕ) (old new : List Token) (start now : ℕ)
    → has_extensions n ≡ true → AreWoven bs os (table n) bs → is_row name bs ≡ true → is_extension name ≡ false → MembersFromTokens bs docs v others depth old new start now → read (named n) (object (put name stands (members_view others))) ≡ Some d
    → schema_count d ≡ 0 → f w ≡ with_fields os (docs v) d → FromTokens {A = A} (read (named n)) f w depth old new start now
read_with_plain n os bs docs f others name stands v w d depth old new start now extended woven row plain one is none same =
    let left = members_view others in
    let alike : (k : List ℕ) → is_row k bs ≡ false → get_member k (put name stands left) ≡ get_member k one.found =
    λ k other. get_member-put_other k name stands left (λ h. true≢false (sym row ∙ ap (λ m. is_row m bs) (sym h) ∙ other)) ∙ one.same k other in
    read_whole n os bs docs f others (put name stands left) v w d depth old new start now now extended woven one alike (one.put_beside name stands plain) is same one.grows
    (omega (arith, one.at_most, one.fewer, values_object one.found))
    (λ below. omega (arith, none, one.at_least below))
