-- The tokens of what was sent to a writer.
use Rattle.std.proofs.Common.{◌≡◌, ◌≤◌, ◌<◌, ◌^◌, ◌∙◌, ℕ, ℤ, pos, negsuc, List, [], ◌∷◌, ◌++◌, Bool, true, false, Float, Some, None, option_map, option_and_then, SFits, w64, decimal, refl, sym, ap, ap₂, subst, arith, append_assoc, append-nil, Result, Ok, Err, OnOk}
use Rattle.std.proofs.lemmas.Bool.{or_parts}
use Rattle.std.specs.Float.{float_is_finite}
use Rattle.std.specs.Fmt.{signed_decimal}
use Rattle.json.specs.Lex.{tokens}
use Rattle.json.specs.Token.{Token}
use Rattle.json.specs.Print.{print}
use Rattle.json.specs.Json as json
use Rattle.json.specs.Tree as tree
use Rattle.json.specs.Written.{Written, Writes}
use Rattle.json.proofs.Printed.Trees.{value-json_tokens}
use Rattle.serde_json.specs.Data.{Num, unsigned, negative, float, Data, null, boolean, number, string, array, object, depth, Items, no_items, item, items_depth, Members, no_members, member, members_depth, put}
use Rattle.serde_json.specs.Find.{of_integer, as_u64, as_i64, to_float}
use Rattle.serde_json.specs.Number.{num_of, is_valid}
use Rattle.serde_json.specs.Read.{number_of, of_json, of_items, of_members, max_depth}
use Rattle.serde_json.specs.Written.{outline, items_outline, members_outline, has_float, items_have_float, members_have_float, compact_text}
use Rattle.serde_json.specs.declared.number.N.{N}
use Rattle.serde_json.specs.declared.number.N.TheVariants.{PosInt, NegInt}
use Rattle.serde_json.specs.declared.number.N.TheVariants as kept
use Rattle.serde_json.proofs.Numbers.{number_of-decimal, number_of-negative}
use Rattle.serde_json.proofs.Texts.{print-outline}
use Rattle.utoipa_base.specs.Events as event
use Rattle.utoipa_base.specs.Events.{Event, events, items_events, members_events}
use Rattle.utoipa_base.specs.Printed.{in_order, items_in_order, put_in_order, IsJsonOf}
use Rattle.utoipa_base.specs.Sent.{IsNumberText, IsTokenOf, AreTokensOf, AddsTokens}

-- ---- one event

sent_by : {E : Type 0} (r : Result (Unit {0}) E) (old new : Written) (e : Event) (t : Token) → IsTokenOf e t → Writes r old new t → OnOk r (AddsTokens old (e ∷ []) new)
sent_by (Ok u) old new e t is wrote = record { before = wrote.room.0; added = (t ∷ [], wrote.ok, (is, tt)) }
sent_by (Err x) old new e t is wrote = tt

pub null_sent : {E : Type 0} (r : Result (Unit {0}) E) (old new : Written) → Writes r old new Token.null → OnOk r (AddsTokens old (event.null ∷ []) new)
null_sent r old new wrote = sent_by r old new event.null Token.null refl wrote

pub boolean_sent : {E : Type 0} (r : Result (Unit {0}) E) (old new : Written) (b : Bool) → Writes r old new (Token.boolean b) → OnOk r (AddsTokens old (event.boolean b ∷ []) new)
boolean_sent r old new b wrote = sent_by r old new (event.boolean b) (Token.boolean b) refl wrote

pub string_sent : {E : Type 0} (r : Result (Unit {0}) E) (old new : Written) (s : List ℕ) → Writes r old new (Token.string s) → OnOk r (AddsTokens old (event.string s ∷ []) new)
string_sent r old new s wrote = sent_by r old new (event.string s) (Token.string s) refl wrote

pub array_begun : {E : Type 0} (r : Result (Unit {0}) E) (old new : Written) → Writes r old new Token.begin_array → OnOk r (AddsTokens old (event.begin_array ∷ []) new)
array_begun r old new wrote = sent_by r old new event.begin_array Token.begin_array refl wrote

pub array_ended : {E : Type 0} (r : Result (Unit {0}) E) (old new : Written) → Writes r old new Token.end_array → OnOk r (AddsTokens old (event.end_array ∷ []) new)
array_ended r old new wrote = sent_by r old new event.end_array Token.end_array refl wrote

pub object_begun : {E : Type 0} (r : Result (Unit {0}) E) (old new : Written) → Writes r old new Token.begin_object → OnOk r (AddsTokens old (event.begin_object ∷ []) new)
object_begun r old new wrote = sent_by r old new event.begin_object Token.begin_object refl wrote

pub object_ended : {E : Type 0} (r : Result (Unit {0}) E) (old new : Written) → Writes r old new Token.end_object → OnOk r (AddsTokens old (event.end_object ∷ []) new)
object_ended r old new wrote = sent_by r old new event.end_object Token.end_object refl wrote

pub key_sent : {E : Type 0} (r : Result (Unit {0}) E) (old new : Written) (k : List ℕ) → Writes r old new (Token.key k) → OnOk r (AddsTokens old (event.key k ∷ []) new)
key_sent r old new k wrote = sent_by r old new (event.key k) (Token.key k) refl wrote

pub ruleset by_events = (null_sent, boolean_sent, string_sent, array_begun, array_ended, object_begun, object_ended, key_sent)

-- ---- a number

-- a text of the number that was written
pub number_sent : {E : Type 0} (r : Result (Unit {0}) E) (old new : Written) (n : Num) (s : List ℕ) → IsNumberText n s → Writes r old new (Token.number s) → OnOk r (AddsTokens old (event.number n ∷ []) new)
number_sent r old new n s is wrote = sent_by r old new (event.number n) (Token.number s) (s, refl, is) wrote

pub text_of_unsigned : (n : ℕ) → n < 2 ^ 64 → IsNumberText (unsigned n) (decimal n)
text_of_unsigned n fits = record { reads = number_of-decimal n fits; whole = λ h. refl }

pub text_of_integer : (z : ℤ) → SFits w64 z → IsNumberText (of_integer z) (signed_decimal z)
text_of_integer (pos n) fits = text_of_unsigned n (grind arith)
text_of_integer (negsuc n) fits = record { reads = number_of-negative n (grind arith); whole = λ h. refl }

-- a number by what it is read as
pub text_by_unsigned : (x : Num) (n : ℕ) → as_u64 x ≡ Some n → n < 2 ^ 64 → IsNumberText x (decimal n)
text_by_unsigned (unsigned m) n is fits = let same : m ≡ n = cc in subst (λ k. IsNumberText (unsigned k) (decimal n)) (sym same) (text_of_unsigned n fits)
text_by_unsigned (negative z) n is fits = absurd cc
text_by_unsigned (float x) n is fits = absurd cc

below_zero : (z : ℤ) → is_valid (NegInt z) ≡ true → SFits w64 z → IsNumberText (negative z) (signed_decimal z)
below_zero (pos n) valid fits = absurd (grind arith)
below_zero (negsuc n) valid fits = text_of_integer (negsuc n) fits

pub text_by_signed : (v : N) (z w : ℤ) → is_valid v ≡ true → as_u64 (num_of v) ≡ None → as_i64 (num_of v) ≡ Some z → w ≡ z → SFits w64 z → IsNumberText (num_of v) (signed_decimal w)
text_by_signed (PosInt n) z w valid none is at fits = absurd cc
text_by_signed (NegInt y) z w valid none is at fits =
    let same : y ≡ z = cc in
    subst (λ q. IsNumberText (num_of (NegInt y)) (signed_decimal q)) (same ∙ sym at) (below_zero y valid (subst (SFits w64) (sym same) fits))
text_by_signed (kept.Float x) z w valid none is at fits = absurd cc

-- a text that is read as a fraction
pub text_by_fraction : (v : N) (x : Float) (s : List ℕ) → as_u64 (num_of v) ≡ None → as_i64 (num_of v) ≡ None → to_float (num_of v) ≡ x → number_of s ≡ Some (float x) → IsNumberText (num_of v) s
text_by_fraction (PosInt n) x s a b is reads = absurd cc
text_by_fraction (NegInt z) x s a b is reads = absurd cc
text_by_fraction (kept.Float y) x s a b is reads = record { reads = reads ∙ ap (λ q. Some (float q)) (sym is); whole = λ h. absurd cc }

-- the token of a fraction that was added
pub fraction_sent : (old new : Written) (n : Num) (s : List ℕ) → IsNumberText n s → new.before ≡ old.before → new.tokens ≡ old.tokens ++ Token.number s ∷ [] → AddsTokens old (event.number n ∷ []) new
fraction_sent old new n s is before wrote = record { before = before; added = (Token.number s ∷ [], wrote, ((s, refl, is), tt)) }

-- no number is neither whole nor finite
pub some_number : (v : N) (x : Float) → is_valid v ≡ true → as_u64 (num_of v) ≡ None → as_i64 (num_of v) ≡ None → to_float (num_of v) ≡ x → float_is_finite x ≡ false → ⊥
some_number (PosInt n) x valid a b is infinite = cc
some_number (NegInt z) x valid a b is infinite = cc
some_number (kept.Float y) x valid a b is infinite = cc

-- ---- the JSON of a tree's tokens

-- tokens begin with JSON that is read as the tree, and go on with those of other events
record BeginsWith (d : Data) (es : List Event) (ts : List Token) : Type 0 where
  value : json.Json
  more : List Token
  tokens : ts ≡ tree.json_tokens value ++ more
  others : AreTokensOf es more
  reads : of_json value ≡ Some (in_order d)
  shallow : tree.depth value ≤ depth d
  plain : has_float d ≡ false → value ≡ outline d

record BeginsWithItems (ds : Items) (es : List Event) (ts : List Token) : Type 0 where
  values : json.Items
  more : List Token
  tokens : ts ≡ tree.items_tokens values ++ more
  others : AreTokensOf es more
  reads : of_items values ≡ Some (items_in_order ds)
  shallow : tree.items_depth values ≤ items_depth ds
  plain : items_have_float ds ≡ false → values ≡ items_outline ds

record BeginsWithMembers (ms found : Members) (es : List Event) (ts : List Token) : Type 0 where
  values : json.Members
  more : List Token
  tokens : ts ≡ tree.members_tokens values ++ more
  others : AreTokensOf es more
  reads : of_members values found ≡ Some (put_in_order ms found)
  shallow : tree.members_depth values ≤ members_depth ms
  plain : members_have_float ms ≡ false → values ≡ members_outline ms

mutual
  unfolding events

  tree_first : (d : Data) (es : List Event) (ts : List Token) → AreTokensOf (events d ++ es) ts → BeginsWith d es ts
  tree_first null es [] are = absurd are
  tree_first null es (t ∷ ts) are = record { value = json.null; more = ts; tokens = ap (λ x. x ∷ ts) are.0; others = are.1; reads = refl; shallow = omega arith; plain = λ h. refl }
  tree_first (boolean b) es [] are = absurd are
  tree_first (boolean b) es (t ∷ ts) are = record { value = json.boolean b; more = ts; tokens = ap (λ x. x ∷ ts) are.0; others = are.1; reads = refl; shallow = omega arith; plain = λ h. refl }
  tree_first (number n) es [] are = absurd are
  tree_first (number n) es (t ∷ ts) are =
      let text = are.0.2 in
      record { value = json.number are.0.0; more = ts; tokens = ap (λ x. x ∷ ts) are.0.1; others = are.1; reads = ap (option_map number) text.reads; shallow = omega arith; plain = λ h. ap json.number (text.whole h) }
  tree_first (string s) es [] are = absurd are
  tree_first (string s) es (t ∷ ts) are = record { value = json.string s; more = ts; tokens = ap (λ x. x ∷ ts) are.0; others = are.1; reads = refl; shallow = omega arith; plain = λ h. refl }
  tree_first (array ds) es [] are = absurd are
  tree_first (array ds) es (t ∷ ts) are =
      let inner = items_first ds es ts (subst (λ xs. AreTokensOf xs ts) (append_assoc (items_events ds) (event.end_array ∷ []) es) are.1) in
      record {
        value = json.array inner.values;
        more = inner.more;
        tokens = ap₂ (λ x xs. x ∷ xs) are.0 inner.tokens;
        others = inner.others;
        reads = ap (option_map array) inner.reads;
        shallow = omega (arith, inner.shallow);
        plain = λ h. ap json.array (inner.plain h);
      }
  tree_first (object ms) es [] are = absurd are
  tree_first (object ms) es (t ∷ ts) are =
      let inner = members_first ms no_members es ts (subst (λ xs. AreTokensOf xs ts) (append_assoc (members_events ms) (event.end_object ∷ []) es) are.1) in
      record {
        value = json.object inner.values;
        more = inner.more;
        tokens = ap₂ (λ x xs. x ∷ xs) are.0 inner.tokens;
        others = inner.others;
        reads = ap (option_map object) inner.reads;
        shallow = omega (arith, inner.shallow);
        plain = λ h. ap json.object (inner.plain h);
      }

  items_first : (ds : Items) (es : List Event) (ts : List Token) → AreTokensOf (items_events ds ++ event.end_array ∷ es) ts → BeginsWithItems ds es ts
  items_first no_items es [] are = absurd are
  items_first no_items es (t ∷ ts) are = record { values = json.no_items; more = ts; tokens = ap (λ x. x ∷ ts) are.0; others = are.1; reads = refl; shallow = omega arith; plain = λ h. refl }
  items_first (item d ds) es ts are =
      let first = tree_first d (items_events ds ++ event.end_array ∷ es) ts (subst (λ xs. AreTokensOf xs ts) (append_assoc (events d) (items_events ds) (event.end_array ∷ es)) are) in
      let later = items_first ds es first.more first.others in
      record {
        values = json.item first.value later.values;
        more = later.more;
        tokens = first.tokens ∙ ap (λ xs. tree.json_tokens first.value ++ xs) later.tokens ∙ sym (append_assoc (tree.json_tokens first.value) (tree.items_tokens later.values) later.more);
        others = later.others;
        reads = ap (option_and_then (λ x. option_map (item x) (of_items later.values))) first.reads ∙ ap (option_map (item (in_order d))) later.reads;
        shallow = omega (arith, first.shallow, later.shallow);
        plain = λ h. let p = or_parts (has_float d) (items_have_float ds) h in ap₂ json.item (first.plain p.0) (later.plain p.1);
      }

  members_first : (ms found : Members) (es : List Event) (ts : List Token) → AreTokensOf (members_events ms ++ event.end_object ∷ es) ts → BeginsWithMembers ms found es ts
  members_first no_members found es [] are = absurd are
  members_first no_members found es (t ∷ ts) are = record { values = json.no_members; more = ts; tokens = ap (λ x. x ∷ ts) are.0; others = are.1; reads = refl; shallow = omega arith; plain = λ h. refl }
  members_first (member k d ms) found es [] are = absurd are
  members_first (member k d ms) found es (t ∷ ts) are =
      let first = tree_first d (members_events ms ++ event.end_object ∷ es) ts (subst (λ xs. AreTokensOf xs ts) (append_assoc (events d) (members_events ms) (event.end_object ∷ es)) are.1) in
      let later = members_first ms (put k (in_order d) found) es first.more first.others in
      record {
        values = json.member k first.value later.values;
        more = later.more;
        tokens = ap₂ (λ x xs. x ∷ xs) are.0 (first.tokens ∙ ap (λ xs. tree.json_tokens first.value ++ xs) later.tokens ∙ sym (append_assoc (tree.json_tokens first.value) (tree.members_tokens later.values) later.more));
        others = later.others;
        reads = ap (option_and_then (λ x. of_members later.values (put k x found))) first.reads ∙ later.reads;
        shallow = omega (arith, first.shallow, later.shallow);
        plain = λ h. let p = or_parts (has_float d) (members_have_float ms) h in ap₂ (json.member k) (first.plain p.0) (later.plain p.1);
      }

none_more : (ts : List Token) → AreTokensOf [] ts → ts ≡ []
none_more [] are = refl
none_more (t ∷ ts) are = absurd are

-- the tokens of a tree, and no others
alone : (d : Data) (ts : List Token) → AreTokensOf (events d) ts → (first : BeginsWith d [] ts) × (ts ≡ tree.json_tokens first.value)
alone d ts are =
    let first = tree_first d [] ts (subst (λ es. AreTokensOf es ts) (sym (append-nil (events d))) are) in
    (first, first.tokens ∙ ap (λ xs. tree.json_tokens first.value ++ xs) (none_more first.more first.others) ∙ append-nil (tree.json_tokens first.value))

-- ---- the text of what was sent

-- the text of a tree's tokens
json_of_tokens : (d : Data) (ts : List Token) → AreTokensOf (events d) ts → tokens (print ts) ≡ ts → IsJsonOf d (print ts)
json_of_tokens d ts are same =
    let a = alone d ts are in
    record {
      has = (ts, refl, are);
      reads_back = λ h. ap (λ o. option_and_then of_json (option_and_then (λ p. json.if_last p.0 p.1) o)) (ap (json.value max_depth) (same ∙ a.1 ∙ sym (append-nil _)) ∙ value-json_tokens a.0.value max_depth [] (omega (arith, a.0.shallow))) ∙ a.0.reads;
    }

-- and where the tree has no fraction
compact_of_tokens : (d : Data) (ts : List Token) → AreTokensOf (events d) ts → has_float d ≡ false → print ts ≡ compact_text d
compact_of_tokens d ts are plain = let a = alone d ts are in ap print (a.1 ∙ ap tree.json_tokens (a.0.plain plain)) ∙ print-outline d

-- what was sent after a text is JSON of the tree
pub json_of_events : (d : Data) (text longer : List ℕ) (old new : Written) → old.before ≡ text → old.tokens ≡ [] → AddsTokens old (events d) new → longer ≡ new.before ++ print new.tokens → tokens (print new.tokens) ≡ new.tokens
    → (added : List ℕ) × (longer ≡ text ++ added) × IsJsonOf d added
json_of_events d text longer old new before none sent is same =
    let ts = sent.added.0 in
    let all : new.tokens ≡ ts = sent.added.1 ∙ ap (λ xs. xs ++ ts) none in
    (print ts, is ∙ ap₂ (λ bs xs. bs ++ print xs) (sent.before ∙ before) all, json_of_tokens d ts sent.added.2 (ap (λ xs. tokens (print xs)) (sym all) ∙ same ∙ all))

-- and where the tree has no fraction
pub text_of_events : (d : Data) (text longer : List ℕ) (old new : Written) → old.before ≡ text → old.tokens ≡ [] → AddsTokens old (events d) new → longer ≡ new.before ++ print new.tokens → has_float d ≡ false → longer ≡ text ++ compact_text d
text_of_events d text longer old new before none sent is plain =
    let ts = sent.added.0 in
    is ∙ ap₂ (λ bs xs. bs ++ print xs) (sent.before ∙ before) (sent.added.1 ∙ ap (λ xs. xs ++ ts) none) ∙ ap (λ bs. text ++ bs) (compact_of_tokens d ts sent.added.2 plain)

-- what was added to no text is the text
pub json_alone : (d : Data) (text longer : List ℕ) → text ≡ [] → (added : List ℕ) × (longer ≡ text ++ added) × IsJsonOf d added → IsJsonOf d longer
json_alone d text longer none json = subst (IsJsonOf d) (sym (json.1 ∙ ap (λ xs. xs ++ json.0) none)) json.2
