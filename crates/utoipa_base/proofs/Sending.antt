-- Events added to a sink, part by part.
use Rattle.std.proofs.Common.{◌≡◌, ◌<◌, ◌≤◌, ◌+◌, ℕ, ℤ, length, take, get_or, subst, arith, List, [], ◌∷◌, ◌++◌, Bool, map, refl, sym, ap, ◌∙◌, append_assoc, append-nil, String, Global, string_bytes}
use Rattle.std.proofs.lemmas.Grind.{common_steps}
use Rattle.std.proofs.lemmas.List.{map-append, take_more}
use Rattle.serde_json.specs.Data.{Num, Data, unsigned, array, object, Members, no_members, member}
use Rattle.serde_json.specs.Find.{of_integer}
use Rattle.serde_json.specs.View.{items_of}
use Rattle.utoipa_base.specs.Docs.{Doc, text_doc, word_doc, custom_doc, flag_doc, whole_doc, int_doc, uint_doc, tree_doc, any_value_doc, none_doc, some_doc, ref_doc, own_doc}
use Rattle.utoipa_base.specs.Events.{Event, null, boolean, number, string, begin_array, end_array, begin_object, end_object, key, events, items_events, members_events}
use Rattle.utoipa_base.specs.InOrder.{joined}
use Rattle.utoipa_base.specs.Kinds.{Kind}
use Rattle.utoipa_base.specs.Writing.{write}
use Rattle.utoipa_base.proofs.Maps.{members_by}
use Rattle.utoipa_base.proofs.Tokens.{members_by-last}

-- ---- what was added

-- the same under another name
pub added_as : {A : Type 0} (adds : A → List Event → A → Type 0) (a b : A) (es fs : List Event) → es ≡ fs → adds a es b → adds a fs b
added_as adds a b es fs same added = subst (λ x. adds a x b) same added

-- ---- documents of one event

pub events-text : (s : List ℕ) → events (write (text_doc s)) ≡ string s ∷ []
unfolding write events
events-text s = refl

pub events-word : (s : List ℕ) → events (write (word_doc s)) ≡ string s ∷ []
unfolding write events
events-word s = refl

pub events-custom : (s : List ℕ) → events (write (custom_doc s)) ≡ string s ∷ []
unfolding write events
events-custom s = refl

pub events-flag : (b : Bool) → events (write (flag_doc b)) ≡ boolean b ∷ []
unfolding write events
events-flag b = refl

pub events-whole : (n : ℕ) → events (write (whole_doc n)) ≡ number (unsigned n) ∷ []
unfolding write events
events-whole n = refl

pub events-uint : (n : ℕ) → events (write (uint_doc n)) ≡ number (unsigned n) ∷ []
unfolding write events
events-uint n = refl

pub events-int : (z : ℤ) → events (write (int_doc z)) ≡ number (of_integer z) ∷ []
unfolding write events
events-int z = refl

pub events-any_value : events (write any_value_doc) ≡ null ∷ []
unfolding write events
events-any_value = refl

pub events-none : events (write none_doc) ≡ null ∷ []
unfolding write events
events-none = refl

pub write-some : (d : Doc) → write (some_doc d) ≡ write d
unfolding write
write-some d = refl

pub write-tree : (d : Data) → write (tree_doc d) ≡ d
unfolding write
write-tree d = refl

-- ---- trees of one event

pub events-null : events Data.null ≡ null ∷ []
unfolding events
events-null = refl

pub events-boolean : (b : Bool) → events (Data.boolean b) ≡ boolean b ∷ []
unfolding events
events-boolean b = refl

pub events-number : (n : Num) → events (Data.number n) ≡ number n ∷ []
unfolding events
events-number n = refl

pub events-string : (s : List ℕ) → events (Data.string s) ≡ string s ∷ []
unfolding events
events-string s = refl

-- ---- lists

items_events-last : (ds : List Data) (d : Data) → items_events (items_of ds) ++ events d ≡ items_events (items_of (ds ++ d ∷ []))
unfolding events
items_events-last [] d = sym (append-nil (events d))
items_events-last (e ∷ ds) d = append_assoc (events e) (items_events (items_of ds)) (events d) ∙ ap (λ es. events e ++ es) (items_events-last ds d)

-- the events of some items, without the brackets round them
abbrev pub items_by : {X : Type 0} → (X → Data) → List X → List Event
items_by f xs = items_events (items_of (map f xs))

pub no_items_yet : {X : Type 0} (f : X → Data) (xs : List X) → [] ≡ items_by f (take 0 xs)
unfolding events
no_items_yet f xs = refl

pub one_more_item : {X : Type 0} (f : X → Data) (xs : List X) (i : ℕ) (x : X) → i < length xs → x ≡ get_or xs i x → items_by f (take i xs) ++ events (f x) ≡ items_by f (take (i + 1) xs)
one_more_item f xs i x within is =
    items_events-last (map f (take i xs)) (f x)
    ∙ ap (λ ds. items_events (items_of ds)) (sym (ap (map f) (take_more xs i x within ∙ ap (λ y. take i xs ++ y ∷ []) (sym is)) ∙ map-append f (take i xs) (x ∷ [])))

pub whole_list : {X : Type 0} (f : X → Data) (xs ys : List X) (i : ℕ) → length xs ≤ i → xs ≡ ys → (begin_array ∷ [] ++ items_by f (take i xs)) ++ end_array ∷ [] ≡ events (array (items_of (map f ys)))
unfolding events
whole_list f xs ys i past same =
    let all : map f (take i xs) ≡ map f ys = grind (arith, common_steps) in
    ap (λ ds. begin_array ∷ (items_events (items_of ds) ++ end_array ∷ [])) all

-- ---- members

pub no_members_sent : [] ≡ members_events no_members
unfolding events
no_members_sent = refl

pub events-joined : (ms ns : Members) → members_events ms ++ members_events ns ≡ members_events (joined ms ns)
unfolding events
events-joined no_members ns = refl
events-joined (member k d ms) ns = ap (λ es. key k ∷ es) (append_assoc (events d) (members_events ms) (members_events ns) ∙ ap (λ es. events d ++ es) (events-joined ms ns))

pub one_member : (k : List ℕ) (d : Data) → key k ∷ [] ++ events d ≡ members_events (member k d no_members)
unfolding events
one_member k d = ap (λ es. key k ∷ es) (sym (append-nil (events d)))

-- members between their braces
pub whole_object : (ms : Members) → (begin_object ∷ [] ++ members_events ms) ++ end_object ∷ [] ≡ events (object ms)
unfolding events
whole_object ms = refl

-- ---- maps

-- the entries before `left` were sent
pub record EntriesSent {X A : Type 0} (adds : A → List Event → A → Type 0) (f : X → Data) (all left : List (String Global × X)) (old new : A) : Type 0 where
  pub done : List (String Global × X)
  pub split : all ≡ done ++ left
  pub added : adds old (members_events (members_by f done)) new

pub no_entry_sent : {X A : Type 0} (adds : A → List Event → A → Type 0) (f : X → Data) (all left : List (String Global × X)) (a : A) → adds a [] a → left ≡ all → EntriesSent adds f all left a a
no_entry_sent adds f all left a none whole = record { done = []; split = sym whole; added = added_as adds a a [] _ no_members_sent none }

pub one_more_entry : {X A : Type 0} (adds : A → List Event → A → Type 0) (f : X → Data) (both : (a b c : A) (es fs : List Event) → adds a es b → adds b fs c → adds a (es ++ fs) c) (all left : List (String Global × X)) (e : String Global × X) (more : List (String Global × X)) (n : List ℕ) (a b c d : A)
    → EntriesSent adds f all left a b → left ≡ e ∷ more → n ≡ string_bytes e.0 → adds b (key n ∷ []) c → adds c (events (f e.1)) d → EntriesSent adds f all more a d
one_more_entry adds f both all left e more n a b c d so_far rest same names sends = record {
  done = so_far.done ++ e ∷ [];
  split = so_far.split ∙ ap (λ r. so_far.done ++ r) rest ∙ sym (append_assoc so_far.done (e ∷ []) more);
  added = added_as adds a d _ _
      (ap (λ es. members_events (members_by f so_far.done) ++ es) (one_member n (f e.1)) ∙ events-joined (members_by f so_far.done) (member n (f e.1) no_members)
      ∙ ap members_events (ap (λ m. joined (members_by f so_far.done) (member m (f e.1) no_members)) same ∙ members_by-last f so_far.done e))
      (both a b d _ _ so_far.added (both b c d _ _ names sends));
}

pub all_entries_sent : {X A : Type 0} (adds : A → List Event → A → Type 0) (f : X → Data) (all left : List (String Global × X)) (a b : A) → EntriesSent adds f all left a b → left ≡ [] → adds a (members_events (members_by f all)) b
all_entries_sent adds f all left a b so_far none =
    subst (λ es. adds a (members_events (members_by f es)) b) (sym (so_far.split ∙ ap (λ r. so_far.done ++ r) none ∙ append-nil so_far.done)) so_far.added

-- ---- references, and what stands in place of one

pub write-ref : (k : Kind) (d : Doc) → write (ref_doc k d) ≡ write d
unfolding write
write-ref k d = refl

pub write-own : (d : Doc) → write (own_doc d) ≡ write d
unfolding write
write-own d = refl

pub ruleset by_places = (write-ref, write-own)

pub ruleset by_sending = (events-text, events-word, events-custom, events-flag, events-whole, events-uint, events-int, events-any_value, events-none, write-some, write-tree)
