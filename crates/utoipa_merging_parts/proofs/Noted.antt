-- Entries that were put under noted names, and what is left without them.
use Rattle.std.proofs.Common.{◌≡◌, ℕ, List, [], ◌∷◌, Bool, true, false, not, cond, Option, Some, None, refl, sym, ap, ◌∙◌, ◌||◌, String, Global, BTreeMap, Ordering, Less, Equal, Greater, string_bytes, string_cmp, nat_cmp}
use Rattle.std.specs.Option.{is_some}
use Rattle.std.specs.Ordering.{is_eq, match_ordering}
use Rattle.std.specs.Str.{bytes_eq}
use Rattle.std.specs.Cmp.Lexicographic.{slice_cmp}
use Rattle.std.specs.List.{list_any}
use Rattle.std.specs.BTreeMap.{insert_entry, get_by_text, is_at}
use Rattle.std.proofs.lemmas.Cmp.{nat_list_cmp_total, tied_itself}
use Rattle.std.proofs.lemmas.Map.Lookups.{exact_bytes}
use Rattle.std.proofs.lemmas.Map.Text.{is_eq-slice_cmp}
use Rattle.utoipa_base.specs.Fill.{Pairs, put_each}
use Rattle.utoipa_merging.specs.Rules.{where_missing}
use Rattle.utoipa_merging.proofs.Lookups.{found}
use Rattle.utoipa_merging.proofs.PutEach.{found-insert_entry}
use Rattle.utoipa_merging.proofs.Options.{or_false}
use Rattle.utoipa_merging_parts.specs.Filled.{Names, without}

-- whether the name is among them
abbrev pub is_noted : Names → List ℕ → Bool
is_noted names name = is_some (get_by_text names name)

-- ---- entries and names

left_out : {A : Type 0} (b : Bool) (x : A) (xs : List A) → b ≡ true → cond (not b) (x ∷ xs) xs ≡ xs
left_out true x xs is = refl
left_out false x xs is = cc

left_in : {A : Type 0} (b : Bool) (x : A) (xs : List A) → b ≡ false → cond (not b) (x ∷ xs) xs ≡ x ∷ xs
left_in true x xs is = cc
left_in false x xs is = refl

without_put_at : {X : Type 0} (o : Ordering) (names : Names) (e : String Global × X) (es : Pairs X) (k : String Global) (v : X) → string_cmp k e.0 ≡ o → is_noted names (string_bytes k) ≡ true
    → without names (insert_entry string_cmp es k v) ≡ without names es
    → without names (match_ordering o ((k, v) ∷ e ∷ es) ((e.0, v) ∷ es) (e ∷ insert_entry string_cmp es k v)) ≡ without names (e ∷ es)
without_put_at Less names e es k v is noted later = left_out (is_noted names (string_bytes k)) (k, v) (without names (e ∷ es)) noted
without_put_at Equal names e es k v is noted later =
    let here : is_noted names (string_bytes e.0) ≡ true = ap (is_noted names) (sym (exact_bytes (string_bytes k) (string_bytes e.0) is)) ∙ noted in
    left_out (is_noted names (string_bytes e.0)) (e.0, v) (without names es) here ∙ sym (left_out (is_noted names (string_bytes e.0)) e (without names es) here)
without_put_at Greater names e es k v is noted later = ap (λ l. cond (not (is_noted names (string_bytes e.0))) (e ∷ l) l) later

-- an entry that was put under a noted name goes again
without_put : {X : Type 0} (names : Names) (es : Pairs X) (k : String Global) (v : X) → is_noted names (string_bytes k) ≡ true → without names (insert_entry string_cmp es k v) ≡ without names es
without_put names [] k v noted = left_out (is_noted names (string_bytes k)) (k, v) [] noted
without_put names (e ∷ es) k v noted = without_put_at (string_cmp k e.0) names e es k v refl noted (without_put names es k v noted)

some_first : {X : Type 0} (b : Bool) (x : X) (o : Option X) → b ≡ true → is_some (cond b (Some x) o) ≡ true
some_first true x o is = refl
some_first false x o is = cc

some_later : {X : Type 0} (b : Bool) (x : X) (o : Option X) → is_some o ≡ true → is_some (cond b (Some x) o) ≡ true
some_later true x o h = refl
some_later false x o h = h

found_first : {X : Type 0} (e : String Global × X) (es : Pairs X) → is_some (found (e ∷ es) (string_bytes e.0)) ≡ true
found_first e es = some_first (is_eq (slice_cmp nat_cmp (string_bytes e.0) (string_bytes e.0))) e.1 (found es (string_bytes e.0)) (ap is_eq (tied_itself nat_list_cmp_total (string_bytes e.0)))

found_later : {X : Type 0} (e : String Global × X) (es : Pairs X) (name : List ℕ) → is_some (found es name) ≡ true → is_some (found (e ∷ es) name) ≡ true
found_later e es name h = some_later (is_eq (slice_cmp nat_cmp name (string_bytes e.0))) e.1 (found es name) h

-- entries that were put under noted names go again
without_put_each : {X : Type 0} (names : Names) (ps es : Pairs X) → ((name : List ℕ) → is_some (found ps name) ≡ true → is_noted names name ≡ true) → without names (put_each ps es) ≡ without names es
without_put_each names [] es noted = refl
without_put_each names (p ∷ ps) es noted =
    without_put_each names ps (insert_entry string_cmp es p.0 p.1) (λ name h. noted name (found_later p ps name h)) ∙ without_put names es p.0 p.1 (noted (string_bytes p.0) (found_first p ps))

-- entries under other names stay
without_none : {X : Type 0} (names : Names) (es : Pairs X) → ((name : List ℕ) → is_some (found es name) ≡ true → is_noted names name ≡ false) → without names es ≡ es
without_none names [] other = refl
without_none names (e ∷ es) other =
    ap (λ l. cond (not (is_noted names (string_bytes e.0))) (e ∷ l) l) (without_none names es (λ name h. other name (found_later e es name h)))
    ∙ left_in (is_noted names (string_bytes e.0)) e es (other (string_bytes e.0) (found_first e es))

not_missing : {X : Type 0} (o later : Option X) → is_some o ≡ true → is_some (where_missing o later) ≡ false
not_missing None later h = cc
not_missing (Some x) later h = refl

-- a map that was filled is the one before, without the names that were missing
pub goes_back : {X : Type 0} (names : Names) (missing old later : BTreeMap (String Global) X) (new : Pairs X) → ((name : List ℕ) → is_noted names name ≡ is_some (get_by_text missing name))
    → ((name : List ℕ) → get_by_text missing name ≡ where_missing (get_by_text old name) (get_by_text later name)) → new ≡ put_each missing.entries old.entries → without names new ≡ old.entries
goes_back names missing old later new noted missed is =
    ap (without names) is
    ∙ without_put_each names missing.entries old.entries (λ name h. noted name ∙ h)
    ∙ without_none names old.entries (λ name h. noted name ∙ ap is_some (missed name) ∙ not_missing (get_by_text old name) (get_by_text later name) h)

-- ---- the names of a map's entries

-- whether one of the keys that are still to come is the name
abbrev pub is_to_come : List ℕ → List (String Global) → Bool
is_to_come name ks = list_any (is_at (λ k. slice_cmp nat_cmp name (string_bytes k))) ks

one_more : {X : Type 0} (b later : Bool) (x : X) (o : Option X) → (is_some (cond b (Some x) o) || later) ≡ (is_some o || (b || later))
one_more true true x None = refl
one_more true true x (Some y) = refl
one_more true false x None = refl
one_more true false x (Some y) = refl
one_more false later x o = refl

-- the next key is noted
pub noted_step : (names new : Names) (k key : String Global) (rest later : List (String Global)) (all : Bool) (name : List ℕ) → (is_noted names name || is_to_come name rest) ≡ all → rest ≡ k ∷ later → string_bytes key ≡ string_bytes k
    → new.entries ≡ insert_entry string_cmp names.entries key tt → (is_noted new name || is_to_come name later) ≡ all
noted_step names new k key rest later all name before first same is =
    ap (λ es. is_some (found es name) || is_to_come name later) is
    ∙ ap (λ o. is_some o || is_to_come name later) (found-insert_entry names.entries key tt name)
    ∙ one_more (bytes_eq name (string_bytes key)) (is_to_come name later) tt (found names.entries name)
    ∙ ap (λ b. is_noted names name || (b || is_to_come name later)) (ap (bytes_eq name) same ∙ sym (is_eq-slice_cmp name (string_bytes k)))
    ∙ ap (λ ks. is_noted names name || is_to_come name ks) (sym first)
    ∙ before

pub noted_all : (names : Names) (rest : List (String Global)) (all : Bool) (name : List ℕ) → (is_noted names name || is_to_come name rest) ≡ all → rest ≡ [] → is_noted names name ≡ all
noted_all names rest all name before none = sym (or_false (is_noted names name)) ∙ ap (λ ks. is_noted names name || is_to_come name ks) (sym none) ∙ before
