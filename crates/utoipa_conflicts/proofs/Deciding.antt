-- Which document decides, document by document.
use Rattle.std.proofs.Common.{◌≡◌, ℕ, suc, ◌+◌, ◌<◌, List, [], ◌∷◌, ◌++◌, length, get_or, take, map, Bool, true, false, if◌then◌else◌, Option, None, Some, refl, sym, ap, ◌∙◌, arith}
use Rattle.std.proofs.lemmas.List.{length-map, map-append, take_more, length-take-le}
use Rattle.std.specs.Option.{option_or}
use Rattle.serde_json.specs.Data.{Data}
use Rattle.serde_json.specs.View.{view}
use Rattle.serde_json.specs.declared.value.Value.{Value}
use Rattle.utoipa_merging.specs.Rules.{first_of, last_of}
use Rattle.utoipa_conflicts.specs.Conflicts.{Holder, has, Rule, first_decides, last_decides, rule, Numbered, numbered, offered, by_rule, deciding}
use Rattle.utoipa_conflicts.specs.Deciders.{with_one, trees_of}

-- ---- one more document

or_none : (o : Option Numbered) → option_or o None ≡ o
or_none None = refl
or_none (Some t) = refl

first_more : (os : List (Option Numbered)) (o : Option Numbered) → first_of (os ++ o ∷ []) ≡ option_or (first_of os) o
first_more [] o = or_none o
first_more (None ∷ os) o = first_more os o
first_more (Some t ∷ os) o = refl

last_more : (os : List (Option Numbered)) (o : Option Numbered) → last_of (os ++ o ∷ []) ≡ option_or o (last_of os)
last_more [] None = refl
last_more [] (Some t) = refl
last_more (p ∷ os) None = ap (λ q. option_or q p) (last_more os None)
last_more (p ∷ os) (Some t) = ap (λ q. option_or q p) (last_more os (Some t))

kept : (t : Numbered) (o : Option Numbered) → option_or o (Some t) ≡ with_one first_decides t o
kept t None = refl
kept t (Some u) = refl

-- an offer that is made, or not
with_offer : (r : Rule) (b : Bool) (t : Numbered) (os : List (Option Numbered)) → by_rule r (os ++ (if b then Some t else None) ∷ []) ≡ (if b then with_one r t (by_rule r os) else by_rule r os)
with_offer first_decides true t os = first_more os (Some t) ∙ kept t (first_of os)
with_offer first_decides false t os = first_more os None ∙ or_none (first_of os)
with_offer last_decides true t os = last_more os (Some t)
with_offer last_decides false t os = last_more os None

deciding_more : (h : Holder) (ts : List Numbered) (t : Numbered) → deciding h (ts ++ t ∷ []) ≡ (if has h t.1 then with_one (rule h) t (deciding h ts) else deciding h ts)
deciding_more h ts t = ap (by_rule (rule h)) (map-append (offered h) ts (t ∷ [])) ∙ with_offer (rule h) (has h t.1) t (map (offered h) ts)

numbered_more : (n : ℕ) (ds : List Data) (d : Data) → numbered n (ds ++ d ∷ []) ≡ numbered n ds ++ (n + length ds, d) ∷ []
numbered_more n [] d = ap (λ k. (k, d) ∷ []) (omega arith)
numbered_more n (e ∷ ds) d = ap (λ ts. (n, e) ∷ ts) (numbered_more (suc n) ds d ∙ ap (λ k. numbered (suc n) ds ++ (k, d) ∷ []) (omega arith))

-- ---- the documents of the program

count : (vs : List Value) (i : ℕ) → i < length vs → 0 + length (trees_of (take i vs)) ≡ i
count vs i within = omega (arith, length-map (take i vs) view, length-take-le i vs (omega arith))

pub trees_more : (vs : List Value) (i : ℕ) (v : Value) → i < length vs → v ≡ get_or vs i v → numbered 0 (trees_of (take (i + 1) vs)) ≡ numbered 0 (trees_of (take i vs)) ++ (i, view v) ∷ []
trees_more vs i v within is =
    ap (λ xs. numbered 0 (trees_of xs)) (take_more vs i v within ∙ ap (λ x. take i vs ++ x ∷ []) (sym is)) ∙ ap (numbered 0) (map-append view (take i vs) (v ∷ [])) ∙ numbered_more 0 (trees_of (take i vs)) (view v)
    ∙ ap (λ k. numbered 0 (trees_of (take i vs)) ++ (k, view v) ∷ []) (count vs i within)

-- the next document was noted at its holders
pub next_decided : (vs : List Value) (i : ℕ) (v : Value) (h : Holder) (among : Bool) (now after : Option Numbered) → i < length vs → v ≡ get_or vs i v → among ≡ has h (view v) → now ≡ deciding h (numbered 0 (trees_of (take i vs)))
    → after ≡ (if among then with_one (rule h) (i, view v) now else now) → after ≡ deciding h (numbered 0 (trees_of (take (i + 1) vs)))
next_decided vs i v h among now after within is found so_far noted =
    noted ∙ ap (λ b. if b then with_one (rule h) (i, view v) now else now) found ∙ ap (λ o. if has h (view v) then with_one (rule h) (i, view v) o else o) so_far
    ∙ sym (deciding_more h (numbered 0 (trees_of (take i vs))) (i, view v)) ∙ ap (deciding h) (sym (trees_more vs i v within is))
