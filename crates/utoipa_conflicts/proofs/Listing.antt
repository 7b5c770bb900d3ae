-- What is dropped, document by document.
use Rattle.std.proofs.Common.{◌≡◌, ℕ, ◌+◌, ◌<◌, ◌≤◌, List, [], ◌∷◌, ◌++◌, length, get_or, take, Option, refl, sym, ap, ◌∙◌}
use Rattle.std.proofs.lemmas.Grind.{flat_map-append}
use Rattle.std.proofs.lemmas.List.{append-nil, take_all}
use Rattle.std.specs.BTreeMap.{BTreeMap}
use Rattle.std.specs.List.{flat_map}
use Rattle.serde_json.specs.View.{view}
use Rattle.serde_json.specs.declared.value.Value.{Value}
use Rattle.utoipa_conflicts.specs.Conflicts as specs
use Rattle.utoipa_conflicts.specs.Deciders.{noted, trees_of}
use Rattle.utoipa_conflicts.specs.Views.{all_conflicts}
use Rattle.utoipa_conflicts.specs.declared.conflict.Conflict.{Conflict}
use Rattle.utoipa_conflicts.specs.declared.deciders.Document.{Document}
use Rattle.utoipa_conflicts.specs.declared.holder.Holder.{Holder}
use Rattle.utoipa_conflicts.proofs.Deciding.{trees_more}

-- the same document decides at each slot
each_decided : (now : specs.Holder → Option specs.Numbered) (all : List specs.Numbered) (j : ℕ) (ss : List specs.Filled) → ((h : specs.Holder) → now h ≡ specs.deciding h all)
    → flat_map (λ s. specs.dropped_by j s (now (specs.holder s.0))) ss ≡ flat_map (λ s. specs.dropped_by j s (specs.deciding (specs.holder s.0) all)) ss
each_decided now all j [] decided = refl
each_decided now all j (s ∷ ss) decided =
    ap (λ o. specs.dropped_by j s o ++ flat_map (λ t. specs.dropped_by j t (now (specs.holder t.0))) ss) (decided (specs.holder s.0))
    ∙ ap (λ cs. specs.dropped_by j s (specs.deciding (specs.holder s.0) all) ++ cs) (each_decided now all j ss decided)

-- what is dropped of one document more
pub next_listed : (vs : List Value) (i : ℕ) (v : Value) (m : BTreeMap Holder Document) (slots : List specs.Filled) (before after : List specs.Conflict) → i < length vs → v ≡ get_or vs i v
    → ((h : specs.Holder) → noted m h ≡ specs.deciding h (specs.numbered 0 (trees_of vs))) → slots ≡ specs.slots (view v)
    → before ≡ flat_map (specs.conflicts_of (specs.numbered 0 (trees_of vs))) (specs.numbered 0 (trees_of (take i vs)))
    → after ≡ before ++ flat_map (λ s. specs.dropped_by i s (noted m (specs.holder s.0))) slots
    → after ≡ flat_map (specs.conflicts_of (specs.numbered 0 (trees_of vs))) (specs.numbered 0 (trees_of (take (i + 1) vs)))
next_listed vs i v m slots before after within is decided filled so_far listed =
    let all = specs.numbered 0 (trees_of vs) in
    let more = flat_map (λ s. specs.dropped_by i s (noted m (specs.holder s.0))) slots in
    let here : more ≡ specs.conflicts_of all (i, view v) = ap (flat_map (λ s. specs.dropped_by i s (noted m (specs.holder s.0)))) filled ∙ each_decided (noted m) all i (specs.slots (view v)) decided in
    listed ∙ ap (λ cs. cs ++ more) so_far ∙ ap (λ cs. flat_map (specs.conflicts_of all) (specs.numbered 0 (trees_of (take i vs))) ++ cs) (here ∙ sym (append-nil (specs.conflicts_of all (i, view v))))
    ∙ sym (flat_map-append (specs.conflicts_of all) (specs.numbered 0 (trees_of (take i vs))) ((i, view v) ∷ [])) ∙ ap (flat_map (specs.conflicts_of all)) (sym (trees_more vs i v within is))

-- what is dropped of all documents
pub all_listed : (vs : List Value) (n : ℕ) (cs : List specs.Conflict) → length vs ≤ n → cs ≡ flat_map (specs.conflicts_of (specs.numbered 0 (trees_of vs))) (specs.numbered 0 (trees_of (take n vs))) → cs ≡ specs.conflicts (trees_of vs)
all_listed vs n cs past so_far = so_far ∙ ap (λ xs. flat_map (specs.conflicts_of (specs.numbered 0 (trees_of vs))) (specs.numbered 0 (trees_of xs))) (take_all n vs past)

-- where there is none among what they stand for, there is none
pub none_found : (cs : List Conflict) → all_conflicts cs ≡ [] → cs ≡ []
none_found [] e = refl
none_found (c ∷ cs) e = cc
