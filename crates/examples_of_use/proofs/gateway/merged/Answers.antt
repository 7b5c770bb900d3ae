use Rattle.std.proofs.Common.{◌≡◌, ◌∷◌, [], ◌++◌, ◌∙◌, refl, List, ℕ, Option, None, Some, IsSome, map, ap, sym, subst, string_bytes}
use Rattle.std.specs.List.{AllZip}
use Rattle.std.proofs.lemmas.List.{append-nil, append_assoc, map-append}
use Rattle.std.proofs.lemmas.Slice.Zip.{all_zipped_more}
use Rattle.utoipa_base.specs.Docs.{Doc}
use Rattle.utoipa_base.proofs.Results.{if_is}
use Rattle.utoipa_conflicts.specs.Merged.{told}
use Rattle.utoipa_merging.specs.Merged.{IsMerged}
use Rattle.utoipa_merging.specs.Nested.{IsNested}
use Rattle.utoipa_merging.proofs.ItemWalks.{none_left}
use Rattle.utoipa.specs.OpenApi.{openapi_doc}
use Rattle.examples_of_use.specs.Gateway.{behind, IsNestedOf}
use Rattle.examples_of_use.specs.declared.service.Service.{Service}
use Rattle.examples_of_use.proofs.gateway.merged.Goals as goal

-- ---- the documents of values that are pushed

first_pushed : {D : Type 0} (f : D → Doc) (before after : List D) (x : D) (d : Doc) → after ≡ before ++ x ∷ [] → before ≡ [] → f x ≡ d → map f after ≡ d ∷ []
first_pushed f before after x d pushed none is = ap (map f) (pushed ∙ ap (λ xs. xs ++ x ∷ []) none) ∙ ap (λ y. y ∷ []) is

next_pushed : {D : Type 0} (f : D → Doc) (before after : List D) (x : D) (ds : List Doc) → after ≡ before ++ x ∷ [] → map f before ≡ ds → map f after ≡ ds ++ f x ∷ []
next_pushed f before after x ds pushed are = ap (map f) pushed ∙ map-append f before (x ∷ []) ∙ ap (λ es. es ++ f x ∷ []) are

none_listed : {D : Type 0} (f : D → Doc) (xs : List D) (d : Doc) (ds : List Doc) → map f xs ≡ d ∷ ds → xs ≡ [] → ⊥
none_listed f xs d ds are none = let absent = sym (ap (map f) none) ∙ are in cc

-- ---- the loop

pub loop-base-init : goal.loop-base-init
loop-base-init c = record {
  passed = c.into_iter-base-iterator.ensures.into_iter_gives.0;
  nested = [];
  each = tt;
  documents =
      first_pushed openapi_doc c.new-documents.result.items c.push.new.self.items c.in_ok-try_clone.field-0 (openapi_doc c.args.own)
      c.in_ok-push.ensures.items c.new-documents.ensures.items c.in_ok-try_clone.ensures;
}

-- what comes of a copy of the gateway's own document comes of that document
of_copy : (s : Service) (base : List ℕ) (own copy d : Doc) → base ≡ string_bytes s.base → copy ≡ own
    → IsNested (behind base (openapi_doc s.document)) copy (openapi_doc s.document) d → IsNestedOf own s d
of_copy s base own copy d is same h =
    subst (λ o. IsNestedOf o s d) same (subst (λ b. IsNested (behind b (openapi_doc s.document)) copy (openapi_doc s.document) d) is h)

pub loop-base-preserved : goal.loop-base-preserved
loop-base-preserved c =
    let before = c.loop-base.invariant in
    let service = c.in-Some.field-0 in
    let own = openapi_doc c.args.own in
    let document = c.in_ok-nest.field-0 in
    record {
      passed = append_assoc c.loop-base.yielded (service ∷ []) _ ∙ ap (λ l. c.loop-base.yielded ++ l) (sym c.in-Some.ensures.steps.0) ∙ before.passed;
      nested = before.nested ++ openapi_doc document ∷ [];
      each =
          all_zipped_more (IsNestedOf own) c.loop-base.yielded before.nested service (openapi_doc document) before.each
          (of_copy service c.as_str.result.now own (openapi_doc c.in_ok-copy.copy) (openapi_doc document)
          c.as_str.ensures.value c.in_ok-copy.ensures c.in_ok-nest.ensures.ok);
      documents =
          next_pushed openapi_doc c.loop-base.documents.items c.push-in-loop-base.new.self.items document (own ∷ before.nested)
          c.in_ok-push-2.ensures.items before.documents;
    }

-- ---- what is answered

there : {T : Type 0} (o : Option T) → (o ≡ None → ⊥) → IsSome o
there None h = absurd (h refl)
there (Some x) h = refl

pub unwrap-document-requires : goal.unwrap-document-requires
unwrap-document-requires c =
    there c.in_ok-merge_all.field-0
    (λ none. none_listed openapi_doc c.loop-base.documents.items (openapi_doc c.args.own) c.loop-base.invariant.nested c.loop-base.invariant.documents (c.in_ok-merge_all.ensures.some none))

pub returns : goal.returns
returns c =
    let before = c.loop-base.invariant in
    let rest = c.loop-base.base-iterator.rest in
    let none = none_left rest.items rest.len rest.ok.0 c.in-None.ensures.steps.0 in
    let all : c.loop-base.yielded ≡ c.args.services.items = sym (append-nil c.loop-base.yielded) ∙ ap (λ l. c.loop-base.yielded ++ l) (sym none) ∙ before.passed in
    record {
      nested = before.nested;
      each = subst (λ services. AllZip (IsNestedOf (openapi_doc c.args.own)) services before.nested) all before.each;
      merged = subst (λ ds. IsMerged ds (openapi_doc c.unwrap-document.result)) before.documents (if_is _ _ _ c.in_ok-merge_all.ensures.ok c.unwrap-document.ensures);
      dropped = c.in_ok-conflicts.ensures.exact ∙ ap (λ ds. told (map openapi_doc ds)) c.deref.ensures.value ∙ ap told before.documents;
    }
