use Rattle.std.proofs.Common.{ap, map, string_bytes, ◌∙◌, Some, List, ℕ}
use Rattle.utoipa_document_tests.proofs.Callers as caller
use Rattle.utoipa_document_tests.proofs.command.serve_text.Goals as goal

pub returns-clause-answered : goal.returns-clause-answered
returns-clause-answered c =
    let none = ap (map string_bytes) (c.as_slice.ensures.value ∙ c.new-words.ensures.items) in
    let r = c.run.ensures.run in
    λ z. caller.answered _ r.0 _ _ _ _ _ _ _ none r.3 r.1 z

pub returns-clause-told_text : goal.returns-clause-told_text
returns-clause-told_text c =
    let none = ap (map string_bytes) (c.as_slice.ensures.value ∙ c.new-words.ensures.items) in
    let r = c.run.ensures.run in
    λ s. caller.told_text _ r.0 _ _ _ _ none r.3 (ap {A = List ℕ} Some s)

pub returns-clause-told_fraction : goal.returns-clause-told_fraction
returns-clause-told_fraction c =
    let none = ap (map string_bytes) (c.as_slice.ensures.value ∙ c.new-words.ensures.items) in
    let r = c.run.ensures.run in
    λ s. caller.told_fraction _ r.0 _ _ _ _ none r.3 (ap {A = List ℕ} Some s)

pub returns-clause-told_missing : goal.returns-clause-told_missing
returns-clause-told_missing c =
    let none = ap (map string_bytes) (c.as_slice.ensures.value ∙ c.new-words.ensures.items) in
    let r = c.run.ensures.run in
    λ s. caller.told_missing _ r.0 _ _ _ _ none r.3 (ap {A = List ℕ} Some s)

pub returns-clause-no_tree : goal.returns-clause-no_tree
returns-clause-no_tree c =
    let none = ap (map string_bytes) (c.as_slice.ensures.value ∙ c.new-words.ensures.items) in
    let r = c.run.ensures.run in
    λ h. caller.no_tree _ r.0 _ _ _ _ _ _ _ none r.3 r.1 c.requires h

pub returns-clause-fraction : goal.returns-clause-fraction
returns-clause-fraction c =
    let none = ap (map string_bytes) (c.as_slice.ensures.value ∙ c.new-words.ensures.items) in
    let r = c.run.ensures.run in
    λ h. caller.fraction _ r.0 _ _ _ _ _ _ _ none r.3 r.1 c.requires h
