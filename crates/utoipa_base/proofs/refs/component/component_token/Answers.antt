use Rattle.std.proofs.Common.{◌++◌, codes, None, Some, option_map, sym, ap, ◌∙◌, arith, true≢false}
use Rattle.std.proofs.lemmas.Str.Pattern.{split_parts, contains_char}
use Rattle.serde_json.specs.Find.{unescape}
use Rattle.utoipa_base.specs.References.{component_at, path_of}
use Rattle.utoipa_base.proofs.PointerPaths.{keyed, other_pointer, no_name, inside_component, at_name}
use Rattle.utoipa_base.proofs.refs.component.component_token.Goals as goal

pub returns-in_default : goal.returns-in_default
returns-in_default c = sym (other_pointer c.args.pointer.now c.in_default.ensures.cases)

pub returns-in_default-split_once : goal.returns-in_default-split_once
returns-in_default-split_once c =
    let h = c.in-Some.ensures.cases in
    let is = h.1.1 ∙ ap (λ l. codes "/components/" ++ l) (sym h.2) in
    sym (ap (λ s. component_at (path_of s)) is ∙ no_name c.in-Some.path.now (split_parts 47 c.in-Some.path.now None c.in_default-split_once.ensures.cases (omega arith)))

pub returns-then-contains : goal.returns-then-contains
returns-then-contains c =
    let h = c.in-Some.ensures.cases in
    let is = h.1.1 ∙ ap (λ l. codes "/components/" ++ l) (sym h.2) in
    let field = c.in-Some-split_once.field in
    let token = c.in-Some-split_once.token in
    let parts = split_parts 47 c.in-Some.path.now (Some (field, token)) c.in-Some-split_once.ensures.cases (omega arith) in
    let at = (contains_char 47 token.now c.contains.result c.contains.ensures.cases (omega arith)).0 c.if-contains.true in
    sym (ap (λ s. component_at (path_of s)) is ∙ inside_component c.in-Some.path.now field.now token.now at.0 parts.0 parts.1 at.1 at.2)

pub returns-in-Some-from_text : goal.returns-in-Some-from_text
returns-in-Some-from_text c =
    let h = c.in-Some.ensures.cases in
    let is = h.1.1 ∙ ap (λ l. codes "/components/" ++ l) (sym h.2) in
    let field = c.in-Some-split_once.field in
    let token = c.in-Some-split_once.token in
    let parts = split_parts 47 c.in-Some.path.now (Some (field, token)) c.in-Some-split_once.ensures.cases (omega arith) in
    let at = contains_char 47 token.now c.contains.result c.contains.ensures.cases (omega arith) in
    ap (option_map (keyed (unescape token.now))) c.in-Some-from_text.ensures
    ∙ sym (ap (λ s. component_at (path_of s)) is ∙ at_name c.in-Some.path.now field.now token.now parts.0 parts.1 (λ i less e. true≢false (sym (at.1 i less e) ∙ c.if-contains.false)))

pub returns-in-None : goal.returns-in-None
returns-in-None c =
    let h = c.in-Some.ensures.cases in
    let is = h.1.1 ∙ ap (λ l. codes "/components/" ++ l) (sym h.2) in
    let field = c.in-Some-split_once.field in
    let token = c.in-Some-split_once.token in
    let parts = split_parts 47 c.in-Some.path.now (Some (field, token)) c.in-Some-split_once.ensures.cases (omega arith) in
    let at = contains_char 47 token.now c.contains.result c.contains.ensures.cases (omega arith) in
    ap (option_map (keyed (unescape token.now))) c.in-None.ensures
    ∙ sym (ap (λ s. component_at (path_of s)) is ∙ at_name c.in-Some.path.now field.now token.now parts.0 parts.1 (λ i less e. true≢false (sym (at.1 i less e) ∙ c.if-contains.false)))
