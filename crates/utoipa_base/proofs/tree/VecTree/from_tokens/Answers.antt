use Rattle.std.proofs.Common.{◌≡◌, ◌<◌, ◌-◌, ◌∷◌, None, length, ap, subst, sym, arith}
use Rattle.json.specs.Json.{after_end_array}
use Rattle.json.specs.Reads.{token_of}
use Rattle.utoipa_base.specs.FromTokens.{FromTokens}
use Rattle.utoipa_base.specs.Reading.{read}
use Rattle.utoipa_base.proofs.TokenLists.{begun, step, all_read}
use Rattle.utoipa_base.proofs.tree.VecTree.from_tokens.Goals as goal

pub items-init : goal.items-init
items-init g c = begun _ _ _ _ _ _ c.new-list.ensures.items

pub items-preserved : goal.items-preserved
items-preserved g c =
    let l = c.items in
    let going : (after_end_array l.reader ≡ None) × (c.take_end_array.new.self ≡ l.reader) = grind arith in
    let first : l.reader ≡ token_of c.in_ok-token.token ∷ c.next.new.self = grind arith in
    let less : length c.from_tokens.new.reader < length l.reader = rw first (omega (arith, c.in_ok-item.ensures.left)) in
    let one : FromTokens (read g.T.Documented.kind) g.T.Documented.doc c.in_ok-item.item (c.args.depth - 1) l.reader c.from_tokens.new.reader l.readings c.from_tokens.new.readings =
    subst (λ ts. FromTokens (read g.T.Documented.kind) g.T.Documented.doc c.in_ok-item.item (c.args.depth - 1) ts c.from_tokens.new.reader l.readings c.from_tokens.new.readings) (sym first) c.in_ok-item.ensures.read in
    step _ _ _ _ _ _ _ _ _ _ _ _ l.invariant going.0 less one c.in_ok-push.ensures.items

pub returns-clause-read : goal.returns-clause-read
returns-clause-read g c =
    all_read _ _ _ _ _ _ _ _ _ _ (omega arith) (ap (λ t. token_of t ∷ c.args.reader.now) c.in-BeginArray.is) c.items.invariant c.items-test.ensures
