use Rattle.std.proofs.Common.{◌≡◌, ◌<◌, ◌-◌, ◌∷◌, Some, None, length, string_bytes, string_cmp, ap, subst, sym, arith, rules}
use Rattle.std.specs.BTreeMap.{is_at}
use Rattle.std.specs.Map.{lookup}
use Rattle.json.specs.Json.{read_key}
use Rattle.json.specs.Reads.{token_of}
use Rattle.utoipa_base.specs.FromTokens.{FromTokens}
use Rattle.utoipa_base.specs.Reading.{read}
use Rattle.utoipa_base.proofs.TokenMaps.{map_begun, map_step, map_read}
use Rattle.utoipa_base.proofs.tree.BTreeMapStringTree.from_tokens.Goals as goal

pub members-init : goal.members-init
members-init g c = map_begun _ _ _ _ _ _ (search rules)

pub members-preserved : goal.members-preserved
members-preserved g c =
    let l = c.members in
    let s = c.next_key.new.self in
    let named : read_key l.reader ≡ Some (Some c.in-Some.key.now, s) = grind arith in
    let first : s ≡ token_of c.in_ok-token.token ∷ c.next.new.self = grind arith in
    let less : length c.from_tokens.new.reader < length s = rw first (omega (arith, c.in_ok-value.ensures.left)) in
    let one : FromTokens (read g.T.Documented.kind) g.T.Documented.doc c.in_ok-value.value (c.args.depth - 1) s c.from_tokens.new.reader l.readings c.from_tokens.new.readings =
    subst (λ ts. FromTokens (read g.T.Documented.kind) g.T.Documented.doc c.in_ok-value.value (c.args.depth - 1) ts c.from_tokens.new.reader l.readings c.from_tokens.new.readings) (sym first) c.in_ok-value.ensures.read in
    let copied : string_bytes c.in_ok-name.name ≡ c.in-Some.key.now = search rules in
    let fresh : lookup (is_at (string_cmp c.in_ok-name.name)) l.map.entries ≡ None = search rules in
    map_step _ _ _ _ _ s _ _ _ _ _ _ _ _ _ l.invariant named less one copied fresh c.in_ok-earlier.ensures.entries

pub returns-clause-read : goal.returns-clause-read
returns-clause-read g c =
    map_read _ _ _ _ _ _ _ _ _ _ (omega arith) (ap (λ t. token_of t ∷ c.args.reader.now) c.in-BeginObject.is) c.members.invariant (grind arith)
