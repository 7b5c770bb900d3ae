use Rattle.std.proofs.Common.{◌≡◌, ◌∙◌, ◌<◌, ◌-◌, ◌∷◌, Some, true, false, length, string_bytes, ap, subst, sym, arith, rules}
use Rattle.json.specs.Json.{read_key}
use Rattle.json.specs.Reads.{token_of}
use Rattle.serde_json.specs.View.{view}
use Rattle.utoipa_base.specs.FromTokens.{Comes}
use Rattle.utoipa_base.specs.OpenRows.{Taken}
use Rattle.utoipa_base.specs.Rows.{texts}
use Rattle.utoipa_base.proofs.TokenTables.{texts_count}
use Rattle.utoipa_large_objects.proofs.MembersRead.{read_begun, read_other, read_taken, members_come}
use Rattle.utoipa_large_objects.proofs.members.members_from_tokens.Goals as goal

pub members-init : goal.members-init
members-init g c = read_begun _ _ _ _ _ _ (c.begin-so_far.ensures.held (texts c.args.names.now) (texts_count c.args.names.now _ c.requires.count)) c.begin-so_far.ensures.no_schema (search rules)

pub members-preserved-then-not-is_row : goal.members-preserved-then-not-is_row
members-preserved-then-not-is_row g c =
    let l = c.members in
    let s = c.next_key.new.self in
    let key : read_key l.reader ≡ Some (Some c.in-Some.name.now, s) = grind arith in
    let first : s ≡ token_of c.in_ok-token.token ∷ c.next.new.self = grind arith in
    let copied : string_bytes c.in_ok-key.key ≡ c.in-Some.name.now = search rules in
    let other = c.in_ok-is_row.ensures.other c.if-not-is_row.true in
    let passed : s ≡ token_of c.in_ok-token.token ∷ c.take.new.reader = first ∙ ap (λ r. token_of c.in_ok-token.token ∷ r) (sym other.2) in
    let done = c.in_ok-other.ensures in
    let new = c.next_tree.new.reader in
    let less : length new < length s = rw passed (omega (arith, done.left)) in
    let comes : Comes (view c.in_ok-other.other) (c.args.depth - 1) s new = record { next = rw passed done.ok; plain = done.plain } in
    rw (other.1, other.3) (read_other _ _ _ _ s _ _ _ _ _ _ _ _ _ l.invariant key less comes copied other.0 c.in_ok-insert.ensures.entries)

pub members-preserved : goal.members-preserved
members-preserved g c =
    let l = c.members in
    let s = c.next_key.new.self in
    let key : read_key l.reader ≡ Some (Some c.in-Some.name.now, s) = grind arith in
    let first : s ≡ token_of c.in_ok-token.token ∷ c.next.new.self = grind arith in
    let less : length c.take.new.reader < length s = rw first (omega (arith, c.in_ok-is_row.ensures.left)) in
    let one : Taken (g.R.RowFields.rows (texts c.args.names.now)) c.in-Some.name.now (g.S.OpenFields.held l.so_far) (g.S.OpenFields.held c.take.new.self) (c.args.depth - 1) s c.take.new.reader l.readings c.take.new.readings =
    subst (λ ts. Taken (g.R.RowFields.rows (texts c.args.names.now)) c.in-Some.name.now (g.S.OpenFields.held l.so_far) (g.S.OpenFields.held c.take.new.self) (c.args.depth - 1) ts c.take.new.reader l.readings c.take.new.readings) (sym first)
    (c.in_ok-is_row.ensures.taken c.if-not-is_row.false) in
    read_taken _ _ _ _ s _ _ _ _ _ _ _ _ c.requires.apart l.invariant key less one

pub returns-clause-read : goal.returns-clause-read
returns-clause-read g c =
    members_come g.R.RowFields.docs _ _ _ _ _ _ _ _ _ _ _ (omega arith) (ap (λ t. token_of t ∷ c.args.reader.now) c.in-BeginObject.is) c.members.invariant (grind arith)
    (c.in_ok-close.ensures.fields (texts c.args.names.now) (texts_count c.args.names.now _ c.requires.count)) c.in_ok-close.ensures.schemas
