-- Objects whose members come from tokens, one after the other: the members so far, in the order of their names.
use Rattle.std.proofs.Common.{◌≡◌, ◌∙◌, ◌≤◌, ◌<◌, ◌+◌, ◌-◌, ℕ, List, ◌∷◌, length, Bool, true, false, cond, not, Option, Some, None, refl, sym, ap, arith, nat_cmp, Ordering, Less, Equal, Greater}
use Rattle.std.proofs.lemmas.Cmp.{nat_list_cmp_total}
use Rattle.std.proofs.lemmas.Map.Text.{is_eq-slice_cmp}
use Rattle.std.proofs.lemmas.Slice.Eq.{bytes_eq-Decides}
use Rattle.std.specs.Ordering.{match_ordering, ordering_reverse, is_eq}
use Rattle.std.specs.Cmp.Lexicographic.{slice_cmp}
use Rattle.json.specs.Json.{parse_map, read_key, members, value}
use Rattle.json.specs.Token as token
use Rattle.json.specs.Token.{Token}
use Rattle.serde_json.specs.Data.{Data, object, Members, no_members, member, put}
use Rattle.serde_json.specs.Find.{get_member}
use Rattle.serde_json.specs.Read.{of_json, of_members, converted}
use Rattle.serde_json.specs.Written.{members_have_float}
use Rattle.utoipa_base.specs.Extensions.{is_extension, extension_members}
use Rattle.utoipa_base.specs.FromTokens.{Comes}
use Rattle.utoipa_base.specs.Reading.{Parts, parts, entry_parts, is_null, reader}
use Rattle.utoipa_base.specs.Values.{values, members_values}
use Rattle.utoipa_base.proofs.TokenGrammar.{value-begin_object, read_key-shorter}
use Rattle.utoipa_base.proofs.TokenTrees.{converted-object, member_read, members_over, put_plain}

-- ---- names that ascend

-- the name comes before those of the members
abbrev pub IsBelow : List ℕ → Members → Type 0
IsBelow k no_members = Unit {0}
IsBelow k (member l d ms) = (slice_cmp nat_cmp k l ≡ Less) × IsBelow k ms

-- each name comes before the later ones
abbrev pub InOrder : Members → Type 0
InOrder no_members = Unit {0}
InOrder (member k d ms) = IsBelow k ms × InOrder ms

-- a name before one that comes before all
below_all : (k l : List ℕ) (ms : Members) → slice_cmp nat_cmp k l ≡ Less → IsBelow l ms → IsBelow k ms
below_all k l no_members h b = tt
below_all k l (member m d ms) h b = (nat_list_cmp_total.trans k l m h b.0, below_all k l ms h b.1)

-- what comes after, comes before when turned
turned : (k l : List ℕ) → slice_cmp nat_cmp k l ≡ Greater → slice_cmp nat_cmp l k ≡ Less
turned k l h = nat_list_cmp_total.antisymm l k ∙ ap ordering_reverse h

-- a name before all, and before one more, by the place of that one
below_put_at : (o : Ordering) (j k l : List ℕ) (d e : Data) (ms more : Members) → slice_cmp nat_cmp j k ≡ Less → slice_cmp nat_cmp j l ≡ Less → IsBelow j ms → IsBelow j more
    → IsBelow j (match_ordering o (member k d (member l e ms)) (member l d ms) (member l e more))
below_put_at Less j k l d e ms more h g b p = (h, (g, b))
below_put_at Equal j k l d e ms more h g b p = (g, b)
below_put_at Greater j k l d e ms more h g b p = (g, p)

-- a name before all, and before one more
below_put : (j k : List ℕ) (d : Data) (ms : Members) → slice_cmp nat_cmp j k ≡ Less → IsBelow j ms → IsBelow j (put k d ms)
below_put j k d no_members h b = (h, tt)
below_put j k d (member l e ms) h b = below_put_at (slice_cmp nat_cmp k l) j k l d e ms (put k d ms) h b.0 b.1 (below_put j k d ms h b.1)

-- names that ascend, with one more, by its place
order_put_at : (o : Ordering) (k l : List ℕ) (d e : Data) (ms : Members) → slice_cmp nat_cmp k l ≡ o → InOrder (member l e ms) → InOrder (put k d ms)
    → InOrder (match_ordering o (member k d (member l e ms)) (member l d ms) (member l e (put k d ms)))
order_put_at Less k l d e ms is a p = ((is, below_all k l ms is a.0), a)
order_put_at Equal k l d e ms is a p = a
order_put_at Greater k l d e ms is a p = (below_put l k d ms (turned k l is) a.0, p)

-- names that ascend, with one more
pub order_put : (k : List ℕ) (d : Data) (ms : Members) → InOrder ms → InOrder (put k d ms)
order_put k d no_members a = (tt, tt)
order_put k d (member l e ms) a = order_put_at (slice_cmp nat_cmp k l) k l d e ms refl a (order_put k d ms a.1)

-- ---- the members whose names pass a test

abbrev pub kept : (List ℕ → Bool) → Members → Members
kept t no_members = no_members
kept t (member l e ms) = cond (t l) (member l e (kept t ms)) (kept t ms)

kept_below_at : (b : Bool) (n l : List ℕ) (e : Data) (ms : Members) → slice_cmp nat_cmp n l ≡ Less → IsBelow n ms → IsBelow n (cond b (member l e ms) ms)
kept_below_at true n l e ms h b = (h, b)
kept_below_at false n l e ms h b = b

kept_below : (t : List ℕ → Bool) (n : List ℕ) (ms : Members) → IsBelow n ms → IsBelow n (kept t ms)
kept_below t n no_members b = tt
kept_below t n (member l e ms) b = kept_below_at (t l) n l e (kept t ms) b.0 (kept_below t n ms b.1)

-- before all others, a member is put first
put_first : (n : List ℕ) (d : Data) (ms : Members) → IsBelow n ms → put n d ms ≡ member n d ms
put_first n d no_members b = refl
put_first n d (member l e ms) b = rw b.0 refl

-- texts that compare as equal are equal
same_text : (k l : List ℕ) → slice_cmp nat_cmp k l ≡ Equal → k ≡ l
same_text k l is = (bytes_eq-Decides k l).0 (sym (is_eq-slice_cmp k l) ∙ ap is_eq is)

-- a member in place of another
kept_same : (b : Bool) (n l : List ℕ) (d e : Data) (ms : Members) → slice_cmp nat_cmp n l ≡ Equal → cond b (member l d ms) ms ≡ cond b (put n d (cond b (member l e ms) ms)) (cond b (member l e ms) ms)
kept_same true n l d e ms is = rw is refl
kept_same false n l d e ms is = refl

-- a member that comes later
kept_later : (b c : Bool) (n l : List ℕ) (d e : Data) (ms more : Members) → slice_cmp nat_cmp n l ≡ Greater → more ≡ cond c (put n d ms) ms
    → cond b (member l e more) more ≡ cond c (put n d (cond b (member l e ms) ms)) (cond b (member l e ms) ms)
kept_later true true n l d e ms more is h = rw is (ap (member l e) h)
kept_later true false n l d e ms more is h = ap (member l e) h
kept_later false true n l d e ms more is h = h
kept_later false false n l d e ms more is h = h

kept_put_at : (t : List ℕ → Bool) (o : Ordering) (n l : List ℕ) (d e : Data) (ms : Members) → slice_cmp nat_cmp n l ≡ o → InOrder (member l e ms) → kept t (put n d ms) ≡ cond (t n) (put n d (kept t ms)) (kept t ms)
    → kept t (match_ordering o (member n d (member l e ms)) (member l d ms) (member l e (put n d ms))) ≡ cond (t n) (put n d (kept t (member l e ms))) (kept t (member l e ms))
kept_put_at t Less n l d e ms is ordered h =
    let all : IsBelow n (member l e ms) = (is, below_all n l ms is ordered.0) in
    ap (λ r. cond (t n) r (kept t (member l e ms))) (sym (put_first n d (kept t (member l e ms)) (kept_below t n (member l e ms) all)))
kept_put_at t Equal n l d e ms is ordered h =
    let rest = cond (t l) (member l e (kept t ms)) (kept t ms) in
    kept_same (t l) n l d e (kept t ms) is ∙ ap (λ b. cond b (put n d rest) rest) (ap t (sym (same_text n l is)))
kept_put_at t Greater n l d e ms is ordered h = kept_later (t l) (t n) n l d e (kept t ms) (kept t (put n d ms)) is h

-- one member more
pub kept_put : (t : List ℕ → Bool) (n : List ℕ) (d : Data) (ms : Members) → InOrder ms → kept t (put n d ms) ≡ cond (t n) (put n d (kept t ms)) (kept t ms)
kept_put t n d no_members ordered = refl
kept_put t n d (member l e ms) ordered = kept_put_at t (slice_cmp nat_cmp n l) n l d e ms refl ordered (kept_put t n d ms ordered.1)

kept_extensions : (ms : Members) → kept is_extension ms ≡ extension_members ms
kept_extensions no_members = refl
kept_extensions (member l e ms) = ap (λ r. cond (is_extension l) (member l e r) r) (kept_extensions ms)

-- the extensions, with one more member
pub extensions_put : (b : Bool) (n : List ℕ) (d : Data) (ms : Members) → is_extension n ≡ b → InOrder ms → extension_members (put n d ms) ≡ cond b (put n d (extension_members ms)) (extension_members ms)
extensions_put b n d ms is ordered =
    sym (kept_extensions (put n d ms)) ∙ kept_put is_extension n d ms ordered ∙ ap (λ c. cond c (put n d (kept is_extension ms)) (kept is_extension ms)) is ∙ ap (λ r. cond b (put n d r) r) (kept_extensions ms)

-- the members that are no extensions
abbrev pub others : Members → Members
others ms = kept (λ n. not (is_extension n)) ms

entries_kept_at : (b : Bool) (l : List ℕ) (e : Data) (ps : Parts) (ms : Members) → ps ≡ parts ms → cond b ps ((l, (is_null e, reader e)) ∷ ps) ≡ parts (cond (not b) (member l e ms) ms)
unfolding parts
entries_kept_at true l e ps ms h = h
entries_kept_at false l e ps ms h = ap (λ qs. (l, (is_null e, reader e)) ∷ qs) h

pub entries_kept : (ms : Members) → entry_parts (parts ms) ≡ parts (others ms)
unfolding parts
entries_kept no_members = refl
entries_kept (member l e ms) = entries_kept_at (is_extension l) l e (entry_parts (parts ms)) (others ms) (entries_kept ms)

-- the others, with one more member
pub others_put : (b : Bool) (n : List ℕ) (d : Data) (ms : Members) → is_extension n ≡ b → InOrder ms → others (put n d ms) ≡ cond (not b) (put n d (others ms)) (others ms)
others_put b n d ms is ordered = kept_put (λ k. not (is_extension k)) n d ms ordered ∙ ap (λ c. cond (not c) (put n d (others ms)) (others ms)) is

kept_fewer_at : (b : Bool) (l : List ℕ) (e : Data) (ks ms : Members) → members_values ks ≤ members_values ms → members_values (cond b (member l e ks) ks) ≤ members_values (member l e ms)
unfolding members_values
kept_fewer_at true l e ks ms h = omega (arith, h)
kept_fewer_at false l e ks ms h = omega (arith, h)

-- they have no more values
pub kept_fewer : (t : List ℕ → Bool) (ms : Members) → members_values (kept t ms) ≤ members_values ms
unfolding members_values
kept_fewer t no_members = omega arith
kept_fewer t (member l e ms) = kept_fewer_at (t l) l e (kept t ms) ms (kept_fewer t ms)

-- ---- the values of the members, with one more under a new name

put_values_at : (o : Ordering) (n l : List ℕ) (d e : Data) (ms more : Members) (g : Option Data) → match_ordering o g (Some e) g ≡ None → (g ≡ None → members_values more ≡ members_values ms + values d)
    → members_values (match_ordering o (member n d (member l e ms)) (member l d ms) (member l e more)) ≡ members_values (member l e ms) + values d
unfolding members_values
put_values_at Less n l d e ms more g h later = omega arith
put_values_at Equal n l d e ms more g h later = absurd (cc)
put_values_at Greater n l d e ms more g h later = omega (arith, later h)

pub put_values : (n : List ℕ) (d : Data) (ms : Members) → get_member n ms ≡ None → members_values (put n d ms) ≡ members_values ms + values d
unfolding members_values
put_values n d no_members h = omega arith
put_values n d (member l e ms) h = put_values_at (slice_cmp nat_cmp n l) n l d e ms (put n d ms) (get_member n ms) h (put_values n d ms)

pub values_object : (ms : Members) → values (object ms) ≡ 1 + members_values ms
unfolding values
values_object ms = refl

-- ---- the loop

-- of the tokens `first` of an object's members, those before `now` are the members `found`
pub record MembersSoFar (depth : ℕ) (first now : List Token) (found : Members) : Type 0 where
  pub turns : ℕ
  pub enough : length now ≤ turns
  pub shorter : length now ≤ length first
  pub parsed : converted (λ ms. of_members ms no_members) (members (value depth) (length first) first) ≡ converted (λ ms. of_members ms found) (members (value depth) turns now)
  pub plain : members_have_float found ≡ false
  pub ordered : InOrder found

-- before the first member
pub no_member_yet : (depth : ℕ) (first : List Token) → MembersSoFar depth first first no_members
no_member_yet depth first = record { turns = length first; enough = omega arith; shorter = omega arith; parsed = refl; plain = refl; ordered = tt }

-- one member more: its name, and its tree from the tokens `s`
pub one_member_more : (depth : ℕ) (first now s new : List Token) (n : List ℕ) (d : Data) (found : Members) → MembersSoFar depth first now found → read_key now ≡ Some (Some n, s) → Comes d depth s new → length new < length s
    → MembersSoFar depth first new (put n d found)
one_member_more depth first now s new n d found so_far named comes less =
    let shorter = read_key-shorter now (Some n) s named in
    record {
      turns = so_far.turns - 1;
      enough = omega (arith, so_far.enough, shorter, less);
      shorter = omega (arith, so_far.shorter, shorter, less);
      parsed = so_far.parsed ∙ member_read (value depth) found so_far.turns n now s new d (omega (arith, so_far.enough, shorter)) named comes.next;
      plain = put_plain n d found comes.plain so_far.plain;
      ordered = order_put n d found so_far.ordered;
    }

-- after the last member
pub object_comes : (depth : ℕ) (old first now new : List Token) (found : Members) → 0 < depth → old ≡ token.begin_object ∷ first → MembersSoFar (depth - 1) first now found → read_key now ≡ Some (None, new)
    → Comes (object found) depth old new
object_comes depth old first now new found deep opens so_far ends =
    let p = value (depth - 1) in
    record {
      next = ap (converted of_json) (ap (value depth) opens ∙ value-begin_object depth first deep) ∙ converted-object (members p (length first) first)
          ∙ ap (parse_map object) (so_far.parsed ∙ members_over p found so_far.turns now new so_far.enough ends);
      plain = so_far.plain;
    }
