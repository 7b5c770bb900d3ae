-- What a tree mentions, by its sort, and where a reference may stand.
use Rattle.std.proofs.Common.{◌≡◌, List, [], ◌++◌, Bool, true, false, cond, true≢false, refl, sym, ap, ◌∙◌, subst}
use Rattle.serde_json.specs.Data.{Data, null, boolean, number, string, array, object, Items, Members}
use Rattle.utoipa_base.specs.Kinds.{Kind, ref_or, array_items, additional_properties}
use Rattle.utoipa_base.specs.Tables.{table}
use Rattle.utoipa_tables.specs.declared.kinds.ObjectType.{ObjectType}
use Rattle.utoipa_tables.specs.declared.kinds.ObjectType.TheVariants as types
use Rattle.utoipa_tables.specs.Tables.{type_of}
use Rattle.utoipa_check.specs.Misfits.{Checks, checks}
use Rattle.utoipa_check.specs.Places.{items_at, members_at}
use Rattle.utoipa_check.specs.References.{Mentions, Mentioner, Mentioners, mentioner, item_mentioners, mentioners, rows_mentions, own_mention, named_mentions, schema_mentions, is_reference_object, reference_or, array_mentions, object_mentions, mentions}
use Rattle.utoipa_check.specs.Views.{takes_references, object_kind, own_kind}

-- ---- objects with a member table

pub path_item_mentions : (t : ObjectType) (ms : Members) (fs : Mentioners) → t ≡ types.PathItemObject → own_mention ms ++ rows_mentions (table (type_of t)) fs ≡ named_mentions (type_of t) ms fs
path_item_mentions t ms fs is = subst (λ n. own_mention ms ++ rows_mentions (table (type_of n)) fs ≡ named_mentions (type_of n) ms fs) (sym is) refl

-- what refers by no member of its own
pub other_mentions : (t : ObjectType) (ms : Members) (fs : Mentioners) → (t ≡ types.ReferenceObject → ⊥) → (t ≡ types.DiscriminatorObject → ⊥) → (t ≡ types.PathItemObject → ⊥) → rows_mentions (table (type_of t)) fs ≡ named_mentions (type_of t) ms fs
other_mentions types.ReferenceObject ms fs f g h = absurd (f refl)
other_mentions types.DiscriminatorObject ms fs f g h = absurd (g refl)
other_mentions types.PathItemObject ms fs f g h = absurd (h refl)
other_mentions t ms fs f g h = refl

-- ---- a reference or another choice

twice : (b : Bool) (r own : Mentions) → cond b r (cond b r own) ≡ cond b r own
twice true r own = refl
twice false r own = refl

-- two references in one place are one
idle : (ms : Members) (cs : Checks) (own : Mentions) → reference_or ms cs (reference_or ms cs own) ≡ reference_or ms cs own
idle ms cs own = twice (is_reference_object cs) (own_mention ms) own

-- what an object of a kind mentions where a reference may stand
referring : (k : Kind) (ms : Members) (cs : Checks) (fs : Mentioners) → object_mentions ms cs fs (ref_or k) ≡ reference_or ms cs (object_mentions ms cs fs (object_kind k))
referring (ref_or k) ms cs fs = ap (reference_or ms cs) (referring k ms cs fs) ∙ idle ms cs (object_mentions ms cs fs (object_kind k))
referring array_items ms cs fs = idle ms cs (schema_mentions ms cs fs)
referring additional_properties ms cs fs = idle ms cs (schema_mentions ms cs fs)
referring k ms cs fs = refl

taking_references : (k : Kind) (ms : Members) (cs : Checks) (fs : Mentioners) → takes_references k ≡ true → object_mentions ms cs fs k ≡ reference_or ms cs (object_mentions ms cs fs (object_kind k))
taking_references (ref_or k) ms cs fs e = referring k ms cs fs
taking_references array_items ms cs fs e = refl
taking_references additional_properties ms cs fs e = refl
taking_references k ms cs fs e = absurd (true≢false (sym e))

pub mentions_reference : (k : Kind) (ms : Members) (cs : Checks) (fs : Mentioners) → takes_references k ≡ true → is_reference_object cs ≡ true → object_mentions ms cs fs k ≡ own_mention ms
mentions_reference k ms cs fs takes is = taking_references k ms cs fs takes ∙ ap (λ b. cond b (own_mention ms) (object_mentions ms cs fs (object_kind k))) is

pub mentions_otherwise : (k : Kind) (ms : Members) (cs : Checks) (fs : Mentioners) → takes_references k ≡ true → is_reference_object cs ≡ false → object_mentions ms cs fs k ≡ object_mentions ms cs fs (object_kind k)
mentions_otherwise k ms cs fs takes none = taking_references k ms cs fs takes ∙ ap (λ b. cond b (own_mention ms) (object_mentions ms cs fs (object_kind k))) none

-- ---- trees by their sort

array_own : (fs : List Mentioner) (k : Kind) → array_mentions fs k ≡ array_mentions fs (own_kind k)
array_own fs (ref_or k) = array_own fs k
array_own fs k = refl

pub array_mentioned : (k own : Kind) (d : Data) (ds : Items) → array ds ≡ d → own ≡ own_kind k → mentions k d ≡ array_mentions (item_mentioners (items_at d)) own
unfolding mentioner
array_mentioned k own d ds sort is =
    ap (λ t. mentions k t) (sym sort) ∙ array_own (item_mentioners ds) k ∙ ap (array_mentions (item_mentioners ds)) (sym is) ∙ ap (λ t. array_mentions (item_mentioners (items_at t)) own) sort

pub object_mentioned : (k : Kind) (d : Data) (ms : Members) → object ms ≡ d → mentions k d ≡ object_mentions (members_at d) (checks (members_at d)) (mentioners (members_at d)) k
unfolding mentioner
object_mentioned k d ms sort = ap (λ t. mentions k t) (sym sort) ∙ ap (λ t. object_mentions (members_at t) (checks (members_at t)) (mentioners (members_at t)) k) sort

-- another tree mentions nothing
abbrev is_leaf : Data → Bool
is_leaf (array ds) = false
is_leaf (object ms) = false
is_leaf d = true

pub leaf_mentioned : (k : Kind) (leaf d : Data) → is_leaf leaf ≡ true → leaf ≡ d → mentions k d ≡ []
unfolding mentioner
leaf_mentioned k null d e sort = ap (mentions k) (sym sort)
leaf_mentioned k (boolean b) d e sort = ap (mentions k) (sym sort)
leaf_mentioned k (number n) d e sort = ap (mentions k) (sym sort)
leaf_mentioned k (string s) d e sort = ap (mentions k) (sym sort)
leaf_mentioned k (array ds) d e sort = absurd (true≢false (sym e))
leaf_mentioned k (object ms) d e sort = absurd (true≢false (sym e))
