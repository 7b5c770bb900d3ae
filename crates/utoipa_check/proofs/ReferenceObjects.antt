-- Where a reference may stand.
use Rattle.std.proofs.Common.{◌≡◌, List, [], ◌∷◌, ◌++◌, Bool, true, false, cond, ◌&&◌, ◌||◌, ℕ, ◌+◌, ◌<◌, length, drop, get_or, Option, None, Some, option_map, is_some, codes, refl, sym, ap, ◌∙◌, true≢false, arith}
use Rattle.serde_json.specs.Data.{Data, Members}
use Rattle.serde_json.specs.Find.{get}
use Rattle.utoipa_base.specs.Kinds.{reference_object, text, Kind, ref_or, schema, array_items, additional_properties, required}
use Rattle.utoipa_base.specs.Reading.{is_named}
use Rattle.utoipa_base.proofs.BoolFacts.{and_first, and_second}
use Rattle.utoipa_tables.specs.declared.kinds.Kind as program
use Rattle.utoipa_tables.specs.declared.kinds.Kind.{RefOr', ArrayItems, AdditionalProperties}
use Rattle.utoipa_tables.specs.declared.kinds.Row.{Row}
use Rattle.utoipa_tables.specs.Tables.{kind_of, members_of}
use Rattle.utoipa_check.specs.Misfits.{Misfits, is_fit, unless_fit, Check, Checks, check_at, checks, row_misfits, table_misfits, schema_misfits, ref_or_misfits, reference_or, object_misfits}
use Rattle.utoipa_check.specs.Places.{members_at, kind_layout}
use Rattle.utoipa_check.specs.Rows.{all_plain}
use Rattle.utoipa_check.specs.Views.{takes_references, object_kind, own_kind, is_reference, is_plain_kind}
use Rattle.utoipa_check.proofs.ByRows.{check_of, found_at_name, get_at, row_at}

-- ---- a reference or another choice

unless_or : (b : Bool) (r own : Misfits) (ks : List Kind) → unless_fit (is_fit r || is_fit own) (cond b r own) ks ≡ reference_or b r own
unless_or b [] own ks = refl
unless_or b (x ∷ r) [] ks = refl
unless_or true (x ∷ r) (y ∷ own) ks = refl
unless_or false (x ∷ r) (y ∷ own) ks = refl

by_reference_or : (k : Kind) (own : Misfits) (ms : Members) (cs : Checks) → ref_or_misfits k own ms cs ≡ reference_or (is_named (codes "$ref") ms) (table_misfits reference_object cs) own
by_reference_or k own ms cs = unless_or (is_named (codes "$ref") ms) (table_misfits reference_object cs) own (ref_or k ∷ [])

-- two references in one place are one
idle : (b : Bool) (r own : Misfits) → reference_or b r (reference_or b r own) ≡ reference_or b r own
idle b [] own = refl
idle b (x ∷ r) [] = refl
idle true (x ∷ r) (y ∷ own) = refl
idle false (x ∷ r) (y ∷ own) = refl

-- what does not fit a kind where a reference may stand
referring : (k : Kind) (ms : Members) (cs : Checks) → object_misfits ms cs (ref_or k) ≡ reference_or (is_named (codes "$ref") ms) (table_misfits reference_object cs) (object_misfits ms cs (object_kind k))
referring (ref_or k) ms cs =
    let b = is_named (codes "$ref") ms in
    let r = table_misfits reference_object cs in
    by_reference_or (ref_or k) (object_misfits ms cs (ref_or k)) ms cs ∙ ap (reference_or b r) (referring k ms cs) ∙ idle b r (object_misfits ms cs (object_kind k))
referring array_items ms cs =
    let b = is_named (codes "$ref") ms in
    let r = table_misfits reference_object cs in
    by_reference_or array_items (object_misfits ms cs array_items) ms cs ∙ ap (reference_or b r) (by_reference_or schema (schema_misfits ms cs) ms cs) ∙ idle b r (schema_misfits ms cs)
referring additional_properties ms cs =
    let b = is_named (codes "$ref") ms in
    let r = table_misfits reference_object cs in
    by_reference_or additional_properties (object_misfits ms cs additional_properties) ms cs ∙ ap (reference_or b r) (by_reference_or schema (schema_misfits ms cs) ms cs) ∙ idle b r (schema_misfits ms cs)
referring k ms cs = by_reference_or k (object_misfits ms cs k) ms cs

taking_references : (k : Kind) (ms : Members) (cs : Checks) → takes_references k ≡ true → object_misfits ms cs k ≡ reference_or (is_named (codes "$ref") ms) (table_misfits reference_object cs) (object_misfits ms cs (object_kind k))
taking_references (ref_or k) ms cs e = referring k ms cs
taking_references array_items ms cs e = by_reference_or schema (schema_misfits ms cs) ms cs
taking_references additional_properties ms cs e = by_reference_or schema (schema_misfits ms cs) ms cs
taking_references k ms cs e = absurd (true≢false (sym e))

-- where none may stand
pub taking_none : (k : Kind) → takes_references k ≡ false → object_kind k ≡ k
taking_none (ref_or k) e = absurd (true≢false e)
taking_none array_items e = absurd (true≢false e)
taking_none additional_properties e = absurd (true≢false e)
taking_none k e = refl

pub object_kind_takes_none : (k : Kind) → takes_references (object_kind k) ≡ false
object_kind_takes_none (ref_or k) = object_kind_takes_none k
object_kind_takes_none k = refl

-- the same members are looked at
pub same_layout : (k : Kind) (ms : Members) → kind_layout (object_kind k) ms ≡ kind_layout k ms
same_layout (ref_or k) ms = same_layout k ms
same_layout k ms = refl

-- ---- by whether `$ref` is named

pub named_reference : (k : Kind) (d : Data) → takes_references k ≡ true → is_some (get (codes "$ref") d) ≡ true
    → object_misfits (members_at d) (checks (members_at d)) k ≡ reference_or true (table_misfits reference_object (checks (members_at d))) (object_misfits (members_at d) (checks (members_at d)) (object_kind k))
named_reference k d takes there =
    let cs = checks (members_at d) in
    taking_references k (members_at d) cs takes ∙ ap (λ b. reference_or b (table_misfits reference_object cs) (object_misfits (members_at d) cs (object_kind k))) (ap is_some (get_at (codes "$ref") d) ∙ there)

unfit_absent : (name : List ℕ) (k : Kind) (rest : Misfits) (o : Option Check) → o ≡ None → is_fit (row_misfits required name k o ++ rest) ≡ false
unfit_absent name k rest o e = ap (λ x. is_fit (row_misfits required name k x ++ rest)) e

none_of : (o : Option Data) → is_some o ≡ false → o ≡ None
none_of None e = refl
none_of (Some d) e = absurd (true≢false e)

not_meant : (b : Bool) (r own : Misfits) → b ≡ false → is_fit r ≡ false → reference_or b r own ≡ own
not_meant true r own e f = absurd (true≢false e)
not_meant false [] own e f = absurd (true≢false f)
not_meant false (x ∷ r) [] e f = refl
not_meant false (x ∷ r) (y ∷ own) e f = refl

pub no_reference : (k : Kind) (d : Data) → takes_references k ≡ true → is_some (get (codes "$ref") d) ≡ false → object_misfits (members_at d) (checks (members_at d)) k ≡ object_misfits (members_at d) (checks (members_at d)) (object_kind k)
no_reference k d takes gone =
    let cs = checks (members_at d) in
    let none : check_at (codes "$ref") cs ≡ None = found_at_name (codes "$ref") d ∙ ap (option_map check_of) (none_of (get (codes "$ref") d) gone) in
    taking_references k (members_at d) cs takes
    ∙ not_meant (is_named (codes "$ref") (members_at d)) (table_misfits reference_object cs) (object_misfits (members_at d) cs (object_kind k)) (ap is_some (get_at (codes "$ref") d) ∙ gone) (unfit_absent (codes "$ref") text _ (check_at (codes "$ref") cs) none)

-- ---- the kinds of the program

by_own : (k : Kind) → object_kind k ≡ object_kind (own_kind k)
by_own (ref_or k) = by_own k
by_own k = refl

pub object_kind_by : (k own : Kind) → own ≡ own_kind k → object_kind k ≡ object_kind own
object_kind_by k own is = by_own k ∙ ap object_kind (sym is)

-- a kind that is no reference, and neither the items of arrays nor additional properties
pub takes_none : (k : program.Kind) → is_reference (kind_of k) ≡ false → (k ≡ ArrayItems → ⊥) → (k ≡ AdditionalProperties → ⊥) → takes_references (kind_of k) ≡ false
takes_none (RefOr' p k) e g h = absurd (true≢false e)
takes_none ArrayItems e g h = absurd (g refl)
takes_none AdditionalProperties e g h = absurd (h refl)
takes_none k e g h = refl

-- ---- rows of texts, flags and anything

pub plain_from : (rs : List Row) (i : ℕ) (r : Row) → i < length rs → all_plain (members_of (drop i rs)) ≡ true → (is_plain_kind (kind_of (get_or rs i r).kind) ≡ true) × (all_plain (members_of (drop (i + 1) rs)) ≡ true)
plain_from rs i r within plain =
    let both : is_plain_kind (kind_of (get_or rs i r).kind) && all_plain (members_of (drop (i + 1) rs)) ≡ true = ap (λ xs. all_plain (members_of xs)) (sym (row_at rs i r within)) ∙ plain in
    (and_first _ _ both, and_second _ _ both)

pub plain_rest : (rs : List Row) (i : ℕ) → i < length rs → all_plain (members_of (drop i rs)) ≡ true → all_plain (members_of (drop (i + 1) rs)) ≡ true
plain_rest [] i within plain = absurd (omega arith)
plain_rest (r ∷ rs) i within plain = (plain_from (r ∷ rs) i r within plain).1
