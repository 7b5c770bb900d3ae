-- A member that a look-up has found: its values, and a row's field by what stands at its name.
use Rattle.std.proofs.Common.{◌≡◌, ◌∙◌, ◌+◌, ◌<◌, ℕ, List, [], ◌∷◌, true, false, Option, Some, None, option_map, refl, ap, sym, arith, Bor, cond, option_and_then}
use Rattle.serde_json.specs.Data.{Data}
use Rattle.serde_json.specs.Find.{get, as_array, as_object}
use Rattle.serde_json.specs.View.{view}
use Rattle.serde_json.specs.declared.value.Value.{Value}
use Rattle.utoipa_base.specs.Docs.{none_doc, some_doc, list_doc, map_doc}
use Rattle.utoipa_base.specs.Fields.{field, field_of}
use Rattle.utoipa_base.specs.Kinds.{Kind, list_of, map_of, Mark, required, optional, defaulted}
use Rattle.utoipa_base.specs.Reading.{read, is_null}
use Rattle.utoipa_base.specs.Tables.{row}
use Rattle.utoipa_base.specs.Values.{values, values_at}
use Rattle.utoipa_base.proofs.ByKind.{read-list, items_read}
use Rattle.utoipa_base.proofs.ByRows.{field-row}
use Rattle.utoipa_base.proofs.Maps.{read-map, members_read}
use Rattle.utoipa_base.proofs.Values.{names_fewer, values_of-some}

pub member_at : (k : List ℕ) (d : Data) (o : Option (Bor Value)) (v : Bor Value) → option_map (λ v. view v.now) o ≡ get k d → o ≡ Some v → get k d ≡ Some (view v.now)
member_at k d o v found is = sym found ∙ ap (option_map (λ v. view v.now)) is

pub count_at : (k : List ℕ) (d e : Data) → get k d ≡ Some e → values_at k d ≡ values e
count_at k d e at = values_of-some (get k d) e (sym at)

-- any member has fewer values than its object
pub one_fewer : (k : List ℕ) (d e : Data) → get k d ≡ Some e → values e < values d
one_fewer k d e at =
    let h : values_at k d + 0 < values d = names_fewer (k ∷ []) d refl in
    omega (arith, h, count_at k d e at)

pub field_required : (name : List ℕ) (k : Kind) (d e : Data) → get name d ≡ Some e → field (row name required k) d ≡ read k e
field_required name k d e at = field-row name required k d ∙ ap (field_of required k) at

pub field_defaulted : (name : List ℕ) (k : Kind) (d e : Data) → get name d ≡ Some e → field (row name defaulted k) d ≡ read k e
field_defaulted name k d e at = field-row name defaulted k d ∙ ap (field_of defaulted k) at

pub field_optional : (name : List ℕ) (k : Kind) (d e : Data) → get name d ≡ Some e → is_null e ≡ false → field (row name optional k) d ≡ option_map some_doc (read k e)
field_optional name k d e at n = field-row name optional k d ∙ ap (field_of optional k) at ∙ ap (λ b. cond b (Some none_doc) (option_map some_doc (read k e))) n

pub field_null : (name : List ℕ) (k : Kind) (d e : Data) → get name d ≡ Some e → is_null e ≡ true → field (row name optional k) d ≡ Some none_doc
field_null name k d e at n = field-row name optional k d ∙ ap (field_of optional k) at ∙ ap (λ b. cond b (Some none_doc) (option_map some_doc (read k e))) n

pub field_absent : (name : List ℕ) (m : Mark) (k : Kind) (d : Data) → get name d ≡ None → field (row name m k) d ≡ field_of m k None
field_absent name m k d at = field-row name m k d ∙ ap (field_of m k) at

-- ---- what is no list and no object

pub list_none : (k : Kind) (d : Data) → as_array d ≡ None → read (list_of k) d ≡ None
list_none k d e = read-list k d ∙ ap (option_and_then (λ ds. option_map list_doc (items_read k ds))) e

pub map_none : (k : Kind) (d : Data) → as_object d ≡ None → read (map_of k) d ≡ None
map_none k d e = read-map k d ∙ ap (option_and_then (λ ms. option_map map_doc (members_read k ms))) e
