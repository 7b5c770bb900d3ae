-- The parts of a table: rows that follow other rows, read, written and copied.
use Rattle.std.proofs.Common.{◌≡◌, ◌∙◌, ℕ, List, [], ◌∷◌, ◌++◌, Bool, true, false, Option, None, Some, option_map, refl, sym, ap, is_some}
use Rattle.serde_json.specs.Data.{Data, null, boolean, number, string, array, object, Members}
use Rattle.serde_json.specs.Find.{as_object}
use Rattle.utoipa_base.specs.Docs.{Doc, Docs, no_docs, doc, docs_append, docs_woven, list_doc, table_doc}
use Rattle.utoipa_base.specs.Fields.{field, fields}
use Rattle.utoipa_base.specs.Kinds.{Kind, Row, required, ObjectType}
use Rattle.utoipa_base.specs.Reading.{both}
use Rattle.utoipa_base.specs.Tables.{row}
use Rattle.utoipa_base.specs.Rows.{part, rows_woven}
use Rattle.utoipa_base.proofs.ByRows.{fields-fit, fields-later}

-- the fields of rows, and after them those of further rows
abbrev both_parts : Option Docs → Option Docs → Option Docs
both_parts None ys = None
both_parts (Some xs) None = None
both_parts (Some xs) (Some ys) = Some (docs_append xs ys)

append_none : (ys : Option Docs) → ys ≡ both_parts (Some no_docs) ys
append_none None = refl
append_none (Some ys) = refl

append_both : (x : Option Doc) (xs ys : Option Docs) → both x (both_parts xs ys) ≡ both_parts (both x xs) ys
append_both None xs ys = refl
append_both (Some d) None ys = refl
append_both (Some d) (Some xs) None = refl
append_both (Some d) (Some xs) (Some ys) = refl

join : (rs ss : List Row) (d : Data) → fields (rs ++ ss) d ≡ both_parts (fields rs d) (fields ss d)
unfolding fields
join [] ss d = append_none (fields ss d)
join (r ∷ rs) ss d = ap (both (field r d)) (join rs ss d) ∙ append_both (field r d) (fields rs d) (fields ss d)

-- rows that fit, and further rows that do
pub join-fit : (rs ss : List Row) (d : Data) (xs ys : Docs) → fields rs d ≡ Some xs → fields ss d ≡ Some ys → fields (rs ++ ss) d ≡ Some (docs_append xs ys)
join-fit rs ss d xs ys e f = rw (join rs ss d, e, f) refl

-- rows are refused where the first of them are
pub join-first : (rs ss : List Row) (d : Data) → fields rs d ≡ None → fields (rs ++ ss) d ≡ None
join-first rs ss d e = rw (join rs ss d, e) refl

later_none : (xs : Option Docs) → both_parts xs None ≡ None
later_none None = refl
later_none (Some xs) = refl

-- or the later ones
pub join-later : (rs ss : List Row) (d : Data) → fields ss d ≡ None → fields (rs ++ ss) d ≡ None
join-later rs ss d e = rw (join rs ss d, e) (later_none (fields rs d))

-- ---- rows among others

-- the field of the first row that fits, and those of the rows after it
both_are : (o : Option Doc) (p : Option Docs) (xs : Docs) → both o p ≡ Some xs → (x : Doc) × (ys : Docs) × (o ≡ Some x) × (p ≡ Some ys) × (xs ≡ doc x ys)
both_are None p xs h = absurd cc
both_are (Some x) None xs h = absurd cc
both_are (Some x) (Some ys) xs h = (x, ys, refl, refl, cc)

none_fit : (d : Data) (xs : Docs) → fields [] d ≡ Some xs → xs ≡ no_docs
unfolding fields
none_fit d xs h = cc

none_refused : (d : Data) → fields [] d ≡ None → ⊥
unfolding fields
none_refused d h = cc

first_and_rest : (r : Row) (rs : List Row) (d : Data) (xs : Docs) → fields (r ∷ rs) d ≡ Some xs → (x : Doc) × (ys : Docs) × (field r d ≡ Some x) × (fields rs d ≡ Some ys) × (xs ≡ doc x ys)
unfolding fields
first_and_rest r rs d xs h = both_are (field r d) (fields rs d) xs h

-- rows that fit, among others that do
pub woven-fit : (order : List Bool) (rs ss : List Row) (d : Data) (xs ys : Docs) → fields rs d ≡ Some xs → fields ss d ≡ Some ys → fields (rows_woven order rs ss) d ≡ Some (docs_woven order xs ys)
woven-fit [] rs ss d xs ys e f = join-fit rs ss d xs ys e f
woven-fit (true ∷ order) [] ss d xs ys e f = f ∙ ap (λ x. Some (docs_woven (true ∷ order) x ys)) (sym (none_fit d xs e))
woven-fit (true ∷ order) (r ∷ rs) ss d xs ys e f =
    let is = first_and_rest r rs d xs e in
    fields-fit r (rows_woven order rs ss) d is.0 _ is.2 (woven-fit order rs ss d is.1 ys is.3 f) ∙ ap (λ x. Some (docs_woven (true ∷ order) x ys)) (sym is.4)
woven-fit (false ∷ order) rs [] d xs ys e f = e ∙ ap (λ y. Some (docs_woven (false ∷ order) xs y)) (sym (none_fit d ys f))
woven-fit (false ∷ order) rs (s ∷ ss) d xs ys e f =
    let is = first_and_rest s ss d ys f in
    fields-fit s (rows_woven order rs ss) d is.0 _ is.2 (woven-fit order rs ss d xs is.1 e is.3) ∙ ap (λ y. Some (docs_woven (false ∷ order) xs y)) (sym is.4)

refused_if : (o : Option Doc) (p q : Option Docs) → both o p ≡ None → (p ≡ None → q ≡ None) → both o q ≡ None
refused_if None p q h rest = refl
refused_if (Some x) None q h rest = rw (rest refl) refl
refused_if (Some x) (Some ys) q h rest = absurd cc

first_or_rest_refused : (r : Row) (rs ts : List Row) (d : Data) → fields (r ∷ rs) d ≡ None → (fields rs d ≡ None → fields ts d ≡ None) → fields (r ∷ ts) d ≡ None
unfolding fields
first_or_rest_refused r rs ts d h rest = refused_if (field r d) (fields rs d) (fields ts d) h rest

-- rows are refused among others where they are by themselves
pub woven-refused : (order : List Bool) (rs ss : List Row) (d : Data) → fields rs d ≡ None → fields (rows_woven order rs ss) d ≡ None
woven-refused [] rs ss d h = join-first rs ss d h
woven-refused (true ∷ order) [] ss d h = absurd (none_refused d h)
woven-refused (true ∷ order) (r ∷ rs) ss d h = first_or_rest_refused r rs (rows_woven order rs ss) d h (woven-refused order rs ss d)
woven-refused (false ∷ order) rs [] d h = h
woven-refused (false ∷ order) rs (s ∷ ss) d h = fields-later s (rows_woven order rs ss) d (woven-refused order rs ss d h)

-- ---- the parts

fields_of_part_if : (o : Option Docs) (xs : Docs) → option_map list_doc o ≡ Some (list_doc xs) → o ≡ Some xs
fields_of_part_if None xs e = cc
fields_of_part_if (Some ys) xs e = cc

-- the fields of a part that was read
pub fields_of_part : (rows : List Row) (d : Data) (xs : Docs) → part rows d ≡ Some (list_doc xs) → fields rows d ≡ Some xs
fields_of_part rows d xs e = fields_of_part_if (fields rows d) xs e

no_fields_of_part_if : (o : Option Docs) → option_map list_doc o ≡ None → o ≡ None
no_fields_of_part_if None e = refl
no_fields_of_part_if (Some ys) e = cc

-- and those of one that was refused
pub no_fields_of_part : (rows : List Row) (d : Data) → part rows d ≡ None → fields rows d ≡ None
no_fields_of_part rows d e = no_fields_of_part_if (fields rows d) e

-- ---- trees with members

-- a tree that has a member is an object
pub has_members : (name : List ℕ) (k : Kind) (d : Data) (x : Doc) → field (row name required k) d ≡ Some x → is_some (as_object d) ≡ true
unfolding field
has_members name k null x e = cc
has_members name k (boolean b) x e = cc
has_members name k (number n) x e = cc
has_members name k (string s) x e = cc
has_members name k (array ds) x e = cc
has_members name k (object ms) x e = refl

-- ---- a part is read where each of its rows fits, and refused where one does not

-- ---- the parts of a table, written one after the other

-- ---- documents of equal parts

-- a field, and those after it
pub same_field : (d e : Doc) (ds es : Docs) → d ≡ e → ds ≡ es → doc d ds ≡ doc e es
same_field d e ds es first others = rw (first, others) refl

-- a part, and the fields after it
pub same_part : (xs ys ds es : Docs) → xs ≡ ys → ds ≡ es → docs_append xs ds ≡ docs_append ys es
same_part xs ys ds es part others = rw (part, others) refl

-- a part, and the fields that it stands among
pub same_woven : (order : List Bool) (xs ys ds es : Docs) → xs ≡ ys → ds ≡ es → docs_woven order xs ds ≡ docs_woven order ys es
same_woven order xs ys ds es part others = rw (part, others) refl

-- the fields of a table, and its extensions
pub same_table : (n : ObjectType) (ds es : Docs) (x y : Option Members) → ds ≡ es → x ≡ y → table_doc n ds x ≡ table_doc n es y
same_table n ds es x y fields extensions = rw (fields, extensions) refl
