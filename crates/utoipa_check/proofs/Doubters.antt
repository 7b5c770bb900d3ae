-- What is in doubt in a tree, by its sort, and where a reference may stand.
use Rattle.std.proofs.Common.{◌≡◌, List, [], ◌∷◌, ◌++◌, Bool, true, false, cond, is_some, codes, true≢false, refl, sym, ap, ◌∙◌}
use Rattle.serde_json.specs.Data.{Data, null, boolean, number, string, array, object, Items, Members}
use Rattle.serde_json.specs.Find.{get}
use Rattle.utoipa_base.specs.Kinds.{reference_object, Kind, ref_or}
use Rattle.utoipa_base.specs.Reading.{is_named}
use Rattle.utoipa_check.specs.Doubts.{doubter, item_doubters, doubters, doubts, meant_doubts, reference_doubts, array_doubts, own_doubts, object_doubts}
use Rattle.utoipa_check.specs.Misfits.{Misfits, Checks, is_fit, checks, table_misfits, object_misfits, fits_schema, meant_schema}
use Rattle.utoipa_check.specs.Places.{items_at, members_at}
use Rattle.utoipa_check.specs.Views.{takes_references, object_kind, own_kind}
use Rattle.utoipa_check.proofs.ByRows.{get_at}
use Rattle.utoipa_check.proofs.Steps.{none_fit}

-- ---- schemas

either_none : (b : Bool) (xs : Misfits) → xs ≡ [] → [] ≡ cond b xs []
either_none true xs e = sym e
either_none false xs e = refl

-- where the table that was meant fits, there is no doubt of it
pub as_meant : (ms : Members) (cs : Checks) → is_fit (table_misfits (meant_schema ms) cs) ≡ true → [] ≡ meant_doubts ms cs
as_meant ms cs fit = either_none (fits_schema ms cs) (table_misfits (meant_schema ms) cs) (none_fit (table_misfits (meant_schema ms) cs) fit)

-- where no table fits, there is none either
pub meant_by_none : (ms : Members) (cs : Checks) → fits_schema ms cs ≡ false → [] ≡ meant_doubts ms cs
meant_by_none ms cs none = ap (λ b. cond b (table_misfits (meant_schema ms) cs) []) (sym none)

pub meant_otherwise : (ms : Members) (cs : Checks) → fits_schema ms cs ≡ true → table_misfits (meant_schema ms) cs ≡ meant_doubts ms cs
meant_otherwise ms cs fit = ap (λ b. cond b (table_misfits (meant_schema ms) cs) []) (sym fit)

-- ---- a reference or another choice

pub as_reference : (rs ms ds xs : Misfits) → is_fit rs ≡ true → xs ≡ rs → xs ≡ reference_doubts true rs ms ds
as_reference [] ms ds xs fit is = is
as_reference (r ∷ rs) ms ds xs fit is = absurd (true≢false (sym fit))

pub as_neither : (rs ms ds : Misfits) → is_fit rs ≡ false → is_fit ms ≡ false → ds ≡ reference_doubts true rs ms ds
as_neither [] ms ds unfit none = absurd (true≢false unfit)
as_neither (r ∷ rs) [] ds unfit none = absurd (true≢false none)
as_neither (r ∷ rs) (m ∷ ms) ds unfit none = refl

pub as_other : (rs ms ds : Misfits) → is_fit rs ≡ false → is_fit ms ≡ true → rs ++ ds ≡ reference_doubts true rs ms ds
as_other [] ms ds unfit fit = absurd (true≢false unfit)
as_other (r ∷ rs) [] ds unfit fit = refl
as_other (r ∷ rs) (m ∷ ms) ds unfit fit = absurd (true≢false (sym fit))

-- what is in doubt where a reference may stand
pub referring : (k : Kind) (d : Data) → takes_references k ≡ true → is_some (get (codes "$ref") d) ≡ true
    → reference_doubts true (table_misfits reference_object (checks (members_at d))) (object_misfits (members_at d) (checks (members_at d)) (object_kind k)) (own_doubts (members_at d) (checks (members_at d)) (doubters (members_at d)) (object_kind k))
    ≡ object_doubts (members_at d) (checks (members_at d)) (doubters (members_at d)) k
referring k d takes there =
    let ms = members_at d in
    let cs = checks ms in
    let own = own_doubts ms cs (doubters ms) (object_kind k) in
    let named : true ≡ is_named (codes "$ref") ms = sym (ap is_some (get_at (codes "$ref") d) ∙ there) in
    ap (λ b. reference_doubts b (table_misfits reference_object cs) (object_misfits ms cs (object_kind k)) own) named
    ∙ ap (λ b. cond b (reference_doubts (is_named (codes "$ref") ms) (table_misfits reference_object cs) (object_misfits ms cs (object_kind k)) own) own) (sym takes)

-- where none may stand
pub taking_none : (k : Kind) (d : Data) → takes_references k ≡ false → own_doubts (members_at d) (checks (members_at d)) (doubters (members_at d)) (object_kind k) ≡ object_doubts (members_at d) (checks (members_at d)) (doubters (members_at d)) k
taking_none k d takes =
    let ms = members_at d in
    let cs = checks ms in
    let own = own_doubts ms cs (doubters ms) (object_kind k) in
    ap (λ b. cond b (reference_doubts (is_named (codes "$ref") ms) (table_misfits reference_object cs) (object_misfits ms cs (object_kind k)) own) own) (sym takes)

either_own : (b : Bool) (r own : Misfits) → r ≡ own → own ≡ cond b r own
either_own true r own e = sym e
either_own false r own e = refl

-- where none is named
pub naming_none : (k : Kind) (d : Data) → is_some (get (codes "$ref") d) ≡ false → own_doubts (members_at d) (checks (members_at d)) (doubters (members_at d)) (object_kind k) ≡ object_doubts (members_at d) (checks (members_at d)) (doubters (members_at d)) k
naming_none k d gone =
    let ms = members_at d in
    let cs = checks ms in
    let own = own_doubts ms cs (doubters ms) (object_kind k) in
    let unnamed : is_named (codes "$ref") ms ≡ false = ap is_some (get_at (codes "$ref") d) ∙ gone in
    either_own (takes_references k) (reference_doubts (is_named (codes "$ref") ms) (table_misfits reference_object cs) (object_misfits ms cs (object_kind k)) own) own
    (ap (λ b. reference_doubts b (table_misfits reference_object cs) (object_misfits ms cs (object_kind k)) own) unnamed)

-- ---- trees by their sort

array_own : (ds : List (Kind → Misfits)) (k : Kind) → array_doubts ds k ≡ array_doubts ds (own_kind k)
array_own ds (ref_or k) = array_own ds k
array_own ds k = refl

pub array_doubted : (k own : Kind) (d : Data) (ds : Items) → array ds ≡ d → own ≡ own_kind k → doubts k d ≡ array_doubts (item_doubters (items_at d)) own
unfolding doubter
array_doubted k own d ds sort is =
    ap (λ t. doubts k t) (sym sort) ∙ array_own (item_doubters ds) k ∙ ap (array_doubts (item_doubters ds)) (sym is) ∙ ap (λ t. array_doubts (item_doubters (items_at t)) own) sort

pub object_doubted : (k : Kind) (d : Data) (ms : Members) → object ms ≡ d → doubts k d ≡ object_doubts (members_at d) (checks (members_at d)) (doubters (members_at d)) k
unfolding doubter
object_doubted k d ms sort = ap (λ t. doubts k t) (sym sort) ∙ ap (λ t. object_doubts (members_at t) (checks (members_at t)) (doubters (members_at t)) k) sort

-- in another tree nothing is in doubt
abbrev pub is_leaf : Data → Bool
is_leaf (array ds) = false
is_leaf (object ms) = false
is_leaf d = true

pub leaf_doubted : (k : Kind) (leaf d : Data) → is_leaf leaf ≡ true → leaf ≡ d → doubts k d ≡ []
unfolding doubter
leaf_doubted k null d e sort = ap (doubts k) (sym sort)
leaf_doubted k (boolean b) d e sort = ap (doubts k) (sym sort)
leaf_doubted k (number n) d e sort = ap (doubts k) (sym sort)
leaf_doubted k (string s) d e sort = ap (doubts k) (sym sort)
leaf_doubted k (array ds) d e sort = absurd (true≢false (sym e))
leaf_doubted k (object ms) d e sort = absurd (true≢false (sym e))
