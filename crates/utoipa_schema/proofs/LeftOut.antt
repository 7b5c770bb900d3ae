-- Rows whose members are left out.
use Rattle.std.proofs.Common.{◌≡◌, ℕ, List, [], ◌∷◌, Bool, true, false, not, Option, Some, None, is_some, refl}
use Rattle.serde_json.specs.Data.{no_members}
use Rattle.utoipa_base.specs.Docs.{Doc, Docs, no_docs, doc}
use Rattle.utoipa_base.specs.InOrder.{row_members}
use Rattle.utoipa_base.specs.Kinds.{Row}
use Rattle.utoipa_base.specs.Rows.{rows_from}
use Rattle.utoipa_base.specs.Views.{option_of}
use Rattle.utoipa_base.specs.Writing.{is_none, left_out}

pub absent_is_none : {T : Type 0} (f : T → Doc) (o : Option T) (gone : Bool) → is_some o ≡ not gone → is_none (option_of f o) ≡ gone
absent_is_none f None true is = refl
absent_is_none f None false is = cc
absent_is_none f (Some x) true is = cc
absent_is_none f (Some x) false is = refl

pub no_rows : (rs : List Row) → row_members no_docs rs ≡ no_members
unfolding row_members
no_rows rs = refl

-- the members of a row and of the rows after it
pub none_of_rows : (first : List ℕ → Row) (rest : List (List ℕ) → List Row) (d : Doc) (ds : Docs) (names : List (List ℕ)) → ((name : List ℕ) → left_out (first name).mark d ≡ true)
    → ((later : List (List ℕ)) → row_members ds (rest later) ≡ no_members) → row_members (doc d ds) (rows_from first rest names) ≡ no_members
unfolding row_members
none_of_rows first rest d ds [] one others = refl
none_of_rows first rest d ds (n ∷ ns) one others = rw (one n) (others ns)
