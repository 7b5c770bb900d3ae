-- OAuth flows under a key that names no type.
use Rattle.std.proofs.Common.{◌≡◌, [], Bool, true, false, is_some, refl, sym, ap, true≢false}
use Rattle.std.specs.List.{list_any}
use Rattle.serde_json.specs.Data.{Data, null, boolean, number, string, array, object}
use Rattle.serde_json.specs.Find.{as_object}
use Rattle.utoipa_base.specs.Choices.{flow_keys}
use Rattle.utoipa_check.specs.Misfits.{is_fit, here, no_alternative, unless_fit, object_misfits, checker, checks}
use Rattle.utoipa_check.specs.Places.{any_flow, found, members_at}
use Rattle.utoipa_tables.specs.Tables.{flow_kinds}

-- an object is a flow where it fits one of the types
pub flow_of_object : (d : Data) (b : Bool) → is_some (as_object d) ≡ true → b ≡ list_any (λ k. is_fit (object_misfits (members_at d) (checks (members_at d)) k)) (flow_kinds flow_keys) → found any_flow d ≡ unless_fit b [] (flow_kinds flow_keys)
unfolding checker
flow_of_object null b e fits = absurd (true≢false (sym e))
flow_of_object (boolean c) b e fits = absurd (true≢false (sym e))
flow_of_object (number n) b e fits = absurd (true≢false (sym e))
flow_of_object (string s) b e fits = absurd (true≢false (sym e))
flow_of_object (array ds) b e fits = absurd (true≢false (sym e))
flow_of_object (object ms) b e fits = ap (λ x. unless_fit x [] (flow_kinds flow_keys)) (sym fits)

-- another tree is none
pub flow_of_other : (d : Data) → is_some (as_object d) ≡ false → found any_flow d ≡ here (no_alternative (flow_kinds flow_keys))
unfolding checker
flow_of_other null e = refl
flow_of_other (boolean b) e = refl
flow_of_other (number n) e = refl
flow_of_other (string s) e = refl
flow_of_other (array ds) e = refl
flow_of_other (object ms) e = absurd (true≢false e)
