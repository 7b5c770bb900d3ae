use Rattle.std.proofs.Common.{refl, rules, ◌≡◌, ◌≤◌, ◌<◌, ◌+◌, ◌∙◌, sym, arith, None}
use Rattle.serde_json.specs.View.{view}
use Rattle.utoipa_base.proofs.Alternatives.{ref_reads, own_reads}
use Rattle.utoipa_base.specs.Docs.{ref_doc}
use Rattle.utoipa_base.specs.Kinds.{reference_object, named}
use Rattle.utoipa_base.specs.Reading.{read}
use Rattle.utoipa_base.specs.Refs.{reference_doc}
use Rattle.utoipa_base.specs.Values.{schema_count}
use Rattle.utoipa_base.proofs.Places.{own_none, own_places, reference_counted, reference_uncounted, some_value, ticked_grows, ticked_least, ticked_most}
use Rattle.utoipa_base.proofs.RowLists.{passes_reads}
use Rattle.utoipa_base.proofs.tree.Place.read_ref_or.Goals as goal
use Rattle.utoipa_base.proofs.tree.Place.read_ref_or.Goals.{then-is_schema, else-is_schema}

pub returns-after-is_schema : goal.returns-after-is_schema
returns-after-is_schema g c =
    let old = c.args.readings.now in
    let new = c.if-is_schema.readings in
    let r = reference_doc c.in-Ok.reference in
    let counted : (old ≤ new) × (new ≤ old + 1) × (new < 18446744073709551615 → old + schema_count (ref_doc g.Self.Documented.kind r) ≤ new) =
    elim c.if-is_schema.branch [
      | then-is_schema w ↦
          let now = w.tick.new.self in (
            omega (arith, ticked_grows old now _ w.tick.ensures, w.readings-is),
            omega (arith, ticked_most old now _ w.tick.ensures, w.readings-is),
            λ below. omega (arith, reference_counted g.Self.Documented.kind r, ticked_least old now _ w.tick.ensures (omega (arith, below, w.readings-is)), w.readings-is),
          )
      | else-is_schema w ↦
          let none = reference_uncounted g.Self.Documented.kind r (sym c.is_schema.ensures ∙ w.if-is_schema.false) in
          (omega (arith, w.readings-is), omega (arith, w.readings-is), λ below. omega (arith, none, w.readings-is))
    ] in
    record {
      ok = ref_reads _ _ _ _ refl c.in-Ok.ensures.ok;
      err = tt;
      grows = counted.0;
      at_most = omega (arith, counted.1, some_value (view c.args.tree.now));
      at_least = counted.2;
    }

pub returns-in_err-read_plain-in-Err : goal.returns-in_err-read_plain-in-Err
returns-in_err-read_plain-in-Err g c =
    let gone : read (named reference_object) (view c.args.tree.now) ≡ None = search rules in
    passes_reads _ _ _ _ _ _ _ _ _ _ _ c.from_residual.ensures.1 c.in_err-read_plain-in-Err.ensures (λ h. own_none _ _ gone h) (omega arith) (omega arith)

pub returns-in_ok-read_plain-in-Err : goal.returns-in_ok-read_plain-in-Err
returns-in_ok-read_plain-in-Err g c =
    let gone : read (named reference_object) (view c.args.tree.now) ≡ None = search rules in
    let own = c.in_ok-read_plain-in-Err.ensures in
    record {
      ok = own_reads _ _ _ _ refl gone own.ok;
      err = tt;
      grows = own.grows;
      at_most = own.at_most;
      at_least = λ below. omega (arith, own.at_least below, own_places (g.Self.Documented.doc c.in_ok-read_plain-in-Err.field-0));
    }
